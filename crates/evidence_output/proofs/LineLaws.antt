-- A line is written number by number.
use Prim.Native.Nat.{ℕ}
use mathlib.Core.Path.{◌≡◌, refl}
use mathlib.Core.List.{List, [], ◌∷◌, ◌++◌, append-nil, append_assoc}
use Rattle.evidence_output.specs.Decimal.{decimal}
use Rattle.evidence_output.specs.Output.{spaced, line}
use Rattle.byte_output.specs.Maps.{Writes}
use Rattle.byte_output.specs.declared.Output.{Output}
use Rattle.byte_output.proofs.WrittenLaws.{writes_append}

pub spaced_append : (ns ms : List ℕ) → spaced (ns ++ ms) ≡ spaced ns ++ spaced ms
unfolding spaced
spaced_append [] ms = refl
spaced_append (n ∷ ns) ms = rw (spaced_append ns ms, append_assoc)

module _ {a b c : Output} where
  pub number_written : (k : ℕ) → Writes a (0x20 ∷ []) b → Writes b (decimal k) c → Writes a (spaced (k ∷ [])) c
  unfolding spaced
  number_written k v w = rw append-nil (writes_append v w)

  -- what it starts with, and the rest
  pub line_written : {start : List ℕ} (ns : List ℕ) → Writes a start b → Writes b (spaced ns ++ (0x0A ∷ [])) c → Writes a (line start ns) c
  unfolding line
  line_written ns v w = writes_append v w
