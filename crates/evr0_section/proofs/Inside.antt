-- Each row of a table ends within the part that it is read from, and each of its refusals stands within it and has one of its numbers: by
-- one law for each kind of step, applied by search.
use Prim.Native.Nat.{ℕ, ◌≤◌}
use mathlib.Core.Bool.{Bool, ◌&&◌, ◌||◌}
use mathlib.Core.List.{List}
use lib.Dec.{leb}
use lib.ListN.{length}
use Rattle.local_format.specs.Refusal.{refusal}
use Rattle.local_format.specs.Out.{Out, ◌>>=◌}
use Rattle.local_format.specs.Text.{text_at}
use Rattle.local_format.proofs.Each.{Each, refuses, Within, steps}
use Rattle.derivation.specs.Rule.{Rule, Named, known, unknown}
use Rattle.evr0_section.specs.Rows.{Row}
use Rattle.evr0_section.specs.Head.{Counts, digest_at}
use Rattle.evr0_section.specs.Proposition.{Before, proposition_of, proposition_row}
use Rattle.evr0_section.specs.Proof.{Unowned, zeros_at, proof_of, or_unknown, check_proof, proof_row}
use Rattle.evr0_section.specs.Witness.{witness_of, check_witness, witness_row, parent_row}

-- 1 to 13 and 16 to 24
unfoldable pub early : ℕ → Bool
early n = leb 1 n && leb n 13 || leb 16 n && leb n 24

-- a row read off the front of s
abbrev pub Inside : {A S : Type 0} → List ℕ → Out (Row A S) → Type 0
Inside s x = Each (λ r. r.size ≤ length s) (Within (length s) early) x

on_rule : {A : Type 0} {P : A → Type 0} (s : List ℕ) (n at : ℕ) (x : Named) (f : Rule → Out A) → Within (length s) early (refusal n at)
    → ((rule : Rule) → Each P (Within (length s) early) (f rule)) → Each P (Within (length s) early) (or_unknown n at x >>= f)
on_rule s n at (known r) f h k = k r
on_rule s n at unknown f h k = refuses h

module _ (s : List ℕ) where
  pub proposition_row_in : (before : Before) → Inside s (proposition_row before s)
  unfolding proposition_row proposition_of text_at early
  proposition_row_in before = search steps depth 40

  pub proof_row_in : (rules : List Rule) (counts : Counts) (u : Unowned) → Inside s (proof_row rules counts u s)
  unfolding proof_row proof_of check_proof zeros_at text_at early
  proof_row_in rules counts u = search (steps, on_rule) depth 60 fits 4000

  pub witness_row_in : (width : ℕ) (counts : Counts) (w : ℕ) → Inside s (witness_row width counts w s)
  unfolding witness_row witness_of check_witness zeros_at digest_at early
  witness_row_in width counts w = search steps depth 40

  pub parent_row_in : (u : Unit {0}) → Inside s (parent_row u s)
  unfolding parent_row early
  parent_row_in u = search steps
