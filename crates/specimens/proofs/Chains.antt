-- The longest chain that is accepted, with its walk of 255 moves, and the shortest that is not, with a walk of 256: its records computed one by one.
use Prim.Native.Nat.{ℕ, zero, suc}
use mathlib.Core.Path.{◌≡◌, refl, ap, ◌∙◌}
use mathlib.Core.List.{List}
use native.Mathlib.Omega.{arith}
use lib.ListN.{length, take}
use Rattle.derivation.specs.Walk.{Walk, long}
use Rattle.derivation.proofs.Reach.{reaches, can_pick, reached}
use Rattle.local_format.specs.Out.{Out, ok, ◌>>=◌}
use Rattle.local_format.proofs.OutLaws.{bind_ok, on_ok}
use Rattle.evr0_section.specs.Section.{frame_at, section_of}
use Rattle.specimens.specs.Build.{payload, framed, each, witness_bytes}
use Rattle.specimens.proofs.Computed.{decoded}
use Rattle.specimens.specs.Written.{all, written, propositions_from, enough, Accepts, Refuses}
use Rattle.specimens.specs.Examples.{chain, ops_from, up_from, down_to0}
use Rattle.specimens.proofs.Shown.{Shown, shown, accepts, refuses}
use Rattle.specimens.proofs.Each.{bytes, read_each, rest_each, four_each, tables_each, tables_read}

-- the walk down a chain
-- Kept (8d): an example of the definition, for readers.
pub walk_255 : Walk (chain 255) 255 (down_to0 255) 0
unfolding decoded chain ops_from up_from down_to0 reaches can_pick
walk_255 = reached (chain 255) 255 (down_to0 255) 0 refl

walk_256 : Walk (chain 256) 256 (down_to0 256) 0
unfolding decoded chain ops_from up_from down_to0 reaches can_pick
walk_256 = reached (chain 256) 256 (down_to0 256) 0 refl

pub moves : (n : ℕ) → length (down_to0 n) ≡ n
unfolding down_to0
moves zero = refl
moves (suc n) = ap suc (moves n)

-- ---- A chain's bytes: those before the proofs, the proofs, the witness, the parents
abbrev payload_of : ℕ → List ℕ
payload_of n = payload (all 0) (propositions_from 1 0) (chain n).proofs (chain n).witnesses (chain n).parents

abbrev before : ℕ → List ℕ
before n = take 107 (payload_of n)

abbrev between : ℕ → List ℕ
between n = each (witness_bytes 4 (all 0)) (chain n).witnesses

split : (n : ℕ) → payload_of n ≡ bytes enough (before n) (between n) (chain n).proofs (chain n).parents
unfolding decoded propositions_from chain
split n = refl

shown_each : ℕ → Out Shown
shown_each n = do
  t ← tables_each enough (before n) (between n) (chain n).proofs (chain n).parents
  ok (record { section = section_of t; cells = t.witnesses.next })

module _ (n cells : ℕ) (frame : frame_at (framed (payload_of n)) 0 ≡ ok (record { start = 8; len = length (payload_of n) }))
    (e : shown_each n ≡ ok (record { section = chain n; cells = cells })) where
  chain_shown : shown (chain n) ≡ ok (record { section = chain n; cells = cells })
  unfolding shown_each written chain
  chain_shown =
      let a = bind_ok (tables_each enough (before n) (between n) (chain n).proofs (chain n).parents) _ e in
      on_ok _ (tables_read enough (before n) (between n) (chain n).proofs (chain n).parents (payload_of n) (split n) frame a.0 a.1) ∙ a.2

-- 256 proofs pass
pub chain_accepted : Accepts (chain 255) (up_from 256 1)
unfolding shown_each decoded propositions_from chain ops_from up_from rest_each four_each tables_each read_each
chain_accepted = accepts (chain 255) 11713 (chain_shown 255 11713 refl refl) (up_from 256 1) refl

-- 257 do not
pub chain_refused : Refuses (chain 256) 27 8
unfolding shown_each decoded propositions_from chain ops_from up_from rest_each four_each tables_each read_each
chain_refused =
    refuses (chain 256) 11758 (chain_shown 256 11758 refl refl) 27 0 refl 256 (down_to0 256) 0 walk_256 (long (omega (arith, moves 256)))
