-- A proof's numbers and its parents, as the payload's bytes hold them.
use Prim.Native.Nat.{ℕ, ◌+◌, ◌<◌}
use mathlib.Core.Path.{◌≡◌}
use mathlib.Core.Bool.{Bool, ◌&&◌}
use mathlib.Core.List.{List}
use lib.Dec.{eqb}
use lib.ListN.{length, get_or}
use Rattle.local_format.specs.Field.{le}
use Rattle.derivation.specs.Rule.{Rule}
use Rattle.derivation.specs.Section.{Section, proof_at, proof_total}
use Rattle.derivation.specs.Pass.{agrees}
use Rattle.evr0_pass.specs.View.{Layout, after_name, proof_view, view, ProofThere}
use Rattle.evr0_pass.proofs.ViewLaws.{proof_total_lem, proof_at_lem, agrees_at}
use Rattle.evr0_pass.specs.Maps.{layout_out}
use Rattle.evr0_pass.specs.Tables.{tables_by}
use Rattle.evr0_pass.specs.declared.pass.Tables.{Tables}

module _ (rules : List Rule) (p starts : List ℕ) (l : Layout) (i : ℕ) (h : i < length starts) where
  abbrev s : Section
  s = view rules p starts l

  pub number_is : ProofThere p l (get_or starts i 0) i → (proof_at s i).number ≡ i
  unfolding proof_view
  number_is there = let q = proof_at_lem rules p starts l i h in rw q there.number

  pub agree_is : (j : ℕ) → j < length starts → {own authority rest : ℕ} {agree : Bool} → own ≡ le 4 p (get_or starts i 0 + 4)
      → rest ≡ after_name p (get_or starts i 0) → authority ≡ le 4 p rest
      → agree ≡ (eqb (le 4 p (get_or starts j 0 + 4)) own && eqb (le 4 p (after_name p (get_or starts j 0))) authority)
      → agree ≡ agrees s (proof_at s i) j
  unfolding proof_view
  agree_is j k o r a e = let q = proof_at_lem rules p starts l i h in rw (agrees_at rules p starts l (proof_at s i) j k, q, e, o, a, r)

pub total_is : (t : Tables) (rules : List Rule) → proof_total (tables_by rules t) ≡ length t.starts.now
total_is t rules = proof_total_lem rules t.payload.now t.starts.now (layout_out t.layout)
