-- Each witness and each parent cell has exactly one owning proof: ranges that follow one another without a gap cover each number once.
use Prim.Native.Nat.{ℕ, zero, suc, ◌+◌, ◌≤◌, ◌<◌}
use mathlib.Core.Path.{◌≡◌, sym, subst}
use mathlib.Core.Logic.{⊎_elim}
use native.Mathlib.Nat.{not-suc-le-zero, le_refl}
use native.Mathlib.Omega.{arith}
use Rattle.derivation.specs.Section.{Section, Checked, Within, OwnsWitness, proof_total, witness_total, sum_to}
use Rattle.derivation.specs.Demand.{OneOwner, Owned}
use Rattle.derivation.proofs.Tests.{order}

-- the range that holds c, among n ranges of the lengths f 0, f 1, ..
record Place (f : ℕ → ℕ) (n c : ℕ) : Type 0 where
  at : ℕ
  there : at < n
  holds : Within (sum_to f at) (f at) c

place : (f : ℕ → ℕ) (n c : ℕ) → c < sum_to f n → Place f n c
unfolding sum_to
place f zero c h = absurd (not-suc-le-zero h)
place f (suc n) c h =
    ⊎_elim
    (λ g. record { at = n; there = omega arith; holds = record { from = g; upto = h } })
    (λ g. let r : Place f n c = place f n c g in record { at = r.at; there = omega arith; holds = r.holds })
    (order (sum_to f n) c)

pub sum_mono : (f : ℕ → ℕ) (a b : ℕ) → a < b → sum_to f a + f a ≤ sum_to f b
unfolding sum_to
sum_mono f a zero h = absurd (not-suc-le-zero h)
sum_mono f a (suc b) h =
    ⊎_elim
    (λ g. let e : b ≡ a = omega arith in subst (λ (k : ℕ). sum_to f a + f a ≤ sum_to f k + f k) (sym e) (le_refl (sum_to f a + f a)))
    (λ g. let r : sum_to f a + f a ≤ sum_to f b = sum_mono f a b g in omega arith)
    (order b a)

place_one : (f : ℕ → ℕ) (a b c : ℕ) → Within (sum_to f a) (f a) c → Within (sum_to f b) (f b) c → a ≡ b
place_one f a b c h k =
    ⊎_elim
    (λ g. ⊎_elim (λ l. omega arith) (λ l. omega (arith, sum_mono f b a l)) (order a b))
    (λ g. omega (arith, sum_mono f a b g))
    (order b a)

-- ranges that start at `first 0`, `first 1`, .., each where the one before it ends, and cover `total` numbers
module _ (s : Section) (first count : ℕ → ℕ) (total : ℕ) (next : (i : ℕ) → i < proof_total s → first i ≡ sum_to count i)
    (whole : sum_to count (proof_total s) ≡ total) where
  one_owner : (c : ℕ) → c < total → OneOwner s (λ i. Within (first i) (count i) c)
  one_owner c h =
      let r : Place count (proof_total s) c = place count (proof_total s) c (omega arith) in
      record {
        owner = r.at;
        there = r.there;
        owns = rw (next r.at r.there) r.holds;
        only = λ i l o. place_one count i r.at c (rw (next i l) at o) r.holds;
      }

  within_total : (i c : ℕ) → i < proof_total s → Within (first i) (count i) c → c < total
  within_total i c l o = omega (arith, next i l, sum_mono count i (proof_total s) l)

module _ (s : Section) (checked : Checked s) where
  pub owned : Owned s
  owned =
      record {
        parents = one_owner s _ _ _ checked.first_parent checked.parents_owned;
        witnesses = one_owner s _ _ _ checked.first_witness checked.witnesses_owned;
      }

  pub witness_there : (i w : ℕ) → i < proof_total s → OwnsWitness s i w → w < witness_total s
  witness_there = within_total s _ _ _ checked.first_witness checked.witnesses_owned
