-- Demand 3, about tables that pass their own checks: by soundness and completeness of the last pass.
use Prim.Native.Nat.{ℕ, ◌<◌}
use mathlib.Core.Path.{◌≡◌}
use mathlib.Core.List.{List}
use mathlib.Core.Logic.{◌↔◌, ⊎_elim}
use native.Mathlib.Omega.{arith}
use Rattle.local_format.specs.Out.{ok}
use Rattle.derivation.specs.Section.{Section, Checked, proof_at, proof_total, OwnsParent}
use Rattle.derivation.specs.Pass.{depths}
use Rattle.derivation.specs.Walk.{Walk, AtEnd}
use Rattle.derivation.specs.Demand.{NoParentLeft, Leads, Derivable, Depth, Depths}
use Rattle.derivation.proofs.Sound.{Sound, depth_at, pass_sound}
use Rattle.derivation.proofs.Along.{leads, no_parent_left, derivable, first_owned}
use Rattle.derivation.proofs.Complete.{accepts}

module _ (cells_at : ℕ) (s : Section) (checked : Checked s) where
  module _ (ds : List ℕ) (accepted : depths cells_at s ≡ ok ds) where
    sound : (i : ℕ) → i < proof_total s → Sound s (depth_at ds) i
    sound = (pass_sound cells_at s checked.proof_number ds accepted).1

    -- from every proof and whichever parents are picked
    pub walks_lead : (i : ℕ) (cs : List ℕ) (k : ℕ) → Walk s i cs k → Leads s i k
    walks_lead = leads s checked (depth_at ds) sound

    pub walks_end : NoParentLeft s
    walks_end = no_parent_left s checked (depth_at ds) sound

    depth_of_lem : (i : ℕ) → i < proof_total s → Depth s ds i
    unfolding AtEnd
    depth_of_lem i l =
        let h : Sound s (depth_at ds) i = sound i l in
        record {
          alone = λ z. ⊎_elim (λ q. q) (λ q. absurd (omega (arith, q.1.from, q.1.upto))) h.attained;
          below = h.deeper;
          deepest = λ z. ⊎_elim
              (λ q. let c : ℕ = (proof_at s i).first_parent in let o : OwnsParent s i c = first_owned s i z in (c, o, omega (arith, h.deeper c o)))
              (λ q. q)
              h.attained;
          most = h.shallow;
        }

    pub depths_are : Depths s ds
    depths_are = record { total = (pass_sound cells_at s checked.proof_number ds accepted).0; depth = depth_of_lem }

  -- accepted exactly when each parent's number is below its proof's, each join's parents rise, and no walk fails
  pub accepted_exactly : ((ds : List ℕ) × (depths cells_at s ≡ ok ds)) ↔ Derivable s
  accepted_exactly = (λ a. derivable s checked (depth_at a.0) (sound a.0 a.1), accepts cells_at s checked)
