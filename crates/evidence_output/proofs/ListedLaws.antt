-- The lines of proofs, one more at a time, and from the table that was read.
use Prim.Native.Nat.{ℕ, zero, suc, ◌+◌, ◌≤◌, ◌<◌, min}
use mathlib.Core.Path.{◌≡◌, refl, sym, ap, ap₂, ◌∙◌}
use mathlib.Core.List.{List, [], ◌∷◌, ◌++◌, append-nil, append_assoc}
use native.Mathlib.Omega.{arith}
use native.Mathlib.Numerals.{add-one}
use lib.ListN.{length, get_or, take, drop}
use lib.Seq.{take-nil, take-suc, length-take-le}
use Rattle.local_format.specs.Out.{Out}
use Rattle.derivation.specs.Rule.{Rule}
use Rattle.evr0_section.specs.Rows.{Sized, Entry, starts_of}
use Rattle.evr0_section.specs.Head.{Counts}
use Rattle.evr0_section.specs.Proof.{ProofRecord, Settled, Unowned, proof_of, proof_row}
use Rattle.evr0_section.proofs.RowChecks.{proof_behind}
use Rattle.evr0_section.proofs.RowsLaws.{Trace, none, more}
use Rattle.evr0_section.specs.Rows.{starts_of}
use Rattle.evidence_output.specs.Output.{proof_line, proof_lines}
use Rattle.evidence_output.specs.Listed.{record_line, lines_at}

module _ (p : List ℕ) where
  -- as many starts as depths, then more of both
  lines_append : (ss ds ss' ds' : List ℕ) → length ss ≡ length ds → lines_at p (ss ++ ss') (ds ++ ds') ≡ lines_at p ss ds ++ lines_at p ss' ds'
  unfolding lines_at
  lines_append [] [] ss' ds' h = refl
  lines_append [] (d ∷ ds) ss' ds' h = absurd (omega arith)
  lines_append (s ∷ ss) [] ss' ds' h = absurd (omega arith)
  lines_append (s ∷ ss) (d ∷ ds) ss' ds' h = rw (lines_append ss ds ss' ds' (omega arith), append_assoc)

  module _ (ss ds : List ℕ) (i : ℕ) where
    pub one_more_line : i < length ss → i < length ds
        → lines_at p (take (i + 1) ss) (take (i + 1) ds) ≡ lines_at p (take i ss) (take i ds) ++ record_line (proof_of (drop (get_or ss i 0) p)) (get_or ds i 0)
    unfolding lines_at
    one_more_line h k =
        let l : length (take i ss) ≡ length (take i ds) = omega (arith, length-take-le i ss (omega arith), length-take-le i ds (omega arith)) in
        rw (add-one i, take-suc ss i 0 h, take-suc ds i 0 k) (lines_append (take i ss) (take i ds) (get_or ss i 0 ∷ []) (get_or ds i 0 ∷ []) l ∙ rw append-nil)

  no_depth_left : (ss : List ℕ) → lines_at p ss [] ≡ []
  unfolding lines_at
  no_depth_left [] = refl
  no_depth_left (s ∷ ss) = refl

  -- where the starts or the depths end
  pub all_lines : (i : ℕ) (ss ds : List ℕ) → min (length ss) (length ds) ≤ i → lines_at p (take i ss) (take i ds) ≡ lines_at p ss ds
  unfolding lines_at
  all_lines i [] ds h = rw take-nil
  all_lines i (s ∷ ss) [] h = rw (take-nil, no_depth_left)
  all_lines zero (s ∷ ss) (d ∷ ds) h = absurd (omega arith)
  all_lines (suc i) (s ∷ ss) (d ∷ ds) h = rw (all_lines i ss ds (omega arith))

-- ---- A table that was read

-- the records at the starts of a table's entries are its records
pub lines_of_table : (rules : List Rule) (counts : Counts) (p : List ℕ) {n at end : ℕ} {u last : Unowned} {es : List (Entry Settled)} (ds : List ℕ)
    → Trace (proof_row rules counts) p n u at es last end → lines_at p (starts_of es) ds ≡ proof_lines es ds
unfolding lines_at proof_lines
lines_of_table rules counts p ds none = refl
lines_of_table rules counts p [] (more r e w) = refl
lines_of_table rules counts p (d ∷ ds) (more {at = at} {state = u} r e w) =
    let b = proof_behind rules counts u (drop at p) r e in
    ap₂ ◌++◌ (ap (λ (x : Out (Sized ProofRecord)). record_line x d) b.read ∙ ap (λ (x : ProofRecord). proof_line x d) (sym b.item))
    (lines_of_table rules counts p ds w)
