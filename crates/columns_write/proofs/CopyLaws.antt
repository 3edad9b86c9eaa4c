-- What writing leaves: the columns where they fit, with the decoder's tables, or a refusal with zeros everywhere. Of what was lent only the lengths count.
use Prim.Native.Nat.{ℕ, ◌≤◌, ◌<◌}
use mathlib.Core.Path.{◌≡◌, ap, ap₂, ◌∙◌}
use mathlib.Core.List.{List}
use native.Mathlib.Omega.{arith}
use lib.ListN.{length, take}
use borrow.Author.Tests.{le-leb, lt-leb}
use Rattle.local_format.specs.Refusal.{refusal}
use Rattle.local_format.specs.Out.{Out, ok, refused, held}
use Rattle.lent_table.specs.Lent.{lent}
use Rattle.byte_output.specs.Written.{Written}
use Rattle.byte_output.proofs.WrittenLaws.{written_length, written_whole}
use Rattle.evr0_section.specs.Section.{Section}
use Rattle.evr0_columns.specs.Columns.{Copy, output_of}
use Rattle.evr0.specs.Answer as decoder
use Rattle.evr0.specs.Answer.{Filled, proposition_starts, proof_starts, proof_depths}
use Rattle.columns_answer.specs.Copies.{Lent, with_output, Copies}
use Rattle.columns_write.specs.Ready.{fitted}

-- ---- Lengths
pub record SameLengths (a b : Lent) : Type 0 where
  pub propositions : length a.tables.propositions ≡ length b.tables.propositions
  pub proofs : length a.tables.proofs ≡ length b.tables.proofs
  pub depths : length a.tables.depths ≡ length b.tables.depths
  pub output : length a.output ≡ length b.output

pub filled_by : {x : Out Section} {a b after : decoder.Lent} → length a.propositions ≡ length b.propositions
    → length a.proofs ≡ length b.proofs → length a.depths ≡ length b.depths → Filled x a after → Filled x b after
filled_by {x} p q r f =
    record {
      propositions = f.propositions ∙ ap (λ (n : ℕ). lent n (proposition_starts x)) p;
      proofs = f.proofs ∙ ap (λ (n : ℕ). lent n (proof_starts x)) q;
      depths = f.depths ∙ ap (λ (n : ℕ). lent n (proof_depths x)) r;
    }

pub copies_by : {x : Out Copy} {a b after : Lent} {given : Out ℕ} → SameLengths a b → Copies x a after given → Copies x b after given
copies_by {x} s c =
    record {
      answer = c.answer;
      output = c.output ∙ ap (λ (n : ℕ). output_of n x) s.output;
      tables = filled_by s.propositions s.proofs s.depths c.tables;
    }

-- ---- Columns c, as far as the output reaches
module _ (d : Section) (c : List ℕ) {before after : List ℕ} {n : ℕ} (w : Written before 0 c after n) where
  pub too_short : length after < n → fitted (length before) d c ≡ refused (refusal 61 0)
  unfolding held
  too_short h = rw (lt-leb (length c) (length before) (omega (arith, w.place, written_length w)))

  pub long_enough : {tables : decoder.Lent} {cleared : List ℕ} → n ≤ length after → length before < 18446744073709551615 → Filled (ok d) tables tables
      → cleared ≡ lent (length after) (take n after)
      → Copies (fitted (length before) d c) (with_output tables before) (with_output tables cleared) (ok n)
  unfolding held
  long_enough h k f e =
      let l = written_length w in
      let m : n ≡ length c = omega (arith, w.place) in
      let t : take n after ≡ c = written_whole w (omega arith) k in
      rw (le-leb (length c) (length before) (omega arith))
      (record { answer = ap ok m; output = e ∙ ap₂ lent l t; tables = f })
