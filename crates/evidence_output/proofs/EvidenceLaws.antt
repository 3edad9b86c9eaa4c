-- The output from what the decoder answers and leaves in its lent tables.
use Prim.Native.Nat.{ℕ, ◌-◌, ◌≤◌, ◌<◌}
use mathlib.Core.Path.{◌≡◌, sym, ap, ap₂, subst, ◌∙◌}
use mathlib.Core.List.{List, [], ◌∷◌, ◌++◌}
use lib.ListN.{length, take, drop, length-map}
use lib.Seq.{take_at}
use borrow.Author.Tests.{le-leb, lt-leb}
use Rattle.local_format.specs.Refusal.{Refusal}
use Rattle.local_format.specs.Out.{Out, ok, refused}
use Rattle.local_format.proofs.OutLaws.{never, ok_same, refused_same}
use Rattle.lent_table.specs.Lent.{lent}
use Rattle.derivation.specs.Rule.{four_rules}
use Rattle.evr0_section.specs.Head.{Counts}
use Rattle.evr0_section.specs.Proof.{proof_row}
use Rattle.evr0_section.specs.Section.{Section, decode_section}
use Rattle.evr0_section.proofs.RowsLaws.{trace}
use Rattle.evr0.specs.Answer as answer
use Rattle.evr0.specs.Answer.{answer_of, proof_starts, proof_depths}
use Rattle.evr0_section.specs.Rows.{starts_of}
use Rattle.evidence_output.specs.Listed.{lines_at}
use Rattle.evidence_output.specs.Output.{spaced, line, too_long, refused_word, head_line, printed, enough, output_of}
use Rattle.evr0_read.proofs.AcceptedLaws.{payload_to, accepted}
use Rattle.evidence_output.proofs.ListedLaws.{lines_of_table}
use Rattle.evidence_output.proofs.OutputLength.{proofs_few, records_few}

pub too_long_lem : (s : List ℕ) → 65536 < length s → too_long ++ (0x0A ∷ []) ≡ output_of s
unfolding output_of line spaced
too_long_lem s h = rw (lt-leb (length s) 65536 h)

-- the front of a lent table
front : (n count : ℕ) (xs : List ℕ) → length xs ≡ count → take count (lent n xs) ≡ xs
front n count xs h = take_at xs _ count h

module _ (s : List ℕ) (short : length s ≤ 65536) where
  abbrev decoded : Out Section
  decoded = decode_section enough s 0

  taken : {x : Out Section} → decoded ≡ x → printed x ≡ output_of s
  unfolding output_of
  taken e = rw (le-leb (length s) 65536 short) (ap printed (sym e))

  -- ---- A refusal
  pub refusal_printed : (x : Out Section) {r : Refusal} → decoded ≡ x → (answer_of 0 x).outcome ≡ refused r
      → line refused_word (r.number ∷ r.offset ∷ []) ≡ output_of s
  unfolding printed
  refusal_printed (ok d) e h = absurd (never (sym h))
  refusal_printed (refused q) e h = taken (e ∙ ap refused (refused_same h))

  -- ---- An accepted section
  accepted_lines : (d : Section) → decoded ≡ ok d
      → head_line d.tables.head.counts d.cursor
      ++ lines_at (take (d.cursor - 8) (drop 8 s)) (take d.tables.head.counts.proofs (lent 1872 (starts_of d.tables.proofs.entries)))
      (take d.tables.head.counts.proofs (lent 1872 d.depths))
      ≡ output_of s
  unfolding decode_section printed
  accepted_lines d e =
      let a = accepted four_rules enough s 0 e in
      let c = d.tables.head.counts in
      let es = d.tables.proofs.entries in
      let p = payload_to four_rules enough s 0 d.cursor in
      let starts : take c.proofs (lent 1872 (starts_of es))
      ≡ starts_of es = front 1872 c.proofs (starts_of es) (length-map es (λ e. e.start) ∙ a.proofs) in
      let depths : take c.proofs (lent 1872 d.depths) ≡ d.depths = front 1872 c.proofs d.depths a.depth_count in
      ap (λ (x : List ℕ). head_line c d.cursor ++ x)
      (ap₂ (lines_at p) starts depths ∙ lines_of_table four_rules c p d.depths
      (trace (proof_row four_rules c) p _ _ _ d.tables.proofs a.tables.proofs))
      ∙ taken e

  pub record Given (cursor : ℕ) (counts : Counts) : Type 0 where
    pub start : 8 ≤ cursor
    pub end : cursor ≤ length s
    pub few : counts.proofs ≤ 1872
    pub lines : (proofs depths : List ℕ) → proofs ≡ lent 1872 (proof_starts decoded) → depths ≡ lent 1872 (proof_depths decoded)
        → head_line counts cursor ++ lines_at (take (cursor - 8) (drop 8 s)) (take counts.proofs proofs) (take counts.proofs depths) ≡ output_of s

  given_of : (d : Section) → decoded ≡ ok d → Given d.cursor d.tables.head.counts
  unfolding decode_section
  given_of d e =
      let a = accepted four_rules enough s 0 e in
      record {
        start = a.start;
        end = a.end;
        few = proofs_few d.tables.head.counts (records_few s 0 short e);
        lines = λ proofs depths f g.
            rw (f ∙ ap (λ (x : Out Section). lent 1872 (proof_starts x)) e, g ∙ ap (λ (x : Out Section). lent 1872 (proof_depths x)) e) (accepted_lines d e);
      }

  pub given : (x : Out Section) {cursor : ℕ} {a : answer.Accepted} → decoded ≡ x → cursor ≡ (answer_of 0 x).cursor → (answer_of 0 x).outcome ≡ ok a
      → Given cursor a.counts
  given (refused r) e f h = absurd (never h)
  given (ok d) {a = a} e f h =
      subst (λ (n : ℕ). Given n a.counts) (sym f)
      (subst (λ (a : answer.Accepted). Given d.cursor a.counts) (ok_same h) (given_of d e))
