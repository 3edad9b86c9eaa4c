-- How long the output can be: the numbers of a section's proofs have 4 bytes, and the depths are at most 256.
use Prim.Native.Nat.{ℕ, zero, suc, ◌+◌, ◌-◌, ◌*◌, ◌^◌, ◌≤◌, ◌<◌}
use mathlib.Core.Path.{◌≡◌, refl}
use mathlib.Core.Bool.{Bool, true, false, cond}
use mathlib.Core.List.{List, [], ◌∷◌, ◌++◌}
use native.Mathlib.Omega.{arith}
use native.Mathlib.Nat.{le_trans}
use lib.ListN.{length, get_or, take, drop, length-append, length-take, length-drop}
use lib.Dec.{leb}
use borrow.Author.Tests.{leb-true}
use lib.Seq.{get_or-drop}
use Rattle.local_format.specs.Refusal.{Refusal}
use Rattle.local_format.specs.Out.{Out, ok, refused}
use Rattle.local_format.specs.Field.{Got}
use Rattle.local_format.specs.Tag.{evr0}
use Rattle.local_format.specs.Text.{section_field, text_at}
use Rattle.local_format.proofs.OutLaws.{ok_same, bind_ok, then_ok, checked_ok}
use Rattle.local_format.proofs.FieldLaws.{field_ok, le_below}
use Rattle.derivation.specs.Rule.{Rule, four_rules}
use Rattle.derivation.specs.Section as derivation
use Rattle.derivation.specs.Pass.{parents_from, witnesses_from, depth_of, depths_from, depths}
use Rattle.evr0_section.specs.Rows.{Sized, Entry}
use Rattle.evr0_section.specs.Head.{Counts, Head, Room, span_width, witness_size, listed, count_limits, within_limits, sizes, check_counts}
use Rattle.evr0_section.proofs.SectionWithin.{least_sizes}
use Rattle.evr0_section.specs.Proof.{ProofRecord, Settled, Unowned, proof_of, zeros_at, proof_row}
use Rattle.evr0_section.specs.Section.{Section, decode_section}
use Rattle.evr0_section.proofs.RowChecks.{proof_behind}
use Rattle.evr0_section.proofs.RowsLaws.{Trace, trace}
use Rattle.evr0_section.proofs.RowsLaws as rows-laws
use Rattle.evidence_output.specs.Decimal.{decimal}
use Rattle.evidence_output.specs.Output.{spaced, line, proof_line, proof_lines, head_line, printed, refused_word, too_long, enough, output_of}
use Rattle.evr0_read.proofs.AcceptedLaws.{payload_to, accepted}
use Rattle.evidence_output.proofs.Enough.{refused_upto_29}
use Rattle.evidence_output.proofs.OffsetLaws.{offset_within}
use Rattle.evidence_output.specs.Written.{Written}
use Rattle.evidence_output.proofs.WrittenLaws.{written_whole}
use Rattle.evidence_output.proofs.DecimalLaws.{decimal_length}

-- ---- A line

-- numbers of at most ten digits
pub data Short : List ℕ → Type 0 where
  none : Short []
  also : {n : ℕ} {ns : List ℕ} → n < 10 ^ 10 → Short ns → Short (n ∷ ns)

spaced_length : {ns : List ℕ} → Short ns → length (spaced ns) ≤ 11 * length ns
unfolding spaced
spaced_length none = omega arith
spaced_length (also {n} {ns} h r) = rw length-append (omega (arith, decimal_length 9 n h, spaced_length r))

line_length : (start : List ℕ) {ns : List ℕ} → Short ns → length (line start ns) ≤ length start + 11 * length ns + 1
unfolding line
line_length start {ns} h = rw (length-append, length-append) (omega (arith, spaced_length h))

-- ---- The numbers of a proof

-- the list holds bytes
abbrev pub Bytes : List ℕ → Type 0
Bytes s = (i : ℕ) → get_or s i 0 < 256

drop_bytes : (n : ℕ) (s : List ℕ) → Bytes s → Bytes (drop n s)
drop_bytes n s h i = rw get_or-drop (h (n + i))

proof_line_length : (r : ProofRecord) (depth : ℕ) → r.number < 10 ^ 10 → r.proposition < 10 ^ 10 → r.authority < 10 ^ 10
    → r.witness_count < 10 ^ 10 → depth ≤ 256
    → length (proof_line r depth) ≤ 55
unfolding proof_line
proof_line_length r depth a b c d e =
    omega (arith, decimal_length 9 r.number a, line_length (decimal r.number) (also b (also c (also {n = depth} (omega arith) (also d none)))))

module _ (s : List ℕ) (bytes : Bytes s) where
  four_below : (at : ℕ) {g : Got} → section_field 4 s at ≡ ok g → g.value < 10 ^ 10
  four_below at {g} e = omega (arith, (field_ok 5 4 s at e).2, le_below 4 s bytes at)

  proof_short : (q : Sized ProofRecord) → proof_of s ≡ ok q → (depth : ℕ) → depth ≤ 256 → length (proof_line q.item depth) ≤ 55
  unfolding proof_of
  proof_short q e depth h =
      let number = bind_ok (section_field 4 s 0) _ e in
      let proposition = bind_ok (section_field 4 s number.0.next) _ number.2 in
      let rule = bind_ok (text_at s proposition.0.next) _ proposition.2 in
      let authority = bind_ok (section_field 4 s rule.0.next) _ rule.2 in
      let first_witness = bind_ok (section_field 4 s authority.0.next) _ authority.2 in
      let witness_count = bind_ok (section_field 4 s first_witness.0.next) _ first_witness.2 in
      let first_parent = bind_ok (section_field 4 s witness_count.0.next) _ witness_count.2 in
      let parent_count = bind_ok (section_field 4 s first_parent.0.next) _ first_parent.2 in
      let operation = bind_ok (section_field 1 s parent_count.0.next) _ parent_count.2 in
      let zeros = bind_ok (zeros_at s operation.0.next) _ operation.2 in
      rw (← ok_same zeros.2)
      (proof_line_length _ depth (four_below 0 number.1) (four_below number.0.next proposition.1) (four_below rule.0.next authority.1)
      (four_below first_witness.0.next witness_count.1) h)

-- ---- The lines of the proofs

-- depths of at most 256
data Depths : List ℕ → Type 0 where
  no_depths : Depths []
  depth_and : {d : ℕ} {ds : List ℕ} → d ≤ 256 → Depths ds → Depths (d ∷ ds)

module _ (rules : List Rule) (counts : Counts) (p : List ℕ) (bytes : Bytes p) where
  lines_length : {n at end : ℕ} {u last : Unowned} {es : List (Entry Settled)} {ds : List ℕ}
      → Trace (proof_row rules counts) p n u at es last end → Depths ds → length (proof_lines es ds) ≤ 55 * n
  unfolding proof_lines
  lines_length rows-laws.none ds = omega arith
  lines_length (rows-laws.more r e w) no_depths = omega arith
  lines_length (rows-laws.more {at = at} {state = u} r e w) (depth_and {d} h ds) =
      let b = proof_behind rules counts u (drop at p) r e in
      let l = rw (← b.item) at (proof_short (drop at p) (drop_bytes at p bytes) b.proof b.read d h) in
      rw length-append (omega (arith, l, lines_length w ds))

-- ---- The depths
module _ (cells_at : ℕ) (s : derivation.Section) where
  depth_upto : (p : derivation.Proof) (ds : List ℕ) {d : ℕ} → depth_of cells_at s p ds ≡ ok d → d ≤ 256
  unfolding depth_of
  depth_upto p ds {d} e =
      let m = bind_ok (parents_from cells_at s p ds p.parent_count p.first_parent 0 0) _ e in
      let c = checked_ok (leb (suc m.0) 256) 27 0 _ m.2 in
      let w = then_ok (witnesses_from cells_at s p p.witness_count p.first_witness) _ c.1 in
      rw (ok_same w.2) at (leb-true (suc m.0) 256 c.0)

  depths_append : {ds : List ℕ} {d : ℕ} → Depths ds → d ≤ 256 → Depths (ds ++ (d ∷ []))
  depths_append no_depths h = depth_and h no_depths
  depths_append (depth_and k ds) h = depth_and k (depths_append ds h)

  depths_upto : (n i : ℕ) {ds es : List ℕ} → Depths ds → depths_from cells_at s n i ds ≡ ok es → Depths es
  unfolding depths_from
  depths_upto zero i h e = rw (ok_same e) at h
  depths_upto (suc n) i {ds} h e =
      let d = bind_ok (depth_of cells_at s (derivation.proof_at s i) ds) _ e in
      depths_upto n (suc i) (depths_append h (depth_upto (derivation.proof_at s i) ds d.1)) d.2

-- ---- The output

-- 13 leaves few records
counts_few : (room : Room) (p : List ℕ) (h : Head) {u : Unit {0}} → check_counts room p h ≡ ok u → sizes h.counts 15 35 84 4 ≤ length p
unfolding check_counts
counts_few room p h e =
    let limits = then_ok (within_limits (listed h.counts) count_limits h.counts_at) _ e in
    let size : ℕ = witness_size (span_width h.schema) in
    let c = checked_ok (leb (sizes h.counts 15 35 size 4) (length p - h.next)) 13 h.next _ limits.2 in
    (least_sizes h.counts h.schema (length p) (omega (arith, leb-true (sizes h.counts 15 35 size 4) (length p - h.next) c.0))).bytes

take_bytes : (n : ℕ) (s : List ℕ) → Bytes s → Bytes (take n s)
take_bytes zero s h i = omega arith
take_bytes (suc n) [] h i = omega arith
take_bytes (suc n) (x ∷ s) h zero = h zero
take_bytes (suc n) (x ∷ s) h (suc i) = take_bytes n s (λ k. h (suc k)) i

head_line_length : (c : Counts) (cursor : ℕ) → sizes c 15 35 84 4 ≤ 65536 → cursor ≤ 65536 → length (head_line c cursor) ≤ 60
unfolding head_line sizes
head_line_length c cursor h k =
    line_length evr0 (also {n = c.propositions} (omega arith) (also {n = c.proofs} (omega arith) (also {n = c.witnesses} (omega arith)
    (also {n = c.parents} (omega arith) (also {n = cursor} (omega arith) none)))))

pub proofs_few : (c : Counts) → sizes c 15 35 84 4 ≤ 65536 → c.proofs ≤ 1872
unfolding sizes
proofs_few c h = omega arith

-- no input of 65,536 bytes has more
pub records_few : (s : List ℕ) (cursor : ℕ) {d : Section} → length s ≤ 65536 → decode_section enough s cursor ≡ ok d
    → sizes d.tables.head.counts 15 35 84 4 ≤ 65536
unfolding decode_section
records_few s cursor {d} l e =
    let a = accepted four_rules enough s cursor e in
    let p = payload_to four_rules enough s cursor d.cursor in
    let short : length p ≤ length s = simp (length-take, length-drop) (omega arith) in
    omega (arith, counts_few enough p d.tables.head a.tables.counts)

-- a buffer for any accepted input: 60 bytes for the first line and 55 for each proof
pub accepted_length : (s : List ℕ) (cursor : ℕ) (d : Section) → length s ≤ 65536 → Bytes s → decode_section enough s cursor ≡ ok d
    → length (printed (ok d)) ≤ 103020
unfolding decode_section printed depths
accepted_length s cursor d l bytes e =
    let a = accepted four_rules enough s cursor e in
    let c = d.tables.head.counts in
    let p = payload_to four_rules enough s cursor d.cursor in
    let few : sizes c 15 35 84 4 ≤ 65536 = records_few s cursor l e in
    let lines = lines_length four_rules c p (take_bytes (d.cursor - (cursor + 8)) (drop (cursor + 8) s) (drop_bytes (cursor + 8) s bytes))
    (trace (proof_row four_rules c) p _ _ _ d.tables.proofs a.tables.proofs) (depths_upto _ _ _ _ no_depths a.depths) in
    rw length-append (omega (arith, a.end, head_line_length c d.cursor few (omega (arith, a.end)), lines, proofs_few c few))

-- ---- Any input

refused_length : (r : Refusal) → r.number ≤ 29 → r.offset ≤ 65544 → length (printed (refused r)) ≤ 30
unfolding printed
refused_length r a b = line_length refused_word (also {n = r.number} (omega arith) (also {n = r.offset} (omega arith) none))

printed_length : (s : List ℕ) → length s ≤ 65536 → Bytes s → (x : Out Section) → decode_section enough s 0 ≡ x → length (printed x) ≤ 103020
printed_length s l bytes (ok d) e = accepted_length s 0 d l bytes e
printed_length s l bytes (refused r) e = omega (arith, refused_length r (refused_upto_29 s 0 l e) (omega (arith, offset_within enough s 0 e)))

-- so long a buffer serves for any input
pub output_length : (s : List ℕ) → Bytes s → length (output_of s) ≤ 103020
unfolding output_of line
output_length s bytes = go (leb (length s) 65536) refl
  where
    go : (t : Bool) → leb (length s) 65536 ≡ t → length (cond t (printed (decode_section enough s 0)) (line too_long [])) ≤ 103020
    go true e = printed_length s (leb-true (length s) 65536 e) bytes (decode_section enough s 0) refl
    go false e = omega (arith, line_length too_long none)

-- what is in the buffer after `evidence` is the whole output
pub whole_output : (s : List ℕ) → Bytes s → {before after : List ℕ} {n : ℕ} → 103020 ≤ length before → Written before 0 (output_of s) after n
    → take n after ≡ output_of s
whole_output s bytes h w = written_whole w (le_trans (output_length s bytes) h)
