-- The answer by how far it comes: the rules, the columns, the output's length, the decoder.
use Prim.Native.Nat.{ℕ, ◌≤◌, ◌<◌}
use mathlib.Core.Path.{◌≡◌, refl, sym, ap, ◌∙◌}
use mathlib.Core.List.{List, []}
use native.Mathlib.Omega.{arith}
use lib.ListN.{length, take}
use borrow.Author.Tests.{le-leb}
use Rattle.local_format.specs.Refusal.{Refusal, refusal}
use Rattle.local_format.specs.Out.{Out, ok, refused, held, ◌>>=◌}
use Rattle.local_format.proofs.OutLaws.{never, on_ok, on_refused, bind_ok}
use Rattle.lent_table.specs.Lent.{lent}
use Rattle.byte_output.proofs.WrittenLaws.{written_whole}
use Rattle.derivation.specs.Rule.{Rule}
use Rattle.rule_table.specs.ByTable.{Given, rules_given, decode_by}
use Rattle.evr0_section.specs.Head.{Room}
use Rattle.evr0_section.specs.Section.{Section, section_at}
use Rattle.evr0_columns.specs.Columns.{Copy, output_of, taken_back, rebuilt}
use Rattle.evr0_columns.proofs.RoundTrips.{taken_unruled, taken_refused, taken_short}
use Rattle.evr0.specs.Answer as decoder
use Rattle.evr0.specs.Answer.{Accepted, Answer, room_of, decode_given, LeavesBy}
use Rattle.evr0_rules.specs.Maps.{count_in}
use Rattle.columns_rebuild.specs.Took.{RebuiltTo}
use Rattle.columns_answer.specs.Copies.{Lent, with_output, Copies, TakesBack}
use Rattle.columns_answer.proofs.AnswerLaws.{answered_ok, answered_refused}
use Rattle.columns_take.specs.Steps.{copied, copy_of}

-- ---- The decoder on a rebuilt section, which stands in a part of the output
module _ {given : Given} {section : List ℕ} {before after : decoder.Lent} {answered : Answer}
    (leaves : LeavesBy given section 0 before after answered) where
  abbrev x : Out Section
  x = decode_given given before section 0

  pub decoder_refuses : {r : Refusal} (output : List ℕ) {left : List ℕ} → answered.outcome ≡ refused r → left ≡ lent (length output) []
      → Copies (copy_of given (room_of before) section) (with_output before output) (with_output after left) (refused r)
  decoder_refuses {r} output o e =
      let f : x ≡ refused r = answered_refused 0 x leaves.answer o in
      let c : copy_of given (room_of before) section ≡ refused r = on_refused _ f in
      let t = rw f at leaves.tables in
      rw c (record {
        answer = refl;
        output = e;
        tables = record { propositions = t.propositions; proofs = t.proofs; depths = t.depths };
      })

  pub decoder_accepts : {a : Accepted} (output : List ℕ) {len : ℕ} {left : List ℕ} → answered.outcome ≡ ok a → len ≡ length section
      → left ≡ lent (length output) section
      → Copies (copy_of given (room_of before) section) (with_output before output) (with_output after left) (ok len)
  decoder_accepts {a} output o n e =
      let told = answered_ok 0 x leaves.answer o in
      let c : copy_of given (room_of before) section ≡ ok (record { section = told.section; bytes = section }) = on_ok _ told.is in
      let t = rw told.is at leaves.tables in
      rw c (record {
        answer = ap ok n;
        output = e;
        tables = record { propositions = t.propositions; proofs = t.proofs; depths = t.depths };
      })

-- ---- The rules of the call
pub unruled : (given : Given) {r : Refusal} → count_in (rules_given given) ≡ refused r → rules_given given ≡ refused r
unruled given {r} e = go (rules_given given) e
  where
    go : (y : Out (List Rule)) → count_in y ≡ refused r → y ≡ refused r
    go (ok rules) h = absurd (never (sym h))
    go (refused q) h = cc

taken_copy : (given : Given) (room : Room) (out : ℕ) (c : List ℕ) (rules : List Rule) → rules_given given ≡ ok rules → (section : List ℕ)
    → rebuilt c ≡ ok section → length section ≤ out → taken_back given room out c ≡ copy_of given room section
unfolding taken_back decode_by
taken_copy given room out c rules g section e h =
    on_ok _ g ∙ on_ok _ e
    ∙ rw (le-leb (length section) out h) (sym (ap (λ (y : Out (List Rule)). y >>= (λ rs. section_at rs room section 0) >>= copied section) g))

-- ---- The output as it was brought is as long as with the section in it
as_brought : {x : Out Copy} {before : decoder.Lent} {output rebuilt : List ℕ} {after : Lent} {answered : Out ℕ} → length rebuilt ≡ length output
    → Copies x (with_output before rebuilt) after answered → Copies x (with_output before output) after answered
as_brought {x} same k = record { answer = k.answer; output = k.output ∙ ap (λ (n : ℕ). output_of n x) same; tables = k.tables }

module _ (given : Given) (c : List ℕ) {output : List ℕ} {before : decoder.Lent} {after : Lent} {answered : Out ℕ} where
  pub no_rules : {r : Refusal} → count_in (rules_given given) ≡ refused r → Copies (refused r) (with_output before output) after answered
      → TakesBack given c (with_output before output) after answered
  no_rules {r} e k = rw (taken_unruled given (room_of before) (length output) c r (unruled given e)) k

  module _ {n : ℕ} (loaded : count_in (rules_given given) ≡ ok n) where
    pub no_columns : {r : Refusal} → rebuilt c ≡ refused r → Copies (refused r) (with_output before output) after answered
        → TakesBack given c (with_output before output) after answered
    no_columns {r} e k =
        let (rules, g, h) = bind_ok (rules_given given) _ loaded in
        rw (taken_refused given (room_of before) (length output) rules g c r e) k

    module _ {held_bytes : List ℕ} (same : length held_bytes ≡ length output) {len : ℕ} (built : RebuiltTo c output held_bytes len) where
      pub too_short : {r : Refusal} → length held_bytes < len → r ≡ refusal 61 0 → Copies (refused r) (with_output before held_bytes) after answered
          → TakesBack given c (with_output before output) after answered
      unfolding held
      too_short s n k =
          let (rules, g, h) = bind_ok (rules_given given) _ loaded in
          let more : length output < length built.section = omega (arith, built.puts.place) in
          rw (taken_short given (room_of before) (length output) rules g c built.section built.is more) (as_brought same (rw n at k))

      pub rebuilt_there : len ≤ length held_bytes → length held_bytes < 18446744073709551615
          → Copies (copy_of given (room_of before) (take len held_bytes)) (with_output before held_bytes) after answered
          → TakesBack given c (with_output before output) after answered
      unfolding held
      rebuilt_there l m k =
          let (rules, g, h) = bind_ok (rules_given given) _ loaded in
          let whole : take len held_bytes ≡ built.section = written_whole built.puts (omega arith) (omega arith) in
          let fits : length built.section ≤ length output = omega (arith, built.puts.place) in
          rw (taken_copy given (room_of before) (length output) c rules g built.section built.is fits, ← whole) (as_brought same k)
