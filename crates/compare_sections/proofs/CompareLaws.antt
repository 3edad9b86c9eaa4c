-- The steps of a comparison: what each decoded section gives the next step, which refusal is whose, and what the tables hold where nothing is
-- refused; and that cleared tables are what a refusal leaves.
use Prim.Native.Nat.{ℕ}
use mathlib.Core.Path.{◌≡◌, refl, sym, ap, ◌∙◌}
use mathlib.Core.Bool.{true, false}
use mathlib.Core.List.{List, []}
use native.Mathlib.Omega.{arith}
use lib.Dec.{leb}
use lib.ListN.{length, take}
use lib.Seq.{take_at}
use Rattle.local_format.specs.Refusal.{Refusal}
use Rattle.local_format.specs.Out.{Out, ok, refused}
use Rattle.local_format.specs.Tag as tag
use Rattle.local_format.proofs.OutLaws.{never, ok_same, refused_same, bind_ok, checked_ok}
use Rattle.lent_table.specs.Lent.{lent}
use Rattle.derivation.specs.Rule.{Rule}
use Rattle.evr0_section.specs.Rows.{starts_of}
use Rattle.evr0_section.specs.Section.{Section}
use Rattle.rule_table.specs.ByTable.{Given, rules_given}
use Rattle.evr0_rules.specs.Maps.{count_in}
use Rattle.evr0.specs.Answer.{proposition_starts}
use Rattle.evr0_compare.specs.Compare.{Input, Tally, tally_of, Comparison, list_of, pair_of, source_set_at, codes, compare_by, answered, told, held_in, is_held}
use Rattle.evr0_compare.specs.Compare.{decoded as decoded_by}
use Rattle.evr0_compare.specs.Compare.{Answer, rules_refused, first_refused, second_refused, pair_refused, held}
use Rattle.evr0_compare.proofs.CompareSections.{comparison_is, rules_refused_lem, first_refused_lem, answered_ok, answered_refused, held_same}
use Rattle.evr0_compare.proofs.Sides as sides
use Rattle.authorised_table.specs.Answer as one
use Rattle.authorised_table.specs.Answer.{room_of, flags_of, proposition_flags}
use Rattle.section_pair.specs.Steps.{Told, input_in, tallied, pair_in, Holds}
use Rattle.section_pair.proofs.PairLaws.{list_held}
use Rattle.compare_sections.specs.Answer.{Lent, input_of, compare_in, Filled}
use Rattle.compare_sections.specs.Parts.{Found, found_in, Decodes, Answers}

-- ---- A section that was decoded
found_refused : {q : Refusal} (x : Out Section) → refused q ≡ found_in x → x ≡ refused q
found_refused (ok d) e = absurd (never e)
found_refused (refused r) e = ap refused (sym (refused_same e))

found_ok : {f : Found} (x : Out Section) → ok f ≡ found_in x
    → (d : Section) × (x ≡ ok d) × (f ≡ record { end = d.cursor; count = d.tables.head.counts.propositions })
found_ok (ok d) e = (d, refl, ok_same e)
found_ok (refused r) e = absurd (never (sym e))

module _ {which : Given} {bytes : List ℕ} {cursor : ℕ} {before after : one.Lent} {given : Out Found}
    (decodes : Decodes which bytes cursor before after given) where
  abbrev x : Out Section
  x = one.decode_given which before bytes cursor

  pub not_decoded : {r : Refusal} → given ≡ refused r → x ≡ refused r
  not_decoded e = found_refused x (sym e ∙ decodes.answer)

  module _ {f : Found} (e : given ≡ ok f) where
    found : (d : Section) × (x ≡ ok d) × (f ≡ record { end = d.cursor; count = d.tables.head.counts.propositions })
    found = found_ok x (sym e ∙ decodes.answer)

    pub decoded : Told bytes cursor f.end f.count after.others.others.propositions after.authorised
    decoded =
        let (d, is, at) = found in
        let counted : d.tables.head.counts.propositions ≡ f.count = sym (ap (λ (f : Found). f.count) at) in
        let n : length (starts_of d.tables.propositions.entries) ≡ f.count = sides.starts_count which (input_of before bytes cursor) d is ∙ counted in
        let starts = decodes.tables.others.others.propositions
        ∙ ap (λ (y : Out Section). lent (length before.others.others.propositions) (proposition_starts y)) is in
        let flags = decodes.tables.authorised ∙ ap (λ (y : Out Section). lent (length before.authorised) (proposition_flags y)) is in
        record {
          given = which;
          room = room_of before;
          section = d;
          decoded = is;
          ends = sym (ap (λ (f : Found). f.end) at);
          counted = counted;
          started = ap (take f.count) starts ∙ take_at (starts_of d.tables.propositions.entries) _ f.count n;
          flagged = ap (take (length (flags_of d))) flags ∙ take_at (flags_of d) _ (length (flags_of d)) refl;
        }

-- ---- The second

-- what is left of the definition once the first is decoded
module _ {p : List ℕ} {i e n : ℕ} {ps fs : List ℕ} where
  abbrev pub second_in : Given → Told p i e n ps fs → Input → ℕ → Answer Comparison
  second_in given a y entries =
      answered second_refused (λ b. answered pair_refused held (pair_of (input_in a) a.section y b entries)) (decoded_by given y)

  pub record GoesOn (given : Given) (a : Told p i e n ps fs) (second : List ℕ) (cursor : ℕ) (before after : one.Lent) (brought left : List ℕ)
      (r : Answer Tally) : Type 0 where
    pub answer : r ≡ told (second_in given a (input_of before second cursor) (length brought))
    pub tables : (c : Comparison) → second_in given a (input_of before second cursor) (length brought) ≡ held c → one.Filled (ok c.second) before after
    pub verdicts : (c : Comparison) → second_in given a (input_of before second cursor) (length brought) ≡ held c → left
        ≡ lent (length brought) (codes c.list)

pair_second : (x : Input) (a : Section) (y : Input) (b : Section) (entries : ℕ) (c : Comparison) → pair_of x a y b entries ≡ ok c → b ≡ c.second
unfolding pair_of
pair_second x a y b entries c e =
    let (same, e1) = checked_ok (tag.equal a.tables.head.source_set b.tables.head.source_set) 74 (source_set_at y) _ e in
    let (fits, e2) = checked_ok (leb (length (list_of x a y b)) entries) 61 0 _ e1 in
    ap (λ (c : Comparison). c.second) (ok_same e2)

second_never : {r : Refusal} {c : Comparison} → second_refused r ≡ held c → ⊥
second_never e = let z : ◌≡◌ {A = ℕ} 0 1 = cc in omega arith

pair_never : {r : Refusal} {c : Comparison} → pair_refused r ≡ held c → ⊥
pair_never e = let z : ◌≡◌ {A = ℕ} 0 1 = cc in omega arith

-- whose the refusal of a pair is
abbrev pub pair_told : Out Tally → Answer Tally
pair_told (ok t) = held t
pair_told (refused r) = pair_refused r

tallied_refused : {r : Refusal} (x : Out Comparison) → refused r ≡ tallied x → x ≡ refused r
tallied_refused (ok c) e = absurd (never e)
tallied_refused (refused q) e = ap refused (sym (refused_same e))

tallied_ok : {t : Tally} (x : Out Comparison) → ok t ≡ tallied x → (c : Comparison) × (x ≡ ok c) × (t ≡ tally_of c.list)
tallied_ok (ok c) e = (c, refl, ok_same e)
tallied_ok (refused q) e = absurd (never (sym e))

module _ {which : Given} {second : List ℕ} {cursor : ℕ} {before after : one.Lent} {given : Out Found}
    (decodes : Decodes which second cursor before after given) {p : List ℕ} {i end n : ℕ} {ps fs : List ℕ} (a : Told p i end n ps fs)
    (brought left : List ℕ) where
  abbrev whole : Answer Comparison
  whole = second_in which a (input_of before second cursor) (length brought)

  pub second_refused_lem : {r : Refusal} → given ≡ refused r → GoesOn which a second cursor before after brought left (second_refused r)
  second_refused_lem {r} e =
      let is : whole ≡ second_refused r = answered_refused _ _ (not_decoded decodes e) in
      record { answer = ap told (sym is); tables = λ c g. absurd (second_never (sym is ∙ g)); verdicts = λ c g. absurd (second_never (sym is ∙ g)) }

  module _ {f : Found} (e : given ≡ ok f) {o : Out Tally} (holds : Holds a (decoded decodes e) brought left o) where
    abbrev pair : Out Comparison
    pair = pair_in a (decoded decodes e) (length brought)

    goes : whole ≡ answered pair_refused held pair
    unfolding decoded
    goes = answered_ok _ _ (found decodes e).1

    pub pair_refused_lem : {r : Refusal} → o ≡ refused r → GoesOn which a second cursor before after brought left (pair_refused r)
    pair_refused_lem {r} h =
        let is : whole ≡ pair_refused r = goes ∙ answered_refused _ _ (tallied_refused pair (sym h ∙ holds.answer)) in
        record { answer = ap told (sym is); tables = λ c g. absurd (pair_never (sym is ∙ g)); verdicts = λ c g. absurd (pair_never (sym is ∙ g)) }

    -- the second section is the pair's
    second_is : (c : Comparison) → pair ≡ ok c → one.decode_given which before second cursor ≡ ok c.second
    unfolding decoded
    second_is c h = (found decodes e).1 ∙ ap ok (pair_second _ _ _ _ _ c h)

    held_pair : {t : Tally} → o ≡ ok t → GoesOn which a second cursor before after brought left (held t)
    held_pair {t} h =
        let (c, is, counts) = tallied_ok pair (sym h ∙ holds.answer) in
        let all : whole ≡ held c = goes ∙ answered_ok _ _ is in
        let filled : one.Filled (ok c.second) before after = rw (second_is c is) at decodes.tables in
        record {
          answer = ap held counts ∙ ap told (sym all);
          tables = λ d g. rw (held_same (sym all ∙ g)) at filled;
          verdicts = λ d g. list_held a (decoded decodes e) holds c is
              ∙ ap (λ (c : Comparison). lent (length brought) (codes c.list)) (held_same (sym all ∙ g));
        }

    pub pair_goes_on : GoesOn which a second cursor before after brought left (pair_told o)
    pair_goes_on = go o refl
      where
        go : (p : Out Tally) → o ≡ p → GoesOn which a second cursor before after brought left (pair_told p)
        go (ok t) h = held_pair h
        go (refused r) h = pair_refused_lem h

-- ---- The first
first_never : {r : Refusal} {c : Comparison} → first_refused r ≡ held c → ⊥
first_never e = let z : ◌≡◌ {A = ℕ} 0 1 = cc in omega arith

rules_never : {r : Refusal} {c : Comparison} → rules_refused r ≡ held c → ⊥
rules_never e = let z : ◌≡◌ {A = ℕ} 0 1 = cc in omega arith

not_loaded : {r : Refusal} (x : Out (List Rule)) → refused r ≡ count_in x → x ≡ refused r
not_loaded (ok rs) e = absurd (never e)
not_loaded (refused q) e = ap refused (sym (refused_same e))

module _ (which : Given) (first : List ℕ) (first_cursor : ℕ) (second : List ℕ) (second_cursor : ℕ) (before : Lent) where
  abbrev x₁ : Input
  x₁ = input_of before.first first first_cursor

  abbrev y₁ : Input
  y₁ = input_of before.second second second_cursor

  abbrev all : Answer Comparison
  all = compare_in which first first_cursor second second_cursor before

  pub by_rules : {o : Out ℕ} {r : Refusal} (after : Lent) → o ≡ count_in (rules_given which) → o ≡ refused r
      → Answers which first first_cursor second second_cursor before after (rules_refused r)
  by_rules {r = r} after e h =
      let is : all ≡ rules_refused r = rules_refused_lem which x₁ y₁ (length before.verdicts) r (not_loaded (rules_given which) (sym h ∙ e)) in
      record { answer = ap told (sym is); tables = λ c g. absurd (rules_never (sym is ∙ g)) }

  module _ {o : Out ℕ} {count : ℕ} (loads : o ≡ count_in (rules_given which)) (loaded : o ≡ ok count) {left : one.Lent} {given : Out Found}
      (decodes : Decodes which first first_cursor before.first left given) where
    known : (rules : List Rule) × (rules_given which ≡ ok rules)
    known = let (rules, is, n) = bind_ok (rules_given which) _ (sym loads ∙ loaded) in (rules, is)

    pub by_first : {r : Refusal} (after : Lent) → given ≡ refused r
        → Answers which first first_cursor second second_cursor before after (first_refused r)
    by_first {r} after e =
        let is : all ≡ first_refused r = first_refused_lem which x₁ y₁ (length before.verdicts) known.0 known.1 r (not_decoded decodes e) in
        record { answer = ap told (sym is); tables = λ c g. absurd (first_never (sym is ∙ g)) }

    module _ {f : Found} (e : given ≡ ok f) where
      follows : all ≡ second_in which (decoded decodes e) y₁ (length before.verdicts)
      unfolding compare_by decoded
      follows = answered_ok _ _ known.1 ∙ answered_ok _ _ (found decodes e).1

      pub by_second : {right : one.Lent} {verdicts : List ℕ} {r : Answer Tally}
          → GoesOn which (decoded decodes e) second second_cursor before.second right before.verdicts verdicts r
          → Answers which first first_cursor second second_cursor before (record { first = left; second = right; verdicts = verdicts }) r
      by_second goes =
          record {
            answer = goes.answer ∙ ap told (sym follows);
            tables = λ c g. record {
              first = rw (comparison_is which x₁ y₁ (length before.verdicts) c g).first at decodes.tables;
              second = goes.tables c (sym follows ∙ g);
              verdicts = goes.verdicts c (sym follows ∙ g);
            };
          }

-- ---- The whole
module _ {before after : Lent} {r : Answer Tally} where
  pub held_tables : (x : Answer Comparison) → r ≡ told x → is_held r ≡ true → ((c : Comparison) → x ≡ held c → Filled (ok c) before after)
      → Filled (held_in x) before after
  held_tables (held c) e h f = f c refl
  held_tables (rules_refused q) e h f = absurd (let z : ◌≡◌ {A = ℕ} 0 1 = cc in omega arith)
  held_tables (first_refused q) e h f = absurd (let z : ◌≡◌ {A = ℕ} 0 1 = cc in omega arith)
  held_tables (second_refused q) e h f = absurd (let z : ◌≡◌ {A = ℕ} 0 1 = cc in omega arith)
  held_tables (pair_refused q) e h f = absurd (let z : ◌≡◌ {A = ℕ} 0 1 = cc in omega arith)

  pub refused_tables : (x : Answer Comparison) → r ≡ told x → is_held r ≡ false → ((q : Refusal) → Filled (refused q) before after)
      → Filled (held_in x) before after
  refused_tables (held c) e h f = absurd (let z : ◌≡◌ {A = ℕ} 0 1 = cc in omega arith)
  refused_tables (rules_refused q) e h f = f q
  refused_tables (first_refused q) e h f = f q
  refused_tables (second_refused q) e h f = f q
  refused_tables (pair_refused q) e h f = f q

-- zeros in tables of the same lengths
pub zeros_too : {before mid after : one.Lent} → length mid.others.others.propositions ≡ length before.others.others.propositions
    → length mid.others.others.proofs ≡ length before.others.others.proofs
    → length mid.others.others.depths ≡ length before.others.others.depths → length mid.others.marks ≡ length before.others.marks
    → length mid.authorised ≡ length before.authorised → (q : Refusal) → one.Filled (refused q) mid after → one.Filled (refused q) before after
zeros_too a b c d e q f =
    record {
      others = record {
        others = record {
          propositions = f.others.others.propositions ∙ ap (λ (n : ℕ). lent n []) a;
          proofs = f.others.others.proofs ∙ ap (λ (n : ℕ). lent n []) b;
          depths = f.others.others.depths ∙ ap (λ (n : ℕ). lent n []) c;
        };
        marks = f.others.marks ∙ ap (λ (n : ℕ). lent n []) d;
      };
      authorised = f.authorised ∙ ap (λ (n : ℕ). lent n []) e;
    }
