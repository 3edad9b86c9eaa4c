-- Two sections that are compared: their list, its totals and their source sets; each refusal; the other way round and a section against itself.
-- Each answer is taken apart step by step, and the laws of lists are put at the two sections' propositions, which rise by 16.
use Prim.Native.Nat.{ℕ, suc, ◌+◌, ◌≤◌, ◌<◌, min}
use mathlib.Core.Path.{◌≡◌, refl, sym, ap, ◌∙◌, subst}
use mathlib.Core.List.{List, [], ◌∷◌, map}
use mathlib.Core.Bool.{true, false, ◌&&◌}
use native.Mathlib.Omega.{arith}
use lib.Dec.{leb, eqb}
use lib.ListN.{length, take, drop, length-take, length-drop, length-map}
use lib.Seq.{get_or-take, get_or-drop, ext_get_or, drop-drop}
use borrow.Author.Tests.{leb-true, lt-leb, le-leb}
use Rattle.local_format.specs.Refusal.{Refusal, refusal}
use Rattle.local_format.specs.Out.{Out, ok, refused}
use Rattle.local_format.specs.Field.{field, le}
use Rattle.local_format.specs.Tag as tag
use Rattle.local_format.specs.Tag.{tag_at, evr0}
use Rattle.local_format.specs.Text.{bytes_at, section_field, text_at}
use Rattle.local_format.proofs.OutLaws.{bind_ok, checked_ok, ok_same}
use Rattle.local_format.proofs.FieldLaws.{field_ok}
use Rattle.local_format.proofs.TagLaws.{equal_is, equal_self, differ}
use Rattle.derivation.specs.Rule.{Rule}
use Rattle.derivation.specs.Section as derivation
use Rattle.evr0_section.specs.Rows.{Entry}
use Rattle.evr0_section.specs.Head.{Room, Digest, digest_at, counts_at, Head, is_schema, head_of}
use Rattle.evr0_section.specs.Proposition.{Proposition, proposition_row}
use Rattle.evr0_section.specs.Section.{Frame, frame_at, Tables, Section, section_of, tables_of}
use Rattle.evr0_compare.specs.Compare.{Standing, standing_key, standings_from, standings, compared, Rising, Totals}
use Rattle.evr0_compare.specs.Compare.{Input, decoded, payload, source_set_at, Comparison, list_of, pair_of}
use Rattle.evr0_compare.specs.Compare.{Answer, rules_refused, first_refused, second_refused, pair_refused, held, is_held, answered}
use Rattle.evr0_compare.specs.Compare.{compare_by, ComparisonOf}
use Rattle.evr0_compare.specs.Compare.{agreed, only, Listed, exchanged_in}
use Rattle.evr0_section.proofs.RowsLaws.{trace, trace_length}
use Rattle.evr0_section.proofs.CheckedTables.{steps}
use Rattle.evr0_section.proofs.SectionSteps.{tables_of_lem, section_parts}
use Rattle.rule_table.specs.ByTable.{Given, rules_given, decode_by}
use Rattle.rule_table.proofs.Load.{step}
use Rattle.evr0_compare.proofs.Compare.{listed_all, totals, same_same, swapped}
use Rattle.evr0_compare.proofs.CompareOnly.{only_list}
use Rattle.evr0_compare.proofs.KeysRise.{keys_rise}

pub standings_length : (p : List ℕ) (s : derivation.Section) (n : ℕ) (es : List (Entry Proposition)) → length (standings_from p s n es) ≡ length es
unfolding standings_from
standings_length p s n [] = refl
standings_length p s n (e ∷ es) = ap suc (standings_length p s (suc n) es)

pub frame_payload : (s : List ℕ) (cursor : ℕ) (f : Frame) → frame_at s cursor ≡ ok f → (f.start ≡ cursor + 8) × (f.len ≡ le 4 s (cursor + 4))
unfolding frame_at
frame_payload s cursor f e =
    let (tagged, e1) = checked_ok (tag_at evr0 s cursor) 1 cursor _ e in
    step (field 2 4 s (cursor + 4)) _ e1 λ size g e2.
    let (within, e3) = checked_ok (leb 1 size.value && leb size.value 4194304) 3 (cursor + 4) _ e2 in
    step (field 4 size.value s size.next) _ e3 λ payload h e4.
    let (next, there, value) = field_ok 2 4 s (cursor + 4) g in
    let start : size.next ≡ f.start = ap (λ (f : Frame). f.start) (ok_same e4) in
    let len : size.value ≡ f.len = ap (λ (f : Frame). f.len) (ok_same e4) in
    (omega arith, sym len ∙ value)

pub section_tables : (given : Given) (x : Input) (d : Section) → decoded given x ≡ ok d
    → (rules : List Rule) × (rules_given given ≡ ok rules) × (tables_of rules x.room (payload x) ≡ ok d.tables)
unfolding decode_by
section_tables given x d e =
    let (rules, known, read) = bind_ok (rules_given given) _ e in
    let parts = section_parts rules x.room x.bytes x.cursor d read in
    let (f, frame, tables) = tables_of_lem rules x.room x.bytes x.cursor d.tables parts.tables in
    let (start, len) = frame_payload x.bytes x.cursor f frame in
    (rules, known, rw (← start, ← len) tables)

-- as many standings as propositions
standings_total : (rules : List Rule) (room : Room) (p : List ℕ) (t : Tables) → tables_of rules room p ≡ ok t
    → length (standings p t) ≡ t.head.counts.propositions
standings_total rules room p t e =
    standings_length p (section_of t) 0 t.propositions.entries
    ∙ trace_length proposition_row p (trace proposition_row p _ _ _ t.propositions (steps rules room p t e).propositions)

-- ---- Answers taken apart
module _ {A B : Type 0} (whose : Refusal → Answer B) (go : A → Answer B) where
  answered_held : {c : B} (o : Out A) → ((r : Refusal) → is_held (whose r) ≡ false) → answered whose go o ≡ held c
      → (a : A) × (o ≡ ok a) × (go a ≡ held c)
  unfolding answered
  answered_held (ok a) other e = (a, refl, e)
  answered_held (refused r) other e = let no : false ≡ true = sym (other r) ∙ ap is_held e in absurd (let z : ◌≡◌ {A = ℕ} 0 1 = cc in omega arith)

  pub answered_ok : {o : Out A} {a : A} → o ≡ ok a → answered whose go o ≡ go a
  unfolding answered
  answered_ok e = rw e refl

  pub answered_refused : {o : Out A} {r : Refusal} → o ≡ refused r → answered whose go o ≡ whose r
  unfolding answered
  answered_refused e = rw e refl

pub held_same : {A : Type 0} {c d : A} → held c ≡ held d → c ≡ d
held_same e = cc

module _ (given : Given) (x y : Input) (entries : ℕ) where
  pub comparison_is : (c : Comparison) → compare_by given x y entries ≡ held c → ComparisonOf given x y entries c
  unfolding compare_by pair_of
  comparison_is c e =
      let (known, loads, e0) = answered_held rules_refused _ (rules_given given) (λ r. refl) e in
      let (a, f, e1) = answered_held first_refused _ (decoded given x) (λ r. refl) e0 in
      let (b, g, e2) = answered_held second_refused _ (decoded given y) (λ r. refl) e1 in
      let (d, pair, last) = answered_held pair_refused _ (pair_of x a y b entries) (λ r. refl) e2 in
      let (same, e3) = checked_ok (tag.equal a.tables.head.source_set b.tables.head.source_set) 74 (source_set_at y) _ pair in
      let (fits, e4) = checked_ok (leb (length (list_of x a y b)) entries) 61 0 _ e3 in
      let (rules, settled, read) = section_tables given x a f in
      let (others, settled', read') = section_tables given y b g in
      let xs : List Standing = standings (payload x) a.tables in
      let ys : List Standing = standings (payload y) b.tables in
      let sums : Totals xs ys (compared xs ys) = totals xs ys in
      let rx : Rising standing_key xs = keys_rise rules x.room _ a.tables read in
      let ry : Rising standing_key ys = keys_rise others y.room _ b.tables read' in
      subst (ComparisonOf given x y entries) (ok_same e4 ∙ held_same last)
      (record {
        first = f;
        second = g;
        source_set = equal_is _ _ same;
        list = refl;
        listed = listed_all xs ys rx ry;
        only = only_list xs ys rx ry;
        of_first = sums.first ∙ standings_total rules x.room _ a.tables read;
        of_second = sums.second ∙ standings_total others y.room _ b.tables read';
        fits = leb-true _ entries fits;
      })

  -- ---- The refusals, in their order
  pub rules_refused_lem : (r : Refusal) → rules_given given ≡ refused r → compare_by given x y entries ≡ rules_refused r
  unfolding compare_by
  rules_refused_lem r e = answered_refused _ _ e

  module _ (rules : List Rule) (known : rules_given given ≡ ok rules) where
    pub first_refused_lem : (r : Refusal) → decoded given x ≡ refused r → compare_by given x y entries ≡ first_refused r
    unfolding compare_by
    first_refused_lem r f = answered_ok _ _ known ∙ answered_refused _ _ f

    module _ (a : Section) (f : decoded given x ≡ ok a) where
      pub second_refused_lem : (r : Refusal) → decoded given y ≡ refused r → compare_by given x y entries ≡ second_refused r
      unfolding compare_by
      second_refused_lem r g = answered_ok _ _ known ∙ answered_ok _ _ f ∙ answered_refused _ _ g

      module _ (b : Section) (g : decoded given y ≡ ok b) where
        both_read : compare_by given x y entries ≡ answered pair_refused held (pair_of x a y b entries)
        unfolding compare_by
        both_read = answered_ok _ _ known ∙ answered_ok _ _ f ∙ answered_ok _ _ g

        pub refused_74 : (a.tables.head.source_set ≡ b.tables.head.source_set → ⊥)
            → compare_by given x y entries ≡ pair_refused (refusal 74 (source_set_at y))
        unfolding pair_of answered
        refused_74 d = both_read ∙ simp (differ a.tables.head.source_set b.tables.head.source_set d)

        module _ (e : a.tables.head.source_set ≡ b.tables.head.source_set) where
          pub refused_61 : entries < length (list_of x a y b) → compare_by given x y entries ≡ pair_refused (refusal 61 0)
          unfolding pair_of answered
          refused_61 short = both_read ∙ simp (e, equal_self b.tables.head.source_set, lt-leb _ entries short)

          -- and nothing else is refused
          pub compares : length (list_of x a y b) ≤ entries
              → compare_by given x y entries ≡ held (record { first = a; second = b; list = list_of x a y b })
          unfolding pair_of answered
          compares fits = both_read ∙ simp (e, equal_self b.tables.head.source_set, le-leb _ entries fits)

-- ---- The other way round, and a section against itself
pub other_way : (given : Given) (x y : Input) (entries : ℕ) (c : Comparison) → compare_by given x y entries ≡ held c
    → compare_by given y x entries ≡ held (record { first = c.second; second = c.first; list = map exchanged_in c.list })
other_way given x y entries c e =
    let h : ComparisonOf given x y entries c = comparison_is given x y entries c e in
    let (rules, known, read) = section_tables given x c.first h.first in
    let turn : list_of y c.second x c.first ≡ map exchanged_in c.list = swapped _ _ ∙ ap (map exchanged_in) (sym h.list) in
    let fits : length (list_of y c.second x c.first) ≤ entries = rw (turn, length-map c.list exchanged_in) h.fits in
    compares given y x entries rules known c.second h.second c.first h.first (sym h.source_set) fits
    ∙ ap (λ (ls : List Listed). held (record { first = c.second; second = c.first; list = ls })) turn

pub against_itself : (given : Given) (x : Input) (entries : ℕ) (a : Section) → decoded given x ≡ ok a → a.tables.head.counts.propositions ≤ entries
    → compare_by given x x entries ≡ held (record { first = a; second = a; list = map (only agreed) (standings (payload x) a.tables) })
against_itself given x entries a e room =
    let (rules, known, read) = section_tables given x a e in
    let all : list_of x a x a ≡ map (only agreed) (standings (payload x) a.tables) = same_same _ in
    let count : length (standings (payload x) a.tables) ≡ a.tables.head.counts.propositions = standings_total rules x.room _ a.tables read in
    let fits : length (list_of x a x a) ≤ entries = rw (all, length-map (standings (payload x) a.tables) (only agreed), count) room in
    compares given x x entries rules known a e a e refl fits
    ∙ ap (λ (ls : List Listed). held (record { first = a; second = a; list = ls })) all

-- ---- A section's source set stands 12 bytes after its cursor
digest_bytes : (p : List ℕ) (at : ℕ) (d : Digest) → digest_at p at ≡ ok d → (at + 32 ≤ length p) × (d.bytes ≡ bytes_at p at 32)
unfolding digest_at
digest_bytes p at d e =
    let (g, f, e1) = bind_ok (section_field 32 p at) _ e in
    ((field_ok 5 32 p at f).1, ap (λ (d : Digest). d.bytes) (sym (ok_same e1)))

pub head_source : (p : List ℕ) (h : Head) → head_of p ≡ ok h → (36 ≤ length p) × (h.source_set ≡ bytes_at p 4 32)
unfolding head_of
head_source p h e =
    step (section_field 2 p 0) _ e λ schema f e1.
    let (t, e2) = checked_ok (is_schema schema.value) 10 schema.next _ e1 in
    step (section_field 2 p schema.next) _ e2 λ flags g e3.
    let (u, e4) = checked_ok (eqb flags.value 0) 11 flags.next _ e3 in
    step (digest_at p flags.next) _ e4 λ source k e5.
    step (digest_at p source.next) _ e5 λ contract m e6.
    step (section_field 2 p contract.next) _ e6 λ epoch n e7.
    step (text_at p epoch.next) _ e7 λ policy v e8.
    step (text_at p policy.next) _ e8 λ issuer w e9.
    step (counts_at p issuer.next) _ e9 λ counted x e10.
    let at : flags.next ≡ 4 = omega (arith, (field_ok 5 2 p 0 f).0, (field_ok 5 2 p schema.next g).0) in
    let (inside, bytes) = digest_bytes p flags.next source k in
    (omega arith, ap (λ (h : Head). h.source_set) (sym (ok_same e10)) ∙ bytes ∙ ap (λ (n : ℕ). bytes_at p n 32) at)

-- some bytes of the first n bytes are bytes of the whole
bytes_within : (s : List ℕ) (n k m : ℕ) → k + m ≤ length (take n s) → bytes_at (take n s) k m ≡ bytes_at s k m
bytes_within s n k m h =
    let l : k + m ≤ min n (length s) = rw length-take at h in
    let a : length (bytes_at (take n s) k m) ≡ m = simp (length-take, length-drop) (omega arith) in
    let b : length (bytes_at s k m) ≡ m = simp (length-take, length-drop) (omega arith) in
    ext_get_or 0 _ _ (a ∙ sym b) λ i g.
    let j : i < m = omega arith in
    let q : k + i < n = omega arith in
    rw (
      get_or-take m (drop k (take n s)) i 0 j,
      get_or-take m (drop k s) i 0 j,
      get_or-drop k (take n s) i 0,
      get_or-drop k s i 0,
    ) (get_or-take n s (k + i) 0 q)

pub source_set_at_lem : (given : Given) (x : Input) (d : Section) → decoded given x ≡ ok d
    → d.tables.head.source_set ≡ bytes_at x.bytes (source_set_at x) 32
source_set_at_lem given x d e =
    let (rules, known, t) = section_tables given x d e in
    let (l, source) = head_source (payload x) d.tables.head (steps rules x.room _ d.tables t).head in
    let after : List ℕ = drop (x.cursor + 8) x.bytes in
    let k : x.cursor + 8 + 4 ≡ x.cursor + 12 = omega arith in
    source
    ∙ bytes_within after (le 4 x.bytes (x.cursor + 4)) 4 32 l
    ∙ ap (take 32) (drop-drop 4 (x.cursor + 8) x.bytes ∙ ap (λ (n : ℕ). drop n x.bytes) k)
