-- Two sections that were decoded: the payload, the starts and the flags of each are what the merge goes by, and each answer of the pair is
-- what the definition has there: 74, 61, or the list.
use Prim.Native.Nat.{ℕ, ◌+◌, ◌-◌, ◌≤◌, ◌<◌}
use mathlib.Core.Path.{◌≡◌, refl, sym, ap, ap₂, ◌∙◌}
use mathlib.Core.Bool.{Bool, true, false, cond}
use mathlib.Core.List.{List, append-nil}
use native.Mathlib.Omega.{arith}
use lib.Dec.{eqb, leb}
use lib.ListN.{length, get_or, take, length-take, length-map}
use lib.Seq.{get_or-take, take_all, length-take-le}
use borrow.Author.Tests.{le-leb, lt-leb, leb-true, leb-false}
use Rattle.std.proofs.Math.Logic.{∥∥₁_elim}
use Rattle.std.proofs.Props.{props}
use Rattle.local_format.specs.Refusal.{Refusal, refusal}
use Rattle.local_format.specs.Out.{Out, ok, refused, check}
use Rattle.local_format.specs.Tag.{equal}
use Rattle.local_format.specs.Text.{bytes_at}
use Rattle.local_format.proofs.OutLaws.{never, ok_same, refused_same, check_ok, checked_ok}
use Rattle.lent_table.specs.Lent.{lent}
use Rattle.lent_table.proofs.Laws.{front_lent}
use Rattle.derivation.specs.Friendly as friendly
use Rattle.evr0_section.specs.Rows.{starts_of}
use Rattle.evr0_section.specs.Section.{Section, section_of}
use Rattle.evr0_read.specs.Listing.{payload_to}
use Rattle.evr0_compare.specs.Compare.{Standing, standings, Listed, payload, source_set_at, Comparison, list_of, pair_of, codes, Tally, tally_of, Totals}
use Rattle.evr0_compare.specs.Merge.{SideThere, Views, Lists}
use Rattle.evr0_compare.proofs.Compare.{totals}
use Rattle.evr0_compare.proofs.CompareSections.{source_set_at_lem}
use Rattle.evr0_compare.proofs.Sides as sides
use Rattle.evr0_compare.proofs.Merge.{list_there, list_full, tally_is}
use Rattle.authorised_table.specs.Answer.{flags_of}
use Rattle.authorised_table.proofs.FlagLaws.{flags_stated}
use Rattle.section_pair.specs.Steps.{Told, input_in, pair_in, verdicts_left, Holds}

-- ---- One section
module _ {p : List ℕ} {cursor end count : ℕ} {table flags : List ℕ} (a : Told p cursor end count table flags) where
  abbrev d : Section
  d = a.section

  abbrev xs : List Standing
  xs = standings (payload (input_in a)) d.tables

  pub inside : cursor + 44 ≤ length p
  inside = sides.source_inside a.given (input_in a) d a.decoded

  source : d.tables.head.source_set ≡ bytes_at p (cursor + 12) 32
  source = source_set_at_lem a.given (input_in a) d a.decoded

  flag_count : length (flags_of d) ≡ length (starts_of d.tables.propositions.entries)
  flag_count = (flags_stated d).total ∙ sym (sides.starts_count a.given (input_in a) d a.decoded)

  is_one : (b : Bool) → eqb (cond b 1 0) 1 ≡ b
  is_one true = refl
  is_one false = refl

  flag_is : (i : ℕ) → i < length (starts_of d.tables.propositions.entries) → eqb (get_or flags i 0) 1 ≡ friendly.authorised (section_of d.tables) i
  flag_is i h =
      let there : i < length (flags_of d) = omega (arith, flag_count) in
      let few : i < d.tables.head.counts.propositions = omega (arith, (flags_stated d).total) in
      ap (λ (n : ℕ). eqb n 1)
      (sym (get_or-take (length (flags_of d)) flags i 0 there) ∙ ap (λ (l : List ℕ). get_or l i 0) a.flagged ∙ (flags_stated d).each i few)
      ∙ is_one (friendly.authorised (section_of d.tables) i)

  module _ {q starts : List ℕ} (part : q ≡ payload_to p cursor end) (front : starts ≡ take count table) where
    part_is : payload (input_in a) ≡ q
    part_is =
        sides.payload_to_lem a.given (input_in a) d a.decoded ∙ ap (payload_to p cursor) a.ends ∙ sym part

    starts_are : starts_of d.tables.propositions.entries ≡ starts
    starts_are = sym (front ∙ a.started)

    pub there : SideThere q starts flags
    there =
        rw (← part_is, ← starts_are)
        (sides.side a.given (input_in a) d a.decoded flags
        (omega (arith, flag_count, ap length a.flagged, length-take (length (flags_of d)) flags)))

    pub viewed : Views q starts flags xs
    viewed = rw (← part_is, ← starts_are) (sides.views a.given (input_in a) d a.decoded flags flag_is)

  pub counted : length xs ≡ count
  counted =
      (viewed refl refl).count ∙ ap length a.started ∙ sides.starts_count a.given (input_in a) d a.decoded ∙ a.counted

  pub few_of : count ≤ 65536
  few_of = omega (arith, (there refl refl).few, (viewed refl refl).count, counted)

module _ {p : List ℕ} {cursor end count : ℕ} {table flags : List ℕ} (told : ∥ Told p cursor end count table flags ∥₁) where
  pub inside_told : cursor + 44 ≤ length p
  inside_told = ∥∥₁_elim told (Prim.hlevel props) (λ a. inside a)

-- by the parts that the merge is given
module _ {p : List ℕ} {cursor end count : ℕ} {table flags : List ℕ} where
  pub seen : (a : Told p cursor end count table flags) {q starts held : List ℕ} → q ≡ payload_to p cursor end → starts ≡ take count table → held ≡ flags
      → Views q starts held (xs a)
  seen a part front flagged = rw flagged (viewed a part front)

  pub there_told : ∥ Told p cursor end count table flags ∥₁ → {q starts : List ℕ} → q ≡ payload_to p cursor end → starts ≡ take count table
      → SideThere q starts flags
  there_told told part front = ∥∥₁_elim told (Prim.hlevel props) (λ a. there a part front)

-- ---- The pair
check_refused : (t : Bool) (n at : ℕ) {q : Refusal} → refused q ≡ check t n at → (t ≡ false) × (q ≡ refusal n at)
check_refused true n at e = absurd (never e)
check_refused false n at e = (refl, refused_same e)

module _ {p : List ℕ} {i e n : ℕ} {ps fs : List ℕ} {q : List ℕ} {j f m : ℕ} {qs gs : List ℕ} (a : Told p i e n ps fs) (b : Told q j f m qs gs) where
  abbrev L : List Listed
  L = list_of (input_in a) a.section (input_in b) b.section

  module _ {r : Bool} (told : r ≡ equal (bytes_at p (i + 12) 32) (bytes_at q (j + 12) 32)) where
    sets : equal a.section.tables.head.source_set b.section.tables.head.source_set ≡ r
    sets = ap₂ equal (source a) (source b) ∙ sym told

    pub differ : {before : List ℕ} {s : Refusal} → refused s ≡ check r 74 (j + 12) → Holds a b before before (refused s)
    unfolding pair_of
    differ c = let (z, is) = check_refused r 74 (j + 12) c in record { answer = rw (sets ∙ z, is); table = rw (sets ∙ z) }

    module _ {u : Unit {0}} (match : ok u ≡ check r 74 (j + 12)) {before mid : List ℕ} {entries same : ℕ} (listed : Lists L before mid entries same) where
      z : r ≡ true
      z = check_ok r 74 (j + 12) (sym match)

      total : length (codes L) ≡ entries
      total = length-map L _ ∙ sym listed.size

      -- what the totals may be counted from
      pub counts_add : (n + m < 4294967296) × (n ≤ entries) × (m ≤ entries) × (entries + same ≤ n + m)
      counts_add =
          let sums : Totals (xs a) (xs b) L = totals (xs a) (xs b) in (
            omega (arith, few_of a, few_of b),
            omega (arith, sums.first, sums.all, listed.size, counted a),
            omega (arith, sums.second, sums.all, listed.size, counted b),
            omega (arith, sums.first, sums.second, sums.all, listed.size, listed.agreed, counted a, counted b),
          )

      module _ (kept : length mid ≡ length before) where
        pub short : {s : Refusal} → refused s ≡ check (leb entries (length mid)) 61 0 → Holds a b before mid (refused s)
        unfolding pair_of
        short c =
            let (over, is) = check_refused (leb entries (length mid)) 61 0 c in
            let h : length before < entries = omega (arith, kept, leb-false entries (length mid) over) in
            let full : mid ≡ take (length before) (codes L) = list_full (xs a) (xs b) listed (omega arith) in
            let n : length (take (length before) (codes L)) ≡ length before = length-take-le (length before) (codes L) (omega (arith, total)) in
            let none : length before - length before ≡ 0 = omega arith in
            let few : leb (length L) (length before) ≡ false = lt-leb (length L) (length before) (omega (arith, listed.size)) in
            record { answer = rw (sets ∙ z, few, is); table = rw (sets ∙ z, n, none, append-nil (take (length before) (codes L))) full }

        module _ {v : Unit {0}} (fit : ok v ≡ check (leb entries (length mid)) 61 0) where
          h : entries ≤ length before
          h = omega (arith, kept, leb-true entries (length mid) (check_ok (leb entries (length mid)) 61 0 (sym fit)))

          is_held : pair_in a b (length before) ≡ ok (record { first = a.section; second = b.section; list = L })
          unfolding pair_of
          is_held = rw (sets ∙ z, le-leb (length L) (length before) (omega (arith, listed.size, h)))

          tally : tally_of L ≡ record { agreed = same; contradicted = n + m - entries - same; first_only = entries - m; second_only = entries - n }
          tally = tally_is (xs a) (xs b) listed ∙ rw (counted a, counted b)

          pub fits : {after : List ℕ} {r : Tally} → after ≡ lent (length mid) (take entries mid)
              → r ≡ record { agreed = same; contradicted = n + m - entries - same; first_only = entries - m; second_only = entries - n }
              → Holds a b before after (ok r)
          fits cleared counts =
              record {
                answer = ap ok (counts ∙ sym tally) ∙ sym (rw is_held);
                table = rw (sets ∙ z, take_all (length before) (codes L) (omega (arith, total, h)))
                    (cleared ∙ front_lent entries (length before) mid (codes L) kept total (rw total (list_there (xs a) (xs b) listed h)));
              }

  -- where nothing is refused, the table holds the list and zeros past it
  pub list_held : {before after : List ℕ} {r : Out Tally} → Holds a b before after r → (c : Comparison) → pair_in a b (length before) ≡ ok c
      → after ≡ lent (length before) (codes c.list)
  unfolding pair_of
  list_held {before} holds c h =
      let (same, h1) = checked_ok (equal a.section.tables.head.source_set b.section.tables.head.source_set) 74 (source_set_at (input_in b)) _ h in
      let (fit, h2) = checked_ok (leb (length L) (length before)) 61 0 _ h1 in
      let few : length (codes L) ≤ length before = rw (length-map L _) (leb-true (length L) (length before) fit) in
      let whole : verdicts_left a b before ≡ lent (length before) (codes L) = rw (same, take_all (length before) (codes L) few) in
      holds.table ∙ whole ∙ ap (λ (c : Comparison). lent (length before) (codes c.list)) (ok_same h2)
