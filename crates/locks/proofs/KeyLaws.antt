-- The key of a path: what stands in front of its components, then their words one by one, and what the whole key means.
use mathlib.Core.Path.{◌≡◌, refl, ap, sym, ◌∙◌}
use Prim.Native.Nat.{ℕ, ◌+◌, ◌-◌, ◌%◌, ◌<◌, ◌≤◌, min}
use native.Mathlib.Omega.{arith}
use native.Mathlib.Numerals.{add-one}
use mathlib.Core.List.{List, [], ◌∷◌, ◌++◌, map, append-nil, append_assoc}
use mathlib.Core.Bool.{Bool, not}
use lib.Dec.{eqb}
use lib.ListN.{length, get_or, set, take, drop}
use lib.Seq.{take-suc-set, take_all, take_at, drop_at, length-take-le, get_or-take}
use package.borrow.Rule.Slice.PartMut.{put_mid, post_of}
use Rattle.std.proofs.lemmas.Slice.{take-put_mid_below}
use package.borrow.Author.Tests.{leb-true, not-false}
use Rattle.local_format.specs.Refusal.{Refusal}
use Rattle.local_format.specs.Out.{Out, ok, refused}
use Rattle.local_format.proofs.OutLaws.{never, ok_same, bind_ok}
use Rattle.semcode_records.specs.Records.{Taken, taken, Table, no_records, before, records}
use Rattle.semcode_records.specs.Component.{Component, component_at}
use Rattle.semcode_records.specs.Path as of_path
use Rattle.semcode_records.specs.Path.{Event, borrow, write, or_unknown, kind_of_event, front_at, Path, path_at}
use Rattle.semcode_records.specs.Maps.{front_is}
use Rattle.semcode_records.specs.declared.path.Front as path
use Rattle.semcode_records.proofs.RecordsLaws.{none_left_lem, first_refused_lem, first_read, as_many}
use Rattle.semcode_records.proofs.PathLaws.{front_kind, is_known, path_components}
use Rattle.lock_rules.specs.Lock.{Part, Lock, is_write, part_of}
use Rattle.lock_rules.proofs.ListLaws.{map_append}
use Rattle.lock_rules.specs.Source.{Root, root_under}
use Rattle.lock_words.specs.Words.{part_in, parts_in, source_of, source_in, root_in, lock_in}
use Rattle.locks.specs.Phase.{Front, FrontOf, parts_of, Filled, KeyOf}

-- ---- What stands in front of the components

-- of the front that was read, what a lock is made of
abbrev pub front_in : path.Front → Front
front_in f = record { kind = f.kind; root = f.root_symbol_id; count = f.component_count; start = f.components_start }

module _ (revision : ℕ) (s : List ℕ) (at : ℕ) where
  -- where it is read, a path that is read there has it
  pub found : (f : path.Front) → ok (front_is f) ≡ front_at revision s at → FrontOf (path_at revision s at) (front_in f)
  unfolding path_at
  found f e t h =
      let a = bind_ok (front_at revision s at) _ h in
      let read = component_at revision a.0.kind s in
      let c = bind_ok (records read a.0.count a.0.start) _ a.2 in
      let x = bind_ok (or_unknown 60 c.0.end a.0.kinded) _ c.2 in
      let many = as_many read a.0.count a.0.start c.1 in
      let k = front_kind revision s at x.0 a.1 (is_known 60 c.0.end a.0.kinded x.1) in
      let same : front_is f ≡ a.0 = ok_same (e ∙ a.1) in
      rw (← ok_same x.2, many.0, many.1, ← k)
      (ap (λ (f : of_path.Front). record { kind = f.kind; root = f.root; count = f.count; start = f.start }) same)

  -- where it is refused, no path is read there
  pub not_found : {r : Refusal} → refused r ≡ front_at revision s at → (t : Taken Path) → path_at revision s at ≡ ok t → ⊥
  unfolding path_at
  not_found e t h = let a = bind_ok (front_at revision s at) _ h in never (e ∙ a.1)

-- ---- The words of the components

-- k of n words are those of components that were read; the next is at the cursor
pub record Left (read : ℕ → Out (Taken Component)) (n k cursor : ℕ) (t : Table Component) (words : List ℕ) : Type 0 where
  pub rest : Table Component
  pub is_rest : records read (n - k) cursor ≡ ok rest
  pub whole : map part_in (take k words) ++ parts_of rest ≡ parts_of t

abbrev pub Filling : (ℕ → Out (Taken Component)) → ℕ → ℕ → ℕ → ℕ → List ℕ → Type 0
Filling read n at k cursor words = (t : Table Component) → records read n at ≡ ok t → Left read n k cursor t words

module _ (read : ℕ → Out (Taken Component)) (n at : ℕ) where
  pub begin : (words : List ℕ) → Filling read n at 0 at words
  begin words t e = record { rest = t; is_rest = ap (λ (m : ℕ). records read m at) (zero_off n) ∙ e; whole = refl }
    where
      zero_off : (n : ℕ) → n - 0 ≡ n
      zero_off n = omega arith

  module _ (k cursor : ℕ) (words : List ℕ) (f : Filling read n at k cursor words) where
    -- one component more
    pub more : (c : Component) (next w : ℕ) → k < n → k < length words → read cursor ≡ taken c next → part_in w ≡ part_of c
        → Filling read n at (k + 1) next (set words k w)
    more c next w h l e p t i =
        let x = f t i in
        let grown : take (k + 1) (set words k w) ≡ take k words ++ (w ∷ []) = rw add-one (take-suc-set words k w l) in
        let q = bind_ok (records read (n - (k + 1)) next) _ (sym (first_read read n k cursor h e) ∙ x.is_rest) in
        let b : before (record { start = cursor; value = c; next = next }) q.0 ≡ x.rest = ok_same q.2 in
        record {
          rest = q.0;
          is_rest = q.1;
          whole =
              rw (grown, map_append part_in (take k words) (w ∷ []), append_assoc, p)
              (ap (λ (r : Table Component). map part_in (take k words) ++ parts_of r) b ∙ x.whole);
        }

    -- a component that is refused is none of a table's
    pub none : {r : Refusal} → k < n → read cursor ≡ refused r → (t : Table Component) → records read n at ≡ ok t → ⊥
    none h e t i = never (sym (first_refused_lem read n k cursor h e) ∙ (f t i).is_rest)

    pub all : n ≤ k → length words ≤ k → (t : Table Component) → records read n at ≡ ok t → map part_in words ≡ parts_of t
    all h l t i =
        let x = f t i in
        let z : n - k ≡ 0 = omega arith in
        let r : no_records cursor ≡ x.rest =
        ok_same (sym (none_left_lem read cursor) ∙ ap (λ (m : ℕ). records read m cursor) (sym z) ∙ x.is_rest) in
        ap (map part_in) (sym (take_all k words l))
        ∙ sym (append-nil (map part_in (take k words)))
        ∙ ap (λ (r : Table Component). map part_in (take k words) ++ parts_of r) r
        ∙ x.whole

-- ---- The whole key

lock_is : {o o' : ℕ} {r r' : Root} {w w' : Bool} {ps ps' : List Part} → o ≡ o' → w ≡ w' → r ≡ r' → ps ≡ ps'
    → ◌≡◌ {A = Lock Root} (record { owner = o; write = w; root = r; parts = ps }) (record { owner = o'; write = w'; root = r'; parts = ps' })
lock_is a b c d = cc

writes : (e : Event) → not (eqb (kind_of_event e) 0) ≡ is_write e
writes (borrow a) = refl
writes (write x) = refl

-- a key's first words
pub record Begun (key : List ℕ) (a b c d owner : ℕ) (f : Front) : Type 0 where
  pub is_owner : get_or key 0 0 ≡ owner
  pub is_kind : get_or key 1 0 ≡ f.kind
  pub is_root : get_or key 2 0 ≡ f.root
  pub is_count : get_or key 3 0 ≡ f.count
  pub is_a : get_or key 4 0 ≡ a
  pub is_b : get_or key 5 0 ≡ b
  pub is_c : get_or key 6 0 ≡ c
  pub is_d : get_or key 7 0 ≡ d

-- they are put in two parts
module _ (four part xs src : List ℕ) (l : length src ≡ 4) (owner : ℕ) (f : Front) where
  source_word : (post : List ℕ) (j : ℕ) → j < 4 → get_or (src ++ post) j 0 ≡ get_or src j 0
  source_word post j h =
      sym (get_or-take 4 (src ++ post) j 0 h) ∙ ap (λ (t : List ℕ). get_or t j 0) (take_at src post 4 l)

  pub begun : four ≡ (owner ∷ f.kind ∷ f.root ∷ f.count ∷ []) → part ≡ src
      → Begun (put_mid 4 4 (four ++ xs) part) (get_or src 0 0) (get_or src 1 0) (get_or src 2 0) (get_or src 3 0) owner f
  begun e g =
      rw (e, g) (record {
        is_owner = refl;
        is_kind = refl;
        is_root = refl;
        is_count = refl;
        is_a = source_word _ 0 (omega arith);
        is_b = source_word _ 1 (omega arith);
        is_c = source_word _ 2 (omega arith);
        is_d = source_word _ 3 (omega arith);
      })

front_word : (key after : List ℕ) → take 8 after ≡ take 8 key → (j : ℕ) → j < 8 → get_or after j 0 ≡ get_or key j 0
front_word key after e j h =
    sym (get_or-take 8 after j 0 h) ∙ ap (λ (l : List ℕ). get_or l j 0) e ∙ get_or-take 8 key j 0 h

module _ (revision : ℕ) (s : List ℕ) (at : ℕ) (f : Front) (is : FrontOf (path_at revision s at) f) (owner : ℕ) (small : owner < 4294967296)
    (narrow : f.root < 4294967296) where
  pub keyed : (a b c d n k : ℕ) (key ys : List ℕ) → n ≡ min f.count 16 → Begun key a b c d owner f → 8 ≤ length key → length ys ≡ n
      → Filled (component_at revision f.kind s) n f.start ys → KeyOf (path_at revision s at) (source_of a b c d) owner (put_mid 8 k key ys)
  unfolding lock_in root_in source_in parts_in
  keyed a b c d n j key ys is_n begun size many_ys x t e l =
      let after : List ℕ = put_mid 8 j key ys in
      let back : take n (drop 8 after) ≡ ys =
      ap (take n) (drop_at (take 8 key) (ys ++ post_of 8 j key) 8 (length-take-le 8 key size)) ∙ take_at ys (post_of 8 j key) n many_ys in
      let g = is t e in
      let many : f.count ≡ length t.value.components.entries = ap (λ (f : Front). f.count) g in
      let short : length t.value.components.entries ≤ 16 = leb-true _ _ (not-false _ l) in
      let m : n ≡ length t.value.components.entries = omega arith in
      let k : f.kind ≡ kind_of_event t.value.event = ap (λ (f : Front). f.kind) g in
      let start : f.start ≡ t.value.components.start = ap (λ (f : Front). f.start) g in
      let all_read : records (component_at revision f.kind s) n f.start ≡ ok t.value.components =
      rw (k, m, start) (path_components revision s at e) in
      let at_front = front_word key after (take-put_mid_below 8 j key ys 8 (omega arith) size) in
      lock_is
      (ap (λ (w : ℕ). w % 4294967296) (at_front 0 (omega arith) ∙ begun.is_owner) ∙ under small)
      (ap (λ (w : ℕ). not (eqb w 0)) (at_front 1 (omega arith) ∙ begun.is_kind ∙ k) ∙ writes t.value.event)
      (roots (at_front 4 (omega arith) ∙ begun.is_a) (at_front 5 (omega arith) ∙ begun.is_b) (at_front 6 (omega arith) ∙ begun.is_c)
      (at_front 7 (omega arith) ∙ begun.is_d)
      (ap (λ (w : ℕ). w % 4294967296) (at_front 2 (omega arith) ∙ begun.is_root) ∙ under narrow ∙ ap (λ (f : Front). f.root) g))
      (ap (λ (w : ℕ). map part_in (take (min w 16) (drop 8 after))) (at_front 3 (omega arith) ∙ begun.is_count)
      ∙ ap (λ (w : ℕ). map part_in (take w (drop 8 after))) (sym is_n)
      ∙ ap (map part_in) back
      ∙ x t.value.components all_read)
    where
      roots : {a a' b b' c c' d d' r r' : ℕ} → a ≡ a' → b ≡ b' → c ≡ c' → d ≡ d' → r ≡ r'
          → root_under (source_of a b c d) r ≡ root_under (source_of a' b' c' d') r'
      roots p q r s t = rw (p, q, r, s, t)

      under : {r : ℕ} → r < 4294967296 → r % 4294967296 ≡ r
      under h = omega arith
