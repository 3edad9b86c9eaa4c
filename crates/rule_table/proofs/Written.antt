-- Whatever a table may hold loads from the bytes that it writes, and a table that loads has no other bytes.
use Prim.Native.Nat.{ℕ, zero, suc, ◌+◌, ◌*◌, ◌≤◌, ◌<◌}
use mathlib.Core.Path.{◌≡◌, refl, sym, ap, ◌∙◌, subst}
use mathlib.Core.Logic.{◌↔◌}
use mathlib.Core.Bool.{false, not, ◌&&◌}
use mathlib.Core.List.{List, [], ◌∷◌, ◌++◌, Memᴰ, append_assoc}
use native.Mathlib.Omega.{arith}
use native.Mathlib.Nat.{add-zero}
use native.Mathlib.Numerals.{add-one}
use lib.Dec.{eqb, leb}
use lib.ListN.{length, drop, take-append-drop, drop_of_length-le, length-append, length-take, length-drop}
use lib.Seq.{drop-cons, drop-drop, take_at, drop_at}
use borrow.Author.Tests.{le-leb, eqb-true, eq-eqb}
use Rattle.local_format.specs.Out.{ok}
use Rattle.local_format.specs.Field.{le}
use Rattle.local_format.specs.Text.{bytes_at, section_field, text_at}
use Rattle.local_format.proofs.OutLaws.{ok_same, on_ok, checked_ok}
use Rattle.local_format.proofs.FieldLaws.{field_ok, field_there, le_drop, le_1}
use Rattle.derivation.specs.Rule.{Rule}
use Rattle.rule_table.specs.Load.{bounded, rule_in, Loaded, rule_at, outside, named_in, rules_from, rules_of, Allowed, Distinct, also, Loadable}
use Rattle.rule_table.specs.Load.{rule_bytes, each_rule, written}
use Rattle.local_format.proofs.TagLaws.{differ}
use Rattle.rule_table.proofs.Load.{step, len, Text, text_read, text_there, bounds, in_bounds, outside_ok, rules_read, loaded}

-- ---- Whatever a table may hold loads
rule_by : List ℕ → ℕ → ℕ → ℕ → ℕ → Rule
rule_by name witnesses parents operation polarity =
    record { name = name; witnesses = witnesses; parents = parents; operation = operation; polarity = polarity }

same_rule : {q r : Rule} → q.name ≡ r.name → q.witnesses ≡ r.witnesses → q.parents ≡ r.parents → q.operation ≡ r.operation
    → q.polarity ≡ r.polarity → q ≡ r
unfolding rule_by
same_rule {q} {r} a b c d e =
    let s : rule_by q.name q.witnesses q.parents q.operation q.polarity
    ≡ rule_by r.name r.witnesses r.parents r.operation r.polarity = rw (a, b, c, d, e) in
    s

-- a field from the bytes that stand at a place
field_here : (width : ℕ) (s b : List ℕ) (at k : ℕ) → drop at s ≡ b → le width s (at + k) ≡ le width b k
field_here width s b at k e = sym (le_drop width s at k) ∙ ap (λ (b : List ℕ). le width b k) e

module _ (s : List ℕ) (at : ℕ) (r : Rule) (rest : List ℕ) (a : Allowed r) (e : drop at s ≡ rule_bytes r ++ rest) where
  abbrev four : List ℕ
  four = r.witnesses ∷ r.parents ∷ r.operation ∷ r.polarity ∷ rest

  abbrev n : ℕ
  n = length r.name

  size : length (rule_bytes r) ≡ 6 + n
  unfolding rule_bytes
  size = simp length-append (omega arith)

  pub inside : at + 6 + n ≤ length s
  inside = omega (arith, size, length-append (rule_bytes r) rest, length-drop at s, ap length e)

  len_is : len s at ≡ n
  unfolding rule_bytes le
  len_is = rw (← add-zero at) (field_here 2 s (rule_bytes r ++ rest) at 0 e ∙ omega arith)

  from_name : drop (at + 2) s ≡ r.name ++ four
  unfolding rule_bytes
  from_name = sym (drop-drop 2 at s) ∙ ap (drop 2) e ∙ append_assoc r.name _ rest

  name_is : bytes_at s (at + 2) (len s at) ≡ r.name
  name_is = rw (len_is, from_name) (take_at r.name four n refl)

  from_four : drop (at + 2 + n) s ≡ four
  from_four = sym (drop-drop n (at + 2) s) ∙ ap (drop n) from_name ∙ drop_at r.name four n refl

  rule_is : rule_in s at ≡ r
  unfolding rule_in le
  rule_is =
      same_rule
      name_is
      (rw (len_is, ← add-zero (at + 2 + n)) (field_here 1 s four (at + 2 + n) 0 from_four ∙ omega arith))
      (rw len_is (field_here 1 s four (at + 2 + n) 1 from_four ∙ omega arith))
      (rw len_is (field_here 1 s four (at + 2 + n) 2 from_four ∙ omega arith))
      (rw len_is (field_here 1 s four (at + 2 + n) 3 from_four ∙ omega arith))

  pub rule_reads : rule_at s at ≡ ok (record { rule = r; next = at + 6 + n })
  unfolding rule_at
  rule_reads =
      let l : at + 2 + len s at + 4 ≡ at + 6 + n = omega (arith, len_is) in
      let some : 1 ≤ len s at = omega (arith, len_is, a.name.some) in
      let most : len s at ≤ 4096 = omega (arith, len_is, a.name.short) in
      on_ok _ (text_there s at (omega (arith, inside)) some most (rw name_is a.name.is_utf8) a.name.no_control)
      ∙ on_ok _ (field_there 5 4 s (at + 2 + len s at) (omega (arith, inside)))
      ∙ simp (rule_is, in_bounds r a, l)

  pub after_rule : drop (at + 6 + n) s ≡ rest
  after_rule = let k : at + 6 + n ≡ at + (6 + n) = omega arith in rw (k, ← drop-drop (6 + n) at s, e) (drop_at (rule_bytes r) rest (6 + n) size)

pub still_new : (r : Rule) (before rs : List Rule) → ((q : Rule) → Memᴰ q rs → q.name ≡ r.name → ⊥)
    → ((q : Rule) → Memᴰ q (r ∷ rs) → named_in before q.name ≡ false) → (q : Rule) → Memᴰ q rs → named_in (r ∷ before) q.name ≡ false
unfolding named_in
still_new r before rs other new q m = simp (differ q.name r.name (other q m), new q (Memᴰ.tail m))

rules_load : (rs before : List Rule) (s : List ℕ) (at : ℕ) → ((r : Rule) → Memᴰ r rs → Allowed r) → Distinct rs
    → ((r : Rule) → Memᴰ r rs → named_in before r.name ≡ false) → at ≤ length s → drop at s ≡ each_rule rs → rules_from (length rs) before s at ≡ ok rs
unfolding rules_from each_rule
rules_load [] before s at a d new l e =
    let k : at ≡ length s = omega (arith, length-drop at s, ap length e) in
    simp (eq-eqb at (length s) k)
rules_load (r ∷ rs) before s at a (also other d) new l e =
    let ra : Allowed r = a r (Memᴰ.head refl) in
    let next : ℕ = at + 6 + length r.name in
    let l' : next ≤ length s = inside s at r (each_rule rs) ra e in
    let e' : drop next s ≡ each_rule rs = after_rule s at r (each_rule rs) ra e in
    let later : rules_from (length rs) (r ∷ before) s next ≡ ok rs =
    rules_load rs (r ∷ before) s next (λ q m. a q (Memᴰ.tail m)) d (still_new r before rs other new) l' e' in
    simp (rule_reads s at r (each_rule rs) ra e, new r (Memᴰ.head refl), later)

pub written_loads : (rs : List Rule) → Loadable rs → rules_of (written rs) ≡ ok rs
unfolding rules_of written le named_in
written_loads rs h =
    let n : length rs + 256 * 0 ≡ length rs = omega arith in
    on_ok _ (ap outside (field_there 5 1 (written rs) 0 (omega arith)))
    ∙ simp (n, le-leb 1 (length rs) h.some, le-leb (length rs) 32 h.most)
    (rules_load rs [] (written rs) 1 h.allowed h.distinct (λ r m. refl) (omega arith) refl)

short_name : (s : List ℕ) (at : ℕ) → at + 2 + len s at ≤ length s → length (rule_in s at).name ≤ 64 → len s at ≤ 64
unfolding rule_in
short_name s at h k =
    let n : length (bytes_at s (at + 2) (len s at)) ≡ len s at = simp (length-take, length-drop) (omega arith) in
    omega arith

-- ---- A table that loads is the one that its rules write
pub byte_at : (s : List ℕ) (k : ℕ) → k < length s → drop k s ≡ le 1 s k ∷ drop (k + 1) s
byte_at s k h = rw (add-one, ← le_1 s k) (drop-cons s k 0 h)

four_at : (s : List ℕ) (k : ℕ) → k + 4 ≤ length s → drop k s ≡ le 1 s k ∷ le 1 s (k + 1) ∷ le 1 s (k + 2) ∷ le 1 s (k + 3) ∷ drop (k + 4) s
four_at s k h =
    let a = byte_at s k (omega arith) in
    let b = byte_at s (k + 1) (omega arith) in
    let c = byte_at s (k + 2) (omega arith) in
    let d = byte_at s (k + 3) (omega arith) in
    let e1 : k + 1 + 1 ≡ k + 2 = omega arith in
    let e2 : k + 2 + 1 ≡ k + 3 = omega arith in
    let e3 : k + 3 + 1 ≡ k + 4 = omega arith in
    rw (a, b, e1, c, e2, d, e3)

module _ (s : List ℕ) (at : ℕ) (fits : at + 2 + len s at + 4 ≤ length s) (short : len s at ≤ 64) where
  length_at : drop at s ≡ len s at ∷ 0 ∷ drop (at + 2) s
  unfolding le
  length_at =
      let a : le 1 s at ≡ len s at = omega arith in
      let b : le 1 s (at + 1) ≡ 0 = omega arith in
      let c : at + 1 + 1 ≡ at + 2 = omega arith in
      byte_at s at (omega arith) ∙ rw (a, byte_at s (at + 1) (omega arith), b, c)

  name_at : drop (at + 2) s ≡ bytes_at s (at + 2) (len s at) ++ drop (at + 2 + len s at) s
  name_at = rw (← drop-drop (len s at) (at + 2) s) (sym (take-append-drop (len s at) (drop (at + 2) s)))

  name_length : length (bytes_at s (at + 2) (len s at)) ≡ len s at
  name_length = simp (length-take, length-drop) (omega arith)

  rule_at_lem : drop at s ≡ rule_bytes (rule_in s at) ++ drop (at + 2 + len s at + 4) s
  unfolding rule_in rule_bytes
  rule_at_lem =
      length_at
      ∙ rw (name_length, append_assoc, ← four_at s (at + 2 + len s at) fits) (ap (λ (b : List ℕ). len s at ∷ 0 ∷ b) name_at)

pub rule_written : (s : List ℕ) (at : ℕ) (x : Loaded) → rule_at s at ≡ ok x → (x.next ≤ length s) × (drop at s ≡ rule_bytes x.rule ++ drop x.next s)
unfolding rule_at
rule_written s at x e =
    step (text_at s at) _ e λ name f e1.
    step (section_field 4 s name.next) _ e1 λ numbers g e2.
    let (b, e3) = checked_ok (bounded (rule_in s at)) 69 0 _ e2 in
    let t : Text s at name.next = text_read s at f in
    let (y, z, v) = field_ok 5 4 s name.next g in
    let k : at + 2 + len s at + 4 ≡ numbers.next = omega (arith, t.end) in
    let fits : at + 2 + len s at + 4 ≤ length s = omega arith in
    let short : len s at ≤ 64 = short_name s at t.inside (bounds (rule_in s at) b).0 in
    subst (λ (x : Loaded). (x.next ≤ length s) × (drop at s ≡ rule_bytes x.rule ++ drop x.next s)) (ok_same e3)
    (omega arith, rw k at (rule_at_lem s at fits short))

rules_written : (n : ℕ) (before : List Rule) (s : List ℕ) (at : ℕ) (rs : List Rule) → at ≤ length s → rules_from n before s at ≡ ok rs
    → drop at s ≡ each_rule rs
unfolding rules_from each_rule
rules_written zero before s at rs l e =
    let (t, e1) = checked_ok (eqb at (length s)) 69 0 _ e in
    let all : length s ≤ at = omega (arith, eqb-true at (length s) t) in
    rw (← ok_same e1) (drop_of_length-le s all)
rules_written (suc n) before s at rs l e =
    step (outside (rule_at s at)) _ e λ x f e1.
    let (m, e2) = checked_ok (not (named_in before x.rule.name)) 70 0 _ e1 in
    step (rules_from n (x.rule ∷ before) s x.next) _ e2 λ rest g e3.
    let (u, h) = rule_written s at x (outside_ok _ f) in
    rw (← ok_same e3) (h ∙ ap (λ (b : List ℕ). rule_bytes x.rule ++ b) (rules_written n (x.rule ∷ before) s x.next rest u g))

loaded_written : (s : List ℕ) (rs : List Rule) → rules_of s ≡ ok rs → s ≡ written rs
unfolding rules_of written
loaded_written s rs e =
    step (outside (section_field 1 s 0)) _ e λ count f e1.
    let (c, e2) = checked_ok (leb 1 count.value && leb count.value 32) 69 0 _ e1 in
    let (x, y, v) = field_ok 5 1 s 0 (outside_ok _ f) in
    let n : le 1 s 0 ≡ length rs = sym v ∙ sym (rules_read count.value [] s count.next rs e2).count in
    let k : count.next ≡ 1 = omega arith in
    byte_at s 0 (omega arith) ∙ rw n (ap (λ (b : List ℕ). length rs ∷ b) (rw k at (rules_written count.value [] s count.next rs (omega arith) e2)))

-- ---- The theorem: bytes load to these rules exactly where the rules are what a table may hold, and the bytes are theirs
pub loads_exactly : (s : List ℕ) (rs : List Rule) → (rules_of s ≡ ok rs) ↔ (Loadable rs × (s ≡ written rs))
loads_exactly s rs = (λ e. (loaded s rs e, loaded_written s rs e), λ h. ap rules_of h.1 ∙ written_loads rs h.0)
