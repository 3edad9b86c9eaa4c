-- 70 is given exactly where a name is given twice before anything else is wrong.
use Prim.Native.Nat.{ℕ, zero, suc, ◌+◌, ◌*◌, ◌≤◌, ◌<◌}
use mathlib.Core.Path.{◌≡◌, refl, sym, ap, ◌∙◌}
use mathlib.Core.Logic.{◌↔◌, ◌⊎◌, inl, inr, ⊎_elim}
use mathlib.Core.Bool.{Bool, true, false, not, ◌&&◌}
use mathlib.Core.List.Memᴰ
use mathlib.Core.List.{List, [], ◌∷◌, ◌++◌, Memᴰ, append_assoc}
use native.Mathlib.Omega.{arith}
use lib.Dec.{eqb, leb}
use lib.ListN.{length, drop}
use borrow.Author.Tests.{le-leb, leb-true, not-true, not-false}
use Rattle.local_format.specs.Refusal.{Refusal}
use Rattle.local_format.specs.Out.{Out, ok, refused, refuse, check, ◌>>◌}
use Rattle.local_format.specs.Field.{le}
use Rattle.local_format.specs.Text.{section_field}
use Rattle.local_format.specs.Tag.{equal}
use Rattle.local_format.proofs.OutLaws.{never, refused_same, on_ok, bind_refused, checked_refused}
use Rattle.local_format.proofs.FieldLaws.{field_ok, field_there}
use Rattle.local_format.proofs.TagLaws.{equal_is, equal_self}
use Rattle.derivation.specs.Rule.{Rule}
use Rattle.rule_table.specs.Load.{rule_at, outside, named_in, rules_from, rules_of, Allowed, Distinct, also, rule_bytes, each_rule, Twice}
use Rattle.derivation.proofs.Tests.{both, either, first_true, second_true}
use Rattle.rule_table.proofs.Load.{Read, rules_none, read_more, outside_ok, rule_allowed_lem}
use Rattle.rule_table.proofs.Written.{rule_reads, after_rule, rule_written, still_new, byte_at}

-- ---- The first rule whose name stands before it, in `before` or in the table
abbrev Again : List Rule → List Rule → Rule → Type 0
Again before rs r = (named_in before r.name ≡ true) ⊎ ((q : Rule) × Memᴰ q rs × (r.name ≡ q.name))

record Found (n : ℕ) (before : List Rule) (b : List ℕ) : Type 0 where
  rules : List Rule
  fewer : length rules < n
  read : Read (length rules) before rules
  rule : Rule
  rule_allowed : Allowed rule
  rest : List ℕ
  bytes : b ≡ each_rule rules ++ (rule_bytes rule ++ rest)
  twice : Again before rules rule

-- one more rule in front
found_more : (n : ℕ) (before : List Rule) (b b' : List ℕ) (r : Rule) → Allowed r → named_in before r.name ≡ false → b ≡ rule_bytes r ++ b'
    → Found n (r ∷ before) b' → Found (suc n) before b
unfolding each_rule named_in
found_more n before b b' r a new e h =
    record {
      rules = r ∷ h.rules;
      fewer = omega (arith, h.fewer);
      read = read_more (length h.rules) before r h.rules a new h.read;
      rule = h.rule;
      rule_allowed = h.rule_allowed;
      rest = h.rest;
      bytes = e ∙ ap (λ (c : List ℕ). rule_bytes r ++ c) h.bytes ∙ sym (append_assoc (rule_bytes r) (each_rule h.rules) _);
      twice = ⊎_elim
          (λ t. ⊎_elim
          (λ k. inr (r, Memᴰ.head refl, equal_is h.rule.name r.name k))
          (λ k. inl k)
          (either (equal h.rule.name r.name) (named_in before h.rule.name) t))
          (λ q. inr (q.0, Memᴰ.tail q.1, q.2))
          h.twice;
    }

-- 69 is not 70
outside_69 : {A : Type 0} (x : Out A) → outside x ≡ refuse 70 0 → ⊥
outside_69 (ok a) e = never (sym e)
outside_69 (refused r) e = let n : ◌≡◌ {A = ℕ} 69 70 = ap (λ (r : Refusal). r.number) (refused_same e) in omega arith

check_69 : {B : Type 0} (t : Bool) (y : Out B) → (check t 69 0 >> y) ≡ refuse 70 0 → (t ≡ true) × (y ≡ refuse 70 0)
check_69 true y e = (refl, e)
check_69 false y e = absurd (let n : ◌≡◌ {A = ℕ} 69 70 = ap (λ (r : Refusal). r.number) (refused_same e) in omega arith)

found : (n : ℕ) (before : List Rule) (s : List ℕ) (at : ℕ) → rules_from n before s at ≡ refuse 70 0 → Found n before (drop at s)
unfolding rules_from each_rule
found zero before s at e = absurd (never (sym (check_69 (eqb at (length s)) (ok []) e).1))
found (suc n) before s at e =
    ⊎_elim
    (λ a. absurd (outside_69 (rule_at s at) a))
    (λ a.
    let (x, f, e1) = a in
    let allowed : Allowed x.rule = rule_allowed_lem s at x (outside_ok _ f) in
    let (u, bytes) = rule_written s at x (outside_ok _ f) in
    ⊎_elim
    (λ b. record {
      rules = [];
      fewer = omega arith;
      read = rules_none before;
      rule = x.rule;
      rule_allowed = allowed;
      rest = drop x.next s;
      bytes = bytes;
      twice = inl (not-false _ b.0);
    })
    (λ b. ⊎_elim
    (λ c. found_more n before (drop at s) (drop x.next s) x.rule allowed (not-true _ b.0) bytes (found n (x.rule ∷ before) s x.next c))
    (λ c. absurd (never (sym c.2)))
    (bind_refused (rules_from n (x.rule ∷ before) s x.next) _ b.1))
    (checked_refused (not (named_in before x.rule.name)) 70 0 _ e1))
    (bind_refused (outside (rule_at s at)) _ e)

-- ---- The other way
module _ (s : List ℕ) (r : Rule) (allowed : Allowed r) (rest : List ℕ) where
  again_later : (x : Rule) (before rs : List Rule) → Again before (x ∷ rs) r → Again (x ∷ before) rs r
  unfolding named_in
  again_later x before rs (inl k) = inl (second_true (equal r.name x.name) (named_in before r.name) k)
  again_later x before rs (inr (q, Memᴰ.head e, k)) =
      let same : equal r.name x.name ≡ true = rw (k, e) (equal_self x.name) in
      inl (first_true (equal r.name x.name) (named_in before r.name) same)
  again_later x before rs (inr (q, Memᴰ.tail m, k)) = inr (q, m, k)

  given : (rs : List Rule) (n : ℕ) (before : List Rule) (at : ℕ) → length rs < n → ((q : Rule) → Memᴰ q rs → Allowed q) → Distinct rs
      → ((q : Rule) → Memᴰ q rs → named_in before q.name ≡ false) → drop at s ≡ each_rule rs ++ (rule_bytes r ++ rest)
      → Again before rs r → rules_from n before s at ≡ refuse 70 0
  unfolding rules_from each_rule
  given rs zero before at l a d new e t = absurd (omega arith)
  given [] (suc n) before at l a d new e (inl k) = simp (rule_reads s at r rest allowed e, k)
  given [] (suc n) before at l a d new e (inr q) = absurd (Memᴰ.not-nil q.1)
  given (x ∷ rs) (suc n) before at l a (also other d) new e t =
      let xa : Allowed x = a x (Memᴰ.head refl) in
      let next : ℕ = at + 6 + length x.name in
      let after : List ℕ = each_rule rs ++ (rule_bytes r ++ rest) in
      let here : drop at s ≡ rule_bytes x ++ after = e ∙ append_assoc (rule_bytes x) (each_rule rs) (rule_bytes r ++ rest) in
      let later : rules_from n (x ∷ before) s next ≡ refuse 70 0 =
      given rs n (x ∷ before) next (omega arith) (λ q m. a q (Memᴰ.tail m)) d (still_new x before rs other new) (after_rule s at x after xa here)
      (again_later x before rs t) in
      simp (rule_reads s at x after xa here, new x (Memᴰ.head refl), later)

-- ---- The theorem
twice_found : (s : List ℕ) → rules_of s ≡ refuse 70 0 → Twice s
unfolding rules_of named_in
twice_found s e =
    ⊎_elim
    (λ a. absurd (outside_69 (section_field 1 s 0) a))
    (λ a.
    let (count, f, e1) = a in
    let (c, e2) = check_69 (leb 1 count.value && leb count.value 32) _ e1 in
    let (some, most) = both (leb 1 count.value) (leb count.value 32) c in
    let (next, inside, value) = field_ok 5 1 s 0 (outside_ok _ f) in
    let h : Found count.value [] (drop count.next s) = found count.value [] s count.next e2 in
    let q : (q : Rule) × Memᴰ q h.rules × (h.rule.name ≡ q.name) = ⊎_elim (λ z. absurd (never_true z)) (λ q. q) h.twice in
    let k : count.next ≡ 1 = omega arith in
    record {
      count = count.value;
      some = leb-true 1 count.value some;
      most = leb-true count.value 32 most;
      before = h.rules;
      fewer = h.fewer;
      rule = h.rule;
      rest = h.rest;
      bytes = byte_at s 0 (omega arith) ∙ ap (λ (n : ℕ). n ∷ drop 1 s) (sym value)
          ∙ ap (λ (b : List ℕ). count.value ∷ b) (ap (λ (n : ℕ). drop n s) (sym k) ∙ h.bytes);
      allowed = h.read.allowed;
      distinct = h.read.distinct;
      rule_allowed = h.rule_allowed;
      earlier = q.0;
      there = q.1;
      twice = q.2;
    })
    (bind_refused (outside (section_field 1 s 0)) _ e)
  where
    never_true : false ≡ true → ⊥
    never_true z = let y : ◌≡◌ {A = ℕ} 0 1 = cc in omega arith

counted : (n : ℕ) (b : List ℕ) → 1 ≤ n → n ≤ 32 → rules_of (n ∷ b) ≡ rules_from n [] (n ∷ b) 1
unfolding rules_of le
counted n b some most =
    let k : n + 256 * 0 ≡ n = omega arith in
    on_ok _ (ap outside (field_there 5 1 (n ∷ b) 0 (omega arith))) ∙ simp (k, le-leb 1 n some, le-leb n 32 most)

twice_given : (s : List ℕ) → Twice s → rules_of s ≡ refuse 70 0
unfolding named_in
twice_given s t =
    let b : List ℕ = each_rule t.before ++ (rule_bytes t.rule ++ t.rest) in
    ap rules_of t.bytes
    ∙ counted t.count b t.some t.most
    ∙ given (t.count ∷ b) t.rule t.rule_allowed t.rest t.before t.count [] 1 t.fewer t.allowed t.distinct (λ q m. refl) refl
    (inr (t.earlier, t.there, t.twice))

pub twice_exactly : (s : List ℕ) → (rules_of s ≡ refuse 70 0) ↔ Twice s
twice_exactly s = (twice_found s, twice_given s)
