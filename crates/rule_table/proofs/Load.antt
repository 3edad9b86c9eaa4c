-- A table that loads holds what a table may hold; one that does not is refused with 69 or 70.
use Prim.Native.Nat.{ℕ, zero, suc, ◌+◌, ◌≤◌}
use mathlib.Core.Path.{◌≡◌, refl, sym, ap, ◌∙◌, subst}
use mathlib.Core.Logic.{◌⊎◌, inl, inr, ⊎_elim}
use mathlib.Core.Bool.{Bool, true, false, not, ◌&&◌, ◌||◌}
use mathlib.Core.List.Memᴰ
use mathlib.Core.List.{List, [], ◌∷◌, Memᴰ}
use native.Mathlib.Omega.{arith}
use lib.Dec.{eqb, leb}
use lib.ListN.{length, length-take, length-drop}
use borrow.Author.Tests.{le-leb, leb-true, eqb-true, eq-eqb, ne_eqb, not-true}
use Rattle.local_format.specs.Refusal.{Refusal, refusal}
use Rattle.local_format.specs.Out.{Out, ok, refused, check, ◌>>=◌, ◌>>◌}
use Rattle.local_format.specs.Field.{le}
use Rattle.utf8.specs.Utf8.{Decoded, points, ill, decode, any_control}
use Rattle.local_format.specs.Text.{Span, or_ill, bytes_at, section_field, text_at}
use Rattle.local_format.specs.Tag.{equal}
use Rattle.local_format.proofs.OutLaws.{never, ok_same, on_ok, bind_ok, checked_ok}
use Rattle.local_format.proofs.FieldLaws.{field_ok, field_there}
use Rattle.local_format.proofs.TagLaws.{equal_self}
use Rattle.derivation.specs.Rule.{Rule, Shaped, by_witness, by_parents}
use Rattle.rule_table.specs.Load.{is_shaped, bounded, rule_in, Loaded, rule_at, outside, named_in, rules_from, rules_of}
use Rattle.rule_table.specs.Load.{Allowed, Distinct, none, also, Loadable}
use Rattle.derivation.proofs.Tests.{both, both_true, either}

-- ---- Tests
module _ (r : Rule) where
  is_shaped_lem : is_shaped r ≡ true → Shaped r
  unfolding is_shaped
  is_shaped_lem e =
      ⊎_elim
      (λ a.
      let (w, rest) = both (eqb r.witnesses 1) _ a in
      let (p, q) = both (eqb r.parents 0) (leb r.polarity 1) rest in
      by_witness (eqb-true _ _ w) (eqb-true _ _ p) (leb-true _ _ q))
      (λ a.
      let (w, rest) = both (eqb r.witnesses 0) _ a in
      let (l, rest) = both (leb 1 r.parents) _ rest in
      let (u, q) = both (leb r.parents 2) (eqb r.polarity 2) rest in
      by_parents (eqb-true _ _ w) (leb-true _ _ l) (leb-true _ _ u) (eqb-true _ _ q))
      (either (eqb r.witnesses 1 && (eqb r.parents 0 && leb r.polarity 1)) _ e)

  shaped_is : Shaped r → is_shaped r ≡ true
  unfolding is_shaped
  shaped_is (by_witness w p q) = simp (eq-eqb _ _ w, eq-eqb _ _ p, le-leb _ _ q)
  shaped_is (by_parents w l u q) =
      let not_one : r.witnesses ≡ 1 → ⊥ = λ e. omega arith in
      simp (ne_eqb _ _ not_one, eq-eqb _ _ w, le-leb _ _ l, le-leb _ _ u, eq-eqb _ _ q)

  pub bounds : bounded r ≡ true → (length r.name ≤ 64) × (r.operation ≤ 1) × Shaped r
  unfolding bounded
  bounds e =
      let (n, rest) = both (leb (length r.name) 64) _ e in
      let (o, s) = both (leb r.operation 1) (is_shaped r) rest in
      (leb-true _ _ n, leb-true _ _ o, is_shaped_lem s)

  pub in_bounds : Allowed r → bounded r ≡ true
  unfolding bounded
  in_bounds a =
      both_true _ _ (le-leb (length r.name) 64 a.name.short) (both_true _ _ (le-leb r.operation 1 a.operation) (shaped_is a.shaped))

-- a step of what was read, and the rest
pub step : {A B P : Type 0} (x : Out A) (f : A → Out B) {b : B} → (x >>= f) ≡ ok b → ((a : A) → x ≡ ok a → f a ≡ ok b → P) → P
step x f e rest = let a = bind_ok x f e in rest a.0 a.1 a.2

-- ---- A text at a place, by the number of its bytes
module _ (s : List ℕ) (at : ℕ) where
  abbrev pub len : ℕ
  len = le 2 s at

  pub record Text (next : ℕ) : Type 0 where
    pub end : next ≡ at + 2 + len
    pub inside : at + 2 + len ≤ length s
    pub some : 1 ≤ len
    pub cs : List ℕ
    pub is_utf8 : decode (bytes_at s (at + 2) len) ≡ points cs
    pub no_control : any_control cs ≡ false

  is_points : (number place : ℕ) (d : Decoded) {cs : List ℕ} → or_ill number place d ≡ ok cs → d ≡ points cs
  is_points number place (points ds) e = ap points (ok_same e)
  is_points number place ill e = absurd (never e)

  pub text_read : {t : Span} → text_at s at ≡ ok t → Text t.next
  unfolding text_at
  text_read {t} e =
      step (section_field 2 s at) _ e λ size f e1.
      let (c, e2) = checked_ok (leb 1 size.value && leb size.value 4096) 6 size.next _ e1 in
      step (section_field size.value s size.next) _ e2 λ body g e3.
      step (or_ill 7 body.next (decode (bytes_at s size.next size.value))) _ e3 λ cs d e4.
      let (m, e5) = checked_ok (not (any_control cs)) 8 body.next _ e4 in
      let (x, y, v) = field_ok 5 2 s at f in
      let (x', y', v') = field_ok 5 size.value s size.next g in
      let n : body.next ≡ at + 2 + len = omega arith in
      record {
        end = ap (λ (t : Span). t.next) (sym (ok_same e5)) ∙ n;
        inside = omega arith;
        some = omega (arith, leb-true 1 size.value (both (leb 1 size.value) _ c).0);
        cs = cs;
        is_utf8 = rw (x, v) at (is_points 7 body.next (decode (bytes_at s size.next size.value)) d);
        no_control = not-true _ m;
      }

  pub text_there : {cs : List ℕ} → at + 2 + len ≤ length s → 1 ≤ len → len ≤ 4096 → decode (bytes_at s (at + 2) len) ≡ points cs → any_control cs ≡ false
      → text_at s at ≡ ok (record { start = at + 2; len = len; chars = length cs; next = at + 2 + len })
  unfolding text_at
  text_there inside some most is_utf8 no_control =
      on_ok _ (field_there 5 2 s at (omega arith))
      ∙ simp (le-leb 1 len some, le-leb len 4096 most)
      (on_ok _ (field_there 5 len s (at + 2) inside) ∙ simp (is_utf8, no_control))

-- ---- A rule at a place
pub outside_ok : {A : Type 0} (x : Out A) {a : A} → outside x ≡ ok a → x ≡ ok a
outside_ok (ok b) e = e
outside_ok (refused r) e = absurd (never e)

pub rule_allowed_lem : (s : List ℕ) (at : ℕ) (x : Loaded) → rule_at s at ≡ ok x → Allowed x.rule
unfolding rule_at rule_in
rule_allowed_lem s at x e =
    let (name, f, e1) = bind_ok (text_at s at) _ e in
    let (numbers, g, e2) = bind_ok (section_field 4 s name.next) _ e1 in
    let (b, e3) = checked_ok (bounded (rule_in s at)) 69 0 _ e2 in
    let (short, operation, shaped) = bounds (rule_in s at) b in
    let t : Text s at name.next = text_read s at f in
    let n : length (bytes_at s (at + 2) (len s at)) ≡ len s at = simp (length-take, length-drop) (omega (arith, t.inside)) in
    subst (λ (x : Loaded). Allowed x.rule) (ok_same e3)
    (record {
      name = record { some = omega (arith, t.some); short = short; points = t.cs; is_utf8 = t.is_utf8; no_control = t.no_control };
      shaped = shaped;
      operation = operation;
    })

-- ---- What the rules of a table that was read are
pub record Read (n : ℕ) (before rs : List Rule) : Type 0 where
  pub count : length rs ≡ n
  pub allowed : (r : Rule) → Memᴰ r rs → Allowed r
  pub distinct : Distinct rs
  pub new : (r : Rule) → Memᴰ r rs → named_in before r.name ≡ false

neither : (a b : Bool) → (a || b) ≡ false → (a ≡ false) × (b ≡ false)
neither true b e = (e, cc)
neither false b e = (refl, e)

pub read_more : (n : ℕ) (before : List Rule) (r : Rule) (rs : List Rule) → Allowed r → named_in before r.name ≡ false
    → Read n (r ∷ before) rs → Read (suc n) before (r ∷ rs)
unfolding named_in
read_more n before r rs a f h =
    record {
      count = ap suc h.count;
      allowed = each_is;
      distinct = also other h.distinct;
      new = each_new;
    }
  where
    each_is : (q : Rule) → Memᴰ q (r ∷ rs) → Allowed q
    each_is q (Memᴰ.head e) = rw e a
    each_is q (Memᴰ.tail m) = h.allowed q m

    each_new : (q : Rule) → Memᴰ q (r ∷ rs) → named_in before q.name ≡ false
    each_new q (Memᴰ.head e) = rw e f
    each_new q (Memᴰ.tail m) = (neither (equal q.name r.name) (named_in before q.name) (h.new q m)).1

    other : (q : Rule) → Memᴰ q rs → q.name ≡ r.name → ⊥
    other q m e =
        let t : equal q.name r.name ≡ true = rw e (equal_self r.name) in
        let f : equal q.name r.name ≡ false = (neither (equal q.name r.name) (named_in before q.name) (h.new q m)).0 in
        let z : ◌≡◌ {A = ℕ} 0 1 = cc in omega arith

pub rules_none : (before : List Rule) → Read 0 before []
rules_none before =
    record { count = refl; allowed = λ r m. absurd (Memᴰ.not-nil m); distinct = none; new = λ r m. absurd (Memᴰ.not-nil m) }

pub rules_read : (n : ℕ) (before : List Rule) (s : List ℕ) (at : ℕ) (rs : List Rule) → rules_from n before s at ≡ ok rs → Read n before rs
unfolding rules_from
rules_read zero before s at rs e =
    let (l, e1) = checked_ok (eqb at (length s)) 69 0 _ e in
    let q : [] ≡ rs = ok_same e1 in
    subst (Read 0 before) q (rules_none before)
rules_read (suc n) before s at rs e =
    let (x, f, e1) = bind_ok (outside (rule_at s at)) _ e in
    let (m, e2) = checked_ok (not (named_in before x.rule.name)) 70 0 _ e1 in
    let (rest, g, e3) = bind_ok (rules_from n (x.rule ∷ before) s x.next) _ e2 in
    let h : Read n (x.rule ∷ before) rest = rules_read n (x.rule ∷ before) s x.next rest g in
    subst (Read (suc n) before) (ok_same e3)
    (read_more n before x.rule rest (rule_allowed_lem s at x (outside_ok _ f)) (not-true _ m) h)

pub loaded : (s : List ℕ) (rs : List Rule) → rules_of s ≡ ok rs → Loadable rs
unfolding rules_of
loaded s rs e =
    let (count, f, e1) = bind_ok (outside (section_field 1 s 0)) _ e in
    let (c, e2) = checked_ok (leb 1 count.value && leb count.value 32) 69 0 _ e1 in
    let h : Read count.value [] rs = rules_read count.value [] s count.next rs e2 in
    let (some, most) = both (leb 1 count.value) (leb count.value 32) c in
    record {
      some = omega (arith, h.count, leb-true 1 count.value some);
      most = omega (arith, h.count, leb-true count.value 32 most);
      allowed = h.allowed;
      distinct = h.distinct;
    }

-- ---- Every other table is refused, with 69 or 70 at offset 0
abbrev Refuses : {A : Type 0} → Out A → Type 0
Refuses (ok a) = Unit {0}
Refuses (refused r) = (r ≡ refusal 69 0) ⊎ (r ≡ refusal 70 0)

outside_refuses : {A : Type 0} (x : Out A) → Refuses (outside x)
outside_refuses (ok a) = tt
outside_refuses (refused r) = inl refl

on_refuses : {A B : Type 0} (x : Out A) (f : A → Out B) → Refuses x → ((a : A) → Refuses (f a)) → Refuses (x >>= f)
on_refuses (ok a) f h k = k a
on_refuses (refused r) f h k = h

check_refuses : {B : Type 0} (t : Bool) (number : ℕ) (y : Out B) → (number ≡ 69) ⊎ (number ≡ 70) → Refuses y → Refuses (check t number 0 >> y)
check_refuses true number y h k = k
check_refuses false number y (inl e) k = inl (rw e)
check_refuses false number y (inr e) k = inr (rw e)

rules_refuse : (count : ℕ) (before : List Rule) (s : List ℕ) (at : ℕ) → Refuses (rules_from count before s at)
unfolding rules_from
rules_refuse zero before s at = check_refuses (eqb at (length s)) 69 (ok []) (inl refl) tt
rules_refuse (suc count) before s at =
    let later : (before : List Rule) (at : ℕ) → Refuses (rules_from count before s at) = λ before at. rules_refuse count before s at in
    on_refuses (outside (rule_at s at)) _ (outside_refuses (rule_at s at)) λ x.
    check_refuses (not (named_in before x.rule.name)) 70 _ (inr refl)
    (on_refuses (rules_from count (x.rule ∷ before) s x.next) _ (later (x.rule ∷ before) x.next) λ rest. tt)

pub load_refuses : (s : List ℕ) (r : Refusal) → rules_of s ≡ refused r → (r ≡ refusal 69 0) ⊎ (r ≡ refusal 70 0)
unfolding rules_of
load_refuses s r e = subst Refuses e all
  where
    all : Refuses (rules_of s)
    all =
        on_refuses (outside (section_field 1 s 0)) _ (outside_refuses (section_field 1 s 0)) λ count.
        check_refuses (leb 1 count.value && leb count.value 32) 69 _ (inl refl) (rules_refuse count.value [] s count.next)
