-- Laws of forms: what is written is read back, whatever comes after it; and what is read is what would be written. Each way to make a form keeps both.
use Prim.Native.Nat.{ℕ, zero, suc, ◌-◌, ◌≤◌, ◌<◌}
use mathlib.Core.Path.{◌≡◌, refl, sym, ap, ap₂, ◌∙◌, subst}
use mathlib.Core.Logic.{◌⊎◌, inl, inr, ⊎_elim}
use mathlib.Core.List.{List, [], ◌∷◌, ◌++◌, append_assoc, append-nil}
use native.Mathlib.Omega.{arith}
use native.Mathlib.Nat.{le_refl}
use lib.Dec.{eqb}
use lib.ListN.{length, length-append}
use borrow.Author.Tests.{eqb-true, eqb-false}
use Rattle.local_format.specs.Refusal.{Refusal, refusal}
use Rattle.local_format.specs.Out.{ok, refused}
use Rattle.local_format.proofs.OutLaws.{never, ok_same, on_ok, bind_ok, bind_refused, checked_ok, checked_refused}
use Rattle.groups.specs.Groups.{Bytes, Read}
use Rattle.groups.proofs.BytesLaws.{bytes_none, bytes_after, bytes_join}
use Rattle.evr0_columns.specs.Form.{Form, nothing, and_then, each, get_many, many, through, whole, rewritten}

shorter : (a b : List ℕ) {c : List ℕ} → c ≡ a ++ b → length b ≤ length c
shorter a b e = omega (arith, simp length-append at (ap length e))

-- a refusal as it is met: 75 at a byte, or 76 at the end
abbrev pub Met : ℕ → Refusal → Type 0
Met end r = ((r.number ≡ 75) × (r.offset < end)) ⊎ (r ≡ refusal 76 end)

-- the values that fit a form are written as bytes, and are read back; and it reads none but these, from what it would write
pub record Lawful {A : Type 0} (form : Form A) (Fits : A → Type 0) : Type 0 where
  pub bytes : (a : A) → Fits a → Bytes (form.put a)
  pub back : (end : ℕ) (a : A) (after : List ℕ) → Fits a → form.get end (form.put a ++ after) ≡ ok (record { value = a; rest = after })
  pub only : (end : ℕ) (c : List ℕ) (g : Read A) → Bytes c → form.get end c ≡ ok g → (c ≡ form.put g.value ++ g.rest) × Fits g.value
  pub met : (end : ℕ) (c : List ℕ) (r : Refusal) → Bytes c → length c ≤ end → form.get end c ≡ refused r → Met end r

pub nothing_lawful : Lawful nothing (λ u. Unit {0})
nothing_lawful =
    record {
      bytes = λ u h. bytes_none;
      back = λ end u after h. refl;
      only = λ end c g b e. (ap (λ (x : Read (Unit {0})). x.rest) (ok_same e), tt);
      met = λ end c r b h e. absurd (never (sym e));
    }

-- ---- One value and then another
module _ {A : Type 0} {B : A → Type 0} {first : Form A} {second : (a : A) → Form (B a)} {F : A → Type 0} {G : (a : A) → B a → Type 0}
    (one : Lawful first F) (two : (a : A) → Lawful (second a) (G a)) where
  abbrev FitsBoth : (a : A) × B a → Type 0
  FitsBoth v = F v.0 × G v.0 v.1

  pub then_lawful : Lawful (and_then first second) FitsBoth
  then_lawful =
      record {
        bytes = λ v h. bytes_join (first.put v.0) ((second v.0).put v.1) (one.bytes v.0 h.0) ((two v.0).bytes v.1 h.1);
        back = λ end v after h.
            rw append_assoc
            (on_ok _ (one.back end v.0 ((second v.0).put v.1 ++ after) h.0)
            ∙ on_ok _ ((two v.0).back end v.1 after h.1));
        only = λ end c g bytes e.
            let (x, f, e1) = bind_ok (first.get end c) _ e in
            let (y, k, e2) = bind_ok ((second x.value).get end x.rest) _ e1 in
            let p = one.only end c x bytes f in
            let q = (two x.value).only end x.rest y (bytes_after (first.put x.value) x.rest p.0 bytes) k in
            rw (← ok_same e2) (p.0 ∙ rw append_assoc (ap (λ (s : List ℕ). first.put x.value ++ s) q.0), (p.1, q.1));
        met = λ end c r bytes h e.
            ⊎_elim (one.met end c r bytes h)
            (λ z.
            let x = z.0 in
            let p = (one.only end c x bytes z.1).0 in
            let b = bytes_after (first.put x.value) x.rest p bytes in
            let k = shorter (first.put x.value) x.rest p in
            ⊎_elim ((two x.value).met end x.rest r b (omega arith)) (λ w. absurd (never (sym w.2)))
            (bind_refused ((second x.value).get end x.rest) _ z.2))
            (bind_refused (first.get end c) _ e);
      }

-- ---- So many values
abbrev pub Many : {A : Type 0} → (A → Type 0) → ℕ → List A → Type 0
Many F zero [] = Unit {0}
Many F zero (a ∷ more) = ⊥
Many F (suc n) [] = ⊥
Many F (suc n) (a ∷ more) = F a × Many F n more

module _ {A : Type 0} {form : Form A} {F : A → Type 0} (law : Lawful form F) where
  many_bytes : (n : ℕ) (vs : List A) → Many F n vs → Bytes (each form.put vs)
  unfolding each
  many_bytes zero [] h = bytes_none
  many_bytes zero (v ∷ vs) h = absurd h
  many_bytes (suc n) [] h = absurd h
  many_bytes (suc n) (v ∷ vs) h = bytes_join (form.put v) (each form.put vs) (law.bytes v h.0) (many_bytes n vs h.1)

  many_back : (end n : ℕ) (vs : List A) (after : List ℕ) → Many F n vs
      → get_many form n end (each form.put vs ++ after) ≡ ok (record { value = vs; rest = after })
  unfolding get_many each
  many_back end zero [] after h = refl
  many_back end zero (v ∷ vs) after h = absurd h
  many_back end (suc n) [] after h = absurd h
  many_back end (suc n) (v ∷ vs) after h =
      rw append_assoc (on_ok _ (law.back end v (each form.put vs ++ after) h.0) ∙ on_ok _ (many_back end n vs after h.1))

  many_only : (end n : ℕ) (c : List ℕ) (g : Read (List A)) → Bytes c → get_many form n end c ≡ ok g
      → (c ≡ each form.put g.value ++ g.rest) × Many F n g.value
  unfolding get_many each
  many_only end zero c g bytes e = rw (← ok_same e) (refl, tt)
  many_only end (suc n) c g bytes e =
      let (x, f, e1) = bind_ok (form.get end c) _ e in
      let (y, k, e2) = bind_ok (get_many form n end x.rest) _ e1 in
      let p = law.only end c x bytes f in
      let q = many_only end n x.rest y (bytes_after (form.put x.value) x.rest p.0 bytes) k in
      rw (← ok_same e2) (p.0 ∙ rw append_assoc (ap (λ (s : List ℕ). form.put x.value ++ s) q.0), (p.1, q.1))

  many_met : (end n : ℕ) (c : List ℕ) (r : Refusal) → Bytes c → length c ≤ end → get_many form n end c ≡ refused r → Met end r
  unfolding get_many
  many_met end zero c r bytes h e = absurd (never (sym e))
  many_met end (suc n) c r bytes h e =
      let later = many_met end n in
      ⊎_elim (law.met end c r bytes h)
      (λ z.
      let x = z.0 in
      let p = (law.only end c x bytes z.1).0 in
      let b = bytes_after (form.put x.value) x.rest p bytes in
      let k = shorter (form.put x.value) x.rest p in
      ⊎_elim (later x.rest r b (omega arith)) (λ w. absurd (never (sym w.2))) (bind_refused (get_many form n end x.rest) _ z.2))
      (bind_refused (form.get end c) _ e)

  pub many_lawful : (n : ℕ) → Lawful (many n form) (Many F n)
  many_lawful n = record { bytes = many_bytes n; back = λ end. many_back end n; only = λ end. many_only end n; met = λ end. many_met end n }

-- ---- The same bytes for other values
module _ {A B : Type 0} {form : Form A} {F : A → Type 0} (law : Lawful form F) (out : B → A) (in' : A → B) (G : B → Type 0)
    (fits_out : (b : B) → G b → F (out b)) (out-in : (b : B) → G b → in' (out b) ≡ b)
    (fits_in : (a : A) → F a → G (in' a)) (in-out : (a : A) → F a → out (in' a) ≡ a) where
  pub through_lawful : Lawful (through out in' form) G
  through_lawful =
      record {
        bytes = λ b h. law.bytes (out b) (fits_out b h);
        back = λ end b after h.
            on_ok _ (law.back end (out b) after (fits_out b h)) ∙ ap (λ (x : B). ok (record { value = x; rest = after })) (out-in b h);
        only = λ end c g bytes e.
            let (x, f, e1) = bind_ok (form.get end c) _ e in
            let p = law.only end c x bytes f in
            rw (← ok_same e1) (p.0 ∙ ap (λ (a : A). form.put a ++ x.rest) (sym (in-out x.value p.1)), fits_in x.value p.1);
        met = λ end c r bytes h e.
            ⊎_elim (law.met end c r bytes h) (λ z. absurd (never (sym z.2))) (bind_refused (form.get end c) _ e);
      }

-- ---- Whole files

-- 76 at the first byte left over
abbrev pub LeftOver : {A : Type 0} → Form A → List ℕ → Refusal → Type 0
LeftOver {A} form c r =
    (x : Read A) × (form.get (length c) c ≡ ok x) × (0 < length x.rest) × (r ≡ refusal 76 (length c - length x.rest))

module _ {A : Type 0} {form : Form A} {F : A → Type 0} (law : Lawful form F) where
  pub whole_back : (a : A) → F a → whole form (form.put a) ≡ ok a
  unfolding whole
  whole_back a h =
      on_ok _ (subst (λ (c : List ℕ). form.get (length (form.put a)) c ≡ ok (record { value = a; rest = [] })) (append-nil (form.put a))
      (law.back (length (form.put a)) a [] h))

  -- what is left over of a whole file
  whole_rest : (c : List ℕ) (a : A) → whole form c ≡ ok a → form.get (length c) c ≡ ok (record { value = a; rest = [] })
  unfolding whole
  whole_rest c a e =
      let (x, f, e1) = bind_ok (form.get (length c) c) _ e in
      let (t, e2) = checked_ok (eqb (length x.rest) 0) 76 (length c - length x.rest) _ e1 in
      let n : x.rest ≡ [] = empty x.rest (eqb-true (length x.rest) 0 t) in
      f ∙ ap₂ (λ (v : A) (r : List ℕ). ok (record { value = v; rest = r })) (ok_same e2) n
    where
      empty : (s : List ℕ) → length s ≡ 0 → s ≡ []
      empty [] h = refl
      empty (x ∷ s) h = absurd (omega arith)

  pub whole_only : (c : List ℕ) (a : A) → Bytes c → whole form c ≡ ok a → (c ≡ form.put a) × F a
  whole_only c a bytes e =
      let p = law.only (length c) c _ bytes (whole_rest c a e) in
      (p.0 ∙ append-nil (form.put a), p.1)

  -- no whole file begins another
  pub whole_once : (c x : List ℕ) (a b : A) → Bytes c → whole form c ≡ ok a → whole form (c ++ x) ≡ ok b → x ≡ []
  whole_once c x a b bytes e f =
      let p = whole_only c a bytes e in
      let g : form.get (length (c ++ x)) (c ++ x) ≡ ok (record { value = a; rest = x }) =
      ap (λ (s : List ℕ). form.get (length (c ++ x)) (s ++ x)) p.0 ∙ law.back (length (c ++ x)) a x p.1 in
      ap (λ (r : Read A). r.rest) (ok_same (sym g ∙ whole_rest (c ++ x) b f))

  -- a whole file is refused as it is met, or with 76 at the first byte left over
  pub whole_met : (c : List ℕ) (r : Refusal) → Bytes c → whole form c ≡ refused r → Met (length c) r ⊎ LeftOver form c r
  unfolding whole
  whole_met c r bytes e =
      ⊎_elim
      (λ f. inl (law.met (length c) c r bytes (le_refl (length c)) f))
      (λ z.
      let n : ℕ = length z.0.rest in
      ⊎_elim (λ w. inr (z.0, z.1, omega (arith, eqb-false n 0 w.0), w.1)) (λ w. absurd (never (sym w.1)))
      (checked_refused (eqb n 0) 76 (length c - n) _ z.2))
      (bind_refused (form.get (length c) c) _ e)

-- a file that one form reads, written in the other, is bytes that go back to it
module _ {A : Type 0} {one two : Form A} {F : A → Type 0} (law : Lawful one F) (rule : Lawful two F) (c d : List ℕ)
    (bytes : Bytes c) (e : rewritten one two c ≡ ok d) where
  pub rewritten_bytes : Bytes d
  unfolding rewritten
  rewritten_bytes =
      let (a, f, e1) = bind_ok (whole one c) _ e in
      subst Bytes (ok_same e1) (rule.bytes a (whole_only law c a bytes f).1)

  pub there_and_back : rewritten two one d ≡ ok c
  unfolding rewritten
  there_and_back =
      let (a, f, e1) = bind_ok (whole one c) _ e in
      let p = whole_only law c a bytes f in
      rw (← ok_same e1) (on_ok _ (whole_back rule a p.1) ∙ ap (λ (s : List ℕ). ok s) (sym p.0))
