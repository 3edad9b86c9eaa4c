-- A path read back: its components are counted and passed, and none is kept.
use mathlib.Core.Path.{◌≡◌, refl, ap, sym, ◌∙◌}
use Prim.Native.Nat.{ℕ}
use mathlib.Core.Bool.{Bool, true, false, cond}
use mathlib.Core.List.{List}
use lib.Dec.{eqb}
use lib.ListN.{length}
use package.borrow.Author.Tests.{eqb-true}
use Rattle.local_format.specs.Refusal.{Refusal}
use Rattle.local_format.specs.Out.{Out, ok, refused, ◌>>=◌}
use Rattle.local_format.specs.Field.{field}
use Rattle.local_format.proofs.OutLaws.{never, refused_same, ok_same, bind_ok}
use Rattle.semcode_records.specs.Records.{Taken, taken, Table, records, ends}
use Rattle.semcode_records.specs.Component.{Component, component_at}
use Rattle.semcode_records.specs.Path.{Activation, no_activation, activation_at, Execution, no_execution, execution_at, Event, borrow, write, mode_at, Kinded}
use Rattle.semcode_records.specs.Path.{known, unknown, borrowed, written, event_of, or_unknown, kind_of_event, Front, front_at}
use Rattle.semcode_records.specs.Path.{Path, path_at, Head, head_of, head_at}
use Rattle.semcode_records.proofs.RecordsLaws.{as_many}

-- a step in front of two others
step : {A B C : Type 0} (x : Out A) (f : A → Out B) (g : B → Out C) (h : A → Out C) → ((a : A) → (f a >>= g) ≡ h a) → ((x >>= f) >>= g) ≡ (x >>= h)
step (ok a) f g h p = p a
step (refused r) f g h p = refl

-- what follows the components
abbrev pub head_from : Kinded → ℕ → ℕ → ℕ → ℕ → Out (Taken Head)
head_from kinded root count start end = do
  event ← or_unknown 60 end kinded
  taken (record { event = event; root = root; count = count; start = start }) end

counted : (read : ℕ → Out (Taken Component)) (kinded : Kinded) (root count at : ℕ) (x : Out (Table Component)) → records read count at ≡ x
    → ((x >>= λ components. or_unknown 60 components.end kinded >>= λ event. taken (record { event = event; root = root; components = components })
    components.end)
    >>= λ path. taken (head_of path.value) path.next)
    ≡ (ends x >>= λ end. head_from kinded root count at end)
counted read (known e) root count at (ok t) h = let m = as_many read count at h in rw (m.0, m.1)
counted read unknown root count at (ok t) h = refl
counted read kinded root count at (refused r) h = refl

pub head_steps : (revision : ℕ) (s : List ℕ) (at : ℕ) → head_at revision s at ≡ (do
  front ← front_at revision s at
  end ← ends (records (component_at revision front.kind s) front.count front.start)
  head_from front.kinded front.root front.count front.start end)
unfolding head_at path_at
head_steps revision s at =
    step (front_at revision s at) _ _ _ λ front.
    counted (component_at revision front.kind s) front.kinded front.root front.count front.start
    (records (component_at revision front.kind s) front.count front.start) refl

-- ---- What a path read back says of the path
module _ (revision : ℕ) (s : List ℕ) (at : ℕ) where
  pub path_refused : {r : Refusal} → head_at revision s at ≡ refused r → path_at revision s at ≡ refused r
  unfolding head_at
  path_refused {r} e = go (path_at revision s at) e
    where
      go : (x : Out (Taken Path)) → (x >>= λ path. taken (head_of path.value) path.next) ≡ refused r → x ≡ refused r
      go (ok t) h = absurd (never (sym h))
      go (refused q) h = ap refused (refused_same h)

  pub path_read : {t : Taken Head} → head_at revision s at ≡ ok t
      → (p : Path) × (path_at revision s at ≡ taken p t.next) × (head_of p ≡ t.value)
  unfolding head_at
  path_read {t} e =
      let q = bind_ok (path_at revision s at) _ e in
      let h : record { value = head_of q.0.value; next = q.0.next } ≡ t = ok_same q.2 in (
        q.0.value,
        q.1 ∙ ap (λ (t : Taken Head). taken q.0.value t.next) h,
        ap (λ (t : Taken Head). t.value) h,
      )

-- ---- The components of an accepted path

of_borrow : (a : Activation) (e : Event) → known (borrow a) ≡ known e → 0 ≡ kind_of_event e
of_borrow a (borrow b) h = refl
of_borrow a (write x) h = cc

of_write : (x : Execution) (e : Event) → known (write x) ≡ known e → 1 ≡ kind_of_event e
of_write x (borrow a) h = cc
of_write x (write y) h = refl

-- an event's kind is the byte that was read
pub kind_read : (kind revision : ℕ) (s : List ℕ) (at : ℕ) {t : Taken Kinded} (e : Event) → event_of kind revision s at ≡ ok t → t.value ≡ known e → kind
    ≡ kind_of_event e
unfolding event_of
kind_read kind revision s at {t} e h k = go (eqb kind 0) (eqb kind 1) refl refl h
  where
    borrows : Out (Taken Activation)
    borrows = mode_at revision no_activation (activation_at s) at

    writes : Out (Taken Execution)
    writes = mode_at revision no_execution (execution_at s) at

    go : (b w : Bool) → eqb kind 0 ≡ b → eqb kind 1 ≡ w → cond b (borrowed borrows) (cond w (written writes) (taken unknown at)) ≡ ok t → kind
        ≡ kind_of_event e
    go true w p q r =
        let a = bind_ok borrows _ r in
        eqb-true kind 0 p ∙ of_borrow a.0.value e (ap (λ (t : Taken Kinded). t.value) (ok_same a.2) ∙ k)
    go false true p q r =
        let x = bind_ok writes _ r in
        eqb-true kind 1 q ∙ of_write x.0.value e (ap (λ (t : Taken Kinded). t.value) (ok_same x.2) ∙ k)
    go false false p q r = let u : unknown ≡ known e = ap (λ (t : Taken Kinded). t.value) (ok_same r) ∙ k in cc

pub is_known : (number at : ℕ) (kinded : Kinded) {e : Event} → or_unknown number at kinded ≡ ok e → kinded ≡ known e
is_known number at (known x) h = ap known (ok_same h)
is_known number at unknown h = absurd (never h)

-- the byte in front of a path with this event
pub front_kind : (revision : ℕ) (s : List ℕ) (at : ℕ) {f : Front} (e : Event) → front_at revision s at ≡ ok f → f.kinded ≡ known e → f.kind ≡ kind_of_event e
unfolding front_at
front_kind revision s at {f} e h k =
    let a = bind_ok (field 41 1 s at) _ h in
    let b = bind_ok (event_of a.0.value revision s a.0.next) _ a.2 in
    let c = bind_ok (field 48 4 s b.0.next) _ b.2 in
    let d = bind_ok (field 49 2 s c.0.next) _ c.2 in
    let same = ok_same d.2 in
    ap (λ (f : Front). f.kind) (sym same) ∙ kind_read a.0.value revision s a.0.next e b.1 (ap (λ (f : Front). f.kinded) same ∙ k)

pub path_components : (revision : ℕ) (s : List ℕ) (at : ℕ) {t : Taken Path} → path_at revision s at ≡ ok t
    → let p = t.value in
    records (component_at revision (kind_of_event p.event) s) (length p.components.entries) p.components.start ≡ ok p.components
unfolding path_at
path_components revision s at {t} h =
    let a = bind_ok (front_at revision s at) _ h in
    let read = component_at revision a.0.kind s in
    let e = bind_ok (records read a.0.count a.0.start) _ a.2 in
    let f = bind_ok (or_unknown 60 e.0.end a.0.kinded) _ e.2 in
    let many = as_many read a.0.count a.0.start e.1 in
    let kind = front_kind revision s at f.0 a.1 (is_known 60 e.0.end a.0.kinded f.1) in
    rw (← ok_same f.2, many.0, many.1, ← kind) e.1
