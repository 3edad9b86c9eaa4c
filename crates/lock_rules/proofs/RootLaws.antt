-- Roots are the same exactly where symbol and source set are, so a claim that did not meet 67 while sets were not asked for does not meet it now: what
-- touches now touched then.
use mathlib.Core.Path.{◌≡◌, refl, ap, sym, ◌∙◌}
use mathlib.Core.Logic.{◌↔◌}
use Prim.Native.Nat.{ℕ}
use mathlib.Core.List.{List, [], ◌∷◌, map}
use mathlib.Core.Bool.{Bool, true, false, ◌&&◌, ◌||◌}
use lib.Dec.{eqb}
use borrow.Author.Tests.{eq-eqb, eqb-true}
use Rattle.local_format.specs.Out.{Out, ok, refused, refuse}
use Rattle.local_format.specs.Tag.{equal}
use Rattle.local_format.proofs.OutLaws.{refused_same}
use Rattle.semcode_records.specs.Path.{Path}
use Rattle.semcode_decode.specs.Block.{Block}
use Rattle.lock_rules.specs.Lock.{Lock, lock_of, begins, touches, hinders}
use Rattle.lock_rules.specs.Register.{any, paths_of, hindered, claim}
use Rattle.lock_rules.specs.Source.{Root, same_root, root_under, forgets}
use Rattle.lock_rules.proofs.ListLaws.{no, any_true, any_has, map_has}
use Rattle.lock_rules.proofs.LockLaws.{eqb_comm, hinders_is, is_hinders}
use Rattle.lock_rules.proofs.ClaimLaws.{given_67, gives_67}

-- ---- Sets

pub equal_self : (s : List ℕ) → equal s s ≡ true
unfolding equal
equal_self [] = refl
equal_self (x ∷ s) = rw (eq-eqb x x refl, equal_self s)

pub equal_is : (s t : List ℕ) → equal s t ≡ true → s ≡ t
unfolding equal
equal_is [] [] e = refl
equal_is [] (y ∷ ys) e = no (sym e)
equal_is (x ∷ xs) [] e = no (sym e)
equal_is (x ∷ xs) (y ∷ ys) e = go (eqb x y) refl e (λ k. equal_is xs ys k)
  where
    go : (b : Bool) → eqb x y ≡ b → (b && equal xs ys) ≡ true → (equal xs ys ≡ true → xs ≡ ys) → (x ∷ xs) ≡ (y ∷ ys)
    go true h k rest = ap (λ (n : ℕ). n ∷ xs) (eqb-true x y h) ∙ ap (λ (zs : List ℕ). y ∷ zs) (rest k)
    go false h k rest = no (sym k)

equal_comm : (s t : List ℕ) → equal s t ≡ equal t s
unfolding equal
equal_comm [] [] = refl
equal_comm [] (y ∷ ys) = refl
equal_comm (x ∷ xs) [] = refl
equal_comm (x ∷ xs) (y ∷ ys) = rw (eqb_comm x y, equal_comm xs ys)

-- ---- Roots

-- exactly where the symbol and the source set are both the same
pub same_exactly : (a b : Root) → (same_root a b ≡ true) ↔ ((a.symbol ≡ b.symbol) × (a.source ≡ b.source))
unfolding same_root
same_exactly a b = (λ e. go (eqb a.symbol b.symbol) refl e, λ p. rw (eq-eqb _ _ p.0, p.1) (equal_self b.source))
  where
    go : (t : Bool) → eqb a.symbol b.symbol ≡ t → (t && equal a.source b.source) ≡ true → (a.symbol ≡ b.symbol) × (a.source ≡ b.source)
    go true h k = (eqb-true _ _ h, equal_is _ _ k)
    go false h k = no (sym k)

pub same_either : (a b : Root) → same_root a b ≡ same_root b a
unfolding same_root
same_either a b = rw (eqb_comm a.symbol b.symbol, equal_comm a.source b.source)

-- ---- Fewer

touched_before : (a b : Lock Root) → touches same_root a b ≡ true → touches eqb (forgets a) (forgets b) ≡ true
unfolding touches
touched_before a b e =
    go (same_root a.root b.root) (begins a.parts b.parts || begins b.parts a.parts) refl e
  where
    go : (s t : Bool) → same_root a.root b.root ≡ s → (s && t) ≡ true → (eqb a.root.symbol b.root.symbol && t) ≡ true
    go true true p k = rw (eq-eqb _ _ ((same_exactly a.root b.root).0 p).0)
    go true false p k = no (sym k)
    go false t p k = no (sym k)

module _ (source : List ℕ) (owner : ℕ) (held : List (Lock Root)) where
  -- what meets now met before
  met_before : (paths : List Path) → any (hindered same_root (root_under source) owner held) paths ≡ true
      → any (hindered eqb (λ n. n) owner (map forgets held)) paths ≡ true
  met_before paths e =
      let (p, among, h) = any_true (hindered same_root (root_under source) owner held) paths e in
      let key = lock_of (root_under source) owner p in
      let (l, is_held_lem, met) = any_true (λ l. hinders same_root l key) held h in
      let (other, touch, writes) = hinders_is same_root l key met in
      any_has (hindered eqb (λ n. n) owner (map forgets held)) paths p among
      (any_has (λ l. hinders eqb l (forgets key)) (map forgets held) (forgets l) (map_has forgets held l is_held_lem)
      (is_hinders eqb (forgets l) (forgets key) other (touched_before l key touch) writes))

  -- against the same held locks, a claim that did not meet 67 before does not meet it now
  pub fewer : (decoded : Out Block) → (claim eqb (λ n. n) owner (map forgets held) decoded ≡ refuse 67 0 → ⊥)
      → claim same_root (root_under source) owner held decoded ≡ refuse 67 0 → ⊥
  fewer (ok b) before now =
      let (short, met) = given_67 same_root (root_under source) owner held (paths_of b) now in
      before (gives_67 eqb (λ n. n) owner (map forgets held) (paths_of b) short (met_before (paths_of b) met))
  fewer (refused r) before now = before (ap refused (refused_same now))
