-- What an accepted claim says, and that 67 comes exactly where no path is too long and some path meets a lock of another owner. By the checks' order.
use mathlib.Core.Path.{◌≡◌, refl, ap, sym}
use mathlib.Core.Logic.{◌↔◌}
use Prim.Native.Nat.{ℕ, ◌+◌, ◌≤◌}
use native.Mathlib.Omega.{arith}
use mathlib.Core.List.{List, ◌++◌, map, Memᴰ}
use mathlib.Core.Bool.{Bool, true, false, not, ◌||◌}
use lib.ListN.{length}
use lib.Dec.{leb}
use borrow.Author.Tests.{leb-true, not-true}
use Rattle.local_format.specs.Refusal.{Refusal}
use Rattle.local_format.specs.Out.{Out, ok, refuse, check, ◌>>◌}
use Rattle.local_format.proofs.OutLaws.{ok_same, checked_ok, never, refused_same}
use Rattle.semcode_records.specs.Path.{Path}
use Rattle.lock_rules.specs.Lock.{Lock, lock_of, is_write, touches, hinders}
use Rattle.lock_rules.specs.Register.{any, long_path, hindered, claimed}
use Rattle.lock_rules.proofs.ListLaws.{any_true, any_has}
use Rattle.lock_rules.proofs.LockLaws.{hinders_is, is_hinders}

module _ {R : Type 0} (same : R → R → Bool) (root_of : ℕ → R) (owner : ℕ) (held : List (Lock R)) (paths : List Path) where
  abbrev met? : Bool
  met? = any (hindered same root_of owner held) paths

  -- ---- Accepted

  pub record Claims (after : List (Lock R)) : Type 0 where
    pub short : any long_path paths ≡ false
    pub free : any (hindered same root_of owner held) paths ≡ false
    pub room : length held + length paths ≤ 256
    -- the locks that were held, and then one for each path
    pub adds : held ++ map (lock_of root_of owner) paths ≡ after

  pub claimed_ok : (after : List (Lock R)) → claimed same root_of owner held paths ≡ ok after → Claims after
  unfolding claimed
  claimed_ok after e =
      let a = checked_ok (not (any long_path paths)) 66 0 _ e in
      let b = checked_ok (not met?) 67 0 _ a.1 in
      let c = checked_ok (leb (length held + length paths) 256) 68 0 _ b.1 in
      record { short = not-true _ a.0; free = not-true _ b.0; room = leb-true _ _ c.0; adds = ok_same c.1 }

  -- ---- 67

  -- some path touches a lock of another owner, and either is a write
  pub record Met : Type 0 where
    pub path : Path
    pub among : Memᴰ path paths
    pub lock : Lock R
    pub is_held : Memᴰ lock held
    pub other : lock.owner ≡ owner → ⊥
    pub touch : touches same lock (lock_of root_of owner path) ≡ true
    pub writes : (lock.write || is_write path.event) ≡ true

  is_met : met? ≡ true → Met
  is_met e =
      let p = any_true (hindered same root_of owner held) paths e in
      let l = any_true (λ l. hinders same l (lock_of root_of owner p.0)) held p.2 in
      let h = hinders_is same l.0 (lock_of root_of owner p.0) l.2 in
      record { path = p.0; among = p.1; lock = l.0; is_held = l.1; other = h.0; touch = h.1; writes = h.2 }

  met_is : Met → met? ≡ true
  met_is m =
      let key = lock_of root_of owner m.path in
      any_has (hindered same root_of owner held) paths m.path m.among
      (any_has (λ l. hinders same l key) held m.lock m.is_held (is_hinders same m.lock key m.other m.touch m.writes))

  -- the tests that give 67: no other gives it
  pub given_67 : claimed same root_of owner held paths ≡ refuse 67 0 → (any long_path paths ≡ false) × (met? ≡ true)
  unfolding claimed
  given_67 e = go (any long_path paths) met? (leb (length held + length paths) 256) e
    where
      other : (n : ℕ) → (n ≡ 67 → ⊥) → ◌≡◌ {A = Out (List (Lock R))} (refuse n 0) (refuse 67 0) → ⊥
      other n d k = d (ap (λ (r : Refusal). r.number) (refused_same k))

      go : (l m f : Bool) → (check (not l) 66 0 >> (check (not m) 67 0 >> (check f 68 0 >> ok (held ++ map (lock_of root_of owner) paths)))) ≡ refuse 67 0
          → (l ≡ false) × (m ≡ true)
      go false true f k = (refl, refl)
      go true m f k = absurd (other 66 (λ z. omega arith) k)
      go false false true k = absurd (never (sym k))
      go false false false k = absurd (other 68 (λ z. omega arith) k)

  pub gives_67 : any long_path paths ≡ false → met? ≡ true → claimed same root_of owner held paths ≡ refuse 67 0
  unfolding claimed
  gives_67 short e = rw (short, e)

  pub met_exactly : (claimed same root_of owner held paths ≡ refuse 67 0) ↔ ((any long_path paths ≡ false) × Met)
  met_exactly = (λ k. let t = given_67 k in (t.0, is_met t.1), λ p. gives_67 p.0 (met_is p.1))
