-- After any sequence of claims, refused ones too, and releases no write touches a lock of another owner, and at most 256 locks are held. Each step
-- keeps both: a claim adds locks of one owner that hinder none that is held, and a release only drops.
use mathlib.Core.Path.{◌≡◌, refl, ap, sym, ◌∙◌}
use mathlib.Core.Logic.{◌⊎◌, inl, inr}
use Prim.Native.Nat.{ℕ, ◌≤◌}
use native.Mathlib.Omega.{arith}
use mathlib.Core.List.Memᴰ
use mathlib.Core.List.{List, [], ◌∷◌, ◌++◌, map, Memᴰ}
use mathlib.Core.Bool.{Bool, false, not}
use lib.ListN.{length, length-append, length-map}
use lib.Dec.{eqb}
use Rattle.local_format.specs.Out.{Out, ok, refused}
use Rattle.local_format.proofs.OutLaws.{bind_ok}
use Rattle.semcode_records.specs.Path.{Path}
use Rattle.semcode_decode.specs.Block.{Block}
use Rattle.lock_rules.specs.Lock.{Lock, lock_of, hinders}
use Rattle.lock_rules.specs.Register.{any, paths_of, hindered, claim, release, Step, claims, releases, held_after, stepped, reached, Safe}
use Rattle.lock_rules.proofs.ListLaws.{any_false, keep_most, map_from}
use Rattle.lock_rules.proofs.LockLaws.{own_never, hinders_either, not_hinders, released}
use Rattle.lock_rules.proofs.ClaimLaws.{claimed_ok}

module _ {R : Type 0} (same : R → R → Bool) (either : (x y : R) → same x y ≡ same y x) where
  abbrev Apart : List (Lock R) → Type 0
  Apart held = (a b : Lock R) → Memᴰ a held → Memᴰ b held → hinders same a b ≡ false

  abbrev pub Kept : List (Lock R) → Type 0
  Kept held = Apart held × (length held ≤ 256)

  module _ (root_of : ℕ → R) (owner : ℕ) (held : List (Lock R)) (paths : List Path) (apart : Apart held)
      (free : any (hindered same root_of owner held) paths ≡ false) where
    abbrev added : List (Lock R)
    added = map (lock_of root_of owner) paths

    against : (l m : Lock R) → Memᴰ l held → Memᴰ m added → hinders same l m ≡ false
    against l m i j =
        let p = map_from (lock_of root_of owner) paths m j in
        let f = any_false (hindered same root_of owner held) paths free p.0 p.1 in
        rw p.2 (any_false (λ l. hinders same l (lock_of root_of owner p.0)) held f l i)

    among : (l m : Lock R) → Memᴰ l added → Memᴰ m added → hinders same l m ≡ false
    among l m i j =
        let p = map_from (lock_of root_of owner) paths l i in
        let q = map_from (lock_of root_of owner) paths m j in
        own_never same l m (ap (λ (x : Lock R). x.owner) p.2 ∙ sym (ap (λ (x : Lock R). x.owner) q.2))

    claims_apart : Apart (held ++ added)
    claims_apart a b i j = go (Memᴰ.append_cases held i) (Memᴰ.append_cases held j)
      where
        go : Memᴰ a held ⊎ Memᴰ a added → Memᴰ b held ⊎ Memᴰ b added → hinders same a b ≡ false
        go (inl x) (inl y) = apart a b x y
        go (inl x) (inr y) = against a b x y
        go (inr x) (inl y) = hinders_either same either a b ∙ against b a y x
        go (inr x) (inr y) = among a b x y

  claim_keeps : (root_of : ℕ → R) (owner : ℕ) (held : List (Lock R)) (decoded : Out Block) → Kept held
      → (x : Out (List (Lock R))) → claim same root_of owner held decoded ≡ x → Kept (held_after held x)
  claim_keeps root_of owner held decoded k (ok after) e =
      let b = bind_ok decoded _ e in
      let c = claimed_ok same root_of owner held (paths_of b.0) after b.2 in
      rw (← c.adds) (
        claims_apart root_of owner held (paths_of b.0) k.0 c.free,
        simp (length-append, length-map) (omega (arith, simp length-map at c.room)),
      )
  claim_keeps root_of owner held decoded k (refused r) e = k

  release_keeps : (owner : ℕ) (held : List (Lock R)) → Kept held → Kept (release owner held)
  unfolding release
  release_keeps owner held k = (
    λ a b i j. k.0 a b ((released owner held a).0 i).0 ((released owner held b).0 j).0,
    omega (arith, keep_most (λ (l : Lock R). not (eqb l.owner owner)) held),
  )

  pub step_keeps : (held : List (Lock R)) (s : Step R) → Kept held → Kept (stepped same held s)
  step_keeps held (claims root_of owner decoded) k = claim_keeps root_of owner held decoded k (claim same root_of owner held decoded) refl
  step_keeps held (releases owner) k = release_keeps owner held k

  all_kept : (held : List (Lock R)) (steps : List (Step R)) → Kept held → Kept (reached same held steps)
  unfolding reached
  all_kept held [] k = k
  all_kept held (s ∷ steps) k = all_kept (stepped same held s) steps (step_keeps held s k)

  pub kept_safe : (held : List (Lock R)) → Kept held → Safe same held
  kept_safe held k a b i j = not_hinders same a b (k.0 a b i j)

  module _ (steps : List (Step R)) where
    reached_kept : Kept (reached same [] steps)
    reached_kept = all_kept [] steps (λ a b i j. absurd (Memᴰ.not-nil i), omega arith)

    pub always_safe : Safe same (reached same [] steps)
    always_safe = kept_safe (reached same [] steps) reached_kept

    pub at_most_256 : length (reached same [] steps) ≤ 256
    at_most_256 = reached_kept.1
