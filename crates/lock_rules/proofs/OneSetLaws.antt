-- From an empty register a sequence of claims that all bring one set, with releases between, is answered as it was: under one set each test of
-- roots is that of symbols.
use mathlib.Core.Path.{◌≡◌, refl, ap, ◌∙◌}
use Prim.Native.Nat.{ℕ, ◌+◌}
use mathlib.Core.List.{List, [], ◌∷◌, ◌++◌, map}
use mathlib.Core.Bool.{Bool, true, false, cond, not, ◌&&◌}
use lib.ListN.{length, length-map}
use lib.Dec.{leb, eqb}
use Rattle.local_format.specs.Out.{Out, ok, refused, check, ◌>>=◌, ◌>>◌}
use Rattle.semcode_records.specs.Path.{Path}
use Rattle.semcode_decode.specs.Block.{Block}
use Rattle.lock_rules.specs.Lock.{Lock, lock_of, touches, hinders}
use Rattle.lock_rules.specs.Register.{any, keep, paths_of, long_path, hindered, claimed, claim, release, held_count}
use Rattle.lock_rules.specs.Register.{Step, claims, releases, held_after, stepped, answer, answers}
use Rattle.lock_rules.specs.Source.{Root, same_root, root_under, lock_under, step_under}
use Rattle.lock_rules.proofs.ListLaws.{any_map, any_same, map_append, map_map}
use Rattle.lock_rules.proofs.RootLaws.{equal_self}

and_true : (b : Bool) → (b && true) ≡ b
and_true true = refl
and_true false = refl

module _ (source : List ℕ) where
  same_in : (a b : ℕ) → same_root (root_under source a) (root_under source b) ≡ eqb a b
  unfolding same_root
  same_in a b = rw (equal_self source, and_true (eqb a b))

  hinders_in : (a b : Lock ℕ) → hinders same_root (lock_under source a) (lock_under source b) ≡ hinders eqb a b
  unfolding hinders touches
  hinders_in a b = rw (same_in a.root b.root)

  hindered_in : (root_of : ℕ → ℕ) (owner : ℕ) (held : List (Lock ℕ)) (p : Path)
      → hindered same_root (λ n. root_under source (root_of n)) owner (map (lock_under source) held) p ≡ hindered eqb root_of owner held p
  hindered_in root_of owner held p =
      let key = lock_of (λ n. root_under source (root_of n)) owner p in
      any_map (lock_under source) (λ l. hinders same_root l key) held
      ∙ any_same (λ l. hinders same_root (lock_under source l) key) (λ l. hinders eqb l (lock_of root_of owner p)) held
      (λ l. hinders_in l (lock_of root_of owner p))

  abbrev locks_in : Out (List (Lock ℕ)) → Out (List (Lock Root))
  locks_in x = x >>= λ ls. ok (map (lock_under source) ls)

  checked_in : (b : Bool) (n : ℕ) (x : Out (List (Lock ℕ))) → (check b n 0 >> locks_in x) ≡ locks_in (check b n 0 >> x)
  checked_in true n x = refl
  checked_in false n x = refl

  claimed_in : (root_of : ℕ → ℕ) (owner : ℕ) (held : List (Lock ℕ)) (paths : List Path)
      → claimed same_root (λ n. root_under source (root_of n)) owner (map (lock_under source) held) paths ≡ locks_in (claimed eqb root_of owner held paths)
  unfolding claimed
  claimed_in root_of owner held paths =
      let h = any_same (hindered same_root (λ n. root_under source (root_of n)) owner (map (lock_under source) held)) (hindered eqb root_of owner held) paths
      (λ p. hindered_in root_of owner held p) in
      let l = length-map held (lock_under source) in
      let a = map_append (lock_under source) held (map (lock_of root_of owner) paths)
      ∙ ap (λ (xs : List (Lock Root)). map (lock_under source) held ++ xs) (map_map (lock_under source) (lock_of root_of owner) paths) in
      rw (h, l, ← a)
      (ap (λ (x : Out (List (Lock Root))). check (not (any long_path paths)) 66 0 >> x)
      (ap (λ (x : Out (List (Lock Root))). check (not (any (hindered eqb root_of owner held) paths)) 67 0 >> x)
      (checked_in (leb (length held + length paths) 256) 68 (ok (held ++ map (lock_of root_of owner) paths)))
      ∙ checked_in (not (any (hindered eqb root_of owner held) paths)) 67 _)
      ∙ checked_in (not (any long_path paths)) 66 _)

  claim_in : (root_of : ℕ → ℕ) (owner : ℕ) (held : List (Lock ℕ)) (decoded : Out Block)
      → claim same_root (λ n. root_under source (root_of n)) owner (map (lock_under source) held) decoded ≡ locks_in (claim eqb root_of owner held decoded)
  claim_in root_of owner held (ok b) = claimed_in root_of owner held (paths_of b)
  claim_in root_of owner held (refused r) = refl

  keep_in : (f : Lock Root → Bool) (held : List (Lock ℕ))
      → keep f (map (lock_under source) held) ≡ map (lock_under source) (keep (λ l. f (lock_under source l)) held)
  unfolding keep
  keep_in f [] = refl
  keep_in f (l ∷ held) = go (f (lock_under source l)) (keep_in f held)
    where
      go : (b : Bool) → keep f (map (lock_under source) held) ≡ map (lock_under source) (keep (λ x. f (lock_under source x)) held)
          → cond b (lock_under source l ∷ keep f (map (lock_under source) held)) (keep f (map (lock_under source) held))
          ≡ map (lock_under source) (cond b (l ∷ keep (λ x. f (lock_under source x)) held) (keep (λ x. f (lock_under source x)) held))
      go true e = ap (λ (xs : List (Lock Root)). lock_under source l ∷ xs) e
      go false e = e

  after_in : (held : List (Lock ℕ)) (x : Out (List (Lock ℕ)))
      → held_after (map (lock_under source) held) (locks_in x) ≡ map (lock_under source) (held_after held x)
  after_in held (ok after) = refl
  after_in held (refused r) = refl

  step_in : (held : List (Lock ℕ)) (s : Step ℕ)
      → stepped same_root (map (lock_under source) held) (step_under source s) ≡ map (lock_under source) (stepped eqb held s)
  unfolding release
  step_in held (claims root_of owner decoded) = rw (claim_in root_of owner held decoded) (after_in held (claim eqb root_of owner held decoded))
  step_in held (releases owner) = keep_in (λ l. not (eqb l.owner owner)) held

  count_in : (x : Out (List (Lock ℕ))) → held_count (locks_in x) ≡ held_count x
  count_in (ok after) = ap ok (length-map after (lock_under source))
  count_in (refused r) = refl

  answer_in : (held : List (Lock ℕ)) (s : Step ℕ) → answer same_root (map (lock_under source) held) (step_under source s) ≡ answer eqb held s
  unfolding release
  answer_in held (claims root_of owner decoded) = rw (claim_in root_of owner held decoded) (count_in (claim eqb root_of owner held decoded))
  answer_in held (releases owner) =
      let others : Lock ℕ → Bool = λ l. not (eqb l.owner owner) in
      ap ok (ap length (keep_in (λ l. not (eqb l.owner owner)) held) ∙ length-map (keep others held) (lock_under source))

  all_in : (held : List (Lock ℕ)) (steps : List (Step ℕ))
      → answers same_root (map (lock_under source) held) (map (step_under source) steps) ≡ answers eqb held steps
  unfolding answers
  all_in held [] = refl
  all_in held (s ∷ steps) = rw (answer_in held s, step_in held s, all_in (stepped eqb held s) steps)

  pub one_set : (steps : List (Step ℕ)) → answers same_root [] (map (step_under source) steps) ≡ answers eqb [] steps
  one_set steps = all_in [] steps
