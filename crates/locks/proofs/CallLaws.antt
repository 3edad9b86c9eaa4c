-- The theorems of `lock_rules`, carried over to the words of a register by what `claim` and `release` promise of them: each call is answered as its
-- step, and the locks after the calls are those that the steps reach.
use mathlib.Core.Path.{◌≡◌, refl, ap, sym, ◌∙◌}
use mathlib.Core.Logic.{◌↔◌}
use Prim.Native.Nat.{ℕ, zero, suc, ◌≤◌}
use mathlib.Core.List.{List, [], ◌++◌, map, Memᴰ}
use mathlib.Core.Bool.{false}
use lib.ListN.{length, get_or, replicate}
use lib.Dec.{eqb}
use Rattle.local_format.specs.Refusal.{Refusal}
use Rattle.local_format.specs.Out.{Out, ok, refused, refuse}
use Rattle.local_format.proofs.OutLaws.{never, refused_same, bind_ok}
use Rattle.semcode_decode.specs.Block.{Block}
use Rattle.semcode_decode.specs.Layout.{Lent}
use Rattle.semcode_decode.specs.Number.{decode_anew}
use Rattle.semcode_decode.proofs.LentLaws.{mapped}
use Rattle.lock_rules.specs.Lock.{Lock, lock_of}
use Rattle.lock_rules.specs.Register.{any, paths_of, long_path, held_after, held_count, claim, release, Step, answers, reached, Safe}
use Rattle.lock_rules.specs.Source.{Root, same_root, root_under, forgets, step_under}
use Rattle.lock_rules.proofs.LockLaws.{released, releases_commute}
use Rattle.lock_rules.proofs.ClaimLaws.{claimed_ok, Met, met_exactly}
use Rattle.lock_rules.proofs.SequenceLaws.{always_safe, at_most_256}
use Rattle.lock_rules.proofs.RootLaws.{same_either, fewer}
use Rattle.lock_rules.proofs.OneSetLaws.{one_set}
use Rattle.lock_words.specs.Words.{locks_in}
use Rattle.locks.specs.Claim.{claim_in, Left, Claims}
use Rattle.lock_register.specs.Release.{Releases}
use Rattle.locks.specs.Call.{Calls, none, claims, releases}
use Rattle.lock_register.proofs.LockLaws.{empty}

abbrev Locks : Type 0
Locks = List (Lock Root)

-- ---- One claim

-- where a map of the answer is told, the rest is the same
pub claims_mapped : {A B : Type 0} (f : A → B) (due : Out ℕ → A) (source : List ℕ) (owner base revision : ℕ) (code : List ℕ)
    {words words' : List ℕ} {before after : Lent}
    {told : A} {answer : B} → Claims due source owner base revision code words words' before after told → answer ≡ f told
    → Claims (λ x. f (due x)) source owner base revision code words words' before after answer
claims_mapped f due source owner base revision code c e = record { tables = mapped f c.tables e; register = c.register }

count_refused : (x : Out Locks) {r : Refusal} → held_count x ≡ refused r → x ≡ refused r
count_refused (ok ls) e = absurd (never (sym e))
count_refused (refused q) e = ap refused (refused_same e)

count_ok : (x : Out Locks) {n : ℕ} → held_count x ≡ ok n → (ls : Locks) × (x ≡ ok ls)
count_ok (ok ls) e = (ls, refl)
count_ok (refused q) e = absurd (never e)

module _ (source : List ℕ) (owner base revision : ℕ) (code words words' : List ℕ) (before after : Lent) (told : Out ℕ)
    (c : Claims (λ x. x) source owner base revision code words words' before after told) where
  abbrev block : Out Block
  block = decode_anew base revision code before

  -- a refused claim leaves every word
  pub claim_refused : {r : Refusal} → told ≡ refused r → words' ≡ words
  claim_refused e = let k = count_refused (claim_in source owner words block) (sym c.tables.answer ∙ e) in rw k at c.register

  -- an accepted one adds a lock for each path of its block, in order
  pub claim_adds : {n : ℕ} → told ≡ ok n
      → (b : Block) × (block ≡ ok b) × (locks_in words' ≡ locks_in words ++ map (lock_of (root_under source) owner) (paths_of b))
  claim_adds e =
      let (ls, k) = count_ok (claim_in source owner words block) (sym c.tables.answer ∙ e) in
      let (b, is, h) = bind_ok block _ k in
      let l : locks_in words' ≡ ls = rw k at c.register in
      (b, is, l ∙ sym (claimed_ok same_root (root_under source) owner (locks_in words) (paths_of b) ls h).adds)

  -- where the block decodes, 67 exactly where no path is too long, and some path touches a lock of another owner and either is a write
  pub claim_met : {b : Block} → block ≡ ok b
      → (told ≡ refuse 67 0) ↔ ((any long_path (paths_of b) ≡ false) × Met same_root (root_under source) owner (locks_in words) (paths_of b))
  claim_met {b} is =
      let m = met_exactly same_root (root_under source) owner (locks_in words) (paths_of b) in
      let at_b : claim_in source owner words block ≡ claim_in source owner words (ok b) = ap (claim_in source owner words) is in (
        λ e. m.0 (sym at_b ∙ count_refused (claim_in source owner words block) (sym c.tables.answer ∙ e)),
        λ x. c.tables.answer ∙ ap held_count (at_b ∙ m.1 x),
      )

  -- a claim that did not meet 67 before sets were asked for does not meet it now
  pub claim_fewer : (claim eqb (λ n. n) owner (map forgets (locks_in words)) block ≡ refuse 67 0 → ⊥) → told ≡ refuse 67 0 → ⊥
  claim_fewer before e = fewer source owner (locks_in words) block before (count_refused (claim_in source owner words block) (sym c.tables.answer ∙ e))

-- ---- Releases

-- exactly what the owner held is gone
pub release_drops : (owner : ℕ) (words words' : List ℕ) (told : ℕ) → Releases owner words words' told → (l : Lock Root)
    → Memᴰ l (locks_in words') ↔ (Memᴰ l (locks_in words) × (l.owner ≡ owner → ⊥))
release_drops owner words words' told r l = rw r.register (released owner (locks_in words) l)

-- releases by two owners give the same locks in either order
pub releases_either : (a b : ℕ) (words first both second other : List ℕ) {m n p q : ℕ}
    → Releases a words first m → Releases b first both n → Releases b words second p → Releases a second other q
    → locks_in both ≡ locks_in other
releases_either a b words first both second other x y z w =
    y.register ∙ ap (release b) x.register ∙ releases_commute b a (locks_in words) ∙ sym (w.register ∙ ap (release a) z.register)

-- ---- Calls

left_after : (x : Out Locks) (words words' : List ℕ) → Left x words words' → locks_in words' ≡ held_after (locks_in words) x
left_after (ok ls) words words' e = e
left_after (refused r) words words' e = ap locks_in e

-- each call is answered as its step, and the locks at the end are those that the steps reach
pub calls_reach : {words words' : List ℕ} {steps : List (Step Root)} {tolds : List (Out ℕ)} → Calls words steps tolds words'
    → (tolds ≡ answers same_root (locks_in words) steps) × (locks_in words' ≡ reached same_root (locks_in words) steps)
unfolding answers reached
calls_reach none = (refl, refl)
calls_reach (claims {words} {middle} source owner base revision code before after told c cs) =
    let rest = calls_reach cs in
    let held = left_after (claim_in source owner words (decode_anew base revision code before)) words middle c.register in
    (rw (← held, ← rest.0, ← c.tables.answer), rw (← held) rest.1)
calls_reach (releases owner told r cs) =
    let rest = calls_reach cs in
    (rw (← r.register, ← rest.0, ← r.answer), rw (← r.register) rest.1)

-- ---- From zeros

zeros_hold : (n : ℕ) → ◌≡◌ {A = ℕ} (get_or (replicate n 0) 0 0) 0
zeros_hold zero = refl
zeros_hold (suc n) = refl

none_held : locks_in (replicate 6145 0) ≡ []
none_held = empty (replicate 6145 0) (zeros_hold 6145)

module _ {words : List ℕ} {steps : List (Step Root)} {tolds : List (Out ℕ)} (cs : Calls (replicate 6145 0) steps tolds words) where
  from_none : locks_in words ≡ reached same_root [] steps
  from_none = (calls_reach cs).1 ∙ ap (λ (ls : Locks). reached same_root ls steps) none_held

  -- no write touches a lock of another owner
  pub calls_safe : Safe same_root (locks_in words)
  calls_safe = rw from_none (always_safe same_root same_either steps)

  pub calls_256 : length (locks_in words) ≤ 256
  calls_256 = rw from_none (at_most_256 same_root same_either steps)

-- claims that all bring one set, with releases between, are answered as they were
pub calls_one_set : (source : List ℕ) (steps : List (Step ℕ)) {tolds : List (Out ℕ)} {words : List ℕ}
    → Calls (replicate 6145 0) (map (step_under source) steps) tolds words → tolds ≡ answers eqb [] steps
calls_one_set source steps cs =
    (calls_reach cs).0 ∙ ap (λ (ls : Locks). answers same_root ls (map (step_under source) steps)) none_held ∙ one_set source steps
