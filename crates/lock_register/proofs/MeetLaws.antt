-- When a held lock stands against a key, by their words: parts are the same where the bits that count are, and one list of parts is the beginning of
-- the other where they agree up to the shorter.
use mathlib.Core.Path.{◌≡◌, refl, ap, sym, ◌∙◌}
use Prim.Native.Nat.{ℕ, zero, suc, ◌+◌, ◌*◌, ◌/◌, ◌%◌, ◌<◌, ◌≤◌, min}
use native.Mathlib.Omega.{arith}
use mathlib.Core.List.{List, [], ◌∷◌, map}
use mathlib.Core.Bool.{Bool, true, false, not, ◌&&◌, ◌||◌}
use lib.Dec.{eqb}
use lib.ListN.{length, get_or}
use borrow.Author.Tests.{eqb-true, eq-eqb, ne_eqb}
use Rattle.std.specs.List.{list_any}
use Rattle.local_format.specs.Tag.{equal}
use Rattle.lock_rules.specs.Lock.{Part, Lock, same_part, begins, touches, hinders}
use Rattle.lock_rules.specs.Register.{any}
use Rattle.lock_rules.proofs.ListLaws.{no}
use Rattle.lock_rules.proofs.LockLaws.{eqb_comm}
use Rattle.lock_rules.specs.Source.{Root, same_root}
use Rattle.lock_words.specs.Words.{part_in, parts_in, symbol_in, source_in, root_in, lock_in, locks_in}
use Rattle.lock_register.specs.Meet.{either_begins, met_by}
use Rattle.lock_register.proofs.ReadLaws.{parts_length, part_at}

-- ---- A part

same_comm : (x y : Part) → same_part x y ≡ same_part y x
unfolding same_part
same_comm x y = rw (eqb_comm x.kind y.kind, eqb_comm x.first y.first, eqb_comm x.second y.second)

-- a word's part lies in its low 50 bits
kind_low : (w : ℕ) → w % 4 ≡ w % 1125899906842624 % 4
kind_low w = omega arith

first_low : (w : ℕ) → w / 4 % 4294967296 ≡ w % 1125899906842624 / 4 % 4294967296
first_low w = omega arith

second_low : (w : ℕ) → w / 17179869184 % 65536 ≡ w % 1125899906842624 / 17179869184 % 65536
second_low w = omega arith

whole : (w : ℕ) → w % 1125899906842624 ≡ w % 4 + 4 * (w / 4 % 4294967296) + 17179869184 * (w / 17179869184 % 65536)
whole w = omega arith

-- parts are the same where their words are, in the bits that count
module _ (a b : ℕ) where
  pub part_same : a % 1125899906842624 ≡ b % 1125899906842624 → same_part (part_in a) (part_in b) ≡ true
  unfolding same_part part_in
  part_same e =
      let k : a % 4 ≡ b % 4 = kind_low a ∙ ap (λ (w : ℕ). w % 4) e ∙ sym (kind_low b) in
      let f : a / 4 % 4294967296 ≡ b / 4 % 4294967296 = first_low a ∙ ap (λ (w : ℕ). w / 4 % 4294967296) e ∙ sym (first_low b) in
      let s : a / 17179869184 % 65536 ≡ b / 17179869184 % 65536 = second_low a ∙ ap (λ (w : ℕ). w / 17179869184 % 65536) e ∙ sym (second_low b) in
      rw (eq-eqb _ _ k, eq-eqb _ _ f, eq-eqb _ _ s)

  all_three : (x y z : Bool) → eqb (a % 4) (b % 4) ≡ x → eqb (a / 4 % 4294967296) (b / 4 % 4294967296) ≡ y
      → eqb (a / 17179869184 % 65536) (b / 17179869184 % 65536) ≡ z → (a % 1125899906842624 ≡ b % 1125899906842624 → ⊥) → (x && (y && z)) ≡ false
  all_three true true true p q r d =
      let k : a % 4 ≡ b % 4 = eqb-true _ _ p in
      let f : a / 4 % 4294967296 ≡ b / 4 % 4294967296 = eqb-true _ _ q in
      let s : a / 17179869184 % 65536 ≡ b / 17179869184 % 65536 = eqb-true _ _ r in
      absurd (d (whole a ∙ rw (k, f, s) (sym (whole b))))
  all_three true true false p q r d = refl
  all_three true false z p q r d = refl
  all_three false y z p q r d = refl

  pub part_other : (a % 1125899906842624 ≡ b % 1125899906842624 → ⊥) → same_part (part_in a) (part_in b) ≡ false
  unfolding same_part part_in
  part_other d = all_three _ _ _ refl refl refl d

-- ---- Parts up to the shorter

agrees : List Part → List Part → Bool
agrees [] ys = true
agrees (x ∷ xs) [] = true
agrees (x ∷ xs) (y ∷ ys) = same_part x y && agrees xs ys

either_agrees : (xs ys : List Part) → (begins xs ys || begins ys xs) ≡ agrees xs ys
unfolding begins agrees
either_agrees [] ys = refl
either_agrees (x ∷ xs) [] = refl
either_agrees (x ∷ xs) (y ∷ ys) = rw (← same_comm x y) (go (same_part x y) (either_agrees xs ys))
  where
    go : (b : Bool) → (begins xs ys || begins ys xs) ≡ agrees xs ys → ((b && begins xs ys) || (b && begins ys xs)) ≡ (b && agrees xs ys)
    go true e = e
    go false e = refl

module _ (d : Part) where
  differs : (k : ℕ) (xs ys : List Part) → k < length xs → k < length ys → same_part (get_or xs k d) (get_or ys k d) ≡ false → agrees xs ys ≡ false
  unfolding agrees
  differs k [] ys h l e = absurd (omega arith)
  differs k (x ∷ xs) [] h l e = absurd (omega arith)
  differs zero (x ∷ xs) (y ∷ ys) h l e = rw e
  differs (suc k) (x ∷ xs) (y ∷ ys) h l e = rw (differs k xs ys (omega arith) (omega arith) e) (and_false (same_part x y))
    where
      and_false : (b : Bool) → (b && false) ≡ false
      and_false true = refl
      and_false false = refl

  same_all : (xs ys : List Part) → ((k : ℕ) → k < length xs → k < length ys → same_part (get_or xs k d) (get_or ys k d) ≡ true) → agrees xs ys ≡ true
  unfolding agrees
  same_all [] ys e = refl
  same_all (x ∷ xs) [] e = refl
  same_all (x ∷ xs) (y ∷ ys) e = rw (e 0 (omega arith) (omega arith)) (same_all xs ys (λ k h l. e (suc k) (omega arith) (omega arith)))

-- the words of two locks' parts from k up to n are the same in the bits that count
abbrev pub Agreeing : List ℕ → List ℕ → ℕ → ℕ → Type 0
Agreeing a b k n = (j : ℕ) → k ≤ j → j < n → get_or a (8 + j) 0 % 1125899906842624 ≡ get_or b (8 + j) 0 % 1125899906842624

-- the parts of two locks' words
module _ (a b : List ℕ) (l : length a ≡ 24) (m : length b ≡ 24) where
  pub parts_differ : (k : ℕ) → k < min (get_or a 3 0) 16 → k < min (get_or b 3 0) 16
      → (get_or a (8 + k) 0 % 1125899906842624 ≡ get_or b (8 + k) 0 % 1125899906842624 → ⊥) → false ≡ either_begins a b
  parts_differ k h i d =
      sym (either_agrees (parts_in a) (parts_in b)
      ∙ differs (part_in 0) k (parts_in a) (parts_in b) (rw (parts_length a l) h) (rw (parts_length b m) i)
      (rw (part_at a l k h, part_at b m k i) (part_other (get_or a (8 + k) 0) (get_or b (8 + k) 0) d)))

  pub parts_agree : Agreeing a b 0 (min (min (get_or a 3 0) 16) (min (get_or b 3 0) 16)) → true ≡ either_begins a b
  parts_agree e =
      sym (either_agrees (parts_in a) (parts_in b)
      ∙ same_all (part_in 0) (parts_in a) (parts_in b) (λ k h i.
      let h' : k < min (get_or a 3 0) 16 = rw (parts_length a l) at h in
      let i' : k < min (get_or b 3 0) 16 = rw (parts_length b m) at i in
      rw (part_at a l k h', part_at b m k i')
      (part_same (get_or a (8 + k) 0) (get_or b (8 + k) 0) (e k (omega arith) (omega arith)))))

-- ---- Two locks

and_false : (o : Bool) → (o && false) ≡ false
and_false true = refl
and_false false = refl

other_root : (a b : Lock Root) → eqb a.root.symbol b.root.symbol ≡ false → hinders same_root a b ≡ false
unfolding hinders touches same_root
other_root a b e = rw (e, and_false, and_false)

-- no lock has the root's symbol
pub no_root : (held : List (Lock Root)) (b : Lock Root) → any (λ l. eqb l.root.symbol b.root.symbol) held ≡ false → met_by b held ≡ false
unfolding any
no_root [] b e = refl
no_root (a ∷ held) b e = go (eqb a.root.symbol b.root.symbol) refl e (no_root held b)
  where
    go : (x : Bool) → eqb a.root.symbol b.root.symbol ≡ x → (x || any (λ l. eqb l.root.symbol b.root.symbol) held) ≡ false
        → (any (λ l. eqb l.root.symbol b.root.symbol) held ≡ false → met_by b held ≡ false)
        → (hinders same_root a b || met_by b held) ≡ false
    go true p h rest = no h
    go false p h rest = rw (other_root a b p, rest h)

module _ (a b : List ℕ) where
  pub own : get_or a 0 0 % 4294967296 ≡ get_or b 0 0 % 4294967296 → false ≡ hinders same_root (lock_in a) (lock_in b)
  unfolding hinders lock_in
  own e = rw (eq-eqb _ _ e)

  pub reads : get_or a 1 0 ≡ 0 → get_or b 1 0 ≡ 0 → false ≡ hinders same_root (lock_in a) (lock_in b)
  unfolding hinders lock_in
  reads e f =
      both (not (eqb (lock_in a).owner (lock_in b).owner)) (eqb (get_or a 1 0) 0) (eqb (get_or b 1 0) 0) (touches same_root (lock_in a) (lock_in b))
      (eq-eqb _ _ e) (eq-eqb _ _ f)
    where
      both : (o x y t : Bool) → x ≡ true → y ≡ true → false ≡ (o && ((not x || not y) && t))
      both o x y t p q = rw (p, q) (sym (and_false o))

  pub other_symbol : (symbol_in a ≡ symbol_in b → ⊥) → false ≡ hinders same_root (lock_in a) (lock_in b)
  unfolding lock_in root_in
  other_symbol d = sym (other_root (lock_in a) (lock_in b) (ne_eqb _ _ d))

  pub other_parts : either_begins a b ≡ false → false ≡ hinders same_root (lock_in a) (lock_in b)
  unfolding hinders touches lock_in
  other_parts e = rw (e, and_false, and_false, and_false)

  -- owners differ, either is a write, the symbol is the same and so are the parts up to the shorter: the source set decides
  pub decided : (get_or a 0 0 % 4294967296 ≡ get_or b 0 0 % 4294967296 → ⊥) → (get_or a 1 0 ≡ 0 → get_or b 1 0 ≡ 0 → ⊥) → symbol_in a ≡ symbol_in b
      → either_begins a b ≡ true → equal (source_in a) (source_in b) ≡ hinders same_root (lock_in a) (lock_in b)
  unfolding hinders touches lock_in root_in same_root
  decided o w s p =
      rw (ne_eqb _ _ o, eq-eqb _ _ s, p) (go (eqb (get_or a 1 0) 0) (eqb (get_or b 1 0) 0) (equal (source_in a) (source_in b)) refl refl)
    where
      go : (x y e : Bool) → eqb (get_or a 1 0) 0 ≡ x → eqb (get_or b 1 0) 0 ≡ y → e ≡ ((not x || not y) && (e && true))
      go true true e p q = absurd (w (eqb-true _ _ p) (eqb-true _ _ q))
      go true false true p q = refl
      go true false false p q = refl
      go false y true p q = refl
      go false y false p q = refl

-- ---- All that are held

any_map : (f : Lock Root → Bool) (held : List (List ℕ)) → list_any (λ ws. f (lock_in ws)) held ≡ any f (map lock_in held)
unfolding any
any_map f [] = refl
any_map f (ws ∷ held) = ap (λ (b : Bool). f (lock_in ws) || b) (any_map f held)

module _ (words : List ℕ) (held : List (List ℕ)) (e : map lock_in held ≡ locks_in words) where
  pub any_held : (f : Lock Root → Bool) → list_any (λ ws. f (lock_in ws)) held ≡ any f (locks_in words)
  any_held f = any_map f held ∙ ap (any f) e

  pub any_symbol : (symbol : ℕ) → list_any (λ ws. eqb (symbol_in ws) symbol) held ≡ any (λ l. eqb l.root.symbol symbol) (locks_in words)
  unfolding lock_in root_in
  any_symbol symbol = any_held (λ l. eqb l.root.symbol symbol)
