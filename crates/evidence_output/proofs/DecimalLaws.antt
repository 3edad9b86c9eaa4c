-- The numeral of each number is one, and the only one: by the number without its last digit.
use Prim.Native.Nat.{ℕ, zero, suc, ◌+◌, ◌-◌, ◌*◌, ◌/◌, ◌%◌, ◌^◌, ◌≤◌, ◌<◌}
use mathlib.Core.Path.{◌≡◌, refl, sym, ap, ◌∙◌}
use mathlib.Core.List.{List, [], ◌∷◌, ◌++◌, append-nil, append_assoc}
use mathlib.Core.Bool.{Bool, true, false}
use native.Mathlib.Omega.{arith}
use native.Mathlib.Nat.{pow-succ', one-le-pow}
use lib.ListN.{length, length-append}
use lib.Dec.{ltb}
use Rattle.io.specs.Digits.{last_digits, IsDigitCount}
use borrow.Author.Tests.{lt-ltb, le-ltb, ltb-true, ltb-false}
use Rattle.evidence_output.specs.Decimal.{digit, digits_below, decimal, Digits, none, also, value_after, Leads, alone, first, Numeral}

-- ---- A numeral by its last digit

-- any bound serves
bounds : (b c n : ℕ) → n < b → n < c → digits_below b n ≡ digits_below c n
unfolding digits_below
bounds zero c n h k = absurd (omega arith)
bounds (suc b) zero n h k = absurd (omega arith)
bounds (suc b) (suc c) n h k = go (ltb n 10) refl (λ l. bounds b c (n / 10) (omega arith) (omega arith))
  where
    go : (t : Bool) → ltb n 10 ≡ t → (10 ≤ n → digits_below b (n / 10) ≡ digits_below c (n / 10)) → digits_below (suc b) n ≡ digits_below (suc c) n
    go true e same = simp e
    go false e same = simp (e, same (ltb-false n 10 e))

pub decimal_small : (n : ℕ) → n < 10 → decimal n ≡ digit (n % 10) ∷ []
unfolding decimal digits_below
decimal_small n h = simp (lt-ltb n 10 h)

pub decimal_large : (n : ℕ) → 10 ≤ n → decimal n ≡ decimal (n / 10) ++ (digit (n % 10) ∷ [])
unfolding decimal digits_below
decimal_large n h = simp (le-ltb n 10 h, bounds n (suc (n / 10)) (n / 10) (omega arith) (omega arith))

-- the kit's digits, as many as a number has
digits_decimal : (k n : ℕ) → n < 10 ^ suc k → (0 < k → 10 ^ k ≤ n) → last_digits 10 (suc k) n ≡ decimal n
digits_decimal zero n h l = rw (decimal_small n h, lt-ltb (n % 10) 10 (omega arith))
digits_decimal (suc k) n h l =
    let p : 10 ^ suc (suc k) ≡ 10 * 10 ^ suc k = pow-succ' 10 (suc k) in
    let q : 10 ^ suc k ≡ 10 * 10 ^ k = pow-succ' 10 k in
    let large : 10 ^ suc k ≤ n = l (omega arith) in
    let least : 1 ≤ 10 ^ k = one-le-pow k 10 (omega arith) in
    rw (decimal_large n (omega arith), ← digits_decimal k (n / 10) (omega arith) (λ z. omega arith), lt-ltb (n % 10) 10 (omega arith))

pub fewest_decimal : (n k : ℕ) → IsDigitCount 10 1 n k → last_digits 10 k n ≡ decimal n
fewest_decimal n zero f = absurd (omega (arith, f.0))
fewest_decimal n (suc k) f =
    let e : suc k - 1 ≡ k = omega arith in
    digits_decimal k n f.1 (λ h. rw e at (f.2 (omega arith)))

-- ---- The numeral of a number

digits_append : {ds : List ℕ} {d : ℕ} → Digits ds → 0x30 ≤ d → d ≤ 0x39 → Digits (ds ++ (d ∷ []))
digits_append none l h = also l h none
digits_append (also a b ds) l h = also a b (digits_append ds l h)

value_append : (n : ℕ) (ds : List ℕ) (d : ℕ) → value_after n (ds ++ (d ∷ [])) ≡ 10 * value_after n ds + (d - 0x30)
unfolding value_after
value_append n [] d = refl
value_append n (x ∷ ds) d = value_append (10 * n + (x - 0x30)) ds d

leads_append : {ds : List ℕ} (d : ℕ) → Leads ds → 0 < value_after 0 ds → Leads (ds ++ (d ∷ []))
unfolding value_after
leads_append d (alone {d = e}) h = first {d = e} (omega arith)
leads_append d (first l) h = first l

below : (b n : ℕ) → n < b → Numeral n (decimal n)
unfolding value_after
below zero n h = absurd (omega arith)
below (suc b) n h = go (ltb n 10) refl (λ l. below b (n / 10) (omega arith))
  where
    go : (t : Bool) → ltb n 10 ≡ t → (10 ≤ n → Numeral (n / 10) (decimal (n / 10))) → Numeral n (decimal n)
    go true e front =
        let l : n < 10 = ltb-true n 10 e in
        rw (decimal_small n l) (record { digits = also {d = digit (n % 10)} (omega arith) (omega arith) none; leads = alone; value = omega arith })
    go false e front =
        let l : 10 ≤ n = ltb-false n 10 e in
        let f : Numeral (n / 10) (decimal (n / 10)) = front l in
        rw (decimal_large n l)
        (record {
          digits = digits_append f.digits (omega arith) (omega arith);
          leads = leads_append (digit (n % 10)) f.leads (omega (arith, f.value));
          value = value_append 0 (decimal (n / 10)) (digit (n % 10)) ∙ omega (arith, f.value);
        })

-- Kept (8d): a theorem that stands for itself: each number has a numeral, of which only_numeral says that it is the only one.
pub numeral : (n : ℕ) → Numeral n (decimal n)
numeral n = below (suc n) n (omega arith)

-- ---- No other digits stand for it

after_positive : (n : ℕ) {ds : List ℕ} → 0 < n → Digits ds → decimal (value_after n ds) ≡ decimal n ++ ds
unfolding value_after
after_positive n h none = sym (append-nil (decimal n))
after_positive n h (also {d} {ds} a b rest) =
    let m = 10 * n + (d - 0x30) in
    let front : m / 10 ≡ n = omega arith in
    let last : digit (m % 10) ≡ d = omega arith in
    after_positive m (omega arith) rest ∙ rw (decimal_large m (omega arith), front, last) (append_assoc (decimal n) (d ∷ []) ds)

one_digit : (d : ℕ) → 0x30 ≤ d → d ≤ 0x39 → decimal (d - 0x30) ≡ d ∷ []
one_digit d a b = let e : digit ((d - 0x30) % 10) ≡ d = omega arith in rw (decimal_small (d - 0x30) (omega arith), e)

numeral_of : {ds : List ℕ} → Digits ds → Leads ds → decimal (value_after 0 ds) ≡ ds
unfolding value_after
numeral_of (also {d} a b none) alone = let e : 10 * 0 + (d - 0x30) ≡ d - 0x30 = omega arith in rw e (one_digit d a b)
numeral_of (also {d} {ds} a b rest) (first l) =
    let e : 10 * 0 + (d - 0x30) ≡ d - 0x30 = omega arith in
    rw e (after_positive (d - 0x30) (omega arith) rest ∙ ap (λ (x : List ℕ). x ++ ds) (one_digit d a b))
numeral_of none x3 = elim x3 [ ]

pub only_numeral : {n : ℕ} {ds : List ℕ} → Numeral n ds → ds ≡ decimal n
only_numeral r = sym (numeral_of r.digits r.leads) ∙ ap decimal r.value

-- ---- Its length

pub decimal_length : (k n : ℕ) → n < 10 ^ suc k → length (decimal n) ≤ suc k
decimal_length zero n h = rw (decimal_small n h) (omega arith)
decimal_length (suc k) n h = go (ltb n 10) refl (decimal_length k (n / 10))
  where
    go : (t : Bool) → ltb n 10 ≡ t → (n / 10 < 10 ^ suc k → length (decimal (n / 10)) ≤ suc k) → length (decimal n) ≤ suc (suc k)
    go true e front = rw (decimal_small n (ltb-true n 10 e)) (omega arith)
    go false e front =
        let p : 10 ^ suc (suc k) ≡ 10 * 10 ^ suc k = pow-succ' 10 (suc k) in
        rw (decimal_large n (ltb-false n 10 e), length-append) (omega (arith, front (omega arith)))
