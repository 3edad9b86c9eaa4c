-- Laws of the scan: what one character, or a run of printable ASCII, adds to the count and the mark.
use mathlib.Core.Path.{◌≡◌, refl, ap, ap₂, sym, ◌∙◌}
use Prim.Native.Nat.{ℕ, suc, ◌+◌, ◌-◌, ◌%◌, ◌≤◌, ◌<◌, max}
use native.Mathlib.Omega.{arith}
use native.Mathlib.Nat.{add-zero, add_assoc}
use native.Mathlib.Numerals.{add-one}
use mathlib.Core.List.{List, [], ◌∷◌}
use mathlib.Core.Bool.{Bool, true, false, ◌||◌, ◌&&◌, and-true, or-false}
use borrow.Author.Tests.{le-leb, lt-leb, leb-true, leb-false}
use lib.Dec.{leb}
use lib.ListN.{length, get_or, take, drop, drop_of_length-le}
use lib.Seq.{drop-cons}
use Rattle.utf8.specs.Utf8.{fresh, points, decode, decode_from, step_of, is_control, any_control}
use Rattle.utf8.specs.Scan.{Scanned, text, not_utf8, scan_of, utf8_at, joined, printable, all_printable}
use Rattle.utf8.specs.Scan as scan
use Rattle.utf8.proofs.BoolLaws.{both}
use Rattle.utf8.specs.Maps.{Reads}
use Rattle.utf8.specs.declared.Char.{Char}
use Rattle.std.proofs.Common.{Some, None}
use Rattle.std.proofs.Math.Bool.{or_assoc, and_assoc}
use Rattle.utf8.proofs.Utf8Laws.{lead_1}
use Rattle.utf8.proofs.CharLaws.{whole, lead_char}

-- ---- Counts and marks
joined_joined : (n m : ℕ) (c d : Bool) (x : Scanned) → joined n c (joined m d x) ≡ joined (n + m) (c || d) x
joined_joined n m c d (text k e) = ap₂ text (sym (add_assoc n m k)) (sym (or_assoc c d e))
joined_joined n m c d not_utf8 = refl

printable_control : (b : ℕ) → printable b ≡ true → (b ≤ 0x7E) × (is_control b ≡ false)
unfolding printable is_control
printable_control b e =
    let p = both (leb 0x20 b) (leb b 0x7E) e in
    let l : 0x20 ≤ b = leb-true 0x20 b p.0 in
    let h : b ≤ 0x7E = leb-true b 0x7E p.1 in
    (h, simp (lt-leb b 0x1F (omega arith), lt-leb 0x7F b (omega arith)))

-- ---- Printable ASCII
printable_on : (s : List ℕ) (i : ℕ) → i < length s → printable (get_or s i 0) ≡ true → Reads s i fresh (Some (whole false (i + 1)))
printable_on s i h e = let p = printable_control (get_or s i 0) e in lead_char s i h (omega arith) (sym p.1)

-- printable ASCII is its own code points, none of them a control character
own_points : (s : List ℕ) → all_printable s ≡ true → (decode s ≡ points s) × (any_control s ≡ false)
unfolding all_printable any_control decode decode_from step_of
own_points [] e = (refl, refl)
own_points (b ∷ s) e =
    let p = both (printable b) (all_printable s) e in
    let q = printable_control b p.0 in
    let r = own_points s p.1 in
    (rw (lead_1 b (omega arith), r.0), rw (q.1, r.1))

pub all_printable_lem : (s : List ℕ) → all_printable s ≡ true → text (length s) false ≡ scan_of (decode s)
all_printable_lem s e = let p = own_points s e in sym (ap scan_of p.0 ∙ ap (text (length s)) p.1)

-- ---- Bytes above the space, modulo 256
pub above_space_lem : (b : ℕ) → b < 256 → leb ((b + 0xE0) % 256) 0x5E ≡ printable b
unfolding printable
above_space_lem b h = go (leb 0x20 b) refl (leb b 0x7E) refl
  where
    go : (p : Bool) → leb 0x20 b ≡ p → (q : Bool) → leb b 0x7E ≡ q → leb ((b + 0xE0) % 256) 0x5E ≡ (p && q)
    go true x true y = le-leb ((b + 0xE0) % 256) 0x5E (omega (arith, leb-true 0x20 b x, leb-true b 0x7E y))
    go true x false y = lt-leb ((b + 0xE0) % 256) 0x5E (omega (arith, leb-true 0x20 b x, leb-false b 0x7E y))
    go false x q y = lt-leb ((b + 0xE0) % 256) 0x5E (omega (arith, leb-false 0x20 b x))

leb_max : (k a b : ℕ) → leb (max a b) k ≡ (leb a k && leb b k)
leb_max k a b = go (leb a k) refl (leb b k) refl
  where
    go : (p : Bool) → leb a k ≡ p → (q : Bool) → leb b k ≡ q → leb (max a b) k ≡ (p && q)
    go true x true y = le-leb (max a b) k (omega (arith, leb-true a k x, leb-true b k y))
    go true x false y = lt-leb (max a b) k (omega (arith, leb-false b k y))
    go false x q y = lt-leb (max a b) k (omega (arith, leb-false a k x))

-- the bytes passed, of which none is further above the space, are printable, and so are those from a place on
abbrev pub printable_from : ℕ → List ℕ → ℕ → Bool
printable_from high s i = leb high 0x5E && all_printable (drop i s)

pub printable_turn : (s : List ℕ) (i high x : ℕ) → i < length s → leb x 0x5E ≡ printable (get_or s i 0)
    → printable_from (max high x) s (i + 1) ≡ printable_from high s i
unfolding all_printable
printable_turn s i high x h e =
    rw (add-one, drop-cons s i 0 h, leb_max 0x5E high x, e) (and_assoc (leb high 0x5E) (printable (get_or s i 0)) (all_printable (drop (suc i) s)))

pub printable_end : (s : List ℕ) (i high : ℕ) → length s ≤ i → leb high 0x5E ≡ printable_from high s i
unfolding all_printable
printable_end s i high h = rw (drop_of_length-le s {i = i} h) (sym (and-true (leb high 0x5E)))

-- ---- The scan up to a place: as many characters, with a control character among them or not, before the text from there on
pub record Passed (s : List ℕ) (i n : ℕ) (c : Bool) : Type 0 where
  pub inside : i ≤ length s
  pub few : n ≤ i
  pub told : joined n c (scan_of (decode (drop i s))) ≡ scan_of (decode s)

pub scan_turn : {s : List ℕ} {i n : ℕ} {c : Bool} {one : Char} → Passed s i n c → Reads s i fresh (Some one)
    → Passed s one.next (n + 1) (c || one.control)
unfolding decode
scan_turn {s} {i} {n} {c} {one} p r = record {
  inside = r.within.1;
  few = omega arith;
  told = sym (joined_joined n 1 c one.control (scan_of (decode (drop one.next s)))) ∙ ap (joined n c) r.told ∙ p.told;
}

pub scan_printable : {s : List ℕ} {i n : ℕ} {c : Bool} → Passed s i n c → i < length s → true ≡ printable (get_or s i 0) → Passed s (i + 1) (n + 1) c
scan_printable {s} {i} {n} {c} p h e = rw or-false at (scan_turn p (printable_on s i h (sym e)))

pub scan_ill : {s : List ℕ} {i n : ℕ} {c : Bool} → Passed s i n c → Reads s i fresh None → not_utf8 ≡ scan_of (decode s)
unfolding decode
scan_ill {n = n} {c} p r = ap (joined n c) r.told ∙ p.told

pub scan_end : {s : List ℕ} {i n : ℕ} {c : Bool} → Passed s i n c → length s ≤ i → text n c ≡ scan_of (decode s)
unfolding decode decode_from any_control
scan_end {s} {i} {n} {c} p h =
    ap₂ text (sym (add-zero n)) (sym (or-false c)) ∙ rw (drop_of_length-le s {i = i} h) at p.told

pub ruleset turns = (scan_printable, scan_turn, scan_ill, scan_end)

-- ---- Bytes at a place
module _ (s : List ℕ) (at len : ℕ) where
  pub utf8_cut : length s < at + len → scan.cut ≡ utf8_at s at len
  unfolding utf8_at
  utf8_cut h = simp (lt-leb (at + len) (length s) h)

  pub utf8_whole : at + len ≤ length s → (x : Scanned) → x ≡ scan_of (decode (take (at + len - at) (drop at s)))
      → scan.whole x (at + len) ≡ utf8_at s at len
  unfolding utf8_at
  utf8_whole h x e =
      let f : at + len - at ≡ len = omega arith in
      simp (le-leb (at + len) (length s) h) (ap (λ (y : Scanned). scan.whole y (at + len)) (rw f at e))
