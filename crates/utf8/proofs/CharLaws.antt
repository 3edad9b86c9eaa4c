-- Laws of one character at a place, byte after byte: what each byte that is read, or missing, makes of the text from there on.
use mathlib.Core.Path.{◌≡◌, refl, ap, sym, ◌∙◌}
use Prim.Native.Nat.{ℕ, suc, ◌+◌, ◌*◌, ◌%◌, ◌≤◌, ◌<◌}
use native.Mathlib.Omega.{arith}
use native.Mathlib.Numerals.{one-add}
use mathlib.Core.List.{List}
use mathlib.Core.Bool.{Bool, true, false, ◌||◌, ◌&&◌}
use borrow.Author.Tests.{le-leb, lt-leb, leb-true, ltb-true}
use lib.Dec.{leb, ltb}
use lib.ListN.{length, get_or, drop}
use Rattle.utf8.specs.Utf8.{Part, char, more, bad, lead_of, table, fresh, Decoded, points, ill, onto, decode, decode_from, is_control, any_control}
use Rattle.utf8.specs.Scan.{text, scan_of, joined, later_at}
use Rattle.utf8.specs.Maps.{part, Within, Reads}
use Rattle.utf8.specs.declared.Char.{Char}
use Rattle.std.proofs.Common.{Option, Some, None}
use Rattle.std.specs.Bool.{then_some}
use Rattle.utf8.proofs.BoolLaws.{both}
use Rattle.utf8.proofs.Utf8Laws.{lead_1, lead_none, lead_past, stepped, lead_on, later_on}

scan_char : (c : ℕ) (d : Decoded) → scan_of (onto (char c) d) ≡ joined 1 (is_control c) (scan_of d)
unfolding any_control
scan_char c (points cs) = ap (λ (n : ℕ). text n (is_control c || any_control cs)) (sym (one-add (length cs)))
scan_char c ill = refl

pub no_control : (c : ℕ) → 0x9F < c → false ≡ is_control c
unfolding is_control
no_control c h = simp (lt-leb c 0x1F (omega arith), le-leb 0x7F c (omega arith), lt-leb c 0x9F h)

-- a character that was read
abbrev pub whole : Bool → ℕ → Char
whole c n = record { control = c; next = n }

-- a byte that stands at a place
later_there : (low high : ℕ) (s : List ℕ) (k : ℕ) → later_at low high s k ≡ true
    → (k < length s) × (low ≤ get_or s k 0) × (get_or s k 0 ≤ high)
unfolding later_at
later_there low high s k e =
    let p = both (ltb k (length s)) (leb low (get_or s k 0) && leb (get_or s k 0) high) e in
    let q = both (leb low (get_or s k 0)) (leb (get_or s k 0) high) p.1 in
    (ltb-true k (length s) p.0, leb-true low (get_or s k 0) q.0, leb-true (get_or s k 0) high q.1)

-- the place after it, or none
stands : (t : Bool) (n m : ℕ) → Some n ≡ then_some t m → (t ≡ true) × (m ≡ n)
stands true n m e = (refl, cc)
stands false n m e = (cc, cc)

lacks : (t : Bool) (m : ℕ) → None ≡ then_some t m → t ≡ false
lacks true m e = cc
lacks false m e = refl

pub later_stands : (low high : ℕ) (s : List ℕ) (k : ℕ) {n : ℕ} → Some n ≡ then_some (later_at low high s k) (k + 1)
    → (k < length s) × (low ≤ get_or s k 0) × (get_or s k 0 ≤ high)
later_stands low high s k {n} e = later_there low high s k (stands (later_at low high s k) n (k + 1) e).0

module _ (s : List ℕ) (i : ℕ) where
  -- the byte ends a character, or is one of several
  ends : (p : Part) (v : ℕ) {c : Bool} {n : ℕ} → i < length s → i + 1 ≡ n → c ≡ is_control v
      → decode_from p (drop i s) ≡ stepped (char v) (drop (i + 1) s) → Reads s i p (Some (whole c n))
  unfolding decode
  ends p v h e q d = rw (← e, q) (record {
    told = sym (ap scan_of d ∙ scan_char v (decode (drop (i + 1) s)));
    within = omega arith;
  })

  goes_on : {p q : Part} {n : ℕ} {r : Option Char} → i + 1 ≡ n → decode_from p (drop i s) ≡ decode_from q (drop (i + 1) s) → Reads s n q r → Reads s i p r
  goes_on {p} {q} {n} {r} e d t =
      record { told = t.told ∙ rw (← e) (sym (ap scan_of d)); within = wider r t.within }
    where
      wider : (r : Option Char) → Within n s r → Within i s r
      wider (Some c) w = (omega arith, w.1)
      wider None w = tt

  -- ---- The lead byte
  module _ (here : i < length s) where
    pub lead_char : get_or s i 0 ≤ 0x7F → {c : Bool} → c ≡ is_control (get_or s i 0) → Reads s i fresh (Some (whole c (i + 1)))
    lead_char l q = ends fresh (get_or s i 0) here refl q (lead_on s i here (char (get_or s i 0)) (lead_1 (get_or s i 0) l))

    lead_ill : lead_of table (get_or s i 0) ≡ bad → Reads s i fresh None
    lead_ill e = record { told = sym (ap scan_of (lead_on s i here bad e)); within = tt }

    pub lead_none_ill : 0x7F < get_or s i 0 → get_or s i 0 ≤ 0xC1 → Reads s i fresh None
    lead_none_ill g h = lead_ill (lead_none (get_or s i 0) g h)

    pub lead_past_ill : 0xF4 < get_or s i 0 → Reads s i fresh None
    lead_past_ill g = lead_ill (lead_past (get_or s i 0) g)

    pub lead_more : {p : Part} {r : Option Char} → lead_of table (get_or s i 0) ≡ more p → Reads s (i + 1) p r → Reads s i fresh r
    lead_more {p} e t = goes_on refl (lead_on s i here (more p) e) t

  -- ---- A later byte
  module _ (low high point : ℕ) where
    pub later_ill : {due : ℕ} → None ≡ then_some (later_at low high s i) (i + 1) → Reads s i (part (suc due) low high point) None
    later_ill {due} f =
        record { told = sym (ap scan_of (later_on due low high point s i false (lacks (later_at low high s i) (i + 1) f))); within = tt }

    module _ {n : ℕ} (e : Some n ≡ then_some (later_at low high s i) (i + 1)) where
      pub later_char : {c : Bool} → c ≡ is_control (point * 64 + get_or s i 0 % 64) → Reads s i (part 1 low high point) (Some (whole c n))
      later_char q =
          let t = stands (later_at low high s i) n (i + 1) e in
          ends (part 1 low high point) (point * 64 + get_or s i 0 % 64) (later_stands low high s i e).0 t.1 q (later_on 0 low high point s i true t.0)

      pub later_more : {due : ℕ} {r : Option Char} → Reads s n (part (suc due) 0x80 0xBF (point * 64 + get_or s i 0 % 64)) r
          → Reads s i (part (suc (suc due)) low high point) r
      later_more {due} r =
          let t = stands (later_at low high s i) n (i + 1) e in
          goes_on t.1 (later_on (suc due) low high point s i true t.0) r

-- the leads with no second byte, and that a second byte stands
pub ruleset leads = (lead_char, lead_none_ill, lead_past_ill, later_stands)
