-- The automaton of Table 3-7: it ends between two characters just where the bytes are well-formed, by what each byte makes of the characters' parts.
use mathlib.Core.Path.{◌≡◌, refl, ap, sym, ◌∙◌}
use Prim.Native.Nat.{ℕ, suc, ◌+◌, ◌*◌, ◌%◌, ◌≤◌, ◌<◌}
use native.Mathlib.Omega.{arith}
use mathlib.Core.List.{List, [], ◌∷◌}
use mathlib.Core.Bool.{Bool, true, false, cond, ◌&&◌}
use borrow.Author.Tests.{leb-true, leb-false}
use lib.Dec.{leb}
use Rattle.utf8.specs.Utf8.{fresh, Step, char, bad, Decoded, points, ill, onto, going, lead_of, table, decode, decode_from}
use Rattle.utf8.specs.Maps.{part}
use Rattle.utf8.proofs.Utf8Laws.{lead_1, lead_none, lead_2, lead_e0, lead_plain, lead_ed, lead_f0, lead_f1, lead_f4, lead_past, lead_step}
use Rattle.utf8.proofs.Utf8Laws.{stepped, later_step_lem, cut_ill}
use Rattle.utf8_automaton.specs.WellFormed.{is_points}

-- at a character's start, or what may come after the bytes of a character so far: how many, after these lead bytes in a narrower range
pub data State : Type 0 where
  lost : State
  start : State
  one : State
  two : State
  three : State
  e0 : State
  ed : State
  f0 : State
  f4 : State

abbrev later : ℕ → ℕ → State → ℕ → State
later low high next b = cond (leb low b && leb b high) next lost

abbrev lead : ℕ → State
lead b =
    cond (leb b 0x7F) start (cond (leb b 0xC1) lost (cond (leb b 0xDF) one (cond (leb b 0xE0) e0 (cond (leb b 0xEC) two (cond (leb b 0xED) ed
    (cond (leb b 0xEF) two (cond (leb b 0xF0) f0 (cond (leb b 0xF3) three (cond (leb b 0xF4) f4 lost)))))))))

abbrev pub next : State → ℕ → State
next lost b = lost
next start b = lead b
next one b = later 0x80 0xBF start b
next two b = later 0x80 0xBF one b
next three b = later 0x80 0xBF two b
next e0 b = later 0xA0 0xBF one b
next ed b = later 0x80 0x9F one b
next f0 b = later 0x90 0xBF two b
next f4 b = later 0x80 0x8F two b

abbrev pub at_start : State → Bool
at_start start = true
at_start _ = false

abbrev pub accepts : State → List ℕ → Bool
accepts t [] = at_start t
accepts t (b ∷ s) = accepts (next t b) s

-- ---- What a state is of a text, whatever the bits of its character so far

abbrev of_state : State → ℕ → List ℕ → Decoded
of_state lost x s = ill
of_state start x s = decode_from fresh s
of_state one x s = decode_from (part 1 0x80 0xBF x) s
of_state two x s = decode_from (part 2 0x80 0xBF x) s
of_state three x s = decode_from (part 3 0x80 0xBF x) s
of_state e0 x s = decode_from (part 2 0xA0 0xBF x) s
of_state ed x s = decode_from (part 2 0x80 0x9F x) s
of_state f0 x s = decode_from (part 3 0x90 0xBF x) s
of_state f4 x s = decode_from (part 3 0x80 0x8F x) s

-- of this text the automaton tells rightly
abbrev Tells : List ℕ → Type 0
Tells s = (t : State) (x : ℕ) → is_points (of_state t x s) ≡ accepts t s

-- ---- One byte

any_char : (c : ℕ) (d : Decoded) → is_points (onto (char c) d) ≡ is_points d
any_char c (points cs) = refl
any_char c ill = refl

module _ (b : ℕ) (s : List ℕ) (tells : Tells s) where
  lost_tells : false ≡ accepts lost s
  lost_tells = tells lost 0

  -- a byte that is due, in a range
  module _ (due low high x : ℕ) (n : State) (then : (y : ℕ) → is_points (stepped (going due 0x80 0xBF y) s) ≡ accepts n s) where
    later_tells : is_points (decode_from (part (suc due) low high x) (b ∷ s)) ≡ accepts (later low high n b) s
    later_tells = go (leb low b && leb b high) refl
      where
        go : (t : Bool) → (leb low b && leb b high) ≡ t
            → is_points (decode_from (part (suc due) low high x) (b ∷ s)) ≡ accepts (cond t n lost) s
        go true e = ap is_points (later_step_lem due low high x b s true e) ∙ then (x * 64 + b % 64)
        go false e = ap is_points (later_step_lem due low high x b s false e) ∙ lost_tells

  ended : (y : ℕ) → is_points (stepped (char y) s) ≡ accepts start s
  ended y = any_char y (decode_from fresh s) ∙ tells start 0

  -- a lead byte, by the last of its row
  abbrev Leads : State → Type 0
  Leads n = is_points (decode_from fresh (b ∷ s)) ≡ accepts n s

  to : (last : ℕ) (n rest : State) → (b ≤ last → Leads n) → (last < b → Leads rest) → Leads (cond (leb b last) n rest)
  to last n rest within past = go (leb b last) refl
    where
      go : (t : Bool) → leb b last ≡ t → Leads (cond t n rest)
      go true e = within (leb-true b last e)
      go false e = past (leb-false b last e)

  by : (t : Step) (n : State) → lead_of table b ≡ t → is_points (stepped t s) ≡ accepts n s → Leads n
  by t n e h = ap is_points (lead_step b s t e) ∙ h

  lead_tells : Leads (lead b)
  lead_tells =
      to 0x7F start _ (λ h. by (char b) start (lead_1 b h) (ended b)) (λ g1.
      to 0xC1 lost _ (λ h. by bad lost (lead_none b g1 h) lost_tells) (λ g2.
      to 0xDF one _ (λ h. by _ one (lead_2 b g2 h) (tells one (b % 32))) (λ g3.
      to 0xE0 e0 _ (λ h. by _ e0 (lead_e0 b (omega arith)) (tells e0 (b % 16))) (λ g4.
      to 0xEC two _ (λ h. by _ two (lead_plain b g4 (omega arith) (λ e. omega arith)) (tells two (b % 16))) (λ g5.
      to 0xED ed _ (λ h. by _ ed (lead_ed b (omega arith)) (tells ed (b % 16))) (λ g6.
      to 0xEF two _ (λ h. by _ two (lead_plain b g4 h (λ e. omega arith)) (tells two (b % 16))) (λ g7.
      to 0xF0 f0 _ (λ h. by _ f0 (lead_f0 b (omega arith)) (tells f0 (b % 8))) (λ g8.
      to 0xF3 three _ (λ h. by _ three (lead_f1 b g8 h) (tells three (b % 8))) (λ g9.
      to 0xF4 f4 lost (λ h. by _ f4 (lead_f4 b (omega arith)) (tells f4 (b % 8))) (λ g10.
      by bad lost (lead_past b g10) lost_tells))))))))))

  step_tells : Tells (b ∷ s)
  step_tells lost x = lost_tells
  step_tells start x = lead_tells
  step_tells one x = later_tells 0 0x80 0xBF x start ended
  step_tells two x = later_tells 1 0x80 0xBF x one (tells one)
  step_tells three x = later_tells 2 0x80 0xBF x two (tells two)
  step_tells e0 x = later_tells 1 0xA0 0xBF x one (tells one)
  step_tells ed x = later_tells 1 0x80 0x9F x one (tells one)
  step_tells f0 x = later_tells 2 0x90 0xBF x two (tells two)
  step_tells f4 x = later_tells 2 0x80 0x8F x two (tells two)

-- ---- All bytes

cut : (due low high x : ℕ) → is_points (decode_from (part (suc due) low high x) []) ≡ false
cut due low high x = ap is_points (cut_ill due low high x)

none_tells : Tells []
unfolding decode_from
none_tells lost x = refl
none_tells start x = refl
none_tells one x = cut 0 0x80 0xBF x
none_tells two x = cut 1 0x80 0xBF x
none_tells three x = cut 2 0x80 0xBF x
none_tells e0 x = cut 1 0xA0 0xBF x
none_tells ed x = cut 1 0x80 0x9F x
none_tells f0 x = cut 2 0x90 0xBF x
none_tells f4 x = cut 2 0x80 0x8F x

tells : (s : List ℕ) → Tells s
tells [] = none_tells
tells (b ∷ s) = step_tells b s (tells s)

pub accepts_points : (s : List ℕ) → accepts start s ≡ is_points (decode s)
unfolding decode
accepts_points s = sym (tells s start 0)
