-- A string whose bytes are there and are UTF-8 stands there, whatever its characters.
use Prim.Native.Nat.{ℕ, ◌+◌, ◌≤◌}
use mathlib.Core.Path.{◌≡◌, refl, ap}
use mathlib.Core.Bool.{Bool, true, false, cond}
use mathlib.Core.List.{List}
use native.Mathlib.Omega.{arith}
use lib.Dec.{leb}
use lib.ListN.{length}
use borrow.Author.Tests.{le-leb, leb-true}
use Rattle.utf8.specs.Utf8.{Decoded, points, ill, decode}
use Rattle.utf8_automaton.specs.WellFormed.{is_points}
use Rattle.local_format.specs.Out.{ok}
use Rattle.local_format.specs.Field.{le, Field, whole, cut, field_at}
use Rattle.local_format.specs.Text.{bytes_at, decode_at, string_at}
use Rattle.semcode_decode.specs.Layout.{placed}

field_end : Field → ℕ
field_end (whole g) = g.next
field_end cut = 0

-- a field that is there ends within the bytes
pub field_inside : (s : List ℕ) (at : ℕ) {value next : ℕ} → whole (record { value = value; next = next }) ≡ field_at 2 s at → next ≤ length s
unfolding field_at field_end
field_inside s at {value} {next} e = go (leb (at + 2) (length s)) refl e
  where
    go : (t : Bool) → leb (at + 2) (length s) ≡ t
        → whole (record { value = value; next = next }) ≡ cond t (whole (record { value = le 2 s at; next = at + 2 })) cut → next ≤ length s
    go true h k = let l = leb-true (at + 2) (length s) h in let n : next ≡ at + 2 = ap field_end k in omega arith
    go false h k = cc

string_is : (s : List ℕ) (at start len : ℕ) → whole (record { value = len; next = start }) ≡ field_at 2 s at → len ≤ 1024
    → start + len ≤ length s → (cs : List ℕ) → decode (bytes_at s start len) ≡ points cs
    → string_at s at ≡ ok (record { start = start; len = len; chars = length cs; next = start + len })
unfolding string_at decode_at
string_is s at start len f few inside cs e = rw (← f, le-leb len 1024 few, le-leb (start + len) (length s) inside, e) refl

pub short_place : (s : List ℕ) (at start len : ℕ) → whole (record { value = len; next = start }) ≡ field_at 2 s at → len ≤ 1024
    → start + len ≤ length s → true ≡ is_points (decode (bytes_at s start len))
    → placed (string_at s at) ≡ ok (record { start = start; len = len; next = start + len })
short_place s at start len f few inside text = go (decode (bytes_at s start len)) refl text
  where
    go : (d : Decoded) → decode (bytes_at s start len) ≡ d → true ≡ is_points d
        → placed (string_at s at) ≡ ok (record { start = start; len = len; next = start + len })
    go (points cs) e t = ap placed (string_is s at start len f few inside cs e)
    go ill e t = cc
