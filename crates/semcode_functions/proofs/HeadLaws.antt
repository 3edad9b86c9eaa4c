-- A head at a place: what a reader answers of the name and of the head.
use mathlib.Core.Path.{◌≡◌, refl, ap, sym}
use Prim.Native.Nat.{ℕ, ◌+◌, ◌-◌, ◌≤◌}
use native.Mathlib.Omega.{arith}
use mathlib.Core.List.{List}
use mathlib.Core.Bool.{Bool, true, false, cond, ◌&&◌}
use borrow.Author.Tests.{le-leb, lt-leb, leb-true, leb-false}
use lib.Dec.{leb}
use lib.ListN.{length}
use Rattle.local_format.specs.Out.{Out, ok, refuse, check, ◌>>=◌}
use Rattle.local_format.specs.Field.{whole, field_at, or_cut}
use Rattle.local_format.specs.Text.{Span, or_ill, bytes_at, decode_at}
use Rattle.local_format.proofs.FieldLaws.{field_ok}
use Rattle.utf8.specs.Utf8.{Decoded, points, ill, decode}
use Rattle.utf8.specs.Scan.{text, not_utf8, scan_of, Utf8, utf8_at}
use Rattle.utf8.specs.Scan as scan
use Rattle.semcode_records.specs.Records.{taken}
use Rattle.semcode_functions.specs.Function.{name_at, head_at}

-- ---- The name
-- from what its bytes are
abbrev pub name_from : ℕ → ℕ → Utf8 → Out Span
name_from start len (scan.whole (text n c) next) = ok (record { start = start; len = len; chars = n; next = next })
name_from start len (scan.whole not_utf8 next) = refuse 64 start
name_from start len scan.cut = refuse 64 start

module _ (s : List ℕ) (at len start : ℕ) (e : whole (record { value = len; next = start }) ≡ field_at 2 s at) where
  pub name_goes_on : {done : Unit {0}} → ok done ≡ check (leb 1 len && leb len 1024) 64 start → (x : Utf8) → x ≡ utf8_at s start len
      → name_from start len x ≡ name_at s at
  unfolding name_at utf8_at decode_at
  name_goes_on c x u = rw (u, ← e, ← c) (go (leb (start + len) (length s)) (decode (bytes_at s start len)))
    where
      go : (t : Bool) (d : Decoded)
          → name_from start len (cond t (scan.whole (scan_of d) (start + len)) scan.cut)
          ≡ (or_ill 64 start (cond t d ill) >>= λ cs. ok (record { start = start; len = len; chars = length cs; next = start + len }))
      go true (points cs) = refl
      go true ill = refl
      go false d = refl

-- ---- The head
module _ (s : List ℕ) (at : ℕ) (name : Span) (size code : ℕ) (f : whole (record { value = size; next = code }) ≡ field_at 4 s name.next) where
  pub size_within : code ≤ length s
  size_within =
      let w = field_ok 63 4 s name.next (ap (or_cut 63 name.next) (sym f)) in
      omega arith

  -- the block's end is within the bytes where its size is no more than what is left
  fits : leb (code + size) (length s) ≡ leb size (length s - code)
  fits = let w = size_within in go (leb size (length s - code)) refl
    where
      go : (b : Bool) → leb size (length s - code) ≡ b → leb (code + size) (length s) ≡ b
      go true e = let l = leb-true size (length s - code) e in let w = size_within in le-leb (code + size) (length s) (omega arith)
      go false e = let l = leb-false size (length s - code) e in let w = size_within in lt-leb (code + size) (length s) (omega arith)

  pub head_goes_on : ok name ≡ name_at s at → {done : Unit {0}} → ok done ≡ check (leb size (length s - code)) 63 code
      → taken (record { name = name; code = code; size = size }) (code + size) ≡ head_at s at
  unfolding head_at
  head_goes_on e c = rw (← e, ← f, fits, ← c)
