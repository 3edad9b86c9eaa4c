-- Laws of texts at a place: what a reader answers, and where a text that was read, or a refusal, lies.
use mathlib.Core.Path.{◌≡◌, refl}
use Prim.Native.Nat.{ℕ, ◌+◌, ◌≤◌}
use native.Mathlib.Omega.{arith}
use mathlib.Core.List.{List}
use mathlib.Core.Bool.{Bool, true, false, cond, not, ◌&&◌}
use borrow.Author.Tests.{le-leb, leb-true}
use lib.Dec.{leb}
use lib.ListN.{length}
use Rattle.local_format.specs.Out.{Out, ok, refuse, check, ◌>>=◌, ◌>>◌}
use Rattle.local_format.specs.Field.{whole, cut, field_at, le, or_cut}
use Rattle.utf8.specs.Utf8.{Decoded, points, ill, decode, any_control}
use Rattle.local_format.specs.Text.{Span, or_ill, bytes_at, section_field, text_at, decode_at, string_at}
use Rattle.utf8.specs.Scan.{text, not_utf8, scan_of, Utf8, utf8_at}
use Rattle.utf8.specs.Scan as scan
use Rattle.local_format.proofs.OutLaws.{ok_same, bind_ok, checked_ok}
use Rattle.local_format.proofs.FieldLaws.{field_ok}
use Rattle.utf8.proofs.BoolLaws.{both}

-- ---- A reader's answer
-- a text or a string whose bytes start at a place, from what its bytes are
abbrev pub text_from : ℕ → ℕ → Utf8 → Out Span
text_from start len (scan.whole (text n c) next) = cond c (refuse 8 next) (ok (record { start = start; len = len; chars = n; next = next }))
text_from start len (scan.whole not_utf8 next) = refuse 7 next
text_from start len scan.cut = refuse 5 start

abbrev pub string_from : ℕ → ℕ → Utf8 → Out Span
string_from start len (scan.whole (text n c) next) = ok (record { start = start; len = len; chars = n; next = next })
string_from start len (scan.whole not_utf8 next) = refuse 34 start
string_from start len scan.cut = refuse 34 start

module _ (s : List ℕ) (at : ℕ) where
  pub text_no_length : cut ≡ field_at 2 s at → refuse 5 at ≡ text_at s at
  unfolding text_at
  text_no_length e = rw (← e)

  module _ (len start : ℕ) (e : whole (record { value = len; next = start }) ≡ field_at 2 s at) where
    pub text_goes_on : {done : Unit {0}} → ok done ≡ check (leb 1 len && leb len 4096) 6 start
        → (x : Utf8) → x ≡ utf8_at s start len → text_from start len x ≡ text_at s at
    unfolding text_at utf8_at field_at
    text_goes_on c x u = rw (u, ← e, ← c) (go (leb (start + len) (length s)) (decode (bytes_at s start len)))
      where
        marked : (c : Bool) (n : ℕ)
            → text_from start len (scan.whole (text n c) (start + len))
            ≡ (check (not c) 8 (start + len) >> ok (record { start = start; len = len; chars = n; next = start + len }))
        marked true n = refl
        marked false n = refl

        go : (t : Bool) (d : Decoded)
            → text_from start len (cond t (scan.whole (scan_of d) (start + len)) scan.cut)
            ≡ (or_cut 5 start (cond t (whole (record { value = le len s start; next = start + len })) cut) >>= λ body.
            or_ill 7 body.next d >>= λ cs.
            (check (not (any_control cs)) 8 body.next >> ok (record { start = start; len = len; chars = length cs; next = body.next })))
        go true (points cs) = marked (any_control cs) (length cs)
        go true ill = refl
        go false d = refl

    pub text_is : 1 ≤ len → len ≤ 4096 → (x : Utf8) → x ≡ utf8_at s start len → text_from start len x ≡ text_at s at
    text_is p q = text_goes_on (simp (le-leb 1 len p, le-leb len 4096 q))

    pub string_goes_on : {done : Unit {0}} → ok done ≡ check (leb len 1024) 33 start
        → (x : Utf8) → x ≡ utf8_at s start len → string_from start len x ≡ string_at s at
    unfolding string_at utf8_at decode_at
    string_goes_on c x u = rw (u, ← e, ← c) (go (leb (start + len) (length s)) (decode (bytes_at s start len)))
      where
        go : (t : Bool) (d : Decoded)
            → string_from start len (cond t (scan.whole (scan_of d) (start + len)) scan.cut)
            ≡ (or_ill 34 start (cond t d ill) >>= λ cs. ok (record { start = start; len = len; chars = length cs; next = start + len }))
        go true (points cs) = refl
        go true ill = refl
        go false d = refl

-- ---- Where a text that was read lies
module _ (s : List ℕ) (at : ℕ) where
  pub text_ok : {t : Span} → text_at s at ≡ ok t
      → (t.start ≡ at + 2) × (1 ≤ t.len) × (t.len ≤ 4096) × (t.next ≡ at + 2 + t.len) × (t.next ≤ length s)
  unfolding text_at
  text_ok {t} e =
      let (size, f, e1) = bind_ok (section_field 2 s at) _ e in
      let (c, e2) = checked_ok (leb 1 size.value && leb size.value 4096) 6 size.next _ e1 in
      let (body, g, e3) = bind_ok (section_field size.value s size.next) _ e2 in
      let (cs, d, e4) = bind_ok (or_ill 7 body.next (decode (bytes_at s size.next size.value))) _ e3 in
      let (m, e5) = checked_ok (not (any_control cs)) 8 body.next _ e4 in
      let x = field_ok 5 2 s at f in
      let y = field_ok 5 size.value s size.next g in
      let b = both (leb 1 size.value) (leb size.value 4096) c in
      rw (← ok_same e5) (x.0, leb-true 1 size.value b.0, leb-true size.value 4096 b.1, omega arith, omega arith)
