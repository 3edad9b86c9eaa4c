-- A text's characters are the scalar values whose encodings are its bytes: one law over what its bytes decode to, for both texts.
use Prim.Native.Nat.{ℕ, ◌+◌}
use mathlib.Core.Path.{◌≡◌, refl, ap}
use mathlib.Core.List.{List}
use mathlib.Core.Bool.{Bool, true, false, cond, not, ◌&&◌}
use lib.ListN.{length}
use lib.Dec.{leb}
use native.Mathlib.Omega.{arith}
use Rattle.utf8.specs.Utf8.{Decoded, points, ill, decode, any_control}
use Rattle.utf8.proofs.Encoding.{utf8_exactly}
use Rattle.local_format.specs.Out.{ok}
use Rattle.local_format.specs.Field.{field}
use Rattle.local_format.specs.Text.{Span, or_ill, bytes_at, section_field, text_at, decode_at, string_at}
use Rattle.local_format.specs.Characters.{Characters}
use Rattle.local_format.proofs.OutLaws.{never, ok_same, bind_ok, checked_ok}

or_ill_lem : (n at : ℕ) (d : Decoded) {cs : List ℕ} → or_ill n at d ≡ ok cs → d ≡ points cs
or_ill_lem n at (points xs) e = ap points (ok_same e)
or_ill_lem n at ill e = absurd (never e)

counted : (s : List ℕ) (start len next : ℕ) (cs : List ℕ) → decode (bytes_at s start len) ≡ points cs
    → Characters s (record { start = start; len = len; chars = length cs; next = next })
counted s start len next cs e =
    let p = (utf8_exactly (bytes_at s start len) cs).0 e in
    record { points = cs; scalars = p.0; bytes = p.1; number = refl }

points_not_ill : {cs : List ℕ} → ill ≡ points cs → ⊥
points_not_ill e = let z : ◌≡◌ {A = ℕ} 0 1 = cc in omega arith

there : (b : Bool) (d : Decoded) {cs : List ℕ} → cond b d ill ≡ points cs → d ≡ points cs
there true d e = e
there false d e = absurd (points_not_ill e)

module _ (s : List ℕ) (at : ℕ) (t : Span) where
  pub text_characters : text_at s at ≡ ok t → Characters s t
  unfolding text_at
  text_characters e =
      let (size, f, e1) = bind_ok (section_field 2 s at) _ e in
      let (c, e2) = checked_ok (leb 1 size.value && leb size.value 4096) 6 size.next _ e1 in
      let (body, g, e3) = bind_ok (section_field size.value s size.next) _ e2 in
      let (cs, d, e4) = bind_ok (or_ill 7 body.next (decode (bytes_at s size.next size.value))) _ e3 in
      let (m, e5) = checked_ok (not (any_control cs)) 8 body.next _ e4 in
      rw (← ok_same e5) (counted s size.next size.value body.next cs (or_ill_lem 7 body.next _ d))

  pub string_characters : string_at s at ≡ ok t → Characters s t
  unfolding string_at decode_at
  string_characters e =
      let (size, f, e1) = bind_ok (field 32 2 s at) _ e in
      let (c, e2) = checked_ok (leb size.value 1024) 33 size.next _ e1 in
      let (cs, d, e3) = bind_ok (or_ill 34 size.next (decode_at s size.next size.value)) _ e2 in
      rw (← ok_same e3)
      (counted s size.next size.value (size.next + size.value) cs
      (there (leb (size.next + size.value) (length s)) _ (or_ill_lem 34 size.next _ d)))
