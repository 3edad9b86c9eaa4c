-- What an accepted head, function and file say: where each lies, and that the functions of a file stand one after the other, up to its end.
use mathlib.Core.Path.{◌≡◌, refl, ap}
use Prim.Native.Nat.{ℕ, zero, suc, ◌+◌, ◌-◌, ◌≤◌, ◌<◌}
use native.Mathlib.Omega.{arith}
use mathlib.Core.List.{List, [], ◌∷◌}
use mathlib.Core.Bool.{Bool, true, false, cond, ◌&&◌}
use lib.ListN.{length}
use lib.Dec.{leb}
use borrow.Author.Tests.{leb-true, leb-false, le-leb}
use Rattle.local_format.specs.Out.{Out, ok, refuse, ◌>>=◌, ◌>>◌}
use Rattle.local_format.specs.Field.{field}
use Rattle.local_format.specs.Text.{Span, bytes_at, decode_at, or_ill}
use Rattle.local_format.proofs.OutLaws.{never, ok_same, bind_ok, checked_ok}
use Rattle.local_format.proofs.FieldLaws.{field_ok}
use Rattle.semcode_records.specs.Records.{Taken, taken, Entry}
use Rattle.semcode_decode.specs.Block.{Rooms, room, decode_block}
use Rattle.semcode_functions.specs.Function.{Head, Function, name_at, head_at, function_at, functions_from}

pub head_ok : (s : List ℕ) (at : ℕ) (h : Taken Head) → head_at s at ≡ ok h
    → (at ≤ h.value.code) × (h.next ≡ h.value.code + h.value.size) × (h.next ≤ length s)
unfolding head_at name_at
head_ok s at h e =
    let (name, n, e1) = bind_ok (name_at s at) _ e in
    let (len, l, n1) = bind_ok (field 63 2 s at) _ n in
    let (a, n2) = checked_ok (leb 1 len.value && leb len.value 1024) 64 len.next _ n1 in
    let (cs, b, n3) = bind_ok (or_ill 64 len.next (decode_at s len.next len.value)) _ n2 in
    let (size, z, e2) = bind_ok (field 63 4 s name.next) _ e1 in
    let (d, e3) = checked_ok (leb (size.next + size.value) (length s)) 63 size.next _ e2 in
    let f = field_ok 63 2 s at l in
    let g = field_ok 63 4 s name.next z in
    let i : size.next + size.value ≤ length s = leb-true _ _ d in
    let m : len.next + len.value ≡ name.next = ap (λ (t : Span). t.next) (ok_same n3) in
    rw (← ok_same e3) (omega arith, refl, i)

module _ (revision : ℕ) (rooms : Rooms) (s : List ℕ) where
  -- a function's head is read, and its block
  pub function_ok : (at : ℕ) (t : Taken Function) → function_at revision rooms s at ≡ ok t
      → (head_at s at ≡ taken t.value.head t.next)
      × (decode_block t.value.head.code revision rooms (bytes_at s t.value.head.code t.value.head.size) ≡ ok t.value.block)
  unfolding function_at
  function_ok at t e =
      let (h, a, e1) = bind_ok (head_at s at) _ e in
      let (b, d, e2) = bind_ok (decode_block h.value.code revision rooms (bytes_at s h.value.code h.value.size)) _ e1 in
      rw (← ok_same e2) (a, d)

  -- functions one after the other, from a place to the end
  pub data Row : ℕ → List (Entry Function) → Type 0 where
    none : {at : ℕ} → length s ≤ at → Row at []
    one : {at : ℕ} {t : Taken Function} {fs : List (Entry Function)} → at < length s → function_at revision rooms s at ≡ ok t → Row t.next fs
        → Row at (record { start = at; value = t.value; next = t.next } ∷ fs)

  row_none : {at : ℕ} {fs : List (Entry Function)} → length s ≤ at → ◌≡◌ {A = Out (List (Entry Function))} (ok []) (ok fs) → Row at fs
  row_none l e = rw (← ok_same e) (none l)

  pub row : (left free at : ℕ) (fs : List (Entry Function)) → functions_from revision rooms s left free at ≡ ok fs → Row at fs
  unfolding functions_from
  row zero free at fs e = go (leb (length s) at) refl e
    where
      go : (b : Bool) → leb (length s) at ≡ b → cond b (ok []) (refuse 65 at) ≡ ok fs → Row at fs
      go true h k = row_none (leb-true (length s) at h) k
      go false h k = absurd (never k)
  row (suc left) free at fs e = go (leb (length s) at) refl e (row left)
    where
      go : (b : Bool) → leb (length s) at ≡ b
          → cond b (ok [])
          (room 1 free at
          >> (function_at revision rooms s at >>= λ first.
          functions_from revision rooms s left (free - 1) first.next >>= λ rest.
          ok (record { start = at; value = first.value; next = first.next } ∷ rest)))
          ≡ ok fs
          → ((free at : ℕ) (fs : List (Entry Function)) → functions_from revision rooms s left free at ≡ ok fs → Row at fs) → Row at fs
      go true h k rest = row_none (leb-true (length s) at h) k
      go false h k rest =
          let (r, k1) = checked_ok (leb 1 free) 61 at _ k in
          let (t, f, k2) = bind_ok (function_at revision rooms s at) _ k1 in
          let (gs, g, k3) = bind_ok (functions_from revision rooms s left (free - 1) t.next) _ k2 in
          rw (← ok_same k3) (one (leb-false (length s) at h) f (rest (free - 1) t.next gs g))

  pub none_left_lem : (left free at : ℕ) → length s ≤ at → functions_from revision rooms s left free at ≡ ok []
  unfolding functions_from
  none_left_lem zero free at h = rw (le-leb (length s) at h)
  none_left_lem (suc left) free at h = rw (le-leb (length s) at h)
