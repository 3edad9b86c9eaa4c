-- Bytes written after other bytes are the bytes of both written at once, wherever the list ends.
use Prim.Native.Nat.{ℕ, zero, suc, ◌+◌, ◌-◌, ◌≤◌, ◌<◌, min}
use mathlib.Core.Path.{◌≡◌, refl, sym, ap, ◌∙◌}
use mathlib.Core.List.{List, [], ◌∷◌, ◌++◌, append_assoc, append-nil}
use native.Mathlib.Omega.{arith}
use native.Mathlib.Nat.{add-zero, add-suc, suc-add, lt_of_not-le}
use native.Mathlib.Decide.{dec_le}
use lib.ListN.{length, set, take, drop, length-set, length-append, length-drop, drop_of_length-le}
use lib.Seq.{sets, length-sets, sets-eq, set_out, take_all, drop-drop, take-append_seam}
use borrow.Rule.Slice.PartMut.{put_mid}
use Rattle.local_format.specs.Out.{held}
use Rattle.byte_output.specs.Written.{Written}
use Rattle.byte_output.specs.Maps.{Same, Writes}
use Rattle.byte_output.specs.declared.Output.{Output}

sets_append : (s : List ℕ) (at : ℕ) (xs ys : List ℕ) → sets s at (xs ++ ys) ≡ sets (sets s at xs) (at + length xs) ys
sets_append s at [] ys = rw add-zero
sets_append s at (x ∷ xs) ys = rw (add-suc at (length xs), ← suc-add at (length xs)) (sets_append _ (suc at) xs ys)

-- written into the part from a place on, where they fit
-- Kept (8a): a document names it; bytes are put into the middle of a list.
pub sets_part : (s : List ℕ) (at : ℕ) (xs : List ℕ) {part : List ℕ} → at + length xs ≤ length s → part ≡ sets (take (length s - at) (drop at s)) 0 xs
    → take at s ++ (part ++ drop (length s - at) (drop at s)) ≡ sets s at xs
sets_part s at xs h e =
    let l = length-drop at s in
    let a : take (length s - at) (drop at s) ≡ drop at s = take_all (length s - at) (drop at s) (omega arith) in
    let b : drop (length s - at) (drop at s) ≡ [] = drop_of_length-le (drop at s) {i = length s - at} (omega arith) in
    let z : 0 + length xs ≡ length xs = omega arith in
    rw (e, a, b, append-nil, sets-eq xs (drop at s) 0 (omega arith), sets-eq xs s at h, z, drop-drop (length xs) at s, append_assoc, append_assoc)

-- written over a part of as many, where they fit
pub sets_mid : (s : List ℕ) (at k : ℕ) (xs : List ℕ) {part : List ℕ} → at + length xs ≤ length s → k ≡ length xs → part ≡ xs
    → put_mid at k s part ≡ sets s at xs
sets_mid s at k xs h e p = rw (p, e, sets-eq xs s at h, drop-drop (length xs) at s, append_assoc)

sets_past : (s : List ℕ) (at : ℕ) (ys : List ℕ) → length s ≤ at → sets s at ys ≡ s
sets_past s at [] h = refl
sets_past s at (y ∷ ys) h = rw (set_out s at y h) (sets_past s (suc at) ys (omega arith))

-- what fits is all that is written
sets_cut : (s : List ℕ) (at k : ℕ) (xs : List ℕ) → k ≡ min (length xs) (length s - at) → sets s at (take k xs) ≡ sets s at xs
sets_cut s at zero [] e = refl
sets_cut s at (suc k) [] e = refl
sets_cut s at zero (x ∷ xs) e = sym (sets_past s at (x ∷ xs) (omega arith))
sets_cut s at (suc k) (x ∷ xs) e = sets_cut (set s at x) (suc at) k xs (omega (arith, length-set s at x))

pub sets_fit : (s : List ℕ) (at start fit : ℕ) (xs : List ℕ) → start ≡ min at (length s) → fit ≡ min (length xs) (length s - start)
    → sets s start (take fit xs) ≡ sets s at xs
sets_fit s at start fit xs e f =
    elim (dec_le at (length s)) [
      | yes h ↦ (let a : start ≡ at = omega arith in rw a (sets_cut s at fit xs (omega arith)))
      | no h ↦ (let z : fit ≡ 0 = omega (arith, lt_of_not-le h) in rw z (sym (sets_past s at xs (omega (arith, lt_of_not-le h)))))
    ]

pub written_none : (s : List ℕ) (at : ℕ) → length s ≤ 18446744073709551615 → at ≤ 18446744073709551615 → Written s at [] s at
unfolding held
written_none s at h k = record { holds = refl; place = omega arith; fits = h }

pub written_length : {s t : List ℕ} {at n : ℕ} {xs : List ℕ} → Written s at xs t n → length t ≡ length s
written_length {s} {t} {at} {n} {xs} w = ap length w.holds ∙ length-sets s at xs

-- a place that is held is past every list's end
sets_held : (s : List ℕ) (at n : ℕ) (ys : List ℕ) → length s ≤ 18446744073709551615 → sets s (held at n) ys ≡ sets s (at + n) ys
unfolding held
sets_held s at n ys h =
    elim (dec_le (at + n) 18446744073709551615) [
      | yes k ↦ (let e : min (at + n) 18446744073709551615 ≡ at + n = omega arith in ap (λ (p : ℕ). sets s p ys) e)
      | no k ↦ sets_past s (min (at + n) 18446744073709551615) ys (omega (arith, lt_of_not-le k))
          ∙ sym (sets_past s (at + n) ys (omega (arith, lt_of_not-le k)))
    ]

pub written_append : {s t u : List ℕ} {at n m : ℕ} {xs ys : List ℕ} → Written s at xs t n → Written t n ys u m → Written s at (xs ++ ys) u m
unfolding held
written_append {s} {t} {u} {at} {n} {m} {xs} {ys} v w =
    record {
      holds = w.holds ∙ ap (λ (p : ℕ). sets t p ys) v.place ∙ sets_held t at (length xs) ys w.fits
          ∙ ap (λ (l : List ℕ). sets l (at + length xs) ys) v.holds ∙ sym (sets_append s at xs ys);
      place = rw length-append (omega (arith, v.place, w.place));
      fits = v.fits;
    }

-- written whole where the place after all of it is within the list
module _ {s t : List ℕ} {n : ℕ} {xs : List ℕ} (w : Written s 0 xs t n) where
  pub written_whole : n ≤ length s → length s < 18446744073709551615 → take n t ≡ xs
  unfolding held
  written_whole h k =
      let e : n ≡ length xs = omega (arith, w.place) in
      let l : 0 + length xs ≤ length s = omega arith in
      rw (e, w.holds, sets-eq xs s 0 l) (take-append_seam xs _)

-- ---- The same of an output
pub same_none : (o : Output) → Same o o
same_none o = record { name = refl; long = refl }

pub same_more : {a b c : Output} → Same a b → Same b c → Same a c
same_more s t = record { name = t.name ∙ s.name; long = t.long ∙ s.long }

pub writes_now : {a b : Output} {xs : List ℕ} → b.bytes.ghost_name ≡ a.bytes.ghost_name → Written a.bytes.now a.next xs b.bytes.now b.next → Writes a xs b
writes_now e w = record { same = record { name = e; long = written_length w }; written = w }

pub writes_none : (o : Output) → length o.bytes.now ≤ 18446744073709551615 → o.next ≤ 18446744073709551615 → Writes o [] o
writes_none o h k = record { same = same_none o; written = written_none o.bytes.now o.next h k }

pub writes_append : {a b c : Output} {xs ys : List ℕ} → Writes a xs b → Writes b ys c → Writes a (xs ++ ys) c
writes_append v w = record { same = same_more v.same w.same; written = written_append v.written w.written }
