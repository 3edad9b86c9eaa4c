-- What Table 3-7 accepts: exactly the encodings of scalar values, and the code points are those values. The later bytes go by induction on how
-- many are due, both ways; the lead byte goes by the character's number of bytes.
use mathlib.Core.Path.{◌≡◌, refl, ap, sym, ◌∙◌}
use mathlib.Core.Logic.{inl, inr, ◌↔◌, ⊎_elim}
use Prim.Native.Nat.{ℕ, zero, suc, ◌+◌, ◌*◌, ◌/◌, ◌%◌, ◌≤◌, ◌<◌}
use native.Mathlib.Omega.{arith}
use native.Mathlib.Decide.{dec_le}
use mathlib.Core.List.{List, [], ◌∷◌, ◌++◌}
use mathlib.Core.Bool.{Bool, true, false, cond, ◌&&◌}
use borrow.Author.Tests.{le-leb, lt-leb, leb-true}
use lib.Dec.{eqb, leb}
use lib.ListN.{length}
use Rattle.utf8.specs.Utf8.{Row, row, char, going, lead_of, table, Decoded, points, ill, onto, decode, decode_from}
use Rattle.utf8.specs.Encoding.{Scalar, Scalars, none, also, later, encode, encodings}
use Rattle.utf8.proofs.BoolLaws.{both}
use Rattle.utf8.proofs.Utf8Laws.{bounds, lead_1, lead_2, lead_3, lead_4, stepped, lead_step, later_step_lem, cut_ill}

never_ill : {cs : List ℕ} → ill ≡ points cs → ⊥
never_ill e = let z : ◌≡◌ {A = ℕ} 0 1 = cc in omega arith

-- a character in front
onto_char : (c : ℕ) (d : Decoded) (cs : List ℕ) → onto (char c) d ≡ points cs → (ds : List ℕ) × (d ≡ points ds) × (cs ≡ c ∷ ds)
onto_char c (points ds) cs e = (ds, refl, cc)
onto_char c ill cs e = absurd (never_ill e)

-- ---- The later bytes of a character: the bits above so many of them, the bytes, and a range of the first
abbrev up : ℕ → ℕ → ℕ
up zero c = c
up (suc k) c = up k c / 64

abbrev laters : ℕ → ℕ → List ℕ
laters zero c = []
laters (suc k) c = later (up k c) ∷ laters k c

abbrev InRange : ℕ → ℕ → ℕ → ℕ → Type 0
InRange zero low high c = Unit {0}
InRange (suc k) low high c = (low ≤ later (up k c)) × (later (up k c) ≤ high)

abbrev Bits : ℕ → ℕ → ℕ → ℕ → ℕ → Type 0
Bits k low high point c = (up k c ≡ point) × InRange k low high c

-- ---- From the bytes to a character in front, of which some bytes are `from` its value, and the rest of the text, at most n bytes
record Head (n : ℕ) (from : ℕ → List ℕ) (Is : ℕ → Type 0) (s cs : List ℕ) : Type 0 where
  value : ℕ
  rest : List ℕ
  others : List ℕ
  is : Is value
  bytes : s ≡ from value ++ rest
  short : length rest ≤ n
  all : cs ≡ value ∷ others
  text : decode rest ≡ points others

-- with one byte more
behind : {n m : ℕ} {from to : ℕ → List ℕ} {Is Becomes : ℕ → Type 0} {s cs : List ℕ} (b : ℕ) → n ≤ m
    → ((c : ℕ) → Is c → (to c ≡ b ∷ from c) × Becomes c) → Head n from Is s cs → Head m to Becomes (b ∷ s) cs
behind b l f h =
    let (e, i) = f h.value h.is in
    let k = h.short in
    record {
      value = h.value;
      rest = h.rest;
      others = h.others;
      is = i;
      bytes = rw e (ap (λ (q : List ℕ). b ∷ q) h.bytes);
      short = omega arith;
      all = h.all;
      text = h.text;
    }

abbrev Later : ℕ → ℕ → ℕ → Type 0
Later zero low high = Unit {0}
Later (suc k) low high = (0x80 ≤ low) × (high ≤ 0xBF)

rest_of : (k low high point : ℕ) (s cs : List ℕ) → Later k low high → stepped (going k low high point) s ≡ points cs
    → Head (length s) (laters k) (Bits k low high point) s cs
unfolding decode
rest_of zero low high point s cs l e =
    let (ds, t, a) = onto_char point (decode s) cs e in
    record { value = point; rest = s; others = ds; is = (refl, tt); bytes = refl; short = omega arith; all = a; text = t }
rest_of (suc k) low high point [] cs l e = absurd (never_ill (sym (cut_ill k low high point) ∙ e))
rest_of (suc k) low high point (b ∷ s) cs l e =
    go (leb low b && leb b high) refl (rest_of k 0x80 0xBF (point * 64 + b % 64) s cs (plain_later k))
  where
    plain_later : (k : ℕ) → Later k 0x80 0xBF
    plain_later zero = tt
    plain_later (suc k) = omega arith

    go : (t : Bool) → (leb low b && leb b high) ≡ t
        → (stepped (going k 0x80 0xBF (point * 64 + b % 64)) s ≡ points cs
        → Head (length s) (laters k) (Bits k 0x80 0xBF (point * 64 + b % 64)) s cs)
        → Head (length (b ∷ s)) (laters (suc k)) (Bits (suc k) low high point) (b ∷ s) cs
    go true f on =
        let q = both (leb low b) (leb b high) f in
        let least : low ≤ b = leb-true low b q.0 in
        let most : b ≤ high = leb-true b high q.1 in
        behind b (omega arith)
        (λ c i. let same : later (up k c) ≡ b = rw i.0 (omega arith) in (rw same, (rw i.0 (omega arith), rw same (least, most))))
        (on (sym (later_step_lem k low high point b s true f) ∙ e))
    go false f on = absurd (never_ill (sym (later_step_lem k low high point b s false f) ∙ e))

-- and back
plain : (k c : ℕ) → InRange k 0x80 0xBF c
plain zero c = tt
plain (suc k) c = omega arith

back : (k low high c : ℕ) (s : List ℕ) → InRange k low high c → stepped (going k low high (up k c)) (laters k c ++ s) ≡ stepped (char c) s
back zero low high c s r = refl
back (suc k) low high c s r =
    let x = later (up k c) in
    let v : up (suc k) c * 64 + x % 64 ≡ up k c = omega arith in
    later_step_lem k low high (up (suc k) c) x (laters k c ++ s) true (simp (le-leb low x r.0, le-leb x high r.1))
    ∙ rw v (back k 0x80 0xBF c s (plain k c))

-- ---- The encoding of a character, by its number of bytes
module _ (c : ℕ) where
  encode_1 : c ≤ 0x7F → encode c ≡ c ∷ []
  unfolding encode
  encode_1 h = simp (le-leb c 0x7F h)

  encode_2 : 0x7F < c → c ≤ 0x7FF → encode c ≡ (0xC0 + up 1 c) ∷ laters 1 c
  unfolding encode
  encode_2 g h = simp (lt-leb c 0x7F g, le-leb c 0x7FF h)

  encode_3 : 0x7FF < c → c ≤ 0xFFFF → encode c ≡ (0xE0 + up 2 c) ∷ laters 2 c
  unfolding encode
  encode_3 g h =
      let e : c / 4096 ≡ c / 64 / 64 = omega arith in
      simp (lt-leb c 0x7F (omega arith), lt-leb c 0x7FF g, le-leb c 0xFFFF h, e)

  encode_4 : 0xFFFF < c → encode c ≡ (0xF0 + up 3 c) ∷ laters 3 c
  unfolding encode
  encode_4 g =
      let e : c / 4096 ≡ c / 64 / 64 = omega arith in
      let f : c / 262144 ≡ c / 64 / 64 / 64 = omega arith in
      simp (lt-leb c 0x7F (omega arith), lt-leb c 0x7FF (omega arith), lt-leb c 0xFFFF g, e, f)

-- ---- The first character of a text
-- rows of the table: the bits of a lead byte, with the bytes after it, are those of a scalar value
abbrev Fits : Row → Type 0
Fits (row first last due low high top) =
    (b c : ℕ) → (first ≤ b) × (b ≤ last) → Bits due low high (b % top) c → (encode c ≡ b ∷ laters due c) × Scalar c

abbrev Good : List Row → Type 0
Good [] = Unit {0}
Good (row first last due low high top ∷ rows) = Later due low high × Fits (row first last due low high top) × Good rows

one : Fits (row 0x00 0x7F 0 0x00 0x00 128)
one b c f i = let v : c ≡ b = omega arith in (rw v (encode_1 b f.1), inl (omega arith))

two : Fits (row 0xC2 0xDF 1 0x80 0xBF 32)
two b c f i = let v : 0xC0 + up 1 c ≡ b = omega arith in (rw v at (encode_2 c (omega arith) (omega arith)), inl (omega arith))

module _ (b c : ℕ) where
  three : (0xE0 ≤ b) × (b ≤ 0xEF) → up 2 c ≡ b % 16 → 0x7FF < c → Scalar c → (encode c ≡ b ∷ laters 2 c) × Scalar c
  three f t g sc = let v : 0xE0 + up 2 c ≡ b = omega arith in (rw v at (encode_3 c g (omega arith)), sc)

  four : (0xF0 ≤ b) × (b ≤ 0xF4) → up 3 c ≡ b % 8 → (0xFFFF < c) × (c ≤ 0x10FFFF) → (encode c ≡ b ∷ laters 3 c) × Scalar c
  four f t g = let v : 0xF0 + up 3 c ≡ b = omega arith in (rw v at (encode_4 c g.0), inr (omega arith))

all_good : Good table
unfolding table
all_good = (
  tt,
  one,
  (
    omega arith,
    two,
    (
      omega arith,
      λ b c f i. three b c (omega arith) i.0 (omega arith) (inl (omega arith)),
      (
        omega arith,
        λ b c f i. three b c (omega arith) i.0 (omega arith) (inl (omega arith)),
        (
          omega arith,
          λ b c f i. three b c (omega arith) i.0 (omega arith) (inl (omega arith)),
          (
            omega arith,
            λ b c f i. three b c (omega arith) i.0 (omega arith) (inr (omega arith)),
            (
              omega arith,
              λ b c f i. four b c (omega arith) i.0 (omega arith),
              (
                omega arith,
                λ b c f i. four b c (omega arith) i.0 (omega arith),
                (omega arith, λ b c f i. four b c (omega arith) i.0 (omega arith), tt),
              ),
            ),
          ),
        ),
      ),
    ),
  ),
)

first : (rows : List Row) → Good rows → (b : ℕ) (s cs : List ℕ) → stepped (lead_of rows b) s ≡ points cs
    → Head (length s) encode Scalar (b ∷ s) cs
unfolding lead_of
first [] g b s cs e = absurd (never_ill e)
first (row f l due low high top ∷ rows) g b s cs e = go (leb f b && leb b l) refl e (first rows g.2 b s cs)
  where
    go : (t : Bool) → (leb f b && leb b l) ≡ t → stepped (cond t (going due low high (b % top)) (lead_of rows b)) s ≡ points cs
        → (stepped (lead_of rows b) s ≡ points cs → Head (length s) encode Scalar (b ∷ s) cs) → Head (length s) encode Scalar (b ∷ s) cs
    go true q e on =
        let p = both (leb f b) (leb b l) q in
        behind b (omega arith) (λ c i. g.1 b c (leb-true f b p.0, leb-true b l p.1) i) (rest_of due low high (b % top) s cs g.0 e)
    go false q e on = on e

step : (s cs : List ℕ) → decode s ≡ points cs
    → ((r ds : List ℕ) → length r < length s → decode r ≡ points ds → Scalars ds × (r ≡ encodings ds)) → Scalars cs × (s ≡ encodings cs)
unfolding decode decode_from encodings
step [] cs e others = let f : cs ≡ [] = cc in rw f (none, refl)
step (b ∷ s) cs e others =
    let f = first table all_good b s cs (sym (lead_step b s (lead_of table b) refl) ∙ e) in
    let k = f.short in
    let (sc, r) = others f.rest f.others (omega arith) f.text in
    rw f.all (also f.is sc, f.bytes ∙ ap (λ (q : List ℕ). encode f.value ++ q) r)

-- n is at least the number of bytes
sound : (n : ℕ) (s cs : List ℕ) → length s ≤ n → decode s ≡ points cs → Scalars cs × (s ≡ encodings cs)
sound zero s cs h e = step s cs e (λ r ds l f. absurd (omega arith))
sound (suc n) s cs h e = step s cs e (λ r ds l f. sound n r ds (omega arith) f)

-- ---- From a code point to its bytes
module _ (c : ℕ) (s : List ℕ) where
  back_on : (k low high b : ℕ) → encode c ≡ b ∷ laters k c → lead_of table b ≡ going k low high (up k c) → InRange k low high c
      → decode (encode c ++ s) ≡ onto (char c) (decode s)
  unfolding decode
  back_on k low high b en e r = rw en (lead_step b (laters k c ++ s) (going k low high (up k c)) e ∙ back k low high c s r)

  back_2 : 0x7F < c → c ≤ 0x7FF → decode (encode c ++ s) ≡ onto (char c) (decode s)
  back_2 g h =
      let b = 0xC0 + up 1 c in
      let v : b % 32 ≡ up 1 c = omega arith in
      back_on 1 0x80 0xBF b (encode_2 c g h) (rw v at (lead_2 b (omega arith) (omega arith))) (plain 1 c)

  back_3 : (low high : ℕ) → low ≡ cond (eqb (0xE0 + up 2 c) 0xE0) 0xA0 0x80 → high ≡ cond (eqb (0xE0 + up 2 c) 0xED) 0x9F 0xBF
      → 0x7FF < c → c ≤ 0xFFFF → Scalar c → decode (encode c ++ s) ≡ onto (char c) (decode s)
  back_3 low high el eh g h sc =
      let b = 0xE0 + up 2 c in
      let v : b % 16 ≡ up 2 c = omega arith in
      back_on 2 low high b (encode_3 c g h) (rw v at (lead_3 b low high el eh (omega arith) (omega arith))) (
        ⊎_elim (λ p. omega arith) (λ p. omega arith) (bounds b 0xE0 0xA0 0x80 low el),
        ⊎_elim (λ p. ⊎_elim (λ q. omega arith) (λ q. omega arith) sc) (λ p. omega arith) (bounds b 0xED 0x9F 0xBF high eh),
      )

  back_4 : (low high : ℕ) → low ≡ cond (eqb (0xF0 + up 3 c) 0xF0) 0x90 0x80 → high ≡ cond (eqb (0xF0 + up 3 c) 0xF4) 0x8F 0xBF
      → 0xFFFF < c → c ≤ 0x10FFFF → decode (encode c ++ s) ≡ onto (char c) (decode s)
  back_4 low high el eh g h =
      let b = 0xF0 + up 3 c in
      let v : b % 8 ≡ up 3 c = omega arith in
      back_on 3 low high b (encode_4 c g) (rw v at (lead_4 b low high el eh (omega arith) (omega arith))) (
        ⊎_elim (λ p. omega arith) (λ p. omega arith) (bounds b 0xF0 0x90 0x80 low el),
        ⊎_elim (λ p. omega arith) (λ p. omega arith) (bounds b 0xF4 0x8F 0xBF high eh),
      )

  -- the encoding of a scalar value in front of a text
  pub decode_encode : Scalar c → decode (encode c ++ s) ≡ onto (char c) (decode s)
  decode_encode sc = go (dec_le c 0x7F) (dec_le c 0x7FF) (dec_le c 0xFFFF)
    where
      go : Dec (c ≤ 0x7F) → Dec (c ≤ 0x7FF) → Dec (c ≤ 0xFFFF) → decode (encode c ++ s) ≡ onto (char c) (decode s)
      go (yes p) q r = back_on 0 0 0 c (encode_1 c p) (lead_1 c p) tt
      go (no p) (yes q) r = back_2 (omega arith) q
      go (no p) (no q) (yes r) = back_3 _ _ refl refl (omega arith) r sc
      go (no p) (no q) (no r) = back_4 _ _ refl refl (omega arith) (⊎_elim (λ x. omega arith) (λ x. omega arith) sc)

complete : {cs : List ℕ} → Scalars cs → decode (encodings cs) ≡ points cs
unfolding decode decode_from encodings
complete none = refl
complete (also {c} {cs} h r) = decode_encode c (encodings cs) h ∙ ap (onto (char c)) (complete r)

-- ---- The theorem: bytes have these code points exactly where the code points are scalar values and the bytes are their encodings
pub utf8_exactly : (s cs : List ℕ) → (decode s ≡ points cs) ↔ (Scalars cs × (s ≡ encodings cs))
utf8_exactly s cs = (λ e. sound (length s) s cs (omega arith) e, λ p. ap decode p.1 ∙ complete p.0)

-- and bytes are ill-formed exactly where they are the encodings of no scalar values
pub ill_exactly : (s : List ℕ) → (decode s ≡ ill) ↔ ((cs : List ℕ) → Scalars cs → s ≡ encodings cs → ⊥)
ill_exactly s = (λ e cs sc q. never_ill (sym e ∙ ap decode q ∙ complete sc), λ no_text. go no_text (decode s) refl)
  where
    go : ((cs : List ℕ) → Scalars cs → s ≡ encodings cs → ⊥) → (d : Decoded) → decode s ≡ d → d ≡ ill
    go no_text (points cs) e = let p = sound (length s) s cs (omega arith) e in absurd (no_text cs p.0 p.1)
    go no_text ill e = refl
