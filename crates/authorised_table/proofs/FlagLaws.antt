-- The pass over the proofs leaves, at each proposition's number, whether it is authorised: entry by entry, proof by proof.
use Prim.Native.Nat.{ℕ, zero, suc, ◌+◌, ◌-◌, ◌≤◌, ◌<◌}
use mathlib.Core.Path.{◌≡◌, refl, sym, ap, ◌∙◌}
use mathlib.Core.Logic.{◌⊎◌, inl, inr}
use mathlib.Core.Bool.{Bool, true, false, cond, ◌&&◌, ◌||◌}
use mathlib.Core.List.{List, [], ◌∷◌, map}
use native.Mathlib.Omega.{arith}
use native.Mathlib.Nat.{add-zero, sub-zero}
use native.Mathlib.Numerals.{add-one}
use lib.Dec.{eqb}
use lib.ListN.{length, get_or, drop, set, length-map, length-set, length-append, length-replicate, get_or-replicate, drop_of_length-le}
use lib.ListN.{get_or-append, replicate}
use lib.Seq.{drop-cons, get_or-append-add, get_or-set_same, get_or-set_other, ext_get_or}
use borrow.Author.Tests.{eqb-true, eqb-false}
use Rattle.lent_table.specs.Lent.{lent}
use Rattle.derivation.specs.Section as derivation
use Rattle.derivation.specs.Section.{Proof, no_proof}
use Rattle.derivation.specs.Friendly.{operates, authorised}
use Rattle.derivation.proofs.Tests.{order}
use Rattle.evr0_pass.proofs.ViewLaws.{get_or_map_in}
use Rattle.evr0_authorised.specs.Maps.{operating, own}
use Rattle.evr0_section.specs.Section.{Section, section_of}
use Rattle.authorised_table.specs.Answer.{flags_from, flags_of, FlagsStated}
use Rattle.authorised_table.specs.Steps.{flagged, flagged_by}

-- ---- One proof
module _ (p : Proof) (m n : ℕ) (flags : List ℕ) where
  flagged_length : length (flagged p m flags) ≡ length flags
  flagged_length = go (eqb p.operation 1 && eqb m 1)
    where
      go : (b : Bool) → length (cond b (set flags p.proposition 1) flags) ≡ length flags
      go true = length-set flags p.proposition 1
      go false = refl

  flagged_at : n < length flags → get_or (flagged p m flags) n 0 ≡ cond (own p m n) 1 (get_or flags n 0)
  flagged_at h = go (eqb p.operation 1 && eqb m 1) (eqb p.proposition n) refl
    where
      go : (b e : Bool) → eqb p.proposition n ≡ e
          → get_or (cond b (set flags p.proposition 1) flags) n 0 ≡ cond (e && b) 1 (get_or flags n 0)
      go false true k = refl
      go false false k = refl
      go true true k =
          let same : p.proposition ≡ n = eqb-true p.proposition n k in
          rw same (get_or-set_same flags n 1 0 h)
      go true false k = get_or-set_other flags p.proposition n 1 0 (λ e. eqb-false p.proposition n k (sym e))

pub set_outside : (flags : List ℕ) (i n : ℕ) → length flags ≤ i → set flags i n ≡ flags
set_outside [] i n h = refl
set_outside (x ∷ xs) zero n h = absurd (omega arith)
set_outside (x ∷ xs) (suc i) n h = ap (λ (l : List ℕ). x ∷ l) (set_outside xs i n (omega arith))

-- by the tests of the code
module _ (p : Proof) (m : ℕ) (flags : List ℕ) where
  pub no_operation : operating p m ≡ false → flags ≡ flagged p m flags
  no_operation e = rw e

  module _ (e : operating p m ≡ true) (n : ℕ) (of : n ≡ p.proposition) where
    pub set_here : set flags n 1 ≡ flagged p m flags
    set_here = rw (e, ← of)

    pub none_there : length flags ≤ n → flags ≡ flagged p m flags
    none_there h = sym (set_outside flags n 1 h) ∙ set_here

-- ---- All proofs
flags_length : (ps : List Proof) (ms flags : List ℕ) → length (flagged_by ps ms flags) ≡ length flags
unfolding flagged_by
flags_length [] ms flags = refl
flags_length (p ∷ ps) [] flags = refl
flags_length (p ∷ ps) (m ∷ ms) flags = flags_length ps ms (flagged p m flags) ∙ flagged_length p m 0 flags

either : (a b : Bool) (k : ℕ) → cond b 1 (cond a 1 k) ≡ cond (a || b) 1 k
either true true k = refl
either true false k = refl
either false b k = refl

flags_at : (n : ℕ) (ps : List Proof) (ms flags : List ℕ) → n < length flags
    → get_or (flagged_by ps ms flags) n 0 ≡ cond (operates ps ms n) 1 (get_or flags n 0)
unfolding flagged_by operates
flags_at n [] ms flags h = refl
flags_at n (p ∷ ps) [] flags h = refl
flags_at n (p ∷ ps) (m ∷ ms) flags h =
    flags_at n ps ms (flagged p m flags) (omega (arith, flagged_length p m n flags))
    ∙ rw (flagged_at p m n flags h) (either (own p m n) (operates ps ms n) (get_or flags n 0))

-- ---- The loop
module _ (f : ℕ → Proof) (starts marks : List ℕ) (brought : List ℕ) where
  -- what is left of the pass makes the whole
  abbrev pub LeftFrom : ℕ → List ℕ → Type 0
  LeftFrom i flags = flagged_by (drop i (map f starts)) (drop i marks) flags ≡ flagged_by (map f starts) marks brought

  module _ (i : ℕ) (flags : List ℕ) (left : LeftFrom i flags) where
    pub none_left_lem : length starts ≤ i → flags ≡ flagged_by (map f starts) marks brought
    unfolding flagged_by
    none_left_lem h = sym (rw (drop_of_length-le (map f starts) {i = i} (omega (arith, length-map starts f)))) ∙ left

    pub goes_on : {after : List ℕ} → i < length starts → length starts ≤ length marks → after ≡ flagged (f (get_or starts i 0)) (get_or marks i 0) flags
        → LeftFrom (i + 1) after
    unfolding flagged_by
    goes_on there long e =
        rw (e, add-one i)
        (sym (rw (
          drop-cons (map f starts) i no_proof (omega (arith, length-map starts f)),
          drop-cons marks i 0 (omega arith),
          get_or_map_in f starts i 0 no_proof there,
        ))
        ∙ left)

-- ---- The table
flag_total : (s : derivation.Section) (k n : ℕ) → length (flags_from s k n) ≡ k
unfolding flags_from
flag_total s zero n = refl
flag_total s (suc k) n = ap suc (flag_total s k (suc n))

flag_from : (s : derivation.Section) (k n i : ℕ) → i < k → get_or (flags_from s k n) i 0 ≡ cond (authorised s (n + i)) 1 0
unfolding flags_from
flag_from s zero n i h = absurd (omega arith)
flag_from s (suc k) n zero h = rw (add-zero n)
flag_from s (suc k) n (suc i) h =
    let e : suc n + i ≡ n + suc i = omega arith in
    flag_from s k (suc n) i (omega arith) ∙ rw e

-- as many entries as were lent
lent_length : (n : ℕ) (xs : List ℕ) → length xs ≤ n → length (lent n xs) ≡ n
lent_length n xs h = length-append xs _ ∙ rw (length-replicate {A = ℕ} (n - length xs) 0) (omega arith)

-- zeros are a lent table with no entries
pub none : (entries : ℕ) → replicate entries 0 ≡ lent entries []
none entries = rw sub-zero

zeros_at : (n i : ℕ) → i < n → get_or (lent n []) i 0 ≡ 0
zeros_at n i h = get_or-replicate {A = ℕ} (n - 0) i 0 0 (omega arith)

-- flags over zeros: those of the first k propositions, and zeros past them, where no later one is authorised
pub flags_are : (s : derivation.Section) (ms : List ℕ) (k entries : ℕ) → k ≤ entries → ((n : ℕ) → operates s.proofs ms n ≡ authorised s n)
    → ((n : ℕ) → k ≤ n → authorised s n ≡ false) → flagged_by s.proofs ms (lent entries []) ≡ lent entries (flags_from s k 0)
flags_are s ms k entries fits same none =
    let long : length (lent entries []) ≡ entries = lent_length entries [] (omega arith) in
    let a : length (flagged_by s.proofs ms (lent entries [])) ≡ entries = flags_length s.proofs ms (lent entries []) ∙ long in
    let b : length (lent entries (flags_from s k 0)) ≡ entries = lent_length entries (flags_from s k 0) (omega (arith, flag_total s k 0)) in
    ext_get_or 0 _ _ (a ∙ sym b) λ i h.
    let inside : i < entries = omega (arith, a) in
    flags_at i s.proofs ms (lent entries []) (omega (arith, long))
    ∙ rw (same i, zeros_at entries i inside) (go i inside (order (suc i) k))
  where
    go : (i : ℕ) → i < entries → (i < k) ⊎ (k < suc i) → cond (authorised s i) 1 0 ≡ get_or (lent entries (flags_from s k 0)) i 0
    go i inside (inl l) =
        let there : i < length (flags_from s k 0) = omega (arith, flag_total s k 0) in
        let e : 0 + i ≡ i = omega arith in
        sym (get_or-append (flags_from s k 0) _ 0 i there ∙ flag_from s k 0 i l ∙ rw e)
    go i inside (inr g) =
        let xs : List ℕ = flags_from s k 0 in
        let n : length xs ≡ k = flag_total s k 0 in
        let e : i ≡ length xs + (i - length xs) = omega (arith, n) in
        let rest : i - length xs < entries - length xs = omega (arith, n) in
        rw (none i (omega arith))
        (sym (ap (λ (j : ℕ). get_or (lent entries xs) j 0) e ∙ get_or-append-add xs _ (i - length xs) 0
        ∙ get_or-replicate {A = ℕ} (entries - length xs) (i - length xs) 0 0 rest))

pub flags_stated : (d : Section) → FlagsStated d
flags_stated d =
    let s : derivation.Section = section_of d.tables in
    let k : ℕ = d.tables.head.counts.propositions in
    record {
      total = flag_total s k 0;
      each = at;
      one = λ n h. (λ e. is_one (authorised s n) (sym (at n h) ∙ e), λ e. at n h ∙ rw e);
    }
  where
    at : (n : ℕ) → n < d.tables.head.counts.propositions
        → get_or (flags_of d) n 0 ≡ cond (authorised (section_of d.tables) n) 1 0
    at n h =
        let e : 0 + n ≡ n = omega arith in
        flag_from (section_of d.tables) d.tables.head.counts.propositions 0 n h ∙ rw e

    is_one : (b : Bool) → ◌≡◌ {A = ℕ} (cond b 1 0) 1 → b ≡ true
    is_one true e = refl
    is_one false e = absurd (omega arith)
