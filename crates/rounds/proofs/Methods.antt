-- Both methods of depth, by the last pass and by rounds, answer the heights where all are at most 256, and else 27: so they are equal.
use Prim.Native.Nat.{ℕ, zero, suc, ◌+◌, ◌*◌, ◌≤◌, ◌<◌}
use mathlib.Core.Path.{◌≡◌, refl, sym, ap, ◌∙◌, subst}
use mathlib.Core.Logic.{◌⊎◌, inl, inr, ⊎_elim}
use mathlib.Core.Bool.{Bool, true, false, not, ◌&&◌}
use mathlib.Core.List.{List, [], ◌∷◌, ◌++◌}
use native.Mathlib.Omega.{arith}
use lib.ListN.{length, get_or, length-append, get_or-append}
use lib.Seq.{get_or_at, ext_get_or}
use lib.Dec.{leb, eqb}
use borrow.Author.Tests.{eqb-true, eqb-false, le-leb, lt-leb, not-true}
use Rattle.local_format.specs.Refusal.{Refusal, refusal}
use Rattle.local_format.specs.Out.{Out, ok, refused, refuse, check, ◌>>◌}
use Rattle.derivation.specs.Section.{Section, Checked, proof_at, proof_total}
use Rattle.derivation.specs.Pass.{depth_of, depths_from, depths}
use Rattle.derivation.specs.InOrder.{in_order}
use Rattle.rounds.specs.Rounds.{after_rounds, none_left, kin, rounds}
use Rattle.rounds.specs.Height.{RefusedWith, greatest, height_of, heights, height, left_aside}
use Rattle.local_format.proofs.OutLaws.{never, ok_same, on_ok, on_refused}
use Rattle.derivation.proofs.Tests.{both, order}
use Rattle.local_format.proofs.Each.{Refuses, answers, then, on_check, each, each_refused}
use Rattle.rounds.proofs.Kin.{apart, passed, kin_late, kin_within}
use Rattle.rounds.proofs.Aside.{depth_aside, depth_aside_lem, total_aside, kept_aside, kin_aside}
use Rattle.rounds.proofs.Rounds.{heights_made, after_length, round_is_depth, unmarked_exactly, capped_in, capped_out}

-- the heights where all are at most 256, and else 27
data Limited (hs : List ℕ) : Out (List ℕ) → Type 0 where
  shallow : ((j : ℕ) → j < length hs → get_or hs j 0 ≤ 256) → Limited hs (ok hs)
  deep : (j : ℕ) → j < length hs → 256 < get_or hs j 0 → Limited hs (refuse 27 0)

limited_one : {hs : List ℕ} {x y : Out (List ℕ)} → Limited hs x → Limited hs y → x ≡ y
limited_one (shallow f) (shallow g) = refl
limited_one (shallow f) (deep j l h) = absurd (omega (arith, f j l))
limited_one (deep j l h) (shallow g) = absurd (omega (arith, g j l))
limited_one (deep j l h) (deep k m g) = refl

-- ---- Numbers made in order: how many, and what was there stays

in_order_length : (f : ℕ → List ℕ → ℕ) (n i : ℕ) (xs : List ℕ) → length (in_order f n i xs) ≡ length xs + n
unfolding in_order
in_order_length f zero i xs = omega arith
in_order_length f (suc n) i xs = omega (arith, in_order_length f n (suc i) (xs ++ (f i xs ∷ [])), length-append xs (f i xs ∷ []))

in_order_before : (f : ℕ → List ℕ → ℕ) (n i : ℕ) (xs : List ℕ) (j : ℕ) → j < length xs → get_or (in_order f n i xs) j 0 ≡ get_or xs j 0
unfolding in_order
in_order_before f zero i xs j l = refl
in_order_before f (suc n) i xs j l =
    in_order_before f n (suc i) (xs ++ (f i xs ∷ [])) j (omega (arith, length-append xs (f i xs ∷ []))) ∙ get_or-append xs (f i xs ∷ []) 0 j l

-- ---- By rounds
pub none_left_lem : (ms : List ℕ) → none_left ms ≡ true → (j : ℕ) → j < length ms → get_or ms j 0 ≡ 0 → ⊥
unfolding none_left
none_left_lem [] e j l = absurd (omega arith)
none_left_lem (m ∷ ms) e zero l = eqb-false m 0 (not-true _ (both (not (eqb m 0)) (none_left ms) e).0)
none_left_lem (m ∷ ms) e (suc j) l = none_left_lem ms (both (not (eqb m 0)) (none_left ms) e).1 j (omega arith)

pub some_left : (ms : List ℕ) → none_left ms ≡ false → (j : ℕ) × (j < length ms) × (get_or ms j 0 ≡ 0)
unfolding none_left
some_left [] e = absurd (let z : ◌≡◌ {A = ℕ} 0 1 = cc in omega arith)
some_left (m ∷ ms) e = go (eqb m 0) refl (some_left ms) e
  where
    go : (b : Bool) → eqb m 0 ≡ b → (none_left ms ≡ false → (j : ℕ) × (j < length ms) × (get_or ms j 0 ≡ 0)) → (not b && none_left ms) ≡ false
        → (j : ℕ) × (j < suc (length ms)) × (get_or (m ∷ ms) j 0 ≡ 0)
    go true q later e = (0, omega arith, eqb-true m 0 q)
    go false q later e = let r = later e in (suc r.0, omega (arith, r.1), r.2)

module _ (cells_at : ℕ) (s : Section) (checked : Checked s) (pass : kin cells_at s ≡ ok tt) where
  -- where none is left, each number is the height
  as_heights : none_left (after_rounds s 256) ≡ true → (j : ℕ) → j < proof_total s → (get_or (after_rounds s 256) j 0 ≡ height s j) × (height s j ≤ 256)
  as_heights e j l =
      let upto : height s j ≤ 256 = ⊎_elim (λ g. g)
      (λ g. absurd (none_left_lem _ e j (omega (arith, after_length s 256)) (round_is_depth cells_at s checked pass 256 j l ∙ capped_out 256 (height s j) g)))
      (order (height s j) 256) in
      (round_is_depth cells_at s checked pass 256 j l ∙ capped_in 256 (height s j) upto, upto)

  by_rounds_lem : Limited (heights s) (check (none_left (after_rounds s 256)) 27 0 >> ok (after_rounds s 256))
  by_rounds_lem = go _ refl
    where
      total : length (heights s) ≡ proof_total s
      total = (heights_made cells_at s checked pass).0

      go : (b : Bool) → none_left (after_rounds s 256) ≡ b → Limited (heights s) (check b 27 0 >> ok (after_rounds s 256))
      go true e =
          let all = as_heights e in
          let same : heights s ≡ after_rounds s 256 = ext_get_or 0 _ _ (total ∙ sym (after_length s 256)) (λ j l. sym (all j (omega (arith, total))).0) in
          subst (λ (ms : List ℕ). Limited (heights s) (ok ms)) same (shallow (λ j l. (all j (omega (arith, total))).1))
      go false e =
          let u = some_left _ e in
          let d = (unmarked_exactly cells_at s checked pass).0 (u.0, omega (arith, u.1, after_length s 256), u.2) in
          deep d.0 (omega (arith, total, d.1)) d.2

  -- ---- By the last pass, 28 and 29 left aside
  module _ (i : ℕ) (l : i < proof_total s) (ds : List ℕ) where
    depth_is : depth_of cells_at (left_aside s) (proof_at (left_aside s) i) ds ≡ (check (leb (height_of s i ds) 256) 27 0 >> ok (height_of s i ds))
    unfolding depth_aside height_of
    depth_is =
        let same : Out (Unit {0}) → Out ℕ = λ x. x >> ok (greatest s (proof_at s i) ds) in
        depth_aside_lem cells_at s i ds ∙ on_ok _ (apart cells_at s (proof_at s i) ds ∙ ap same (passed cells_at s pass i l))

    depth_ok : height_of s i ds ≤ 256 → depth_of cells_at (left_aside s) (proof_at (left_aside s) i) ds ≡ ok (height_of s i ds)
    depth_ok g = depth_is ∙ simp (le-leb (height_of s i ds) 256 g)

    depth_27 : 256 < height_of s i ds → depth_of cells_at (left_aside s) (proof_at (left_aside s) i) ds ≡ refuse 27 0
    depth_27 g = depth_is ∙ simp (lt-leb (height_of s i ds) 256 g)

  pass_from : (n i : ℕ) (ds : List ℕ) → i + n ≡ proof_total s → length ds ≡ i → ((j : ℕ) → j < i → get_or ds j 0 ≤ 256)
      → Limited (in_order (height_of s) n i ds) (depths_from cells_at (left_aside s) n i ds)
  unfolding depths_from in_order
  pass_from zero i ds t l low = shallow (λ j g. low j (omega arith))
  pass_from (suc n) i ds t l low =
      let h : ℕ = height_of s i ds in
      let hs : List ℕ = ds ++ (h ∷ []) in
      let here : get_or hs i 0 ≡ h = get_or_at ds h [] 0 i l in
      let longer : length hs ≡ suc i = omega (arith, length-append ds (h ∷ [])) in
      ⊎_elim
      (λ g. subst (Limited (in_order (height_of s) n (suc i) hs)) (sym (on_ok _ (depth_ok i (omega arith) ds g)))
      (pass_from n (suc i) hs (omega arith) longer (λ j k.
      ⊎_elim
      (λ q. omega (arith, low j q, get_or-append ds (h ∷ []) 0 j (omega arith)))
      (λ q. let e : i ≡ j = omega arith in subst (λ (j : ℕ). get_or hs j 0 ≤ 256) e (omega arith))
      (order (suc j) i))))
      (λ g. subst (Limited (in_order (height_of s) n (suc i) hs)) (sym (on_refused _ (depth_27 i (omega arith) ds g)))
      (deep i
      (omega (arith, in_order_length (height_of s) n (suc i) hs))
      (omega (arith, in_order_before (height_of s) n (suc i) hs i (omega arith)))))
      (order h 256)

  by_pass : Limited (heights s) (depths cells_at (left_aside s))
  unfolding depths heights
  by_pass =
      subst (λ (n : ℕ). Limited (in_order (height_of s) (proof_total s) 0 []) (depths_from cells_at (left_aside s) n 0 [])) (sym (total_aside cells_at s))
      (pass_from (proof_total s) 0 [] (omega arith) refl (λ j g. absurd (omega arith)))

  -- ---- Both
  pub methods_equal : rounds cells_at s ≡ depths cells_at (left_aside s)
  unfolding rounds
  methods_equal = rw pass (limited_one by_rounds_lem by_pass)

-- ---- Against the last pass itself
module _ (cells_at : ℕ) (s : Section) (checked : Checked s) where
  module _ (ds : List ℕ) (e : depths cells_at s ≡ ok ds) where
    -- where the last pass accepts, the rounds are its depths
    pub rounds_accept : rounds cells_at s ≡ ok ds
    rounds_accept = methods_equal cells_at s checked (kin_aside cells_at s (ok ds) e tt) ∙ kept_aside cells_at s (ok ds) e tt

    -- and those are the heights
    pub depths_heights : ds ≡ heights s
    depths_heights = go refl (by_pass cells_at s checked (kin_aside cells_at s (ok ds) e tt))
      where
        go : {x : Out (List ℕ)} → depths cells_at (left_aside s) ≡ x → Limited (heights s) x → ds ≡ heights s
        go k (shallow f) = ok_same (sym (kept_aside cells_at s (ok ds) e tt) ∙ k)
        go k (deep j l h) = absurd (never (sym k ∙ kept_aside cells_at s (ok ds) e tt))

  module _ (r : Refusal) (e : depths cells_at s ≡ refused r) where
    -- 25 and 26 are the same refusal
    pub rounds_refuse : r.number ≤ 26 → rounds cells_at s ≡ refused r
    unfolding rounds
    rounds_refuse h = rw (kin_aside cells_at s (refused r) e h)

    -- so is 27, where each parent cell passes
    rounds_27 : r.number ≡ 27 → kin cells_at s ≡ ok tt → rounds cells_at s ≡ refused r
    rounds_27 h pass = methods_equal cells_at s checked pass ∙ kept_aside cells_at s (refused r) e (omega arith)

    -- else a 25 or 26 of a later proof goes before it
    pub rounds_27_else : r.number ≡ 27 → (rounds cells_at s ≡ refused r) ⊎ RefusedWith 25 26 (rounds cells_at s)
    unfolding rounds
    rounds_27_else h = go _ refl
      where
        go : (x : Out (Unit {0})) → kin cells_at s ≡ x → (rounds cells_at s ≡ refused r) ⊎ RefusedWith 25 26 (rounds cells_at s)
        go (ok u) k = inl (rounds_27 h k)
        go (refused q) k = let n = kin_late cells_at s (proof_total s) 0 q k in inr (q, rw k, n.0, n.1)

-- by rounds the refusals are 25 to 27, and within the parent cells
module _ (cells_at : ℕ) (s : Section) where
  rounds_refuse_so : (Q : Refusal → Type 0) → Q (refusal 27 0) → Refuses Q (kin cells_at s) → Refuses Q (rounds cells_at s)
  unfolding rounds
  rounds_refuse_so Q h k = then k (on_check (none_left (after_rounds s 256)) 27 0 _ h (answers tt))

  pub rounds_late : (r : Refusal) → rounds cells_at s ≡ refused r → (25 ≤ r.number) × (r.number ≤ 27)
  rounds_late r e =
      each_refused (rounds_refuse_so (λ r. (25 ≤ r.number) × (r.number ≤ 27)) (omega arith, omega arith)
      (each (kin cells_at s) (λ u e. tt) (λ r e. let l = kin_late cells_at s (proof_total s) 0 r e in (omega arith, omega arith)))) e

  pub rounds_within : (most : ℕ) → ((i : ℕ) → i < proof_total s → (proof_at s i).first_parent + (proof_at s i).parent_count ≤ most)
      → Refuses (λ r. r.offset ≤ cells_at + 4 * most) (rounds cells_at s)
  rounds_within most owned = rounds_refuse_so _ (omega arith) (kin_within cells_at s most owned)
