-- What `ListedAll` says determines the list: two rising lists with the same entries are the same.
use mathlib.Core.Path.{◌≡◌, refl, sym, ap, ap₂, ◌∙◌}
use mathlib.Core.Logic.{◌↔◌}
use mathlib.Core.List.Memᴰ
use mathlib.Core.List.{List, [], ◌∷◌, Memᴰ}
use Rattle.evr0_section.specs.Proposition.{Key}
use Rattle.evr0_compare.specs.Compare.{Standing, Verdict, Listed, compared, of_both, Below, Rising, also, standing_key, listed_key, none}
use Rattle.evr0_compare.specs.Compare.{Judged, in_both, in_first, in_second, Found, ListedAll}
use Rattle.evr0_compare.proofs.KeyOrder.{keys_ordered}
use Rattle.evr0_compare.proofs.Compare.{never_itself, listed_all}

-- ---- Rising lists
module _ {A : Type 0} (key : A → Key) where
  -- a key stands once
  once : {xs : List A} {x y : A} → Rising key xs → Memᴰ x xs → Memᴰ y xs → key x ≡ key y → x ≡ y
  once (also b r) (Memᴰ.head e) (Memᴰ.head f) k = e ∙ sym f
  once {y = y} (also b r) (Memᴰ.head e) (Memᴰ.tail n) k = absurd (never_itself (b y n) (ap key (sym e) ∙ k))
  once {x = x} (also b r) (Memᴰ.tail m) (Memᴰ.head f) k = absurd (never_itself (b x m) (ap key (sym f) ∙ sym k))
  once (also b r) (Memᴰ.tail m) (Memᴰ.tail n) k = once r m n k
  once {x = x} {y = y} none x10 _ k = elim x10 [ ]

  tail_in : {x y z : A} {ys : List A} → x ≡ y → Below (key x) (key z) → Memᴰ z (y ∷ ys) → Memᴰ z ys
  tail_in e b (Memᴰ.head f) = absurd (never_itself b (ap key (e ∙ sym f)))
  tail_in e b (Memᴰ.tail m) = m

  heads : {x y : A} {xs ys : List A} → Rising key (x ∷ xs) → Rising key (y ∷ ys) → Memᴰ x (y ∷ ys) → Memᴰ y (x ∷ xs) → x ≡ y
  heads r q (Memᴰ.head e) n = e
  heads r q (Memᴰ.tail m) (Memᴰ.head f) = sym f
  heads {x = x} {y = y} (also b r) (also c q) (Memᴰ.tail m) (Memᴰ.tail n) =
      absurd (never_itself (keys_ordered.trans (key x) (key y) (key x) (b y n) (c x m)) refl)

  rising_same : (xs ys : List A) → Rising key xs → Rising key ys → ((z : A) → Memᴰ z xs ↔ Memᴰ z ys) → xs ≡ ys
  rising_same [] [] r q same = refl
  rising_same [] (y ∷ ys) r q same = absurd (Memᴰ.not-nil ((same y).1 (Memᴰ.head refl)))
  rising_same (x ∷ xs) [] r q same = absurd (Memᴰ.not-nil ((same x).0 (Memᴰ.head refl)))
  rising_same (x ∷ xs) (y ∷ ys) (also b r) (also c q) same =
      let e : x ≡ y = heads (also b r) (also c q) ((same x).0 (Memᴰ.head refl)) ((same y).1 (Memᴰ.head refl)) in
      ap₂ (λ (z : A) (zs : List A). z ∷ zs) e
      (rising_same xs ys r q λ z. (
        λ m. tail_in e (b z m) ((same z).0 (Memᴰ.tail m)),
        λ m. tail_in (sym e) (c z m) ((same z).1 (Memᴰ.tail m)),
      ))

-- ---- Entries
same_entry : {l m : Listed} → l.key ≡ m.key → l.verdict ≡ m.verdict → l ≡ m
same_entry {l} {m} k v =
    let f : Key → Verdict → Listed = λ key verdict. record { key = key; verdict = verdict } in
    let g : f l.key l.verdict ≡ f m.key m.verdict = rw (k, v) in
    g

module _ (xs ys : List Standing) (rx : Rising standing_key xs) (ry : Rising standing_key ys) where
  verdict_same : {l m : Listed} → Judged xs ys l → Judged xs ys m → l.key ≡ m.key → l.verdict ≡ m.verdict
  verdict_same (in_both x y p q e f v) (in_both x' y' p' q' e' f' v') k =
      let a : x ≡ x' = once standing_key rx p p' (e ∙ k ∙ sym e') in
      let b : y ≡ y' = once standing_key ry q q' (f ∙ k ∙ sym f') in
      v ∙ ap₂ (λ (x y : Standing). of_both x.authorised y.authorised) a b ∙ sym v'
  verdict_same (in_both x y p q e f v) (in_first x' p' e' lacks v') k = absurd (lacks y q (f ∙ k))
  verdict_same (in_both x y p q e f v) (in_second y' q' f' lacks v') k = absurd (lacks x p (e ∙ k))
  verdict_same (in_first x p e lacks v) (in_both x' y' p' q' e' f' v') k = absurd (lacks y' q' (f' ∙ sym k))
  verdict_same (in_first x p e lacks v) (in_first x' p' e' lacks' v') k = v ∙ sym v'
  verdict_same (in_first x p e lacks v) (in_second y' q' f' lacks' v') k = absurd (lacks' x p (e ∙ k))
  verdict_same (in_second y q f lacks v) (in_both x' y' p' q' e' f' v') k = absurd (lacks x' p' (e' ∙ sym k))
  verdict_same (in_second y q f lacks v) (in_first x' p' e' lacks' v') k = absurd (lacks x' p' (e' ∙ sym k))
  verdict_same (in_second y q f lacks v) (in_second y' q' f' lacks' v') k = v ∙ sym v'

  found_too : {l : Listed} {ms : List Listed} → Judged xs ys l → ListedAll xs ys ms → Found l.key ms
  found_too (in_both x y p q e f v) h = rw e at (h.first x p)
  found_too (in_first x p e lacks v) h = rw e at (h.first x p)
  found_too (in_second y q f lacks v) h = rw f at (h.second y q)

  there_too : {ls ms : List Listed} → ListedAll xs ys ls → ListedAll xs ys ms → (l : Listed) → Memᴰ l ls → Memᴰ l ms
  there_too h g l n =
      let (m, p, k) = found_too (h.each l n) g in
      let e : l ≡ m = same_entry (sym k) (verdict_same (h.each l n) (g.each m p) (sym k)) in
      rw e p

  pub only_list : (ls : List Listed) → ListedAll xs ys ls → ls ≡ compared xs ys
  only_list ls h =
      let g : ListedAll xs ys (compared xs ys) = listed_all xs ys rx ry in
      rising_same listed_key ls (compared xs ys) h.order g.order (λ l. (there_too h g l, there_too g h l))
