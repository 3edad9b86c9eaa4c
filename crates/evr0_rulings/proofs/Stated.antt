-- What is stated of *way down* of an accepted section: induction along the walk by first parents, and that such a walk decides the answer. A
-- number that is not in its table gives 62 and no answer.
use Prim.Native.Nat.{ℕ, zero, suc, ◌+◌, ◌-◌, ◌≤◌, ◌<◌}
use mathlib.Core.Path.{◌≡◌, refl, sym, ap, ◌∙◌, subst}
use mathlib.Core.Logic.{⊎_elim}
use mathlib.Core.List.{List}
use native.Mathlib.Omega.{arith}
use native.Mathlib.Nat.{sub-zero, zero-add}
use lib.ListN.{length, length-map}
use Rattle.local_format.specs.Out.{ok, refuse}
use Rattle.local_format.proofs.NumberLaws.{not_there_lem, is_there}
use Rattle.local_format.proofs.OutLaws.{never, ok_same}
use Rattle.derivation.specs.Rule.{four_rules}
use Rattle.derivation.specs.Section as derivation
use Rattle.derivation.specs.Section.{Checked, proof_at, parent_at, proof_total}
use Rattle.derivation.specs.Walk.{Walk, stay, move, AtEnd}
use Rattle.derivation.specs.Down.{Down, witness, spent, down_from, way_down, first_picks, Tells, ends, goes_on}
use Rattle.derivation.proofs.Tests.{order}
use Rattle.derivation.proofs.Rules.{four_shaped}
use Rattle.derivation.proofs.Laws.{down_end, down_spent, down_turn}
use Rattle.evr0_section.specs.Head.{Room}
use Rattle.evr0_section.specs.Section.{Section, section_of, proof_item, decode_section}
use Rattle.evr0_section.proofs.Demand.{demand_3, checked}
use Rattle.evr0_rulings.specs.Stated.{down_answer, DownStated}

-- ---- Along the walk by first parents
walk_start : {s : derivation.Section} {i k : ℕ} {cs : List ℕ} → Walk s i cs k → i < proof_total s
walk_start (stay l) = l
walk_start (move l o h n w) = l

module _ (s : derivation.Section) (c : Checked s) where
  -- the way down goes as the walk goes
  along : {i k : ℕ} {cs : List ℕ} → Walk s i cs k → (m limit moves : ℕ) → cs ≡ first_picks s m i → m ≤ limit
      → down_from s limit i moves ≡ down_from s (limit - m) k (moves + m)
  unfolding first_picks
  along {i} (stay l) zero limit moves e h = let z : moves + 0 ≡ moves = omega arith in rw (sub-zero, z)
  along (stay l) (suc m) limit moves e h = absurd (let z : ◌≡◌ {A = ℕ} 0 1 = cc in omega arith)
  along (move l o t n w) zero limit moves e h = absurd (let z : ◌≡◌ {A = ℕ} 0 1 = cc in omega arith)
  along {i} {k} (move {j = j} {c = x} {cs = cs} l o t n w) (suc m) limit moves e h =
      let first : x ≡ (proof_at s i).first_parent = cc in
      let rest : cs ≡ first_picks s m (parent_at s (proof_at s i).first_parent) = cc in
      let at : j ≡ parent_at s (proof_at s i).first_parent = sym (c.proof_number j t) ∙ n ∙ ap (parent_at s) first in
      let some : (proof_at s i).parent_count ≡ 0 → ⊥ = λ z. omega (arith, o.from, o.upto) in
      let a : limit - 1 - m ≡ limit - suc m = omega arith in
      let b : moves + 1 + m ≡ moves + suc m = omega arith in
      down_turn s limit i moves (omega arith) some
      ∙ ap (λ (y : ℕ). down_from s (limit - 1) y (moves + 1)) (sym at)
      ∙ along w m (limit - 1) (moves + 1) (rest ∙ ap (first_picks s m) (sym at)) (omega arith)
      ∙ rw (a, b)

  witnessed_there : (limit i moves k : ℕ) → moves ≤ limit → Walk s i (first_picks s moves i) k → AtEnd s k
      → way_down s limit i ≡ witness (proof_at s k).first_witness moves
  unfolding way_down AtEnd
  witnessed_there limit i moves k h w z = along w moves limit 0 refl h ∙ down_end s (limit - moves) k (0 + moves) z
      ∙ ap (witness (proof_at s k).first_witness) (zero-add moves)

  spent_there : (limit i k : ℕ) → Walk s i (first_picks s limit i) k → 0 < (proof_at s k).parent_count → way_down s limit i ≡ spent k
  unfolding way_down
  spent_there limit i k w h = along w limit limit 0 refl (omega arith) ∙ down_spent s (limit - limit) k (0 + limit) (omega arith) (λ z. omega arith)

-- ---- What an answer tells
module _ (s : derivation.Section) (limit i : ℕ) where
  witness_tells : {a : Down} → Tells s limit i a → (w moves : ℕ) → a ≡ witness w moves
      → (k : ℕ) × (moves ≤ limit) × Walk s i (first_picks s moves i) k × AtEnd s k × ((proof_at s k).first_witness ≡ w)
  witness_tells (ends m k h v z t) w moves e =
      let same : m ≡ moves = cc in
      subst (λ (n : ℕ). (k : ℕ) × (n ≤ limit) × Walk s i (first_picks s n i) k × AtEnd s k × ((proof_at s k).first_witness ≡ w)) same (k, h, v, z, cc)
  witness_tells (goes_on k v h) w moves e = absurd (let z : ◌≡◌ {A = ℕ} 0 1 = cc in omega arith)

  spent_tells : {a : Down} → Tells s limit i a → (k : ℕ) → a ≡ spent k → Walk s i (first_picks s limit i) k × (0 < (proof_at s k).parent_count)
  spent_tells (ends m k h v z t) j e = absurd (let z : ◌≡◌ {A = ℕ} 0 1 = cc in omega arith)
  spent_tells (goes_on k v h) j e =
      let same : k ≡ j = cc in
      subst (λ (n : ℕ). Walk s i (first_picks s limit i) n × (0 < (proof_at s n).parent_count)) same (v, h)

-- ---- Of an accepted section
module _ (room : Room) (bytes : List ℕ) (cursor : ℕ) (d : Section) (decodes : decode_section room bytes cursor ≡ ok d) where
  abbrev s : derivation.Section
  s = section_of d.tables

  checks : Checked s
  unfolding decode_section
  checks = checked four_rules room bytes cursor four_shaped d.tables ((demand_3 room bytes cursor).by_rules.tables d decodes)

  tells : (limit i : ℕ) → i < proof_total s → Tells s limit i (way_down s limit i)
  unfolding decode_section
  tells = ((demand_3 room bytes cursor).by_rules.accepted d decodes).down

  total : proof_total s ≡ length d.tables.proofs.entries
  unfolding section_of proof_total
  total = length-map d.tables.proofs.entries proof_item

  module _ (limit n : ℕ) where
    there : n < proof_total s → down_answer limit n d ≡ ok (way_down s limit n)
    there h = rw (is_there n d.tables.proofs.entries (omega (arith, total))).1

    gone : proof_total s ≤ n → down_answer limit n d ≡ refuse 62 0
    gone h = rw (not_there_lem n d.tables.proofs.entries (omega (arith, total)))

    answered : {a : Down} → down_answer limit n d ≡ ok a → (n < proof_total s) × (way_down s limit n ≡ a)
    answered e =
        ⊎_elim (λ g. absurd (never (sym (gone g) ∙ e))) (λ l. (l, ok_same (sym (there l) ∙ e))) (order (proof_total s) n)

    pub down_stated : DownStated d limit n
    down_stated =
        record {
          not_there = (
            (λ e. ⊎_elim (λ g. g) (λ l. absurd (never (sym e ∙ there l))) (order (proof_total s) n)),
            gone,
          );
          witness_exactly = λ w moves. (
            (λ e. let a = answered e in witness_tells s limit n (tells limit n a.0) w moves a.1),
            (λ x. there (walk_start x.2)
                ∙ ap ok (witnessed_there s checks limit n moves x.0 x.1 x.2 x.3 ∙ ap (λ (y : ℕ). witness y moves) x.4)),
          );
          spent_exactly = λ k. (
            (λ e. let a = answered e in spent_tells s limit n (tells limit n a.0) k a.1),
            (λ x. there (walk_start x.0) ∙ ap ok (spent_there s checks limit n k x.0 x.1)),
          );
        }
