-- What is stated of the answer of *way down* for a number n of an accepted section d, besides that it is the definition's.
use Rattle.std.specs.Prelude.{ℕ, ◌≤◌, ◌<◌, ◌≡◌, ◌↔◌}
use Rattle.local_format.specs.Out.{Out, ok}
use Rattle.local_format.specs.Number.{not_in_table}
use Rattle.derivation.specs.Section.{proof_at, proof_total}
use Rattle.derivation.specs.Walk.{Walk, AtEnd}
use Rattle.derivation.specs.Down.{Down, witness, spent, first_picks}
use Rattle.evr0_section.specs.Section.{Section, section_of}
use Rattle.evr0_read.specs.Ask.{proof_number}
use Rattle.evr0_rulings.specs.Told.{way_down_told}

abbrev pub down_answer : ℕ → ℕ → Section → Out Down
down_answer limit n d = way_down_told limit n (proof_number n (ok d))

-- the moves made are those of the walk that always picks the first parent; it is spent exactly where that walk, after as many moves as the
-- limit, is at a proof that has a parent
pub record DownStated (d : Section) (limit n : ℕ) : Type 0 where
  pub not_there : (down_answer limit n d ≡ not_in_table) ↔ (proof_total (section_of d.tables) ≤ n)
  pub witness_exactly : (w moves : ℕ) → (down_answer limit n d ≡ ok (witness w moves))
      ↔ ((k : ℕ)
      × (moves ≤ limit)
      × Walk (section_of d.tables) n (first_picks (section_of d.tables) moves n) k
      × AtEnd (section_of d.tables) k
      × ((proof_at (section_of d.tables) k).first_witness ≡ w))
  pub spent_exactly : (k : ℕ) → (down_answer limit n d ≡ ok (spent k))
      ↔ (Walk (section_of d.tables) n (first_picks (section_of d.tables) limit n) k × (0 < (proof_at (section_of d.tables) k).parent_count))
