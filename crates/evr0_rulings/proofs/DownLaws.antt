-- The way down of an accepted section, by one record and one parent cell of its payload at a time.
use Prim.Native.Nat.{ℕ, ◌+◌, ◌-◌, ◌*◌, ◌≤◌, ◌<◌}
use mathlib.Core.Path.{◌≡◌, sym, ap, ◌∙◌}
use mathlib.Core.List.{List}
use native.Mathlib.Omega.{arith}
use native.Mathlib.Nat.{sub-zero, pos_of_ne-zero}
use lib.ListN.{length, drop}
use Rattle.local_format.specs.Out.{ok}
use Rattle.local_format.specs.Field.{Got, field_at, whole, cut}
use Rattle.derivation.specs.Section as derivation
use Rattle.derivation.specs.Section.{Proof, proof_at, parent_at}
use Rattle.derivation.specs.Down.{witness, spent, down_from, way_down}
use Rattle.derivation.proofs.Laws.{down_end, down_spent, down_turn}
use Rattle.evr0_section.specs.Rows.{Sized}
use Rattle.evr0_section.specs.Proof.{ProofRecord}
use Rattle.evr0_section.specs.Section.{Section, section_of}
use Rattle.evr0_rulings.specs.Held.{Held, proof_in}
use Rattle.evr0_rulings.proofs.HeldLaws.{proof_of_record, proof_is, first_cell, first_there, held_parent}

-- a proof that the way down from a start reaches after some moves
pub record Reached (starts : List ℕ) (d : Section) (limit from number moves : ℕ) : Type 0 where
  pub there : number < length starts
  pub way : way_down (section_of d.tables) limit from ≡ down_from (section_of d.tables) (limit - moves) number moves

pub reached_start : (starts : List ℕ) (d : Section) (limit from : ℕ) → from < length starts → Reached starts d limit from from 0
unfolding way_down
reached_start starts d limit from h = record { there = h; way = rw sub-zero }

module _ (p starts : List ℕ) (d : Section) (held : Held p starts d) (limit from number moves : ℕ) (reached : Reached starts d limit from number moves)
    (x : Sized ProofRecord) (read : proof_in p starts number ≡ ok x) where
  abbrev s : derivation.Section
  s = section_of d.tables

  abbrev proof : Proof
  proof = proof_at s number

  same : proof ≡ proof_of_record x.item (proof_is p starts d held number reached.there read).0
  same = (proof_is p starts d held number reached.there read).1

  parents : proof.parent_count ≡ x.item.parent_count
  parents = ap (λ (q : Proof). q.parent_count) same

  first : proof.first_parent ≡ x.item.first_parent
  first = ap (λ (q : Proof). q.first_parent) same

  pub ends_here : x.item.parent_count ≡ 0 → witness x.item.first_witness moves ≡ way_down s limit from
  ends_here z =
      ap (λ (q : Proof). witness q.first_witness moves) (sym same)
      ∙ sym (reached.way ∙ down_end s (limit - moves) number moves (parents ∙ z))

  module _ (has : x.item.parent_count ≡ 0 → ⊥) where
    pub spent_here : moves ≡ limit → spent number ≡ way_down s limit from
    spent_here e = sym (reached.way ∙ down_spent s (limit - moves) number moves (omega arith) (λ z. has (sym parents ∙ z)))

    some : 0 < proof.parent_count
    some = pos_of_ne-zero (λ z. has (sym parents ∙ z))

    module _ (cells : ℕ) (at : cells ≡ d.tables.witnesses.next) where
      cell : field_at 4 (drop cells p) (4 * x.item.first_parent)
          ≡ whole (record { value = parent_at s proof.first_parent; next = 4 * proof.first_parent + 4 })
      cell = rw (at, ← first) (held_parent p starts d held proof.first_parent (first_cell p starts d held number reached.there some))

      pub cell_there : field_at 4 (drop cells p) (4 * x.item.first_parent) ≡ cut → ⊥
      cell_there e = let z : ◌≡◌ {A = ℕ} 0 1 = cc (cell, e) in omega arith

      pub moves_on : {g : Got} → (moves ≡ limit → ⊥) → moves ≤ limit → field_at 4 (drop cells p) (4 * x.item.first_parent) ≡ whole g
          → Reached starts d limit from g.value (moves + 1)
      moves_on {g} n l e =
          let v : parent_at s proof.first_parent ≡ g.value = cc (cell, e) in
          let m : limit - moves - 1 ≡ limit - (moves + 1) = omega arith in
          record {
            there = rw v at (first_there p starts d held number reached.there some);
            way = reached.way ∙ down_turn s (limit - moves) number moves (omega arith) (λ z. has (sym parents ∙ z)) ∙ rw (v, m);
          }
