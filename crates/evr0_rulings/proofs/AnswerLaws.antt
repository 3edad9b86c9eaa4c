-- A section whose record was found is held by its payload and the front of its lent table, and what is told of it is told of that record.
use Prim.Native.Nat.{ℕ, zero, suc, ◌-◌, ◌*◌, ◌<◌}
use mathlib.Core.Path.{◌≡◌, ap, ◌∙◌}
use mathlib.Core.List.{List, [], ◌∷◌}
use native.Mathlib.Omega.{arith}
use lib.ListN.{length, take, length-map}
use lib.Seq.{take_at}
use Rattle.local_format.specs.Out.{Out, ok}
use Rattle.local_format.specs.Number.{numbered, Chosen, choose}
use Rattle.local_format.proofs.OutLaws.{never}
use Rattle.lent_table.specs.Lent.{lent}
use Rattle.evr0_section.specs.Rows.{Entry}
use Rattle.evr0_section.specs.Proof.{Settled}
use Rattle.evr0_section.specs.Section.{Section, tables_of}
use Rattle.rule_table.specs.ByTable.{Given}
use Rattle.rule_table.proofs.ByTable.{given_shaped}
use Rattle.evr0.specs.Answer.{Lent, room_of, proof_starts, starts_of}
use Rattle.evr0_read.specs.Asked.{telling, AnswersBy}
use Rattle.evr0_read.specs.Ask.{Place, place_told}
use Rattle.evr0_read.specs.Listing.{payload_to}
use Rattle.evr0_read.proofs.TableLaws.{facts, parents_at_lem}
use Rattle.evr0_read.proofs.AskLaws.{There, there}
use Rattle.evr0_rulings.specs.Held.{Held}

below : {A : Type 0} (i : ℕ) (xs : List A) {x : A} → numbered i xs ≡ ok x → i < length xs
unfolding numbered
below i [] e = absurd (never e)
below zero (x ∷ xs) e = omega arith
below (suc i) (x ∷ xs) e = omega (arith, below i xs e)

-- a proof's number is below the starts' count
pub starts_above : (p starts : List ℕ) (d : Section) → Held p starts d → (k : ℕ) {e : Entry Settled} → numbered k d.tables.proofs.entries ≡ ok e
    → k < length starts
starts_above p starts d held k e =
    let es = d.tables.proofs.entries in
    omega (arith, below k es e, ap length held.at, length-map es (λ e. e.start))

module _ {E : Type 0} (table : Section → List (Entry E)) (k : ℕ) (which : Given) (bytes : List ℕ) (cursor : ℕ) {before after : Lent} {found : Out Place}
    (finding : AnswersBy which (choose (λ s. numbered k (table s))) place_told bytes cursor before after found) {place : Place} (is : found ≡ ok place) where
  abbrev pub t : There table k which bytes cursor finding place
  t = there table k which bytes cursor finding is

  pub told_of : {A B : Type 0} (f : Chosen Section (Entry E) → A) (give : Out A → B) {r : B}
      → r ≡ give (ok (f (record { decoded = t.section; value = t.entry })))
      → AnswersBy which (choose (λ s. numbered k (table s))) (λ y. give (telling f y)) bytes cursor before after r
  told_of f give h = record { answer = h ∙ rw t.asked; tables = finding.tables }

  module _ {q : List ℕ} (part : q ≡ payload_to bytes cursor place.end) where
    pub held : {u : List ℕ} → u ≡ take place.counts.proofs after.proofs → Held q u t.section
    held f =
        let d = t.section in
        let a = facts t.rules (room_of before) bytes cursor d t.is in
        let front = finding.tables.proofs ∙ ap (λ (y : Out (Chosen Section (Entry E))). lent (length before.proofs)
        (proof_starts (telling (λ c. c.decoded) y))) t.asked in
        record {
          rules = t.rules;
          shaped = given_shaped which t.rules t.given;
          room = room_of before;
          tables = ap (λ (x : List ℕ). tables_of t.rules (room_of before) x) (part ∙ ap (λ (x : Place). payload_to bytes cursor x.end) t.by) ∙ a.read;
          depths = a.depths;
          at = f ∙ ap (λ (x : Place). take x.counts.proofs after.proofs) t.by ∙ ap (take d.tables.head.counts.proofs) front
              ∙ take_at (starts_of d.tables.proofs.entries) _ _ (length-map d.tables.proofs.entries (λ e. e.start) ∙ a.proofs);
        }

    pub cells_at : {at : ℕ} → at ≡ length q - 4 * place.counts.parents → at ≡ t.section.tables.witnesses.next
    cells_at f =
        let p = ap length (part ∙ ap (λ (x : Place). payload_to bytes cursor x.end) t.by) in
        omega (arith, f, p, ap (λ (x : Place). x.counts.parents) t.by, parents_at_lem t.rules (room_of before) bytes cursor t.section t.is)
