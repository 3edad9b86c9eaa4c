-- Whoever lists all records of an accepted section may decode it once and read each record at its place: reading at entry k of a lent
-- table, or where witness k or parent cell k stands, gives the record with the number k.
use Prim.Native.Nat.{ℕ, ◌+◌, ◌-◌, ◌<◌}
use mathlib.Core.Path.{◌≡◌, refl, sym, ap, ◌∙◌}
use mathlib.Core.List.{List}
use native.Mathlib.Omega.{arith}
use lib.ListN.{length, length-take, length-drop}
use Rattle.local_format.specs.Out.{Out, ok}
use Rattle.local_format.specs.Number.{numbered, choose}
use Rattle.local_format.proofs.NumberLaws.{is_there}
use Rattle.evr0_section.specs.Rows.{Entry}
use Rattle.evr0_section.specs.Head.{Counts, Room, span_width}
use Rattle.evr0_section.specs.Section.{Section, decode_section}
use Rattle.evr0_read.specs.Asked.{telling}
use Rattle.evr0_read.specs.Entry.{record_at, shown}
use Rattle.evr0_read.specs.Place.{witness_place, parent_place}
use Rattle.evr0_read.specs.Listing.{payload_of, Listed}
use Rattle.evr0_read.proofs.TableLaws.{
  facts,
  proposition_read,
  proof_read,
  witness_read,
  parent_read,
  witness_count,
  parent_count,
  witness_start,
  parent_start,
}
use Rattle.evr0_read.proofs.FindLaws.{lent_start}

module _ {A E : Type 0} (d : Section) (table : Section → List (Entry A)) (show : ℕ → A → E) {X : Type 0} (read : List ℕ → Out X) (place : ℕ → X → E)
    (p : List ℕ) (k : ℕ) {count start : ℕ} (long : length (table d) ≡ count)
    (reads : (e : Entry A) → numbered k (table d) ≡ ok e → record_at read place p e.start ≡ ok (shown show e))
    (at : (e : Entry A) → numbered k (table d) ≡ ok e → start ≡ e.start) where
  listed : k < count → record_at read place p start ≡ telling (λ c. shown show c.value) (choose (λ s. numbered k (table s)) (ok d))
  listed l =
      let (e, h) = is_there k (table d) (omega (arith, long)) in
      rw (at e h, h) (reads e h)

module _ (room : Room) (bytes : List ℕ) (cursor : ℕ) (d : Section) (decodes : decode_section room bytes cursor ≡ ok d) where
  abbrev p : List ℕ
  p = payload_of bytes cursor d

  abbrev counts : Counts
  counts = d.tables.head.counts

  size : length p ≡ d.cursor - (cursor + 8)
  unfolding decode_section
  size = let f = facts _ room bytes cursor d decodes in simp (length-take, length-drop) (omega (arith, f.start, f.end))

  pub all_listed : Listed room bytes cursor d
  unfolding decode_section
  all_listed =
      let f = facts _ room bytes cursor d decodes in
      record {
        size = size;
        proposition = λ k l. listed d (λ s. s.tables.propositions.entries) _ _ _ p k f.propositions (proposition_read _ room bytes cursor d decodes k)
            (λ e h. lent_start room.propositions k d.tables.propositions.entries refl (omega (arith, f.propositions)) h) l;
        proof = λ k l. listed d (λ s. s.tables.proofs.entries) _ _ _ p k f.proofs (proof_read _ room bytes cursor d decodes k)
            (λ e h. lent_start room.proofs k d.tables.proofs.entries refl (omega (arith, f.proofs)) h) l;
        witness = λ k l. listed d (λ s. s.tables.witnesses.entries) _ _ _ p k (witness_count _ room bytes cursor d decodes)
            (witness_read _ room bytes cursor d decodes k)
            (λ e h. ap (λ (n : ℕ). witness_place n (span_width d.tables.head.schema) counts.witnesses counts.parents k) (sym size)
            ∙ witness_start _ room bytes cursor d decodes k l h) l;
        parent = λ k l. listed d (λ s. s.tables.parents.entries) _ _ _ p k (parent_count _ room bytes cursor d decodes)
            (parent_read _ room bytes cursor d decodes k)
            (λ e h. ap (λ (n : ℕ). parent_place n counts.parents k) (sym size) ∙ parent_start _ room bytes cursor d decodes k l h) l;
      }
