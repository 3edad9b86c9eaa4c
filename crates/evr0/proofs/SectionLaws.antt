-- The section of a payload from its checked head, its tables and their depths: one law for each way that its decoding ends.
use Prim.Native.Nat.{ℕ}
use mathlib.Core.Path.{◌≡◌, sym, ap}
use mathlib.Core.List.{List}
use Rattle.local_format.specs.Refusal.{Refusal}
use Rattle.local_format.specs.Out.{ok, refused}
use Rattle.local_format.proofs.OutLaws.{bind_ok, ok_same}
use Rattle.derivation.specs.Rule.{Rule}
use Rattle.derivation.specs.Pass.{depths}
use Rattle.evr0_section.specs.Head.{Room, checked_head}
use Rattle.evr0_section.specs.Section.{Tables, Section, section_of, tables_of, section_in}

module _ (rules : List Rule) (room : Room) (p : List ℕ) where
  -- a payload whose head is refused
  pub no_head : (cursor : ℕ) (q : Refusal) → checked_head room p ≡ refused q → section_in rules room p cursor ≡ refused q
  unfolding section_in tables_of
  no_head cursor q e = rw e

  module _ (cursor : ℕ) where
    pub no_tables : {q : Refusal} → tables_of rules room p ≡ refused q → section_in rules room p cursor ≡ refused q
    unfolding section_in
    no_tables e = rw e

    module _ {t : Tables} (et : tables_of rules room p ≡ ok t) where
      pub no_depths : {q : Refusal} → depths t.witnesses.next (section_of t) ≡ refused q → section_in rules room p cursor ≡ refused q
      unfolding section_in
      no_depths e = rw (et, e)

      pub accepted : {ds : List ℕ} → depths t.witnesses.next (section_of t) ≡ ok ds
          → section_in rules room p cursor ≡ ok (record { tables = t; depths = ds; cursor = cursor })
      unfolding section_in
      accepted e = rw (et, e)

  -- the cursor after an accepted section
  pub cursor_after : (cursor : ℕ) {s : Section} → section_in rules room p cursor ≡ ok s → s.cursor ≡ cursor
  unfolding section_in
  cursor_after cursor e =
      let a = bind_ok (tables_of rules room p) _ e in
      let b = bind_ok (depths a.0.witnesses.next (section_of a.0)) _ a.2 in
      ap (λ (x : Section). x.cursor) (sym (ok_same b.2))
