-- Two sections that were decoded: what their comparison relies on, and what it leaves.
use Rattle.std.specs.Prelude.{ℕ, ◌≡◌, cond, List, length, take}
use Rattle.local_format.specs.Out.{Out, ok, ◌>>=◌}
use Rattle.local_format.specs.Tag.{equal}
use Rattle.lent_table.specs.Lent.{lent, Front}
use Rattle.evr0_section.specs.Head.{Room}
use Rattle.evr0_section.specs.Rows.{starts_of}
use Rattle.evr0_section.specs.Section.{Section}
use Rattle.rule_table.specs.ByTable.{Given, decode_by}
use Rattle.evr0_compare.specs.Compare.{Input, Tally, tally_of, Comparison, list_of, pair_of, codes}
use Rattle.authorised_table.specs.Answer.{flags_of}

-- a section was decoded at the cursor, by some rules; it ends at `end` and has so many propositions, whose starts and flags the tables begin with
pub record Told (bytes : List ℕ) (cursor end count : ℕ) (starts flags : List ℕ) : Type 0 where
  pub given : Given
  pub room : Room
  pub section : Section
  pub decoded : decode_by given room bytes cursor ≡ ok section
  pub ends : section.cursor ≡ end
  pub counted : section.tables.head.counts.propositions ≡ count
  pub started : take count starts ≡ starts_of section.tables.propositions.entries
  pub flagged : Front (flags_of section) flags

-- as it was lent
abbrev pub input_in : {bytes : List ℕ} {cursor end count : ℕ} {starts flags : List ℕ} → Told bytes cursor end count starts flags → Input
input_in {bytes} {cursor} a = record { room = a.room; bytes = bytes; cursor = cursor }

abbrev pub tallied : Out Comparison → Out Tally
tallied x = do
  c ← x
  ok (tally_of c.list)

module _ {p : List ℕ} {i e n : ℕ} {ps fs : List ℕ} {q : List ℕ} {j f m : ℕ} {qs gs : List ℕ} where
  abbrev pub pair_in : Told p i e n ps fs → Told q j f m qs gs → ℕ → Out Comparison
  pair_in a b entries = pair_of (input_in a) a.section (input_in b) b.section entries

  -- what the table then holds: the bytes of the list, as far as it reaches, and zeros past them; where the source sets differ, what it held
  abbrev pub verdicts_left : Told p i e n ps fs → Told q j f m qs gs → List ℕ → List ℕ
  verdicts_left a b before =
      cond (equal a.section.tables.head.source_set b.section.tables.head.source_set)
      (lent (length before) (take (length before) (codes (list_of (input_in a) a.section (input_in b) b.section)))) before

  pub record Holds (a : Told p i e n ps fs) (b : Told q j f m qs gs) (before after : List ℕ) (r : Out Tally) : Type 0 where
    pub answer : r ≡ tallied (pair_in a b (length before))
    pub table : after ≡ verdicts_left a b before
