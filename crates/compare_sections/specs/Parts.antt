-- The steps of a comparison: what is found of a section, and what the whole answers. Of the tables it is said only where nothing is refused.
use Rattle.std.specs.Prelude.{ℕ, ◌≡◌, List}
use Rattle.local_format.specs.Out.{Out, ok, ◌>>=◌}
use Rattle.rule_table.specs.ByTable.{Given}
use Rattle.evr0_section.specs.Section.{Section}
use Rattle.evr0_compare.specs.Compare.{Tally, Comparison, Answer, held, told}
use Rattle.authorised_table.specs.Answer as one
use Rattle.compare_sections.specs.Answer.{Lent, compare_in, Filled}

-- where a decoded section ends, and how many propositions it has
pub record Found : Type 0 where
  pub end : ℕ
  pub count : ℕ

abbrev pub found_in : Out Section → Out Found
found_in x = do
  s ← x
  ok (record { end = s.cursor; count = s.tables.head.counts.propositions })

pub record Decodes (given : Given) (bytes : List ℕ) (cursor : ℕ) (before after : one.Lent) (r : Out Found) : Type 0 where
  pub answer : r ≡ found_in (one.decode_given given before bytes cursor)
  pub tables : one.Filled (one.decode_given given before bytes cursor) before after

pub record Answers (given : Given) (first : List ℕ) (first_cursor : ℕ) (second : List ℕ) (second_cursor : ℕ) (before after : Lent) (r : Answer Tally)
    : Type 0 where
  pub answer : r ≡ told (compare_in given first first_cursor second second_cursor before)
  pub tables : (c : Comparison) → compare_in given first first_cursor second second_cursor before ≡ held c → Filled (ok c) before after
