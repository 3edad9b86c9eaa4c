-- What is told of a record by the four is told as a flat struct: its map over the answer, with the tables as they were left.
use Rattle.std.specs.Prelude.{◌≡◌, ℕ, List}
use mathlib.Core.Path.{ap, ◌∙◌}
use Rattle.local_format.specs.Out.{Out}
use Rattle.local_format.specs.Number.{Chosen}
use Rattle.evr0_section.specs.Section.{Section}
use Rattle.rule_table.specs.ByTable.{four}
use Rattle.evr0.specs.Answer.{Lent}
use Rattle.evr0_read.specs.Asked.{Answers, AnswersBy}
use Rattle.evr0_read.proofs.AskLaws.{by_four}

pub mapped : {E A B : Type 0} (f : A → B) {ask : Out Section → Out (Chosen Section E)} {tell : Out (Chosen Section E) → A} (bytes : List ℕ) (cursor : ℕ)
    {before after : Lent} {told : A} {r : B} → AnswersBy four ask tell bytes cursor before after told → r ≡ f told
    → Answers ask (λ y. f (tell y)) bytes cursor before after r
mapped f bytes cursor a e = by_four bytes cursor (record { answer = e ∙ ap f a.answer; tables = a.tables })
