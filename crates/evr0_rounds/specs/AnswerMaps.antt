-- From the code's struct to the definitions' type.
use Rattle.evr0_rounds.specs.Steps.{Marked}
use Rattle.evr0_rounds.specs.declared.section.Marked as code

abbrev pub marked_out : code.Marked → Marked
marked_out m = record { proofs = m.proofs; cursor = m.cursor }
