-- From the code's enum to the definitions' type.
use Rattle.derivation.specs.Down as of
use Rattle.evr0_rulings.specs.declared.down.Down as down
use Rattle.evr0_rulings.specs.declared.down.Down.TheVariants as variant

abbrev pub down_out : down.Down → of.Down
down_out (variant.Witness w moves) = of.witness w.0 moves
down_out (variant.Spent k) = of.spent k.0
