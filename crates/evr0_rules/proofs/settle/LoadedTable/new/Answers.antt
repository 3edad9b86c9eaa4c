-- The rules are those that were given.
use mathlib.Core.Path.{refl}
use Rattle.evr0_rules.proofs.settle.LoadedTable.new.Goals as goal

pub returns : goal.returns
returns c = refl
