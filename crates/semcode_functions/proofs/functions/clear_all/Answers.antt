-- Each table is cleared.
use Rattle.semcode_functions.proofs.functions.clear_all.Goals as goal

pub returns : goal.returns
returns c =
    rw (c.clear.ensures, c.clear-2.ensures, c.clear-3.ensures, c.clear-4.ensures)
