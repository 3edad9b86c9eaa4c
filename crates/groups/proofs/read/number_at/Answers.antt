-- By the number of at most three groups.
use Rattle.groups.proofs.read.number_at.Goals as goal

pub returns-in-Some : goal.returns-in-Some
returns-in-Some c =
    c.in-Some.ensures c.args.width c.most.ensures
