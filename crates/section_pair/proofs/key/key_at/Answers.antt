-- Meets its contract: each field is read at its place.
use Rattle.section_pair.proofs.KeyLaws.{key_is}
use Rattle.section_pair.proofs.key.key_at.Goals as goal

pub returns : goal.returns
returns c =
    key_is c.args.payload.now c.args.start c.le_at.ensures c.le_at-2.ensures c.le_at-3.ensures c.le_at-4.ensures
