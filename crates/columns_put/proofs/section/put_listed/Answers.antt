-- One table after the other.
use Rattle.byte_output.proofs.WrittenLaws.{writes_append}
use Rattle.columns_put.proofs.section.put_listed.Goals as goal

pub returns : goal.returns
returns c =
    writes_append c.put_table.ensures c.put_table-2.ensures
