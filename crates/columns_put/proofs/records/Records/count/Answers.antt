-- As many as the list has, or as many as there are of one size.
use Rattle.columns_put.proofs.RecordsLaws.{evenly_length}
use Rattle.columns_put.proofs.records.Records.count.Goals as goal

pub returns-in-Even : goal.returns-in-Even
returns-in-Even c =
    rw c.in-Even.is (evenly_length _ _ _)
