-- Where the count is read, by the reader's places.
use Rattle.std.proofs.Common.{◌≡◌, ◌∙◌, rules, length}
use lib.ListN.{take}
use lib.Seq.{length-take-le}
use Rattle.semcode_records.proofs.RecordsLaws.{places, tells_places}
use Rattle.semcode_decode.specs.Block.{string_record, string_table}
use Rattle.semcode_decode.proofs.TableLaws.{extent_places, lies_places}
use Rattle.semcode_decode.proofs.table.string_table.Goals as goal

pub returns : goal.returns
unfolding string_table
returns c =
    let a = c.args in
    let read = string_record a.bytes.now in
    let tells = tells_places read (λ place r fits h. h) in
    let l : length (take c.in-Some.field-0.value a.strings.now) ≡ c.in-Some.field-0.value = length-take-le _ _ (search rules) in
    rw (← c.in-Some.ensures, ← c.in_ok-check.ensures, ← c.in_ok-check-2.ensures) (record {
      result_value = rw l at (c.fill_starts.ensures.result_value (places read) tells) ∙ extent_places read _ _;
      lies = lies_places read _ _ _ _ (c.fill_starts.auto.starts ∙ l) (rw l at (c.fill_starts.ensures.filled (places read) tells));
    })
