-- Where the count is read, by the place after the families.
use Rattle.std.proofs.Common.{arith, ap, sym, rules}
use Rattle.local_format.specs.Field.{or_cut}
use Rattle.local_format.proofs.FieldLaws.{field_ok}
use Rattle.semcode_records.specs.Records.{records}
use Rattle.semcode_decode.specs.Block.{family_at, family_table}
use Rattle.semcode_decode.proofs.TableLaws.{extent_ends}
use Rattle.semcode_decode.proofs.SignatureLaws.{extent_refused}
use Rattle.semcode_decode.proofs.signature.family_table.Goals as goal

pub families_end-requires : goal.families_end-requires
families_end-requires c =
    let a = c.args in
    let w = field_ok 72 2 a.bytes.now a.at (ap (or_cut 72 a.at) (sym c.in-Some.ensures)) in
    omega arith

pub returns-in_err-families_end : goal.returns-in_err-families_end
unfolding family_table
returns-in_err-families_end c =
    rw (
      ← c.in-Some.ensures,
      ← c.in_ok-check.ensures,
      ← c.in_ok-check-2.ensures,
      extent_refused (records (family_at c.args.bytes.now) _ _) (sym c.in_err-families_end.ensures),
    ) (search rules)

pub returns : goal.returns
unfolding family_table
returns c =
    rw (← c.in-Some.ensures, ← c.in_ok-check.ensures, ← c.in_ok-check-2.ensures)
    (sym (extent_ends (family_at c.args.bytes.now) _ _ (sym c.in_ok-families_end.ensures)))
