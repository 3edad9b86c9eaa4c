-- Each record puts its start behind those of the records before it.
use Rattle.std.proofs.Common.{◌≡◌, ◌∙◌, arith, rules, sym, length}
use Rattle.local_format.proofs.OutLaws.{never}
use Rattle.semcode_records.proofs.RecordsLaws.{next_refused, next_read}
use Rattle.semcode_decode.proofs.TableLaws.{fill_first, fill_refused, fill_on, filled}
use Rattle.semcode_decode.proofs.table.fill_starts.Goals as goal

pub loop-start-init : goal.loop-start-init
loop-start-init g c = record { fits = search rules; filling = λ read tells. fill_first read _ _ c.args.starts.now }

pub returns-in_err-next-clause-result_value : goal.returns-in_err-next-clause-result_value
returns-in_err-next-clause-result_value g c read tells =
    let e = fill_refused read _ _ _ _ c.loop-start.start-items (c.loop-start.invariant.filling read tells) (omega arith)
    (next_refused _ (sym (tells _ _ (omega (arith, c.loop-start.invariant.fits)) c.in_err-next.ensures))) in
    rw e (search rules)

pub returns-in_err-next-clause-filled : goal.returns-in_err-next-clause-filled
returns-in_err-next-clause-filled g c read tells t h =
    let e = fill_refused read _ _ _ _ c.loop-start.start-items (c.loop-start.invariant.filling read tells) (omega arith)
    (next_refused _ (sym (tells _ _ (omega (arith, c.loop-start.invariant.fits)) c.in_err-next.ensures))) in
    absurd (never (sym e ∙ h))

pub loop-start-preserved : goal.loop-start-preserved
loop-start-preserved g c =
    record {
      fits = search rules;
      filling =
          λ read tells. fill_on read _ _ _ _ c.loop-start.start-items (c.loop-start.invariant.filling read tells) (omega arith) (omega arith)
          (next_read _ (sym (tells _ _ (omega (arith, c.loop-start.invariant.fits)) c.in_ok-next.ensures))).1;
    }

pub returns : goal.returns
returns g c =
    let z : c.loop-start.start-index ≡ length c.args.starts.now = omega arith in
    record {
      result_value =
          λ read tells. sym (filled read _ _ _ c.loop-start.start-items (rw z at (c.loop-start.invariant.filling read tells)) (omega arith)).0;
      filled = λ read tells. (filled read _ _ _ c.loop-start.start-items (rw z at (c.loop-start.invariant.filling read tells)) (omega arith)).1;
    }
