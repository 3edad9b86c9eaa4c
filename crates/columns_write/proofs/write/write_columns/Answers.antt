-- What the decoder leaves, and then the columns, by `WriteLaws`.
use mathlib.Core.Path.{refl, ap}
use Rattle.local_format.specs.Maps as format
use Rattle.evr0_rules.specs.Maps.{given_out}
use Rattle.evr0.specs.Answer as decoder
use Rattle.evr0.specs.AnswerMaps.{accepted_out, answer_out}
use Rattle.columns_answer.specs.Copies.{Lent, with_output}
use Rattle.columns_write.proofs.CopyLaws.{SameLengths}
use Rattle.columns_write.proofs.WriteLaws.{refused_writes, full, accepted_writes}
use Rattle.columns_write.proofs.write.write_columns.Goals as goal

pub finish-requires : goal.finish-requires
finish-requires c =
    let a = c.args in
    let d = c.decode_evr0_by-decoded in
    let brought : Lent = with_output (decoder.lent_of a.propositions.now a.proofs.now a.depths.now) a.output.now in
    let left : decoder.Lent = decoder.lent_of d.new.propositions d.new.proofs d.new.depths in
    let leaves : decoder.LeavesBy (given_out a.rules) a.bytes.now a.cursor brought.tables left (answer_out d.result) = d.ensures in
    let same : SameLengths (with_output left brought.output) brought =
    record { propositions = d.auto.propositions; proofs = d.auto.proofs; depths = d.auto.depths; output = refl } in
    full (given_out a.rules) a.bytes.now a.cursor brought leaves same (ap (format.answer_out accepted_out) c.in-Ok.is)

pub returns-in-Err : goal.returns-in-Err
returns-in-Err c =
    let a = c.args in
    let d = c.decode_evr0_by-decoded in
    let brought : Lent = with_output (decoder.lent_of a.propositions.now a.proofs.now a.depths.now) a.output.now in
    let left : decoder.Lent = decoder.lent_of d.new.propositions d.new.proofs d.new.depths in
    let leaves : decoder.LeavesBy (given_out a.rules) a.bytes.now a.cursor brought.tables left (answer_out d.result) = d.ensures in
    refused_writes (given_out a.rules) a.bytes.now a.cursor brought leaves (ap (format.answer_out accepted_out) c.in-Err.is) c.clear.ensures

pub returns-in-Ok : goal.returns-in-Ok
returns-in-Ok c =
    let a = c.args in
    let d = c.decode_evr0_by-decoded in
    let brought : Lent = with_output (decoder.lent_of a.propositions.now a.proofs.now a.depths.now) a.output.now in
    let left : decoder.Lent = decoder.lent_of d.new.propositions d.new.proofs d.new.depths in
    let leaves : decoder.LeavesBy (given_out a.rules) a.bytes.now a.cursor brought.tables left (answer_out d.result) = d.ensures in
    let same : SameLengths (with_output left brought.output) brought =
    record { propositions = d.auto.propositions; proofs = d.auto.proofs; depths = d.auto.depths; output = refl } in
    accepted_writes (given_out a.rules) a.bytes.now a.cursor brought leaves same (ap (format.answer_out accepted_out) c.in-Ok.is) c.finish.ensures
