-- The block ends within the bytes where its size is no more than what is left (`HeadLaws`).
use Rattle.std.proofs.Common.{arith}
use Rattle.local_format.specs.Maps.{span_out}
use Rattle.semcode_functions.proofs.HeadLaws.{size_within, head_goes_on}
use Rattle.semcode_functions.proofs.head.read_function.Goals as goal

pub overflow_sub-bytes : goal.overflow_sub-bytes
overflow_sub-bytes c =
    let w = size_within c.args.bytes.now c.args.at (span_out c.in_ok-name.name) _ _ c.in-Some.ensures in
    omega arith

pub returns : goal.returns
returns c = head_goes_on c.args.bytes.now c.args.at (span_out c.in_ok-name.name) _ _ c.in-Some.ensures c.in_ok-name.ensures c.in_ok-check.ensures
