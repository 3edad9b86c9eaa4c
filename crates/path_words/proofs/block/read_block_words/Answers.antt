-- A refusal is moved by the base and the table is cleared.
use Rattle.std.proofs.Common.{rules}
use Rattle.semcode_decode.specs.Block.{block_of}
use Rattle.path_words.specs.Blocks.{every_room}
use Rattle.path_words.proofs.BlockLaws.{none_left}
use Rattle.path_words.proofs.block.read_block_words.Goals as goal

pub returns-in-Err : goal.returns-in-Err
returns-in-Err c =
    let a = c.args in
    let left = none_left a.words.now (block_of a.header_rev every_room a.code.now) c.in-Err.ensures.answer in
    record { answer = rw (← c.in-Err.ensures.answer) (search rules); table = rw (left, ← c.put_block.auto.words) c.clear.ensures }
