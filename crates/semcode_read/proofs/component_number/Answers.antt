-- The path is read first, then the component after those before it.
use Prim.Native.Nat.{ℕ}
use mathlib.Core.Path.{ap, sym, ◌∙◌}
use Rattle.std.proofs.Common.{rules}
use Rattle.local_format.specs.Out.{Out, refused}
use Rattle.local_format.proofs.OutLaws.{based_ok}
use Rattle.semcode_records.specs.Maps.{head_is}
use Rattle.semcode_decode.specs.Block.{Block, block_of}
use Rattle.semcode_decode.specs.Layout.{Lent, tables, rooms_of}
use Rattle.semcode_decode.specs.Number.{decode_anew, component_number, block_in, taken_in}
use Rattle.semcode_read.specs.After.{component_after}
use Rattle.semcode_read.proofs.AnswerLaws.{kept, cleared}
use Rattle.semcode_read.proofs.ComponentLaws.{ChosenPath, chosen_path, no_path, component_missing, component_found}
use Rattle.semcode_read.proofs.component_number.Goals as goal

pub returns-in_err-found : goal.returns-in_err-found
returns-in_err-found c =
    let brought : Lent =
    let a = c.args in
    tables a.strings.now a.paths.now a.families.now in
    let block : Out Block =
    let a = c.args in
    decode_anew a.base_offset a.header_rev a.code.now brought in
    let a = c.args in
    let b = no_path a.number a.component block (sym c.in_err-found.ensures.answer) in
    kept taken_in (component_number a.number a.component block) brought c.in_err-found.ensures (ap block_in b.0 ∙ sym (ap block_in b.1))
    (rw b.0 (search rules))

pub returns-then-component-path : goal.returns-then-component-path
returns-then-component-path c =
    let brought : Lent =
    let a = c.args in
    tables a.strings.now a.paths.now a.families.now in
    let block : Out Block =
    let a = c.args in
    decode_anew a.base_offset a.header_rev a.code.now brought in
    let chosen : ChosenPath c.args.number block (head_is c.in_ok-found.found.value) =
    chosen_path c.args.number block
    (sym c.in_ok-found.ensures.answer) in
    let a = c.args in
    let h = head_is c.in_ok-found.found.value in
    let rooms = rooms_of brought 8192 in
    let ch = chosen in
    let f =
    component_found a.number a.component block ch.block ch.entry h ch.accepted ch.is ch.read_back a.header_rev
    rooms a.code.now
    (based_ok a.base_offset (block_of a.header_rev rooms a.code.now) ch.accepted)
    c.if-component-path.true
    in
    kept taken_in (component_number a.number a.component block) brought c.in_ok-found.ensures f.1
    (c.component_after.ensures ∙ ap (λ (kind : ℕ). component_after a.header_rev kind a.code.now a.component h.start)
    c.event_kind-kind.ensures ∙ f.0)

pub returns : goal.returns
returns c =
    let brought : Lent =
    let a = c.args in
    tables a.strings.now a.paths.now a.families.now in
    let block : Out Block =
    let a = c.args in
    decode_anew a.base_offset a.header_rev a.code.now brought in
    let chosen : ChosenPath c.args.number block (head_is c.in_ok-found.found.value) =
    chosen_path c.args.number block
    (sym c.in_ok-found.ensures.answer) in
    let a = c.args in
    let ch = chosen in
    let e =
    component_missing a.number a.component block ch.block ch.entry (head_is c.in_ok-found.found.value) ch.accepted ch.is
    ch.read_back
    c.if-component-path.false
    in
    cleared taken_in (component_number a.number a.component block) brought
    (let l = c.path_number.new in tables l.strings l.paths l.families)
    c.not_there.ensures e c.path_number.auto.strings c.path_number.auto.paths
    c.path_number.auto.families (ap refused c.not_there.ensures.answer)
