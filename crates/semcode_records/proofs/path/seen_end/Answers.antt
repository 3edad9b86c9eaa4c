-- The first two bytes decide where the components start, and no component is left.
use mathlib.Core.Path.{◌≡◌, sym, ◌∙◌}
use native.Mathlib.Omega.{arith}
use Prim.Native.Nat.{◌+◌}
use lib.ListN.{get_or}
use Rattle.local_format.proofs.FieldLaws.{le_1}
use Rattle.semcode_records.specs.Records.{next_of, records, ends}
use Rattle.semcode_records.specs.Component.{component_at}
use Rattle.semcode_records.specs.Path.{path_at}
use Rattle.semcode_records.proofs.RecordsLaws.{none_left_lem}
use Rattle.semcode_records.proofs.FrontLaws.{ends_by_bytes}
use Rattle.semcode_records.proofs.path.seen_end.Goals as goal

pub returns-then-passed-eq0 : goal.returns-then-passed-eq0
returns-then-passed-eq0 c end h =
    let a = c.args in
    let s = a.bytes.now in
    let here : next_of (path_at a.header_rev s a.at)
    ≡ ends (records (component_at a.header_rev (get_or s a.at 0) s) c.le_at-count.result (a.at + 8 + c.site_size-size.result)) =
    rw (c.le_at-count.ensures, c.site_size-size.ensures.0)
    (ends_by_bytes _ _ _ (omega (arith, c.if-header_rev-lt-SEMCODE_OWNERSHIP_ANCHOR_MIN_REVISION.false))
    (omega (arith, c.if-bytes-lt12.false, c.if-bytes-at.false)) _ _ (sym (le_1 s a.at))
    (sym (le_1 s (a.at + 1))) (omega (arith, c.if-kind-gt1.false)) (omega (arith, c.if-mode-gt1.false))) in
    here ∙ rw (c.pass_components-passed.ensures, c.if-passed-eq0.true, none_left_lem _ _) (cc)
