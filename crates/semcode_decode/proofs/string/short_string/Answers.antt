-- The bytes that are there and are UTF-8 are a string's.
use Rattle.std.proofs.Common.{◌≡◌, ◌+◌, ◌-◌, ◌≤◌, length, rules, arith}
use Rattle.std.proofs.lemmas.Option.{same_Some}
use Rattle.semcode_decode.proofs.StringLaws.{field_inside, short_place}
use Rattle.semcode_decode.proofs.string.short_string.Goals as goal

pub slice_bounds-is_utf8-end : goal.slice_bounds-is_utf8-end
slice_bounds-is_utf8-end c =
    let i = field_inside c.args.code.now c.args.at c.in_ok-value.ensures in
    search rules

pub returns : goal.returns
returns c p e =
    let f = c.in_ok-value.field-0 in
    let i = field_inside c.args.code.now c.args.at c.in_ok-value.ensures in
    let few : f.value ≤ 1024 = search rules in
    let inside : f.next + f.value ≤ length c.args.code.now = search rules in
    let len : f.next + f.value - f.next ≡ f.value = omega arith in
    rw (← same_Some _ _ e) (short_place c.args.code.now c.args.at f.next f.value c.in_ok-value.ensures few inside (rw len at c.if-not-is_utf8.ensures))
