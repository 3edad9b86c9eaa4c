-- The head, then the tables that start at listed places, then those that end the payload.
use mathlib.Core.Path.{refl}
use Rattle.std.proofs.Common.{rules}
use Rattle.evr0_section.specs.Head.{span_width}
use Rattle.columns_put.proofs.DueLaws.{Known, known, listed_in, last_in, all_put}
use Rattle.columns_put.proofs.section.put_section.Goals as goal

pub put_head-requires : goal.put_head-requires
put_head-requires c =
    let facts : Known c.args.section.now c.args.propositions.now c.args.proofs.now c.args.witnesses c.args.parents (span_width c.args.schema) =
    known c.requires in
    facts.head_in

pub put_listed-requires : goal.put_listed-requires
put_listed-requires c =
    let facts : Known c.args.section.now c.args.propositions.now c.args.proofs.now c.args.witnesses c.args.parents (span_width c.args.schema) =
    known c.requires in
    listed_in facts c.tail-payload.ensures

pub put_even-requires : goal.put_even-requires
put_even-requires c =
    let facts : Known c.args.section.now c.args.propositions.now c.args.proofs.now c.args.witnesses c.args.parents (span_width c.args.schema) =
    known c.requires in
    last_in facts c.tail-payload.ensures c.span_of.ensures

pub returns : goal.returns
returns c =
    let facts : Known c.args.section.now c.args.propositions.now c.args.proofs.now c.args.witnesses c.args.parents (span_width c.args.schema) =
    known c.requires in
    let puts = all_put facts c.tail-payload.ensures c.span_of.ensures refl c.put_head.ensures c.put_listed.ensures c.put_even.ensures in
    search rules
