-- Meets its contract: the section is a part of the file, and its starts are the fronts of the tables.
use borrow.Author.Rules.{rules}
use mathlib.Core.Path.{sym}
use lib.Seq.{length-take-le}
use Rattle.columns_write.proofs.ReadyLaws.{starts_before, ends_within, propositions_there, proofs_there, due}
use Rattle.columns_write.proofs.write.put_accepted.Goals as goal

pub slice_bounds-put_section-count : goal.slice_bounds-put_section-count
slice_bounds-put_section-count c =
    starts_before c.requires

pub slice_bounds-put_section-start : goal.slice_bounds-put_section-start
slice_bounds-put_section-start c =
    let h = starts_before c.requires in
    let k = ends_within c.requires in
    search rules

pub slice_bounds-put_section-end : goal.slice_bounds-put_section-end
slice_bounds-put_section-end c =
    let h = starts_before c.requires in
    let k = ends_within c.requires in
    search rules

pub slice_bounds-put_section-end-2 : goal.slice_bounds-put_section-end-2
slice_bounds-put_section-end-2 c =
    sym (length-take-le _ _ (propositions_there c.requires))

pub slice_bounds-put_section-end-3 : goal.slice_bounds-put_section-end-3
slice_bounds-put_section-end-3 c =
    sym (length-take-le _ _ (proofs_there c.requires))

pub put_section-requires : goal.put_section-requires
put_section-requires c =
    due c.requires
