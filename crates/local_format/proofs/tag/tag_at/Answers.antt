-- A place past the end has no tag; from any other the bytes start with it or not (`tag_starts`).
use mathlib.Core.Path.{◌≡◌, ap, ◌∙◌}
use mathlib.Core.Logic.{⊎_elim}
use mathlib.Core.List.{List}
use native.Mathlib.Omega.{arith}
use Prim.Native.Nat.{ℕ}
use lib.Dec.{eqb}
use lib.ListN.{drop, length-drop}
use lib.Seq.{take_all}
use Rattle.std.specs.List.{starts_with}
use Rattle.local_format.proofs.TagLaws.{tag_cut, tag_starts}
use Rattle.local_format.proofs.tag.tag_at.Goals as goal

pub returns-in_default : goal.returns-in_default
returns-in_default c = ⊎_elim (λ h. tag_cut _ _ _ (omega arith)) (λ h. absurd (omega arith)) c.in_default.ensures.lookup.0

pub returns : goal.returns
returns c =
    let a = c.args in
    let rest = c.in-Some.ensures.lookup.0 in
    let whole : c.in-Some.rest.now ≡ drop a.at a.bytes.now = rest.2 ∙ take_all _ _ (omega (arith, length-drop a.at a.bytes.now)) in
    c.starts_with.ensures.value ∙ ap (λ (l : List ℕ). starts_with eqb l a.tag.now) whole ∙ tag_starts _ _ _ (omega (arith, rest.3))
