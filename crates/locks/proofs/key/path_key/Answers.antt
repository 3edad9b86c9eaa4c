-- Meets its contract: what stands in front of the components, and then these.
use Prim.Native.Nat.{ℕ, ◌+◌, ◌-◌}
use mathlib.Core.Path.{◌≡◌, refl, ap, ◌∙◌}
use mathlib.Core.List.{List, ◌++◌}
use native.Mathlib.Omega.{arith}
use lib.ListN.{length, take, drop, replicate, length-append, length-take, length-drop}
use borrow.Rule.Slice.PartMut.{put_mid}
use borrow.Author.Rules.{rules}
use Rattle.locks.proofs.KeyLaws.{front_in, found, begun, keyed}
use Rattle.locks.proofs.key.path_key.Goals as goal

pub returns : goal.returns
returns c at e =
    let four = c.copy_from_slice.new.self in
    let source = c.copy_from_slice-2.new.self in
    let key : List ℕ = put_mid 4 4 (four ++ replicate 20 0) source in
    let sizes : (length four ≡ 4) × (length source ≡ 4) = (c.copy_from_slice.auto.self, ap length c.copy_from_slice-2.ensures.after ∙ search rules) in
    let size : length key ≡ 24 = simp (length-append, length-take, length-drop, sizes.0, sizes.1) refl in
    let n : length (take (8 + c.parts.result - 8) (drop 8 key)) ≡ c.parts.result =
    let few = c.parts.ensures in simp (length-take, length-drop, size) (omega arith) in
    let begins = begun four source (replicate 20 0) c.args.source (search rules) c.args.owner (front_in c.args.path)
    c.copy_from_slice.ensures.after c.copy_from_slice-2.ensures.after in
    keyed _ _ at (front_in c.args.path) (found _ _ at c.args.path e) _ (search rules) (search rules) _ _ _ _ c.parts.result _ key c.fill_parts.new.words
    c.parts.ensures begins (omega arith) (c.fill_parts.auto.words ∙ n) (rw n at c.fill_parts.ensures)
