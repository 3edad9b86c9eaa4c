-- Where 8 bytes are there, the component's size decides its word.
use Prim.Native.Nat.{ℕ, ◌<◌}
use native.Mathlib.Omega.{arith}
use borrow.Author.Rules.{rules}
use lib.ListN.{get_or}
use Rattle.semcode_records.proofs.SizeLaws.{Sized, sized}
use Rattle.path_words.proofs.Laws.{size_within, step_sized}
use Rattle.path_words.proofs.Steps.step.Goals as goal

pub sized_word-requires : goal.sized_word-requires
sized_word-requires c =
    let bytes : (k : ℕ) → get_or c.args.self.now.code.now k 0 < 256 = λ k. search rules in
    let by_size : let a = c.args in Sized a.self.now.header_rev a.self.now.kind a.self.now.code.now a.at c.component_size-size.result =
    let a = c.args in
    sized a.self.now.header_rev a.self.now.kind a.self.now.code.now a.at (omega arith) _ (rw c.component_sizes.ensures at c.component_size-size.ensures.0)
    (omega arith) in
    size_within _ _ _ _ _ bytes by_size

pub returns : goal.returns
returns c =
    let bytes : (k : ℕ) → get_or c.args.self.now.code.now k 0 < 256 = λ k. search rules in
    let by_size : let a = c.args in Sized a.self.now.header_rev a.self.now.kind a.self.now.code.now a.at c.component_size-size.result =
    let a = c.args in
    sized a.self.now.header_rev a.self.now.kind a.self.now.code.now a.at (omega arith) _ (rw c.component_sizes.ensures at c.component_size-size.ensures.0)
    (omega arith) in
    rw c.sized_word.ensures (step_sized _ _ _ _ _ bytes _ c.le_at.ensures by_size)
