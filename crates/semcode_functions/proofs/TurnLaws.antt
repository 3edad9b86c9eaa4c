-- One function from its head and its block.
use mathlib.Core.Path.{◌≡◌, refl, sym, ◌∙◌}
use Prim.Native.Nat.{ℕ, ◌-◌}
use native.Mathlib.Omega.{arith}
use mathlib.Core.List.{List, []}
use lib.ListN.{length, take, drop}
use lib.Seq.{take_at}
use Rattle.local_format.specs.Refusal.{Refusal}
use Rattle.local_format.specs.Out.{Out, ok, refused, held, at_offset, based, ◌>>=◌}
use Rattle.local_format.proofs.OutLaws.{never, ok_same}
use Rattle.lent_table.specs.Lent.{lent}
use Rattle.semcode_records.specs.Records.{Taken, taken}
use Rattle.semcode_decode.specs.Block.{Rooms, Block, block_of}
use Rattle.semcode_decode.specs.Layout.{Layout}
use Rattle.semcode_decode.specs.Begun.{Begins}
use Rattle.semcode_decode.proofs.BlockLaws.{layout_refused}
use Rattle.semcode_functions.specs.Function.{Head, head_at, function_at}
use Rattle.semcode_functions.specs.Turn.{BeginsFunction}
use Rattle.semcode_functions.proofs.FunctionLaws.{head_ok}

module _ (revision : ℕ) (rooms : Rooms) (s : List ℕ) (at : ℕ) where
  pub head_refused : {r : Refusal} → head_at s at ≡ refused r → function_at revision rooms s at ≡ refused r
  unfolding function_at
  head_refused e = rw e

  module _ (h : Taken Head) (e : head_at s at ≡ ok h) where
    -- the part that the block lies in
    abbrev part : Out Block
    part = block_of revision rooms (take (h.next - h.value.code) (drop h.value.code s))

    is_function : function_at revision rooms s at ≡ (based h.value.code part >>= λ b. taken (record { head = h.value; block = b }) h.next)
    unfolding function_at
    is_function =
        let w = head_ok s at h e in
        let z : h.next - h.value.code ≡ h.value.size = omega arith in
        rw (e, z)

    module _ {strings paths strings' paths' : List ℕ} {told : Out Layout} (b : Begins part strings paths strings' paths' told) where
      pub block_refused : {r : Refusal} → told ≡ refused r
          → (function_at revision rooms s at ≡ refused (at_offset r (held h.value.code r.offset)))
          × (strings' ≡ lent (length strings) [])
          × (paths' ≡ lent (length paths) [])
      block_refused t =
          let e = layout_refused part (sym b.answer ∙ t) in
          (is_function ∙ rw e, rw e at b.of_strings, rw e at b.of_paths)

      pub block_read : {l : Layout} → told ≡ ok l → BeginsFunction (function_at revision rooms s at) strings paths strings' paths'
          (ok (record { code = h.value.code; layout = l; next = h.next }))
      block_read {l} t = rw is_function (go part b)
        where
          go : (x : Out Block) → Begins x strings paths strings' paths' told
              → BeginsFunction (based h.value.code x >>= λ b. taken (record { head = h.value; block = b }) h.next) strings paths strings' paths'
              (ok (record { code = h.value.code; layout = l; next = h.next }))
          go (ok x) b =
              record {
                answer = rw (ok_same (sym t ∙ b.answer));
                of_strings = rw b.of_strings (take_at _ _ _ refl);
                of_paths = rw b.of_paths (take_at _ _ _ refl);
              }
          go (refused r) b = absurd (never (sym b.answer ∙ t))
