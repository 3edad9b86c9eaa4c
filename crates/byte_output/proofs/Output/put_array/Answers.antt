-- Those that fit are copied at once.
use Prim.Native.Nat.{ℕ}
use mathlib.Core.Path.{◌≡◌, refl, ap, sym, ◌∙◌}
use mathlib.Core.List.{List}
use native.Mathlib.Omega.{arith}
use lib.ListN.{length, take}
use lib.Seq.{sets, take_all}
use Rattle.std.proofs.Common.{rules}
use Rattle.local_format.specs.Out.{held}
use Rattle.byte_output.proofs.WrittenLaws.{sets_mid, sets_fit, writes_now}
use Rattle.byte_output.proofs.Output.put_array.Goals as goal

pub returns-else-self-start : goal.returns-else-self-start
unfolding held
returns-else-self-start g c =
    let now : List ℕ = c.args.self.now.bytes.now in
    let bytes : List ℕ = c.args.bytes in
    let long : length bytes ≡ g.row.N = search rules in
    let all : take g.row.N bytes ≡ bytes = take_all g.row.N bytes (omega (arith, long)) in
    writes_now refl (record {
      holds = sets_mid now c.min-start.result _ bytes (omega (arith, long)) (omega (arith, long)) c.copy_from_slice.ensures.after
          ∙ ap (λ (xs : List ℕ). sets now c.min-start.result xs) (sym all)
          ∙ sets_fit now c.args.self.now.next c.min-start.result g.row.N bytes (omega arith) (omega (arith, long));
      place = omega (arith, long);
      fits = omega arith;
    })
