-- Those that fit are copied; the others are counted.
use Prim.Native.Nat.{ℕ}
use mathlib.Core.Path.{◌≡◌, refl, ◌∙◌}
use mathlib.Core.List.{List}
use native.Mathlib.Omega.{arith}
use lib.ListN.{length, take}
use lib.Seq.{length-take-le}
use Rattle.byte_output.proofs.WrittenLaws.{sets_mid, sets_fit, writes_now}
use Rattle.byte_output.proofs.Output.put_bytes.Goals as goal

pub returns : goal.returns
returns c =
    let held : List ℕ = c.args.self.now.bytes.now in
    let bytes : List ℕ = c.args.bytes.now in
    let fit : ℕ = c.min-fit.result in
    let long : length (take fit bytes) ≡ fit = length-take-le fit bytes (omega arith) in
    writes_now refl
    (record {
      holds = sets_mid held c.min-start.result _ (take fit bytes) (omega (arith, long)) (omega (arith, long)) c.copy.ensures
          ∙ sets_fit held c.args.self.now.next c.min-start.result fit bytes (omega arith) (omega arith);
      place = c.diag_offset-self.ensures;
      fits = omega arith;
    })
