-- Meets its contract: three fields, a place, the span's ends and a place, each after the ones before.
use mathlib.Core.Path.{sym}
use native.Mathlib.Omega.{arith}
use lib.Seq.{length-take-le}
use Rattle.evr0_section.specs.Head.{span_width}
use Rattle.record_words.proofs.Laws.{witness_cut, witness_there, witness_put}
use Rattle.record_words.proofs.WitnessesRecord.put.Goals as goal

pub returns-then-saturating_sub-size : goal.returns-then-saturating_sub-size
returns-then-saturating_sub-size c =
    let w = span_width c.args.self.now.schema in
    let e = witness_cut w c.args.bytes.now c.args.at (omega (arith, c.witness_size-size.ensures.0)) in
    record { whole = sym e; puts = λ t. absurd (cc) }

pub returns : goal.returns
returns c =
    let w = span_width c.args.self.now.schema in
    let e = witness_there w c.args.bytes.now c.args.at (omega (arith, c.witness_size-size.ensures.0)) in
    let l = length-take-le 3 c.args.words.now (omega arith) in
    record {
      whole = sym e;
      puts = λ _. witness_put w c.args.bytes.now c.args.at _ _ c.args.words.now _ _ (omega arith) l c.put_fields.ensures c.put_span.ensures
          (omega (arith, c.witness_size-size.ensures.0));
    }
