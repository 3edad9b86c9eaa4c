-- Each number from where its column stands.
use mathlib.Core.Path.{refl}
use native.Mathlib.Omega.{arith}
use Rattle.columns_rebuild.proofs.HeadLaws.{head_count, head_span, four_same}
use Rattle.columns_rebuild.proofs.head.read_announced.Goals as goal

pub returns : goal.returns
returns c h s =
    record {
      counts =
          four_same (head_count s 9 (omega arith) refl c.count_at.ensures)
          (head_count s 10 (omega arith) refl c.count_at-2.ensures)
          (head_count s 11 (omega arith) refl c.count_at-3.ensures)
          (head_count s 12 (omega arith) refl c.count_at-4.ensures);
      span = head_span s c.span_at.ensures;
    }
