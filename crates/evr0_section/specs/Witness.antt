-- A witness record, over the width of its span's ends, with its own check; and a parent cell.
use Rattle.std.specs.Prelude.{ℕ, suc, List, ◌&&◌, ltb, leb, eqb}
use Rattle.local_format.specs.Out.{Out, ok, check, ◌>>=◌, ◌>>◌}
use Rattle.local_format.specs.Text.{section_field}
use Rattle.evr0_section.specs.Rows.{Sized, Row}
use Rattle.evr0_section.specs.Head.{Counts, digest_at}
use Rattle.evr0_section.specs.Proof.{zeros_at}

pub record WitnessRecord : Type 0 where
  pub number : ℕ
  pub proposition : ℕ
  pub polarity : ℕ
  pub file_digest : List ℕ
  pub span_start : ℕ
  pub span_end : ℕ
  pub origin_digest : List ℕ

-- the witness at the front of s, whose span's ends are fields of `width` bytes
unfoldable pub witness_of : ℕ → List ℕ → Out (Sized WitnessRecord)
witness_of width s = do
  number ← section_field 4 s 0
  proposition ← section_field 4 s number.next
  polarity ← section_field 1 s proposition.next
  zeros ← zeros_at s polarity.next
  file ← digest_at s zeros
  start ← section_field width s file.next
  end ← section_field width s start.next
  origin ← digest_at s end.next
  ok (record {
    item = record {
      number = number.value;
      proposition = proposition.value;
      polarity = polarity.value;
      file_digest = file.bytes;
      span_start = start.value;
      span_end = end.value;
      origin_digest = origin.bytes;
    };
    size = origin.next;
  })

-- the witness is the next one, w
unfoldable pub check_witness : Counts → ℕ → WitnessRecord → Out (Unit {0})
check_witness counts w r =
    check (eqb r.number w && (ltb r.proposition counts.propositions && (leb r.polarity 1 && leb r.span_start r.span_end))) 23 0

unfoldable pub witness_row : ℕ → Counts → ℕ → List ℕ → Out (Row WitnessRecord ℕ)
witness_row width counts w s = do
  r ← witness_of width s
  check_witness counts w r.item
  ok (record { item = r.item; size = r.size; state = suc w })

-- ---- A parent cell holds a proof number
unfoldable pub parent_row : Unit {0} → List ℕ → Out (Row ℕ (Unit {0}))
parent_row u s = do
  g ← section_field 4 s 0
  ok (record { item = g.value; size = g.next; state = u })
