-- Decoding computed: to unfold `decoded` is to unfold all that decoding and building a section go through.
use Prim.Native.Nat.{ℕ}
use mathlib.Core.List.{List}
use Rattle.local_format.specs.Out.{Out}
use Rattle.local_format.specs.Field.{le, field_at}
use Rattle.local_format.specs.Refusal.{among, kind_of}
use Rattle.local_format.specs.Tag.{equal, tag_at}
use Rattle.local_format.specs.Text.{text_at}
use Rattle.utf8.specs.Utf8.{table, lead_of, later_of, step_of, decode_from, decode, is_control, any_control}
use Rattle.derivation.specs.Pass.{agrees, parents_from, witnesses_from, depth_of, depths_from, depths}
use Rattle.derivation.specs.Rule.{polarity_fits, rule_named, four_rules}
use Rattle.derivation.specs.Section.{proof_at, witness_at, parent_at, proof_total, witness_total, parent_total}
use Rattle.specimens.specs.Build.{number, bytes, text, each, proposition_bytes, proof_bytes, witness_bytes, payload_of, framed}
use Rattle.evr0_section.specs.Head.{Room, digest_at, counts_at, span_width, witness_memory, head_of, within_limits, sizes, has_room, check_counts, checked_head}
use Rattle.evr0_section.specs.Proof.{zeros_at, proof_of, has_numbers, check_proof, proof_row}
use Rattle.evr0_section.specs.Proposition.{proposition_of, compare, compare_bytes, compare_keys, rises, proposition_row}
use Rattle.evr0_section.specs.Rows.{rows}
use Rattle.evr0_section.specs.Section.{Section, frame_at, rest_after, tables_after, section_of, tables_of, tables_at, section_in, section_at, decode_section}
use Rattle.evr0_section.specs.Witness.{witness_of, check_witness, witness_row, parent_row}

unfoldable pub decoded : Room → List ℕ → Out Section
unfolding le field_at among kind_of equal tag_at text_at table lead_of later_of step_of decode_from decode is_control any_control agrees parents_from
    witnesses_from depth_of depths_from depths polarity_fits rule_named four_rules proof_at witness_at parent_at proof_total witness_total parent_total number
    bytes text each proposition_bytes proof_bytes witness_bytes payload_of framed digest_at counts_at span_width witness_memory head_of within_limits sizes
    has_room check_counts checked_head zeros_at proof_of has_numbers check_proof proof_row proposition_of compare compare_bytes compare_keys rises
    proposition_row
    rows frame_at rest_after tables_after section_of tables_of tables_at section_in section_at decode_section witness_of check_witness witness_row parent_row
decoded room s = decode_section room s 0
