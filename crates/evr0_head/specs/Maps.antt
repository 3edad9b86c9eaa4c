-- From the code's structs to the definitions' types.
use Rattle.local_format.specs.Maps.{span_out}
use Rattle.local_format.specs.declared.field.Field.{Field}
use Rattle.evr0_section.specs.Head as of
use Rattle.evr0_head.specs.declared.counts.Counts.{Counts}
use Rattle.evr0_head.specs.declared.head.Head.{Head}
use Rattle.evr0_head.specs.declared.head.Room.{Room}

abbrev pub counts_out : Counts → of.Counts
counts_out c = record { propositions = c.propositions; proofs = c.proofs; witnesses = c.witnesses; parents = c.parents }

abbrev pub counted_out : Field Counts → of.Counted
counted_out c = record { counts = counts_out c.value; next = c.next }

abbrev pub room_out : Room → of.Room
room_out r = record { propositions = r.propositions; proofs = r.proofs; depths = r.depths }

abbrev pub head_out : Head → of.Head
head_out h =
    record {
      schema = h.schema;
      source_set = h.source_set.now;
      compiler_contract = h.compiler_contract.now;
      epoch = h.epoch;
      policy_at = h.policy_at;
      policy = span_out h.policy_namespace;
      issuer_at = h.issuer_at;
      issuer = span_out h.issuer_namespace;
      counts = counts_out h.counts;
      counts_at = h.counts_at;
      next = h.next;
    }
