-- From the decoder's answer to the definitions' types.
use Rattle.local_format.specs.Maps as maps
use Rattle.evr0_head.specs.Maps.{counts_out}
use Rattle.evr0_head.specs.declared.head.Head as head
use Rattle.evr0.specs.Answer as of
use Rattle.evr0.specs.declared.section.Accepted as given
use Rattle.evr0.specs.declared.section.DecodedEvr0.{DecodedEvr0}
pub use Rattle.evr0_rules.specs.Maps.{given_out}

abbrev pub accepted_out : given.Accepted → of.Accepted
accepted_out a =
    record {
      schema = a.schema;
      epoch = a.epoch;
      policy_at = a.policy_namespace;
      issuer_at = a.issuer_namespace;
      policy_chars = a.policy_chars;
      issuer_chars = a.issuer_chars;
      counts = counts_out a.counts;
    }

-- what is given of a section with this head
abbrev pub head_outcome : head.Head → of.Accepted
head_outcome h =
    record {
      schema = h.schema;
      epoch = h.epoch;
      policy_at = h.policy_at;
      issuer_at = h.issuer_at;
      policy_chars = h.policy_namespace.chars;
      issuer_chars = h.issuer_namespace.chars;
      counts = counts_out h.counts;
    }

abbrev pub answer_out : DecodedEvr0 → of.Answer
answer_out d =
    record {
      source_set = d.source_set;
      compiler_contract = d.compiler_contract;
      cursor = d.cursor;
      outcome = maps.answer_out accepted_out d.outcome;
    }
