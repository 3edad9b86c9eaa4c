-- The flat struct of a section, with what the decoder answers.
use Rattle.std.specs.Prelude.{ℕ, true, false, ◌≡◌, List}
use Rattle.local_format.specs.Out.{Out, ok, refused}
use Rattle.derivation.specs.Rule.{four_rules}
use Rattle.evr0_section.specs.Demand.{Demand3}
use Rattle.evr0_section.specs.Marks.{MarksByRules}
use Rattle.rule_table.specs.ByTable.{Given, table, HoldsBy}
use Rattle.evr0.specs.Answer.{Accepted, Answer, answer_of, Lent, Filled, decode_in, decode_given, room_of}
use Rattle.evr0_marks.specs.Answer as marked
use Rattle.authorised_table.specs.Answer as told
use Rattle.falgnust.specs.Maps.{flat_refusal, no_refusal}
use Rattle.falgnust.specs.declared.rules.Rules.{Rules}
use Rattle.falgnust.specs.declared.section.Section.{Section}

-- with the digests and the cursor that stand beside the outcome
abbrev pub flat_outcome : List ℕ → List ℕ → ℕ → Out Accepted → Section
flat_outcome source contract cursor (ok given) =
    record {
      accepted = true;
      refusal = no_refusal;
      source_set = source;
      compiler_contract = contract;
      epoch = given.epoch;
      schema = given.schema;
      policy_at = given.policy_at;
      issuer_at = given.issuer_at;
      policy_chars = given.policy_chars;
      issuer_chars = given.issuer_chars;
      propositions = given.counts.propositions;
      proofs = given.counts.proofs;
      witnesses = given.counts.witnesses;
      parents = given.counts.parents;
      cursor = cursor;
    }
flat_outcome source contract cursor (refused r) =
    record {
      accepted = false;
      refusal = flat_refusal r;
      source_set = source;
      compiler_contract = contract;
      epoch = 0;
      schema = 0;
      policy_at = 0;
      issuer_at = 0;
      policy_chars = 0;
      issuer_chars = 0;
      propositions = 0;
      proofs = 0;
      witnesses = 0;
      parents = 0;
      cursor = cursor;
    }

abbrev pub flat_section : Answer → Section
flat_section a = flat_outcome a.source_set a.compiler_contract a.cursor a.outcome

-- what a call of the section decoder leaves: the flat struct, the lent tables, that demand 3 holds and that each mark says what it is to say
pub record Decodes (bytes : List ℕ) (cursor : ℕ) (before after : marked.Lent) (r : Section) : Type 0 where
  pub answer : r ≡ flat_section (answer_of cursor (marked.decode_in before bytes cursor))
  pub tables : marked.Filled (marked.decode_in before bytes cursor) before after
  pub demand3 : Demand3 (marked.room_of before) bytes cursor
  pub marked : MarksByRules four_rules (marked.room_of before) bytes cursor

-- the same without marks
pub record DecodesUnmarked (bytes : List ℕ) (cursor : ℕ) (before after : Lent) (r : Section) : Type 0 where
  pub answer : r ≡ flat_section (answer_of cursor (decode_in before bytes cursor))
  pub tables : Filled (decode_in before bytes cursor) before after
  pub demand3 : Demand3 (room_of before) bytes cursor

-- ---- By a table of rules

abbrev pub flat_rules : Out ℕ → Rules
flat_rules (ok n) = record { accepted = true; refusal = no_refusal; count = n }
flat_rules (refused r) = record { accepted = false; refusal = flat_refusal r; count = 0 }

pub record DecodesBy (t bytes : List ℕ) (cursor : ℕ) (before after : marked.Lent) (r : Section) : Type 0 where
  pub answer : r ≡ flat_section (answer_of cursor (marked.decode_given (table t) before bytes cursor))
  pub tables : marked.Filled (marked.decode_given (table t) before bytes cursor) before after
  pub holds : HoldsBy (table t) (marked.room_of before) bytes cursor

pub record DecodesUnmarkedBy (t bytes : List ℕ) (cursor : ℕ) (before after : Lent) (r : Section) : Type 0 where
  pub answer : r ≡ flat_section (answer_of cursor (decode_given (table t) before bytes cursor))
  pub tables : Filled (decode_given (table t) before bytes cursor) before after
  pub holds : HoldsBy (table t) (room_of before) bytes cursor

-- ---- With a byte for each proposition, by the rules of a call

pub record Tells (given : Given) (bytes : List ℕ) (cursor : ℕ) (before after : told.Lent) (r : Section) : Type 0 where
  pub answer : r ≡ flat_section (answer_of cursor (told.decode_given given before bytes cursor))
  pub tables : told.Filled (told.decode_given given before bytes cursor) before after
