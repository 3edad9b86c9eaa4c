-- What the section decoder answers, and what the lent tables then hold.
use Rattle.std.specs.Prelude.{ℕ, ◌≡◌, List, [], length}
use Rattle.local_format.specs.Out.{Out, ok, refused}
use Rattle.lent_table.specs.Lent.{lent}
use Rattle.evr0_section.specs.Head.{Counts}
use Rattle.evr0_section.specs.Section.{Section, decode_section}
use Rattle.evr0_section.specs.Demand.{Demand3}
use Rattle.rule_table.specs.ByTable.{Given, decode_by, HoldsBy}
use Rattle.evr0_fields.specs.Maps.{zeros}
pub use Rattle.evr0_section.specs.Rows.{starts_of}
pub use Rattle.evr0_tables.specs.LentTables.{Lent, lent_of, room_of}

-- ---- The answer

-- what is given of an accepted section: the schema, the epoch, the places in the payload of both namespaces' lengths, how many characters each has,
-- and the counts
pub record Accepted : Type 0 where
  pub schema : ℕ
  pub epoch : ℕ
  pub policy_at : ℕ
  pub issuer_at : ℕ
  pub policy_chars : ℕ
  pub issuer_chars : ℕ
  pub counts : Counts

-- the digests and the cursor stand beside it
pub record Answer : Type 0 where
  pub source_set : List ℕ
  pub compiler_contract : List ℕ
  pub cursor : ℕ
  pub outcome : Out Accepted

-- a refusal leaves zeros in the digests, and the cursor as it was brought
abbrev pub answer_of : ℕ → Out Section → Answer
answer_of cursor (ok s) =
    record {
      source_set = s.tables.head.source_set;
      compiler_contract = s.tables.head.compiler_contract;
      cursor = s.cursor;
      outcome =
          ok (record {
            schema = s.tables.head.schema;
            epoch = s.tables.head.epoch;
            policy_at = s.tables.head.policy_at;
            issuer_at = s.tables.head.issuer_at;
            policy_chars = s.tables.head.policy.chars;
            issuer_chars = s.tables.head.issuer.chars;
            counts = s.tables.head.counts;
          });
    }
answer_of cursor (refused r) =
    record { source_set = zeros; compiler_contract = zeros; cursor = cursor; outcome = refused r }

-- ---- What fills the lent tables; a refusal has nothing

abbrev pub proposition_starts : Out Section → List ℕ
proposition_starts (ok s) = starts_of s.tables.propositions.entries
proposition_starts (refused r) = []

abbrev pub proof_starts : Out Section → List ℕ
proof_starts (ok s) = starts_of s.tables.proofs.entries
proof_starts (refused r) = []

abbrev pub proof_depths : Out Section → List ℕ
proof_depths (ok s) = s.depths
proof_depths (refused r) = []

-- the tables hold it, and zeros past it
pub record Filled (x : Out Section) (before after : Lent) : Type 0 where
  pub propositions : after.propositions ≡ lent (length before.propositions) (proposition_starts x)
  pub proofs : after.proofs ≡ lent (length before.proofs) (proof_starts x)
  pub depths : after.depths ≡ lent (length before.depths) (proof_depths x)

-- ---- What a call of the decoder leaves

-- the section that document 01 defines at a cursor, for lent tables of these lengths
abbrev pub decode_in : Lent → List ℕ → ℕ → Out Section
decode_in tables bytes cursor = decode_section (room_of tables) bytes cursor

pub record Leaves (bytes : List ℕ) (cursor : ℕ) (before after : Lent) (given : Answer) : Type 0 where
  pub answer : given ≡ answer_of cursor (decode_in before bytes cursor)
  pub tables : Filled (decode_in before bytes cursor) before after
  pub demand3 : Demand3 (room_of before) bytes cursor

-- ---- The same by the rules of a call

abbrev pub decode_given : Given → Lent → List ℕ → ℕ → Out Section
decode_given given tables bytes cursor = decode_by given (room_of tables) bytes cursor

pub record LeavesBy (given : Given) (bytes : List ℕ) (cursor : ℕ) (before after : Lent) (answered : Answer) : Type 0 where
  pub answer : answered ≡ answer_of cursor (decode_given given before bytes cursor)
  pub tables : Filled (decode_given given before bytes cursor) before after
  pub holds : HoldsBy given (room_of before) bytes cursor
