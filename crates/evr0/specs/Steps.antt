-- What the decoder's functions leave on the way to its answer.
use Rattle.std.specs.Prelude.{ℕ, ◌≡◌, List}
use Rattle.local_format.specs.Refusal.{Refusal}
use Rattle.local_format.specs.Out.{Out, ok, refused, ◌>>=◌}
use Rattle.derivation.specs.Rule.{Rule}
use Rattle.evr0_section.specs.Head.{Head}
use Rattle.evr0_section.specs.Section.{Section, Frame, frame_at, section_in, section_at}
use Rattle.rule_table.specs.ByTable.{Given}
use Rattle.evr0.specs.Answer.{Lent, room_of, Answer, answer_of, Filled, decode_given}

-- the section of a payload, by some rules, after which the cursor stands at `end`
abbrev pub payload_in : List Rule → Lent → List ℕ → ℕ → Out Section
payload_in rules tables payload end = section_in rules (room_of tables) payload end

-- the section at a cursor, by some rules
abbrev pub section_by : List Rule → Lent → List ℕ → ℕ → Out Section
section_by rules tables bytes cursor = section_at rules (room_of tables) bytes cursor

-- what was read of a section's opening: its frame, or what refuses it by any rules and for any lent tables
pub record Opens (bytes : List ℕ) (cursor : ℕ) (given : Out Frame) : Type 0 where
  pub frame : (f : Frame) → given ≡ ok f → frame_at bytes cursor ≡ ok f
  pub refusal : (q : Refusal) → given ≡ refused q → (rules : List Rule) (tables : Lent) → section_by rules tables bytes cursor ≡ refused q

-- the head of an accepted section, or the refusal
abbrev pub head_in : Out Section → Out Head
head_in x = do
  s ← x
  ok s.tables.head

pub record Passes (x : Out Section) (before after : Lent) (given : Out Head) : Type 0 where
  pub answer : given ≡ head_in x
  pub tables : Filled x before after

-- what is answered of a section at a cursor, and what the lent tables then hold
pub record Ends (x : Out Section) (cursor : ℕ) (before after : Lent) (given : Answer) : Type 0 where
  pub answer : given ≡ answer_of cursor x
  pub tables : Filled x before after

-- the same by the rules of a call
pub record EndsBy (which : Given) (bytes : List ℕ) (cursor : ℕ) (before after : Lent) (given : Answer) : Type 0 where
  pub answer : given ≡ answer_of cursor (decode_given which before bytes cursor)
  pub tables : Filled (decode_given which before bytes cursor) before after

-- what is answered of a section with this head, after which the cursor stands at `end`
abbrev pub answer_with : ℕ → Head → Answer
answer_with end h =
    record {
      source_set = h.source_set;
      compiler_contract = h.compiler_contract;
      cursor = end;
      outcome =
          ok (record {
            schema = h.schema;
            epoch = h.epoch;
            policy_at = h.policy_at;
            issuer_at = h.issuer_at;
            policy_chars = h.policy.chars;
            issuer_chars = h.issuer.chars;
            counts = h.counts;
          });
    }
