-- A section with its depths by rounds: the tables, or the first of the refusals 1 to 24 and 61; then the rounds, or the first of 25 and 26,
-- else 27.
use Rattle.std.specs.Prelude.{ℕ, ◌+◌, ◌≤◌, ◌<◌, ◌≡◌, ◌↔◌, ◌⊎◌, cond, List, leb, get_or}
use Rattle.local_format.specs.Refusal.{Refusal}
use Rattle.local_format.specs.Out.{Out, ok, refused, moved, ◌>>=◌}
use Rattle.local_format.specs.Text.{bytes_at}
use Rattle.derivation.specs.Rule.{Rule}
use Rattle.derivation.specs.Section.{proof_total}
use Rattle.derivation.specs.Pass.{depths}
use Rattle.evr0_section.specs.Head.{Room}
use Rattle.evr0_section.specs.Section.{frame_at, Tables, Section, section_of, tables_of, tables_at}
use Rattle.rule_table.specs.ByTable.{Given, rules_given, decode_by}
use Rattle.rounds.specs.Rounds.{after_rounds, kin, rounds}
use Rattle.rounds.specs.Height.{heights, height, Height, left_aside, RefusedWith}

module _ (rules : List Rule) (room : Room) where
  -- as `section_in` and `section_at`, with each proof's round for its depth
  unfoldable pub rounds_in : List ℕ → ℕ → Out Section
  rounds_in p cursor = do
    t ← tables_of rules room p
    rs ← rounds t.witnesses.next (section_of t)
    ok (record { tables = t; depths = rs; cursor = cursor })

  unfoldable pub rounds_at : List ℕ → ℕ → Out Section
  rounds_at s cursor = do
    f ← frame_at s cursor
    moved f.start (rounds_in (bytes_at s f.start f.len) (f.start + f.len))

-- by the rules of a call, which go first
unfoldable pub rounds_by : Given → Room → List ℕ → ℕ → Out Section
rounds_by given room s cursor = do
  rules ← rules_given given
  rounds_at rules room s cursor

-- ---- What is asked of it

-- 24 has passed, and each parent cell has passed 25 and 26
pub record Started (given : Given) (room : Room) (bytes : List ℕ) (cursor : ℕ) (t : Tables) : Type 0 where
  pub rules : List Rule
  pub loaded : rules_given given ≡ ok rules
  pub read : tables_at rules room bytes cursor ≡ ok t
  pub cells : kin t.witnesses.next (section_of t) ≡ ok tt

-- of a section that is started so: the round in which a proof is marked is its depth, a proof unmarked after 256 rounds exists exactly where
-- some proof's depth is above 256, and both methods are equal, in depths or 27, 28 and 29 left aside
pub record MethodsEqual (t : Tables) : Type 0 where
  pub depth : (i : ℕ) → i < proof_total (section_of t) → Height (section_of t) i
  pub round : (n i : ℕ) → i < proof_total (section_of t)
      → get_or (after_rounds (section_of t) n) i 0 ≡ cond (leb (height (section_of t) i) n) (height (section_of t) i) 0
  pub unmarked : ((i : ℕ) × (i < proof_total (section_of t)) × (get_or (after_rounds (section_of t) 256) i 0 ≡ 0))
      ↔ ((i : ℕ) × (i < proof_total (section_of t)) × (256 < height (section_of t) i))
  pub equal : rounds t.witnesses.next (section_of t) ≡ depths t.witnesses.next (left_aside (section_of t))

-- against the decoder, by the rules of a call
pub record Methods (given : Given) (room : Room) (bytes : List ℕ) (cursor : ℕ) : Type 0 where
  pub started : (t : Tables) → Started given room bytes cursor t → MethodsEqual t
  -- the same tables, depths and cursor
  pub accepted : (d : Section) → decode_by given room bytes cursor ≡ ok d → rounds_by given room bytes cursor ≡ ok d
  -- which are the depths with no limit
  pub heights : (d : Section) → decode_by given room bytes cursor ≡ ok d → d.depths ≡ heights (section_of d.tables)
  -- the same refusal, at the same offset, but for 27 to 29
  pub alike : (r : Refusal) → decode_by given room bytes cursor ≡ refused r → (r.number ≤ 26) ⊎ (30 ≤ r.number)
      → rounds_by given room bytes cursor ≡ refused r
  -- 27 is the same refusal too, unless 25 or 26 of a later proof goes before it
  pub deep : (r : Refusal) → decode_by given room bytes cursor ≡ refused r → r.number ≡ 27
      → (rounds_by given room bytes cursor ≡ refused r) ⊎ RefusedWith 25 26 (rounds_by given room bytes cursor)
  -- what is accepted by rounds is decoded, or refused with 28 or 29
  pub aside : (d : Section) → rounds_by given room bytes cursor ≡ ok d
      → (decode_by given room bytes cursor ≡ ok d) ⊎ RefusedWith 28 29 (decode_by given room bytes cursor)
  -- and 28 and 29 never come by rounds
  pub never : (r : Refusal) → rounds_by given room bytes cursor ≡ refused r → (r.number ≤ 27) ⊎ (30 ≤ r.number)
