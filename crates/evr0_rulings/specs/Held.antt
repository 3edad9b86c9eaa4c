-- An accepted section as its payload and the starts of its proof records.
use Rattle.std.specs.Prelude.{ℕ, ◌≡◌, cond, length, get_or, drop, ltb}
use mathlib.Core.List.{List, Memᴰ}
use Rattle.local_format.specs.Out.{Out, ok}
use Rattle.local_format.specs.Number.{not_in_table}
use Rattle.derivation.specs.Rule.{Rule, Shaped}
use Rattle.derivation.specs.Pass.{depths}
use Rattle.evr0_section.specs.Rows.{Sized}
use Rattle.evr0_section.specs.Head.{Room}
use Rattle.evr0_section.specs.Proof.{ProofRecord, proof_of}
use Rattle.evr0_section.specs.Section.{Section, section_of, tables_of}
use Rattle.evr0_section.specs.Rows.{starts_of}

-- the payload p holds the tables, by some shaped rules, of the section d, whose proof records start at `starts`
pub record Held (p starts : List ℕ) (d : Section) : Type 0 where
  pub rules : List Rule
  pub shaped : (r : Rule) → Memᴰ r rules → Shaped r
  pub room : Room
  pub tables : tables_of rules room p ≡ ok d.tables
  pub depths : depths d.tables.witnesses.next (section_of d.tables) ≡ ok d.depths
  pub at : starts ≡ starts_of d.tables.proofs.entries

-- the proof record with a number
unfoldable pub proof_in : List ℕ → List ℕ → ℕ → Out (Sized ProofRecord)
proof_in p starts k = cond (ltb k (length starts)) (proof_of (drop (get_or starts k 0) p)) not_in_table
