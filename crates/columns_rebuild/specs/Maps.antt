-- From the code's structs and enums to the definitions' types.
use Rattle.std.specs.Prelude.{ℕ, ◌≡◌, List, [], ◌∷◌, length, Result, Ok, Err}
use Rattle.local_format.specs.Out.{refused}
use Rattle.local_format.specs.Maps.{refusal_out}
use Rattle.local_format.specs.declared.refusal.Refusal.{Refusal}
use Rattle.lent_table.specs.Lent.{lent}
use Rattle.byte_output.specs.declared.Output.{Output}
use Rattle.groups.specs.Maps.{width_of}
use Rattle.evr0_section.specs.Head.{span_width}
use Rattle.evr0_columns.specs.Form.{Form}
use Rattle.evr0_columns.specs.Layout.{Table, wholes, in_bytes, in_groups, fields}
use Rattle.evr0_columns.specs.Columns.{head_items, proposition_items, proof_items, witness_items, parent_items, Head, schema_of, rebuilt}
use Rattle.columns_rebuild.specs.Took.{Took, Stopped, RebuiltTo}
use Rattle.columns_rebuild.specs.declared.head.Announced.{Announced}
use Rattle.columns_rebuild.specs.declared.head.TakenHead.{TakenHead}

-- a part of a file read in one form and written in another, or refused as it is met
abbrev pub TakesAs : {A : Type 0} → Form A → Form A → List ℕ → ℕ → Output → Output → Result ℕ Refusal → Type 0
TakesAs from to c at before after (Ok at') = Took from to c at before.bytes.now before.next after.bytes.now at' after.next
TakesAs from to c at before after (Err r) = Stopped from c at (refusal_out r)

-- the tables that are announced
abbrev pub proposition_table : Announced → Table
proposition_table a = record { count = a.propositions; items = proposition_items }

abbrev pub proof_table : Announced → Table
proof_table a = record { count = a.proofs; items = proof_items }

abbrev pub witness_table : Announced → Table
witness_table a = record { count = a.witnesses; items = witness_items (width_of a.span) }

abbrev pub parent_table : Announced → Table
parent_table a = record { count = a.parents; items = parent_items }

abbrev pub announced_tables : Announced → List Table
announced_tables a = proposition_table a ∷ proof_table a ∷ witness_table a ∷ parent_table a ∷ []

-- by this head
pub record Announces (h : Head) (a : Announced) : Type 0 where
  pub counts : wholes head_items h ≡ a.propositions ∷ a.proofs ∷ a.witnesses ∷ a.parents ∷ []
  pub span : width_of a.span ≡ span_width (schema_of h)

pub record HeadTook (c before after : List ℕ) (a : Announced) (at next : ℕ) : Type 0 where
  pub took : Took (fields in_groups head_items) (fields in_bytes head_items) c 0 before 0 after at next
  pub announces : Announces took.value a

abbrev pub HeadTakes : List ℕ → Output → Output → Result TakenHead Refusal → Type 0
HeadTakes c before after (Ok h) = HeadTook c before.bytes.now after.bytes.now h.announced h.next after.next
HeadTakes c before after (Err r) = Stopped (fields in_groups head_items) c 0 (refusal_out r)

-- the whole file; of what a refusal leaves nothing is said before it is cleared
abbrev pub Builds : List ℕ → Output → Output → Result (Unit {0}) Refusal → Type 0
Builds c before after (Ok done) = RebuiltTo c before.bytes.now after.bytes.now after.next
Builds c before after (Err r) = rebuilt c ≡ refused (refusal_out r)

-- a refusal leaves zeros
abbrev pub Rebuilds : List ℕ → List ℕ → List ℕ → Result ℕ Refusal → Type 0
Rebuilds c before after (Ok len) = RebuiltTo c before after len
Rebuilds c before after (Err r) = (rebuilt c ≡ refused (refusal_out r)) × (after ≡ lent (length before) [])
