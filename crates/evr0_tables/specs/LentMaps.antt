-- From the code's lent tables to the definitions' type, and what a function leaves of them.
use Rattle.std.specs.Prelude.{◌≡◌, [], length}
use Rattle.lent_table.specs.Lent.{lent}
use Rattle.evr0_tables.specs.LentTables.{Lent, lent_of, room_of}
use Rattle.evr0_tables.specs.declared.lent.Tables.{Tables}

abbrev pub tables_out : Tables → Lent
tables_out t = lent_of t.propositions.now t.proofs.now t.depths.now

-- they are the same places of memory
pub record SameTables (old new : Tables) : Type 0 where
  pub propositions : new.propositions.ghost_name ≡ old.propositions.ghost_name
  pub proofs : new.proofs.ghost_name ≡ old.proofs.ghost_name
  pub depths : new.depths.ghost_name ≡ old.depths.ghost_name
  pub room : room_of (tables_out new) ≡ room_of (tables_out old)

-- they hold zeros
pub record Cleared (before after : Lent) : Type 0 where
  pub propositions : after.propositions ≡ lent (length before.propositions) []
  pub proofs : after.proofs ≡ lent (length before.proofs) []
  pub depths : after.depths ≡ lent (length before.depths) []
