-- From the code's structs to the definitions' types.
use Rattle.std.specs.Prelude.{ℕ, true, false, Option, Some, None}
use Rattle.semcode_decode.specs.Layout as of
use Rattle.semcode_decode.specs.declared.string.Place.{Place}
use Rattle.semcode_decode.specs.declared.table.Table.{Table}
use Rattle.semcode_decode.specs.declared.decode.StringTableDebugOwnershipParse.{StringTableDebugOwnershipParse}

abbrev pub place_is : Place → of.Place
place_is p = record { start = p.start; len = p.len; next = p.next }

abbrev pub table_is : Table → of.Extent
table_is t = record { start = t.start; count = t.count; end = t.end }

-- a section at a place; none has no records there
abbrev pub section_is : ℕ → Option Table → of.Tagged
section_is at (Some t) = record { found = true; extent = table_is t }
section_is at None = record { found = false; extent = record { start = at; count = 0; end = at } }

abbrev pub layout_is : StringTableDebugOwnershipParse → of.Layout
layout_is p =
    record {
      strings = p.string_count;
      strings_end = p.string_table_end_offset;
      debug = p.has_debug_section;
      symbols = p.debug_symbol_count;
      symbols_start = p.debug_symbols_start;
      ownership = p.has_ownership_section;
      paths = p.path_count;
      signature = p.has_signature;
      families = p.parameter_count;
      families_start = p.families_start;
      instructions = p.instr_start_offset;
    }
