-- The flat structs of a block and its records, with what the definitions answer.
use Rattle.std.specs.Prelude.{true, false}
use Rattle.local_format.specs.Out.{Out, ok, refused}
use Rattle.semcode_records.specs.Records.{Taken}
use Rattle.semcode_records.specs.Symbol as symbols
use Rattle.semcode_records.specs.Component as components
use Rattle.semcode_records.specs.Path as paths
use Rattle.semcode_records.specs.Numbers.{parts, numbered}
use Rattle.semcode_decode.specs.Layout.{Layout}
use Rattle.path_words.specs.Blocks.{Worded}
use Rattle.falgnust.specs.Maps.{flat_refusal, no_refusal}
use Rattle.falgnust.specs.declared.refusal.Refusal.{Refusal}
use Rattle.falgnust.specs.declared.block.Block.{Block}
use Rattle.falgnust.specs.declared.block.BlockWords.{BlockWords}
use Rattle.falgnust.specs.declared.record.Symbol.{Symbol}
use Rattle.falgnust.specs.declared.record.Event.{Event}
use Rattle.falgnust.specs.declared.record.Path.{Path}
use Rattle.falgnust.specs.declared.record.Parts.{Parts}
use Rattle.falgnust.specs.declared.record.Component.{Component}

-- no block: zeros beside a refusal
abbrev pub no_block : Refusal → Block
no_block r =
    record {
      accepted = false;
      refusal = r;
      has_debug_section = false;
      has_ownership_section = false;
      has_signature = false;
      string_count = 0;
      string_table_end_offset = 0;
      debug_symbol_count = 0;
      debug_symbols_start = 0;
      path_count = 0;
      parameter_count = 0;
      families_start = 0;
      instr_start_offset = 0;
    }

abbrev pub flat_block : Out Layout → Block
flat_block (ok l) =
    record {
      accepted = true;
      refusal = no_refusal;
      has_debug_section = l.debug;
      has_ownership_section = l.ownership;
      has_signature = l.signature;
      string_count = l.strings;
      string_table_end_offset = l.strings_end;
      debug_symbol_count = l.symbols;
      debug_symbols_start = l.symbols_start;
      path_count = l.paths;
      parameter_count = l.families;
      families_start = l.families_start;
      instr_start_offset = l.instructions;
    }
flat_block (refused r) = no_block (flat_refusal r)

-- a refusal has no words
abbrev pub flat_block_words : Out Worded → BlockWords
flat_block_words (ok w) = record { block = flat_block (ok w.layout); words = w.words }
flat_block_words (refused r) = record { block = no_block (flat_refusal r); words = 0 }

-- ---- Records

abbrev pub flat_symbol : Out (Taken symbols.Symbol) → Symbol
flat_symbol (ok t) =
    record {
      accepted = true;
      refusal = no_refusal;
      pc = t.value.pc;
      line = t.value.line;
      col = t.value.column;
      next = t.next;
    }
flat_symbol (refused r) = record { accepted = false; refusal = flat_refusal r; pc = 0; line = 0; col = 0; next = 0 }

-- an event by its number in C, and its site
abbrev pub flat_event : paths.Event → Event
flat_event e = record { event = (numbered e).event; site = (numbered e).site }

abbrev pub no_event : Event
no_event = record { event = 0; site = 0 }

abbrev pub flat_path : Out (Taken paths.Head) → Path
flat_path (ok t) =
    record {
      accepted = true;
      refusal = no_refusal;
      event = flat_event t.value.event;
      root_symbol_id = t.value.root;
      component_count = t.value.count;
      components_start = t.value.start;
      next = t.next;
    }
flat_path (refused r) =
    record {
      accepted = false;
      refusal = flat_refusal r;
      event = no_event;
      root_symbol_id = 0;
      component_count = 0;
      components_start = 0;
      next = 0;
    }

-- a component by its kind's byte, and its one or two numbers
abbrev pub flat_parts : components.Component → Parts
flat_parts c = record { kind = (parts c).kind; first = (parts c).first; second = (parts c).second }

abbrev pub no_parts : Parts
no_parts = record { kind = 0; first = 0; second = 0 }

abbrev pub flat_component : Out (Taken components.Component) → Component
flat_component (ok t) = record { accepted = true; refusal = no_refusal; component = flat_parts t.value; next = t.next }
flat_component (refused r) = record { accepted = false; refusal = flat_refusal r; component = no_parts; next = 0 }
