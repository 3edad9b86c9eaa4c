-- The flat structs of a file's functions, with what the definitions answer.
use Rattle.std.specs.Prelude.{ℕ, true, false}
use Rattle.local_format.specs.Out.{Out, ok, refused}
use Rattle.semcode_records.specs.Records.{Taken}
use Rattle.semcode_functions.specs.Function.{Head}
use Rattle.semcode_functions.specs.File.{Last, nothing, block, File}
use Rattle.falgnust.specs.Maps.{flat_refusal, no_refusal}
use Rattle.falgnust.specs.EntryMaps.{flat_span, no_span}
use Rattle.falgnust.specs.BlockMaps.{no_block, flat_block}
use Rattle.falgnust.specs.declared.block.Block.{Block}
use Rattle.falgnust.specs.declared.function.Function.{Function}
use Rattle.falgnust.specs.declared.functions.Functions.{Functions}

abbrev pub flat_function : Out (Taken Head) → Function
flat_function (ok t) =
    record {
      accepted = true;
      refusal = no_refusal;
      name = flat_span t.value.name;
      code_offset = t.value.code;
      code_len = t.value.size;
      next = t.next;
    }
flat_function (refused r) =
    record { accepted = false; refusal = flat_refusal r; name = no_span; code_offset = 0; code_len = 0; next = 0 }

-- ---- All functions

abbrev pub last_code : Last → ℕ
last_code nothing = 0
last_code (block code layout) = code

abbrev pub flat_last : Last → Block
flat_last nothing = no_block no_refusal
flat_last (block code layout) = flat_block (ok layout)

-- after a refusal the cursor is the one that was brought
abbrev pub flat_functions : ℕ → Out File → Functions
flat_functions cursor (ok f) =
    record {
      accepted = true;
      refusal = no_refusal;
      functions = f.functions;
      cursor = f.cursor;
      last_code = last_code f.last;
      last = flat_last f.last;
    }
flat_functions cursor (refused r) =
    record {
      accepted = false;
      refusal = flat_refusal r;
      functions = 0;
      cursor = cursor;
      last_code = last_code nothing;
      last = flat_last nothing;
    }
