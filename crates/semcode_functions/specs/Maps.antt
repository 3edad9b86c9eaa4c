-- From the code's structs to the definitions' types.
use Rattle.std.specs.Prelude.{Option, Some, None}
use Rattle.local_format.specs.Maps.{span_out}
use Rattle.local_format.specs.declared.field.Field.{Field}
use Rattle.semcode_decode.specs.Maps.{layout_is}
use Rattle.semcode_functions.specs.Function as of
use Rattle.semcode_functions.specs.File as told
use Rattle.semcode_functions.specs.Turn as turn
use Rattle.semcode_functions.specs.declared.head.Head.{Head}
use Rattle.semcode_functions.specs.declared.functions.FunctionBlock.{FunctionBlock}
use Rattle.semcode_functions.specs.declared.functions.File.{File}

abbrev pub head_is : Head → of.Head
head_is h = record { name = span_out h.name; code = h.code; size = h.size }

abbrev pub last_is : Option FunctionBlock → told.Last
last_is (Some b) = told.block b.code (layout_is b.parsed)
last_is None = told.nothing

abbrev pub file_is : File → told.File
file_is f = record { functions = f.functions; cursor = f.cursor; last = last_is f.last }

abbrev pub next_is : Field FunctionBlock → turn.Next
next_is f = record { code = f.value.code; layout = layout_is f.value.parsed; next = f.next }
