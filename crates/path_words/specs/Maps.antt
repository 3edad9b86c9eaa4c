-- From the code's structs to the definitions' types.
use Rattle.std.specs.Prelude.{ℕ, true, false, Option, Some, None}
use Rattle.local_format.specs.declared.field.Field.{Field}
use Rattle.path_words.specs.Words as words
use Rattle.path_words.specs.Front as front
use Rattle.path_words.specs.declared.Opening.{Opening}
use Rattle.path_words.specs.declared.Put.{Put}

abbrev pub step_is : Option (Field ℕ) → words.Step
step_is (Some s) = record { whole = true; word = s.value; next = s.next }
step_is None = record { whole = false; word = 0; next = 0 }

abbrev pub opening_is : Option Opening → front.Opening
opening_is (Some o) =
    record { whole = true; kind = o.kind; event = o.event; site = o.site; root = o.root; count = o.count; start = o.start }
opening_is None = record { whole = false; kind = 0; event = 0; site = 0; root = 0; count = 0; start = 0 }

-- how many words were put
abbrev pub words_in : Option Put → Option ℕ
words_in (Some p) = Some p.words
words_in None = None
