-- The flat structs in C's layout that hold what the definitions answer: refusals, fields, scans and texts.
use Rattle.std.specs.Prelude.{ℕ, true, false, cond}
use Rattle.local_format.specs.Refusal.{Kind, invalid, limit, strings, debug, ownership, added, truncated, name, signature, Refusal}
use Rattle.local_format.specs.Out.{Out, ok, refused}
use Rattle.local_format.specs.Field.{Field, whole, cut}
use Rattle.utf8.specs.Scan.{Scanned, Utf8}
use Rattle.utf8.specs.Scan as scan
use Rattle.local_format.specs.Text.{Span}
use Rattle.falgnust.specs.declared.field.Field as field
use Rattle.falgnust.specs.declared.refusal.Refusal as refusal
use Rattle.falgnust.specs.declared.scan.Scanned as scanned
use Rattle.falgnust.specs.declared.scan.Utf8 as utf8
use Rattle.falgnust.specs.declared.text.Text as text

-- the kinds in document 01's order, then those of document 02
abbrev pub kind_number : Kind → ℕ
kind_number invalid = 0
kind_number limit = 1
kind_number strings = 2
kind_number debug = 3
kind_number ownership = 4
kind_number added = 5
kind_number truncated = 6
kind_number name = 7
kind_number signature = 8

abbrev pub flat_refusal : Refusal → refusal.Refusal
flat_refusal r = record { kind = kind_number r.kind; number = r.number; offset = r.offset }

-- what stands in an accepted answer
abbrev pub no_refusal : refusal.Refusal
no_refusal = record { kind = 0; number = 0; offset = 0 }

abbrev pub flat_field : Field → field.Field
flat_field (whole g) = record { whole = true; value = g.value; next = g.next }
flat_field cut = record { whole = false; value = 0; next = 0 }

abbrev pub flat_scan : Scanned → scanned.Scanned
flat_scan (scan.text chars control) = record { answer = cond control 2 1; chars = chars }
flat_scan scan.not_utf8 = record { answer = 0; chars = 0 }

abbrev pub flat_utf8 : Utf8 → utf8.Utf8
flat_utf8 (scan.whole (scan.text chars control) next) =
    record { whole = true; text = true; control = control; chars = chars; next = next }
flat_utf8 (scan.whole scan.not_utf8 next) = record { whole = true; text = false; control = false; chars = 0; next = next }
flat_utf8 scan.cut = record { whole = false; text = false; control = false; chars = 0; next = 0 }

abbrev pub flat_text : Out Span → text.Text
flat_text (ok t) =
    record { accepted = true; refusal = no_refusal; start = t.start; len = t.len; chars = t.chars; next = t.next }
flat_text (refused r) = record { accepted = false; refusal = flat_refusal r; start = 0; len = 0; chars = 0; next = 0 }
