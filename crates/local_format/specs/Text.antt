-- Texts: a 2-byte length and that many bytes of UTF-8.
use Rattle.std.specs.Prelude.{ℕ, ◌+◌, List, cond, not, ◌&&◌, length, take, drop, leb}
use Rattle.local_format.specs.Out.{Out, ok, refuse, check, ◌>>=◌, ◌>>◌}
use Rattle.local_format.specs.Field.{Got, field}
use Rattle.utf8.specs.Utf8.{Decoded, points, ill, decode, any_control}

-- where a text's bytes start, how many they are, its number of characters, and the place after it
pub record Span : Type 0 where
  pub start : ℕ
  pub len : ℕ
  pub chars : ℕ
  pub next : ℕ

-- the code points, or the refusal with this number at this place
abbrev pub or_ill : ℕ → ℕ → Decoded → Out (List ℕ)
or_ill number at (points cs) = ok cs
or_ill number at ill = refuse number at

-- some bytes from a place on
abbrev pub bytes_at : List ℕ → ℕ → ℕ → List ℕ
bytes_at s at len = take len (drop at s)

-- ---- Evidence sections

-- 5: a field of a section, also the bytes of a text, passes the end
abbrev pub section_field : ℕ → List ℕ → ℕ → Out Got
section_field width s at = field 5 width s at

-- a text of a section: 1 to 4,096 bytes, without control characters
unfoldable pub text_at : List ℕ → ℕ → Out Span
text_at s at = do
  size ← section_field 2 s at
  check (leb 1 size.value && leb size.value 4096) 6 size.next
  body ← section_field size.value s size.next
  cs ← or_ill 7 body.next (decode (bytes_at s size.next size.value))
  check (not (any_control cs)) 8 body.next
  ok (record { start = size.next; len = size.value; chars = length cs; next = body.next })

-- ---- Function tables

-- the code points of some bytes from a place on; bytes that pass the end are no text
unfoldable pub decode_at : List ℕ → ℕ → ℕ → Decoded
decode_at s at len = cond (leb (at + len) (length s)) (decode (bytes_at s at len)) ill

-- a string of a function: up to 1,024 bytes, also none; control characters pass
unfoldable pub string_at : List ℕ → ℕ → Out Span
string_at s at = do
  size ← field 32 2 s at
  check (leb size.value 1024) 33 size.next
  cs ← or_ill 34 size.next (decode_at s size.next size.value)
  ok (record { start = size.next; len = size.value; chars = length cs; next = size.next + size.value })
