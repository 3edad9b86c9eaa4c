-- All functions of a file. Document 02, Slip 1.
use Rattle.std.specs.Prelude.{ℕ, zero, suc, ◌+◌, ◌-◌, List, [], ◌∷◌, cond, ◌&&◌, length, leb}
use Rattle.local_format.specs.Out.{Out, ok, refuse, check, ◌>>=◌, ◌>>◌}
use Rattle.local_format.specs.Field.{field}
use Rattle.local_format.specs.Text.{Span, bytes_at, decode_at, or_ill}
use Rattle.semcode_records.specs.Records.{Taken, taken, Entry}
use Rattle.semcode_decode.specs.Block.{Rooms, room, Block, decode_block}

-- a function's head: its name, and where its block starts and how long it is
pub record Head : Type 0 where
  pub name : Span
  pub code : ℕ
  pub size : ℕ

-- 1 to 1,024 bytes of UTF-8; control characters pass. 64: whatever is wrong with the name, after its length
unfoldable pub name_at : List ℕ → ℕ → Out Span
name_at s at = do
  size ← field 63 2 s at
  check (leb 1 size.value && leb size.value 1024) 64 size.next
  cs ← or_ill 64 size.next (decode_at s size.next size.value)
  ok (record { start = size.next; len = size.value; chars = length cs; next = size.next + size.value })

-- the head, and the place after the block
unfoldable pub head_at : List ℕ → ℕ → Out (Taken Head)
head_at s at = do
  name ← name_at s at
  size ← field 63 4 s name.next
  check (leb (size.next + size.value) (length s)) 63 size.next
  taken (record { name = name; code = size.next; size = size.value }) (size.next + size.value)

-- a function: its head, and its block decoded at its place in the file
pub record Function : Type 0 where
  pub head : Head
  pub block : Block

unfoldable pub function_at : ℕ → Rooms → List ℕ → ℕ → Out (Taken Function)
function_at revision rooms s at = do
  head ← head_at s at
  block ← decode_block head.value.code revision rooms (bytes_at s head.value.code head.value.size)
  taken (record { head = head.value; block = block }) head.next

-- from a place to the end: at most `left` functions more, and `free` entries left in the lent table
unfoldable pub functions_from : ℕ → Rooms → List ℕ → ℕ → ℕ → ℕ → Out (List (Entry Function))
functions_from revision rooms s zero free at = cond (leb (length s) at) (ok []) (refuse 65 at)
functions_from revision rooms s (suc left) free at =
    cond (leb (length s) at) (ok []) (do
      room 1 free at
      first ← function_at revision rooms s at
      rest ← functions_from revision rooms s left (free - 1) first.next
      ok (record { start = at; value = first.value; next = first.next } ∷ rest))

-- with a lent table of so many entries for the functions' starts
abbrev pub decode_functions : ℕ → Rooms → ℕ → List ℕ → ℕ → Out (List (Entry Function))
decode_functions revision rooms entries s cursor = functions_from revision rooms s 1024 entries cursor
