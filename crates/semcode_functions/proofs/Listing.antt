-- Whoever lists all functions of an accepted file may decode it once and read each head at its start: reading at entry k of the table of
-- starts gives the head of the function with the number k.
use Prim.Native.Nat.{ℕ, zero, suc, ◌<◌}
use mathlib.Core.Path.{◌≡◌, ◌∙◌}
use mathlib.Core.List.{List, map}
use lib.ListN.{length, get_or, length-map}
use Rattle.local_format.specs.Out.{ok}
use Rattle.local_format.specs.Number.{numbered}
use Rattle.local_format.proofs.OutLaws.{never, ok_same}
use Rattle.local_format.proofs.NumberLaws.{is_there, there_map}
use Rattle.lent_table.specs.Lent.{lent}
use Rattle.lent_table.proofs.Laws.{lent_entry}
use Rattle.semcode_records.specs.Records.{taken, Entry}
use Rattle.semcode_decode.specs.Block.{Rooms}
use Rattle.semcode_functions.specs.Function.{Function, head_at, decode_functions}
use Rattle.semcode_functions.specs.File.{function_starts}
use Rattle.semcode_functions.specs.Number.{function_number, head_in}
use Rattle.semcode_functions.proofs.FunctionLaws.{function_ok, Row, none, one, row}

module _ (revision : ℕ) (rooms : Rooms) (s : List ℕ) where
  again : {at : ℕ} {fs : List (Entry Function)} → Row revision rooms s at fs → (k : ℕ) {e : Entry Function} → numbered k fs ≡ ok e
      → head_at s e.start ≡ taken e.value.head e.next
  unfolding numbered
  again (none l) k h = absurd (never h)
  again {at} (one {t} l f rest) zero h = rw (← ok_same h) (function_ok revision rooms s at t f).0
  again (one l f rest) (suc k) h = again rest k h

  -- in a table of so many entries
  pub functions_listed : (entries cursor : ℕ) (fs : List (Entry Function)) → decode_functions revision rooms entries s cursor ≡ ok fs → (k : ℕ)
      → k < length fs
      → head_at s (get_or (lent entries (function_starts (ok fs))) k 0) ≡ head_in (function_number k (ok fs))
  unfolding function_number
  functions_listed entries cursor fs d k l =
      let (e, h) = is_there k fs l in
      let starts = map (λ (f : Entry Function). f.start) fs in
      let there : k < length starts = rw (length-map fs (λ (f : Entry Function). f.start)) l in
      let w = (lent_entry entries k starts there).1 ∙ there_map (λ (f : Entry Function). f.start) 0 fs k h in
      rw (w, h) (again (row revision rooms s 1024 entries cursor fs d) k h)
