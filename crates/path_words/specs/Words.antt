-- The fields of paths and of their components as words.
use Rattle.std.specs.Prelude.{ℕ, zero, suc, ◌+◌, ◌-◌, ◌*◌, ◌≡◌, Bool, true, false, cond, ◌&&◌, List, [], ◌∷◌, leb, length, take}
use Rattle.local_format.specs.Out.{Out, ok, refused}
use Rattle.lent_table.specs.Lent.{lent}
use Rattle.semcode_records.specs.Records.{Taken}
use Rattle.semcode_records.specs.Component.{Component, tuple_index, field_symbol, variant, sequence_index, component_at}
use Rattle.semcode_records.specs.Path.{kind_of_event, Head, head_at}
use Rattle.semcode_records.specs.Numbers.{numbered}
use Rattle.record_words.specs.Words.{all_words}

-- ---- A component

-- kind, first and second number, from the lowest bits on: 2, 32 and 16
abbrev pub component_word : Component → ℕ
component_word (tuple_index index) = 4 * index
component_word (field_symbol symbol) = 1 + 4 * symbol
component_word (variant which index) = 2 + 4 * which + 17179869184 * index
component_word (sequence_index index) = 3 + 4 * index

-- whether it is there, its word and the place after it; zeros where it is refused
pub record Step : Type 0 where
  pub whole : Bool
  pub word : ℕ
  pub next : ℕ

abbrev pub step_of : Out (Taken Component) → Step
step_of (ok t) = record { whole = true; word = component_word t.value; next = t.next }
step_of (refused r) = record { whole = false; word = 0; next = 0 }

-- so many components from a place on
unfoldable pub component_words : (ℕ → Out (Taken Component)) → ℕ → ℕ → List ℕ
component_words read zero at = []
component_words read (suc n) at = (step_of (read at)).word ∷ component_words read n (step_of (read at)).next

-- ---- A path

-- event, site, root, how many components, and these
abbrev pub head_words : (ℕ → ℕ → Out (Taken Component)) → Head → List ℕ
head_words read h =
    (numbered h.event).event ∷ (numbered h.event).site ∷ h.root ∷ h.count ∷ component_words (read (kind_of_event h.event)) h.count h.start

-- none where the path is refused
abbrev pub words_of : (ℕ → ℕ → Out (Taken Component)) → Out (Taken Head) → List ℕ
words_of read (ok t) = head_words read t.value
words_of read (refused r) = []

unfoldable pub path_words : ℕ → List ℕ → ℕ → List ℕ
path_words revision s at = words_of (λ kind. component_at revision kind s) (head_at revision s at)

-- ---- Paths that start at given places

-- there are some, and there is room for them
abbrev pub fitting : ℕ → ℕ → Bool
fitting size room = leb 1 size && leb size room

-- how many paths are there and fit, from the first on
unfoldable pub fitted : (ℕ → List ℕ) → List ℕ → ℕ → ℕ
fitted words [] room = 0
fitted words (at ∷ ats) room = cond (fitting (length (words at)) room) (suc (fitted words ats (room - length (words at)))) 0

-- what a call leaves: the words of these and zeros past them
pub record Fits (words : ℕ → List ℕ) (starts before after : List ℕ) (r : ℕ) : Type 0 where
  pub answer : r ≡ fitted words starts (length before)
  pub table : after ≡ lent (length before) (all_words words (take r starts))
