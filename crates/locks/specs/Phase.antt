-- What the functions inside promise: the key of a path, and the phases of a claim.
use Rattle.std.specs.Prelude.{◌≡◌, ℕ, ◌<◌, List, ◌++◌, map, Bool, false, length, get_or}
use Rattle.local_format.specs.Out.{Out, ok}
use Rattle.semcode_records.specs.Records.{Taken, taken, Table, no_records, records}
use Rattle.semcode_records.specs.Component.{Component}
use Rattle.semcode_records.specs.Path.{Path, borrow, no_activation, kind_of_event, path_at}
use Rattle.lock_rules.specs.Lock.{Part, part_of, Lock, lock_of}
use Rattle.lock_rules.specs.Register.{any, long_path, held_count, hindered, claimed}
use Rattle.lock_rules.specs.Source.{Root, same_root, root_under}
use Rattle.lock_words.specs.Words.{part_in, lock_in, locks_in}
use Rattle.locks.specs.Claim.{Left}

-- ---- A key: the 24 words of the lock that an owner takes on a path

-- what stands in front of a path's components
pub record Front : Type 0 where
  pub kind : ℕ
  pub root : ℕ
  pub count : ℕ
  pub start : ℕ

abbrev pub front_of : Path → Front
front_of p =
    record { kind = kind_of_event p.event; root = p.root; count = length p.components.entries; start = p.components.start }

abbrev pub FrontOf : Out (Taken Path) → Front → Type 0
FrontOf read f = (t : Taken Path) → read ≡ ok t → f ≡ front_of t.value

abbrev pub parts_of : Table Component → List Part
parts_of t = map (λ e. part_of e.value) t.entries

-- these are the words of so many components, as this reader reads each
abbrev pub Filled : (ℕ → Out (Taken Component)) → ℕ → ℕ → List ℕ → Type 0
Filled read n at words = (t : Table Component) → records read n at ≡ ok t → map part_in words ≡ parts_of t

-- the key of a path with at most 16 components
abbrev pub KeyOf : Out (Taken Path) → List ℕ → ℕ → List ℕ → Type 0
KeyOf read source owner key =
    (t : Taken Path) → read ≡ ok t → long_path t.value ≡ false → lock_in key ≡ lock_of (root_under source) owner t.value

-- ---- The phases of a claim

abbrev pub no_path : Path
no_path = record { event = borrow no_activation; root = 0; components = no_records 0 }

-- a path that is read at a place
pub record Standing (revision : ℕ) (s : List ℕ) (at : ℕ) (p : Path) : Type 0 where
  pub next : ℕ
  pub is_read : path_at revision s at ≡ taken p next

-- these paths are read at the first so many starts
pub record Listed (revision : ℕ) (s starts : List ℕ) (count : ℕ) (paths : List Path) : Type 0 where
  pub many : length paths ≡ count
  pub each : (i : ℕ) → i < count → Standing revision s (get_or starts i 0) (get_or paths i no_path)

-- 66
abbrev pub LongAnswer : ℕ → List ℕ → List ℕ → ℕ → Bool → Type 0
LongAnswer revision s starts count answer =
    (paths : List Path) → Listed revision s starts count paths → answer ≡ any long_path paths

-- 67
abbrev pub MetAnswer : ℕ → List ℕ → List ℕ → ℕ → List ℕ → ℕ → List ℕ → Bool → Type 0
MetAnswer revision s starts count source owner words answer =
    (paths : List Path) → Listed revision s starts count paths → any long_path paths ≡ false
    → answer ≡ any (hindered same_root (root_under source) owner (locks_in words)) paths

-- the stores
pub record Stored (revision : ℕ) (s starts : List ℕ) (count : ℕ) (source : List ℕ) (owner : ℕ) (words after : List ℕ) : Type 0 where
  pub locks : (paths : List Path) → Listed revision s starts count paths → any long_path paths ≡ false
      → locks_in after ≡ locks_in words ++ map (lock_of (root_under source) owner) paths
  pub same : length after ≡ length words

-- all of them, over paths that have been read
pub record Tried (locks : Out (List (Lock Root))) (answer : Out ℕ) (words after : List ℕ) : Type 0 where
  pub told : answer ≡ held_count locks
  pub left : Left locks words after

abbrev pub TriedPaths : ℕ → List ℕ → List ℕ → ℕ → List ℕ → ℕ → Out ℕ → List ℕ → List ℕ → Type 0
TriedPaths revision s starts count source owner answer words after =
    (paths : List Path) → Listed revision s starts count paths
    → Tried (claimed same_root (root_under source) owner (locks_in words) paths) answer words after
