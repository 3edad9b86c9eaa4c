-- What the words of a register mean. Word 0 is how many locks are held, and lock i has 24 words from 1 + 24 i on: owner, write, symbol, number of
-- parts, four words of the source set, sixteen parts. Any words mean some register, and zeros the empty one.
use Rattle.std.specs.Prelude.{ℕ, zero, suc, ◌+◌, ◌*◌, ◌/◌, ◌%◌, min, List, [], ◌∷◌, ◌++◌, map, not, get_or, take, drop, eqb}
use Rattle.lock_rules.specs.Lock.{Part, Lock}
use Rattle.lock_rules.specs.Source.{Root, root_under}

-- ---- A lock

-- the part of a word: kind, first and second number, from the lowest bits on
unfoldable pub part_in : ℕ → Part
part_in w = record { kind = w % 4; first = w / 4 % 4294967296; second = w / 17179869184 % 65536 }

-- the parts of a lock's 24 words: at most 16
unfoldable pub parts_in : List ℕ → List Part
parts_in ws = map part_in (take (min (get_or ws 3 0) 16) (drop 8 ws))

-- the bytes of half a word and of a word, lowest first
abbrev pub four_in : ℕ → List ℕ
four_in w = w % 256 ∷ w / 256 % 256 ∷ w / 65536 % 256 ∷ w / 16777216 % 256 ∷ []

abbrev pub bytes_in : ℕ → List ℕ
bytes_in w = four_in (w % 4294967296) ++ four_in (w / 4294967296)

-- the 32 bytes of four words
unfoldable pub source_of : ℕ → ℕ → ℕ → ℕ → List ℕ
source_of a b c d = bytes_in a ++ (bytes_in b ++ (bytes_in c ++ bytes_in d))

-- symbol and source set of a lock's 24 words, and its root
abbrev pub symbol_in : List ℕ → ℕ
symbol_in ws = get_or ws 2 0 % 4294967296

unfoldable pub source_in : List ℕ → List ℕ
source_in ws = source_of (get_or ws 4 0) (get_or ws 5 0) (get_or ws 6 0) (get_or ws 7 0)

unfoldable pub root_in : List ℕ → Root
root_in ws = root_under (source_in ws) (symbol_in ws)

-- the lock of 24 words
unfoldable pub lock_in : List ℕ → Lock Root
lock_in ws = record { owner = get_or ws 0 0 % 4294967296; write = not (eqb (get_or ws 1 0) 0); root = root_in ws; parts = parts_in ws }

-- ---- A register

-- the 24 words of a register's lock
unfoldable pub slot : List ℕ → ℕ → List ℕ
slot words i = take 24 (drop (1 + 24 * i) words)

-- a register's first n locks, in order
unfoldable pub locks_to : ℕ → List ℕ → List (Lock Root)
locks_to zero words = []
locks_to (suc n) words = locks_to n words ++ (lock_in (slot words n) ∷ [])

-- how many locks are held, and these
abbrev pub held_in : List ℕ → ℕ
held_in words = min (get_or words 0 0) 256

abbrev pub locks_in : List ℕ → List (Lock Root)
locks_in words = locks_to (held_in words) words
