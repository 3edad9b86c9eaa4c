-- What the program `evidence` prints. Document 01, "Added beside the Rust".
use Rattle.std.specs.Prelude.{ℕ, List, [], ◌∷◌, ◌++◌, cond, length, leb}
use Rattle.local_format.specs.Out.{Out, ok, refused}
use Rattle.local_format.specs.Tag.{evr0}
use Rattle.evr0_section.specs.Rows.{Entry}
use Rattle.evr0_section.specs.Head.{Counts, Room, listed}
use Rattle.evr0_section.specs.Proof.{ProofRecord, Settled}
use Rattle.evr0_section.specs.Section.{Section, decode_section}
use Rattle.evidence_output.specs.Decimal.{decimal}

-- "refused"
abbrev pub refused_word : List ℕ
refused_word = 0x72 ∷ 0x65 ∷ 0x66 ∷ 0x75 ∷ 0x73 ∷ 0x65 ∷ 0x64 ∷ []

-- "too long"
abbrev pub too_long : List ℕ
too_long = 0x74 ∷ 0x6F ∷ 0x6F ∷ 0x20 ∷ 0x6C ∷ 0x6F ∷ 0x6E ∷ 0x67 ∷ []

-- ---- Lines

-- numbers, each after a space
unfoldable pub spaced : List ℕ → List ℕ
spaced [] = []
spaced (n ∷ ns) = 0x20 ∷ decimal n ++ spaced ns

-- a line: what it starts with, then numbers, each after a space, and a newline
unfoldable pub line : List ℕ → List ℕ → List ℕ
line start ns = start ++ (spaced ns ++ (0x0A ∷ []))

-- number, proposition, authority, depth, witness count
unfoldable pub proof_line : ProofRecord → ℕ → List ℕ
proof_line p depth = line (decimal p.number) (p.proposition ∷ p.authority ∷ depth ∷ p.witness_count ∷ [])

-- a line for each proof and its depth
unfoldable pub proof_lines : List (Entry Settled) → List ℕ → List ℕ
proof_lines [] ds = []
proof_lines (e ∷ es) [] = []
proof_lines (e ∷ es) (d ∷ ds) = proof_line e.item.proof d ++ proof_lines es ds

-- tag, four counts, cursor
unfoldable pub head_line : Counts → ℕ → List ℕ
head_line c cursor = line evr0 (listed c ++ (cursor ∷ []))

-- ---- The output

unfoldable pub printed : Out Section → List ℕ
printed (ok s) = head_line s.tables.head.counts s.cursor ++ proof_lines s.tables.proofs.entries s.depths
printed (refused r) = line refused_word (r.number ∷ r.offset ∷ [])

-- the lent tables' lengths: no section of 65,536 bytes has more records
abbrev pub enough : Room
enough = record { propositions = 4369; proofs = 1872; depths = 1872 }

unfoldable pub output_of : List ℕ → List ℕ
output_of input = cond (leb (length input) 65536) (printed (decode_section enough input 0)) (line too_long [])
