-- The twelve specimens: the definitions give the answers that document 01 has, and from revision 20 on document 02, by computation.
use Prim.Native.Nat.{ℕ, ◌≤◌, ◌<◌}
use mathlib.Core.Path.{◌≡◌, refl, ap, ◌∙◌}
use mathlib.Core.List.{List, [], ◌∷◌, map, ◌++◌}
use borrow.Author.Tests.{le-leb, lt-leb}
use Rattle.local_format.specs.Number.{numbered}
use Rattle.semcode_records.specs.Records.{records}
use Rattle.semcode_records.specs.Path.{activation_at, event_of, front_at, path_at}
use Rattle.semcode_decode.specs.Block.{string_table, path_table, section_at, family_table, signature_at, block_of}
use Rattle.semcode_decode.specs.Number.{path_number}
use Rattle.specimens.specs.Build.{Free}
use Rattle.specimens.specs.EvidenceSpecimens as evr0
use Rattle.specimens.specs.FunctionSpecimens as semcode
use Rattle.specimens.specs.Specimens.{Specimen, section, block, answered, specimens}
use Rattle.specimens.proofs.Computed.{decoded}

-- ---- Sections and blocks apart
sections : (free : Free) (byte : ℕ) → map evr0.answered (evr0.specimens free byte) ≡ evr0.specimens free byte
unfolding decoded evr0.specimens
sections free byte = refl

blocks : (base revision low high : ℕ) → low < 20 → 20 ≤ high
    → map (semcode.answered base) (semcode.specimens base revision low high) ≡ semcode.specimens base revision low high
unfolding decoded records activation_at event_of front_at path_at string_table path_table section_at family_table signature_at block_of numbered path_number
blocks base revision low high l h = rw (lt-leb 20 low l, le-leb 20 high h)

each : (base : ℕ) (xs : List evr0.Specimen) (ys : List semcode.Specimen) → map (answered base) (map section xs ++ map block ys)
    ≡ map section (map evr0.answered xs) ++ map block (map (semcode.answered base) ys)
each base [] [] = refl
each base [] (y ∷ ys) = ap (λ (zs : List Specimen). block (semcode.answered base y) ∷ zs) (each base [] ys)
each base (x ∷ xs) ys = ap (λ (zs : List Specimen). section (evr0.answered x) ∷ zs) (each base xs ys)

pub as_documented : (free : Free) (byte base revision low high : ℕ) → low < 20 → 20 ≤ high
    → map (answered base) (specimens free byte base revision low high) ≡ specimens free byte base revision low high
unfolding specimens
as_documented free byte base revision low high l h =
    each base (evr0.specimens free byte) (semcode.specimens base revision low high)
    ∙ ap (λ (xs : List evr0.Specimen). map section xs ++ map block (map (semcode.answered base) (semcode.specimens base revision low high)))
    (sections free byte)
    ∙ ap (λ (ys : List semcode.Specimen). map section (evr0.specimens free byte) ++ map block ys) (blocks base revision low high l h)
