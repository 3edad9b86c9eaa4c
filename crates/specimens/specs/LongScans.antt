-- Sections of schema 2 (document 02, Slip 12), and of schemas that are not read.
use Rattle.std.specs.Prelude.{ℕ, ◌-◌, List, [], ◌∷◌, ◌++◌, length, take, drop, replicate}
use Rattle.local_format.specs.Out.{Out, ok, refuse, ◌>>=◌}
use Rattle.derivation.specs.Rule.{pos_witness1}
use Rattle.derivation.specs.Section.{Witness}
use Rattle.evr0_section.specs.Section.{section_of, decode_section}
use Rattle.specimens.specs.Build.{Free, number, bytes, text, payload_of, leaf}
use Rattle.specimens.specs.EvidenceSpecimens.{two, none}

-- the witness 0 of proposition 0, positive, with this span
abbrev pub scan : ℕ → ℕ → Witness
scan start end = record { number = 0; proposition = 0; polarity = 1; span_start = start; span_end = end }

-- what is told of an accepted section
pub record Scanned : Type 0 where
  pub schema : ℕ
  pub witnesses : List Witness
  pub depths : List ℕ
  pub cursor : ℕ

abbrev pub scanned : List ℕ → Out Scanned
scanned s = do
  d ← decode_section two s 0
  ok (record { schema = d.tables.head.schema; witnesses = (section_of d.tables).witnesses; depths = d.depths; cursor = d.cursor })

module _ (free : Free) where
  -- specimen 3 with a kind of 61 bytes, so that 13 leaves cuts of up to 72 bytes, with a schema and a span
  abbrev pub payload : ℕ → ℕ → ℕ → List ℕ
  payload schema start end =
      payload_of schema free ((text (replicate 61 0x6B) ++ bytes free.proposition 12 0) ∷ []) (leaf pos_witness1 0 0 0 ∷ []) (scan start end ∷ []) []

  abbrev pub long_scan : List ℕ
  long_scan = payload 2 1 4294967296

  -- without its last n bytes
  abbrev pub without : ℕ → List ℕ
  without n = take (length long_scan - n) long_scan

  -- without 1 to 73 bytes: cut in the origin digest, in the end, in the start and in the file digest of the witness; and then 13
  abbrev pub cuts : List (Out Scanned)
  cuts =
      replicate 32 (refuse 5 282) ++ (replicate 8 (refuse 5 274) ++ (replicate 8 (refuse 5 266) ++ (replicate 24 (refuse 5 234) ++ (refuse 13 100 ∷ []))))

  -- specimen 1 with another schema
  abbrev pub of_schema : ℕ → List ℕ
  of_schema schema = number 2 schema ++ drop 2 (none free)
