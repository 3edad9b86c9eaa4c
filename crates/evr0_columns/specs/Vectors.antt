-- Two sections and their columns, and files that are no columns: theorems that compute.
use Rattle.std.specs.Prelude.{ℕ, ◌≡◌, refl, take, drop, replicate}
use mathlib.Core.List.{List, [], ◌∷◌, ◌++◌, map, zip}
use Rattle.local_format.specs.Refusal.{among, kind_of}
use Rattle.local_format.specs.Out.{Out, ok, refuse}
use Rattle.local_format.specs.Field.{le}
use Rattle.local_format.specs.Tag.{evr0, pos_witness, op_t_only}
use Rattle.evr0_section.specs.Head.{span_width}
use Rattle.groups.specs.Groups.{groups_in, number_from}
use Rattle.evr0_columns.specs.Form.{each, get_many, whole, rewritten}
use Rattle.evr0_columns.specs.Layout.{copied, number, in_bytes, in_groups, field, fields, by_column, tables}
use Rattle.evr0_columns.specs.Columns.{layout_of, columns_of, rebuilt}

-- parts one after the other; a small number of four bytes; a digest
parts : List (List ℕ) → List ℕ
parts = each (λ b. b)

four : ℕ → List ℕ
four n = n ∷ 0 ∷ 0 ∷ 0 ∷ []

digest : ℕ → List ℕ
digest n = replicate 32 n

-- the tag, then the payload's length, the schema and what is copied with them
front : ℕ → ℕ → ℕ → List ℕ
front low high schema = parts (evr0 ∷ (low ∷ high ∷ 0 ∷ 0 ∷ schema ∷ 0 ∷ 0 ∷ 0 ∷ []) ∷ digest 0xA1 ∷ digest 0xA2 ∷ (7 ∷ 9 ∷ []) ∷ [])

-- ---- Document 01's specimen 4, with an owner, a scope and a type

section : List ℕ
section =
    parts
    (front 0x1F 1 1 ∷ (1 ∷ 0 ∷ 0x61 ∷ 1 ∷ 0 ∷ 0x62 ∷ []) ∷ four 1 ∷ four 2 ∷ four 1 ∷ four 1 ∷
    -- the proposition
    (1 ∷ 0 ∷ 0x6B ∷ []) ∷ four 200 ∷ four 5 ∷ four 8 ∷
    -- the proofs
    four 0 ∷ four 0 ∷ (13 ∷ 0 ∷ pos_witness) ∷ four 7 ∷ four 0 ∷ four 1 ∷ four 0 ∷ four 0 ∷ four 0 ∷
    four 1 ∷ four 0 ∷ (11 ∷ 0 ∷ op_t_only) ∷ four 7 ∷ four 1 ∷ four 0 ∷ four 0 ∷ four 1 ∷ four 1 ∷
    -- the witness and the parent
    four 0 ∷ four 0 ∷ four 1 ∷ digest 0xA3 ∷ four 3 ∷ four 6 ∷ digest 0xA4 ∷ four 0 ∷ [])

columns : List ℕ
columns =
    parts
    (front 0x1F 1 1 ∷ (1 ∷ 0x61 ∷ 1 ∷ 0x62 ∷ 1 ∷ 2 ∷ 1 ∷ 1 ∷ []) ∷
    -- the proposition's kind, owner, scope, type
    (1 ∷ 0x6B ∷ 0xC8 ∷ 0x01 ∷ 5 ∷ 8 ∷ []) ∷
    -- the proofs' numbers, propositions and rules
    (0 ∷ 1 ∷ 0 ∷ 0 ∷ []) ∷ (13 ∷ pos_witness) ∷ (11 ∷ op_t_only) ∷
    -- authorities, first witnesses, witness counts, first parents, parent counts, operations, reserved bytes
    (7 ∷ 7 ∷ 0 ∷ 1 ∷ 1 ∷ 0 ∷ 0 ∷ 0 ∷ 0 ∷ 1 ∷ 0 ∷ 1 ∷ 0 ∷ 0 ∷ 0 ∷ 0 ∷ 0 ∷ 0 ∷ []) ∷
    -- the witness: number, proposition, polarity, reserved bytes, digest, span, digest; and the parent
    (0 ∷ 0 ∷ 1 ∷ 0 ∷ 0 ∷ 0 ∷ []) ∷ digest 0xA3 ∷ (3 ∷ 6 ∷ []) ∷ digest 0xA4 ∷ (0 ∷ []) ∷ [])

-- ---- A witness of schema 2, whose span starts at 2 ^ 32 and ends at the last place; and the same under another schema

wide : ℕ → List ℕ
wide schema =
    parts
    (front 184 0 schema ∷ (1 ∷ 0 ∷ 0x61 ∷ 1 ∷ 0 ∷ 0x62 ∷ []) ∷ four 0 ∷ four 0 ∷ four 1 ∷ four 0 ∷
    four 0 ∷ four 0 ∷ four 1 ∷ digest 0xA3 ∷ four 0 ∷ four 1 ∷ replicate 8 0xFF ∷ digest 0xA4 ∷ [])

wide_columns : ℕ → List ℕ
wide_columns schema =
    parts
    (front 184 0 schema ∷ (1 ∷ 0x61 ∷ 1 ∷ 0x62 ∷ 0 ∷ 0 ∷ 1 ∷ 0 ∷ 0 ∷ 0 ∷ 1 ∷ 0 ∷ 0 ∷ 0 ∷ []) ∷ digest 0xA3 ∷
    (0x80 ∷ 0x80 ∷ 0x80 ∷ 0x80 ∷ 0x10 ∷ []) ∷ replicate 9 0xFF ∷ (1 ∷ []) ∷ digest 0xA4 ∷ [])

-- ---- Written and taken back; a byte missing, a byte more, no bytes, and 75

data Case : Type 0 where
  case : Out (List ℕ) → Out (List ℕ) → Case

given : Case → Out (List ℕ)
given (case x answer) = x

due : Case → Out (List ℕ)
due (case x answer) = answer

cases : List Case
cases =
    case (columns_of section) (ok columns) ∷
    case (rebuilt columns) (ok section) ∷
    case (columns_of (wide 2)) (ok (wide_columns 2)) ∷
    case (rebuilt (wide_columns 2)) (ok (wide 2)) ∷
    case (rebuilt (wide_columns 3)) (refuse 75 128) ∷
    case (rebuilt []) (refuse 76 0) ∷
    case (rebuilt (take 78 columns)) (refuse 76 78) ∷
    case (rebuilt (take 79 columns)) (refuse 76 79) ∷
    case (rebuilt (take 212 columns)) (refuse 76 212) ∷
    case (rebuilt (columns ++ (0 ∷ []))) (refuse 76 213) ∷
    case (rebuilt (take 82 columns ++ (0x81 ∷ 0x00 ∷ drop 84 columns))) (refuse 75 83) ∷ []

as_computed : map given cases ≡ map due cases
unfolding among kind_of le number each groups_in number_from zip get_many whole rewritten copied in_bytes in_groups field fields by_column tables
    span_width layout_of columns_of rebuilt parts four digest front section columns wide wide_columns given due cases
as_computed = refl
