-- Specimens 1 to 8 of document 01, at cursor 0; 7 carries schema 3 (document 02, Slip 12). What they leave free is any bytes; spans are empty,
-- and the lent tables have two entries each.
use Rattle.std.specs.Prelude.{ℕ, List, [], ◌∷◌, ◌++◌, map, drop}
use Rattle.local_format.specs.Out.{Out, ok, refuse, ◌>>=◌}
use Rattle.local_format.specs.Tag.{evr0}
use Rattle.derivation.specs.Rule.{pos_witness1}
use Rattle.evr0_section.specs.Head.{Counts, Room}
use Rattle.evr0_section.specs.Section.{frame_at, decode_section}
use Rattle.specimens.specs.Build.{Free, number, payload, framed, proposition_bytes, leaf, op, witness}

-- what is told of an accepted section: the payload's length, the cursor, the counts, the starts in the payload, the depths
pub record Told : Type 0 where
  pub payload : ℕ
  pub cursor : ℕ
  pub counts : List ℕ
  pub propositions : List ℕ
  pub proofs : List ℕ
  pub depths : List ℕ

pub record Specimen : Type 0 where
  pub bytes : List ℕ
  pub answer : Out Told

abbrev pub two : Room
two = record { propositions = 2; proofs = 2; depths = 2 }

abbrev pub counts : Counts → List ℕ
counts c = c.propositions ∷ c.proofs ∷ c.witnesses ∷ c.parents ∷ []

-- a specimen with the answer of the definitions
abbrev pub answered : Specimen → Specimen
answered x =
    record {
      bytes = x.bytes;
      answer = (do
        f ← frame_at x.bytes 0
        s ← decode_section two x.bytes 0
        ok (record {
          payload = f.len;
          cursor = s.cursor;
          counts = counts s.tables.head.counts;
          propositions = map (λ e. e.start) s.tables.propositions.entries;
          proofs = map (λ e. e.start) s.tables.proofs.entries;
          depths = s.depths;
        }));
    }

module _ (free : Free) where
  -- without records; with proposition "k", a POS proof and its witness; and an OP proof after it
  abbrev pub none : List ℕ
  none = payload free [] [] [] []

  abbrev pub one : ℕ → List ℕ
  one polarity = payload free (proposition_bytes free ∷ []) (leaf pos_witness1 0 0 0 ∷ []) (witness 0 polarity ∷ []) []

  abbrev pub both : ℕ → ℕ → List ℕ
  both parent authority =
      payload free (proposition_bytes free ∷ []) (leaf pos_witness1 0 0 0 ∷ op authority 1 1 0 ∷ []) (witness 0 1 ∷ []) (parent ∷ [])

  -- the last byte of 8 is any byte too
  unfoldable pub specimens : ℕ → List Specimen
  specimens byte =
      -- 1
      record {
        bytes = framed none;
        answer = ok (record { payload = 92; cursor = 100; counts = 0 ∷ 0 ∷ 0 ∷ 0 ∷ []; propositions = []; proofs = []; depths = [] });
      } ∷
      -- 2
      record { bytes = evr0 ++ (number 4 0 ++ none); answer = refuse 3 4 } ∷
      -- 3
      record {
        bytes = framed (one 1);
        answer = ok (record { payload = 238; cursor = 246; counts = 1 ∷ 1 ∷ 1 ∷ 0 ∷ []; propositions = 92 ∷ []; proofs = 107 ∷ []; depths = 1 ∷ [] });
      } ∷
      record { bytes = framed (one 0); answer = refuse 29 8 } ∷
      -- 4
      record {
        bytes = framed (both 0 7);
        answer = ok (record {
          payload = 287;
          cursor = 295;
          counts = 1 ∷ 2 ∷ 1 ∷ 1 ∷ [];
          propositions = 92 ∷ [];
          proofs = 107 ∷ 154 ∷ [];
          depths = 1 ∷
              2 ∷ [];
        });
      } ∷
      -- 5
      record { bytes = framed (both 1 7); answer = refuse 25 291 } ∷
      -- 6
      record { bytes = framed (both 0 8); answer = refuse 26 291 } ∷
      -- 7
      record { bytes = framed (number 2 3 ++ drop 2 none); answer = refuse 10 10 } ∷
      -- 8
      record { bytes = framed (none ++ (byte ∷ [])); answer = refuse 24 100 } ∷ []
