-- Specimens 9 to 12 of document 01: block and revision, what the block decodes to, and its path number 0 read back. From revision 20 on,
-- document 02's Slip 9 replaces the answers of 10 and 12.
use Rattle.std.specs.Prelude.{ℕ, List, [], ◌∷◌, ◌++◌, true, false}
use Rattle.local_format.specs.Refusal as kind
use Rattle.local_format.specs.Out.{Out, ok, refused, refuse, held, ◌>>=◌}
use Rattle.semcode_records.specs.Records.{no_records}
use Rattle.semcode_records.specs.Path.{Path, Activation, no_activation, frame_entry, borrow}
use Rattle.semcode_decode.specs.Block.{Rooms, Section, Block, decode_block}
use Rattle.semcode_decode.specs.Number.{path_number}

pub record Specimen : Type 0 where
  pub bytes : List ℕ
  pub revision : ℕ
  pub block : Out Block
  pub path : Out Path

-- lent tables that are long enough for any block
abbrev pub enough : Rooms
enough = record { strings = 256; symbols = 8192; paths = 65535; families = 4096 }

-- a specimen with the answers of the definitions, for a block at this base
abbrev pub answered : ℕ → Specimen → Specimen
answered base x =
    let block = decode_block base x.revision enough x.bytes in
    record {
      bytes = x.bytes;
      revision = x.revision;
      block = block;
      path = (do
        chosen ← path_number 0 block
        ok chosen.value.value);
    }

-- one borrow without components, in a block without strings and debug symbols
abbrev pub one_borrow : Activation → ℕ → ℕ → Path
one_borrow activation root end = record { event = borrow activation; root = root; components = no_records end }

-- with or without a signature of no parameters behind it
abbrev pub one_borrow_block : Activation → ℕ → ℕ → Section ℕ → Block
one_borrow_block activation root end signature =
    record {
      strings = no_records 2;
      debug = record { found = false; table = no_records 2 };
      ownership =
          record {
            found = true;
            table = record { start = 8; entries = record { start = 8; value = one_borrow activation root end; next = end } ∷ []; end = end };
          };
      signature = signature;
    }

abbrev pub no_signature : ℕ → Section ℕ
no_signature at = record { found = false; table = no_records at }

-- 71 where OWN0 is absent
abbrev pub no_ownership : {A : Type 0} → ℕ → Out A
no_ownership at = refused (record { kind = kind.ownership; number = 71; offset = at })

-- specimen 12
abbrev pub one_borrow_bytes : List ℕ
one_borrow_bytes =
    0x00 ∷ 0x00 ∷ 0x4F ∷ 0x57 ∷ 0x4E ∷ 0x30 ∷ 0x01 ∷ 0x00 ∷ 0x00 ∷ 0x00 ∷ 0x09 ∷ 0x00 ∷ 0x00 ∷ 0x00 ∷ 0x00 ∷ 0x00 ∷ []

-- at any base; 9 and 11 at any revision, 10 at one below 20 and at one from 20 on
abbrev pub specimens : ℕ → ℕ → ℕ → ℕ → List Specimen
specimens base revision low high =
    -- 9
    record { bytes = 0x00 ∷ []; revision = revision; block = refuse 30 (held base 0); path = refuse 30 (held base 0) } ∷
    record { bytes = 0x01 ∷ 0x01 ∷ []; revision = revision; block = refuse 31 (held base 2); path = refuse 31 (held base 2) } ∷
    -- 10
    record {
      bytes = 0x00 ∷ 0x00 ∷ 0x44 ∷ 0x42 ∷ 0x47 ∷ [];
      revision = low;
      block =
          ok (record {
            strings = no_records 2;
            debug = record { found = false; table = no_records 2 };
            ownership = record { found = false; table = no_records 2 };
            signature = no_signature 2;
          });
      path = refuse 62 0;
    } ∷
    record {
      bytes = 0x00 ∷ 0x00 ∷ 0x44 ∷ 0x42 ∷ 0x47 ∷ [];
      revision = high;
      block = no_ownership (held base 2);
      path = no_ownership (held base 2);
    } ∷
    -- 11
    record {
      bytes =
          0x00 ∷ 0x00 ∷ 0x4F ∷ 0x57 ∷ 0x4E ∷ 0x30 ∷ 0x01 ∷ 0x00 ∷ 0x07 ∷ 0x05 ∷ 0x00 ∷ 0x00 ∷ 0x00 ∷ 0x00 ∷ 0x00 ∷ [];
      revision = revision;
      block = refuse 60 (held base 15);
      path = refuse 60 (held base 15);
    } ∷
    -- 12: no SIG0
    record { bytes = one_borrow_bytes; revision = 21; block = refuse 71 (held base 16); path = refuse 71 (held base 16) } ∷
    record { bytes = one_borrow_bytes; revision = 20; block = refuse 71 (held base 15); path = refuse 71 (held base 15) } ∷
    -- accepted below 20, and with SIG0 behind it
    record {
      bytes = one_borrow_bytes;
      revision = 19;
      block = ok (one_borrow_block no_activation 2304 15 (no_signature 15));
      path = ok (one_borrow no_activation 2304 15);
    } ∷
    record {
      bytes = one_borrow_bytes ++ 0x53 ∷ 0x49 ∷ 0x47 ∷ 0x30 ∷ 0x00 ∷ 0x00 ∷ [];
      revision = 21;
      block = ok (one_borrow_block frame_entry 9 16 (record { found = true; table = no_records 22 }));
      path = ok (one_borrow frame_entry 9 16);
    } ∷ []
