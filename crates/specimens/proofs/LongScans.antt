-- Sections of schema 2, by computation: a span that ends at 2^32, all cuts in its witness, a span that ends before it starts by its high half, and
-- the schemas that are not read.
use mathlib.Core.Path.{◌≡◌, refl}
use mathlib.Core.List.{[], ◌∷◌, map}
use lib.ListN.{replicate}
use Rattle.local_format.specs.Out.{ok, refuse}
use Rattle.specimens.specs.Build.{Free, number, framed}
use Rattle.specimens.specs.Examples.{up_from}
use Rattle.specimens.specs.LongScans.{scan, scanned, payload, long_scan, without, cuts, of_schema}
use Rattle.specimens.proofs.Computed.{decoded}

module _ (free : Free) where
  pub long_scan_lem : scanned (framed (long_scan free))
      ≡ ok (record { schema = 2; witnesses = scan 1 4294967296 ∷ []; depths = 1 ∷ []; cursor = 314 })
  unfolding decoded
  long_scan_lem = refl

  pub long_scan_cut : map (λ n. scanned (framed (without free n))) (up_from 73 1) ≡ cuts free
  unfolding decoded up_from
  long_scan_cut = refl

  -- start 2^32, end 1
  pub by_high_half : scanned (framed (payload free 2 4294967296 1)) ≡ refuse 23 222
  unfolding decoded
  by_high_half = refl

  -- all 16 bits of the schema count, before the flags are looked at
  pub others : map (λ n. scanned (framed (of_schema free n))) (0 ∷ 3 ∷ 258 ∷ 513 ∷ []) ≡ replicate 4 (refuse 10 10)
  unfolding decoded
  others = refl

  pub schema_alone : map (λ n. scanned (framed (number 2 n))) (1 ∷ 2 ∷ 3 ∷ []) ≡ refuse 5 10 ∷ refuse 5 10 ∷ refuse 10 10 ∷ []
  unfolding decoded
  schema_alone = refl
