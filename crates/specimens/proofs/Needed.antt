-- The conditions of Slip 7 are needed: by computation.
use Prim.Native.Nat.{ℕ, zero, suc}
use mathlib.Core.Path.{◌≡◌, refl}
use mathlib.Core.List.{List, [], ◌∷◌, ◌++◌}
use lib.ListN.{get_or}
use Rattle.local_format.specs.Out.{ok, refuse, ◌>>=◌}
use Rattle.evr0_section.specs.Section.{decode_section}
use Rattle.specimens.specs.Build.{framed}
use Rattle.specimens.specs.EvidenceSpecimens.{two}
use Rattle.specimens.specs.Needed.{whole_file, cut_file, counted, ask14, ask15}
use Rattle.specimens.proofs.Computed.{decoded}

-- ---- The payload has to be whole in both files

last_zero : (s : List ℕ) (i : ℕ) → get_or (s ++ (0 ∷ [])) i 0 ≡ get_or s i 0
last_zero [] zero = refl
last_zero [] (suc i) = refl
last_zero (b ∷ s) zero = refl
last_zero (b ∷ s) (suc i) = last_zero s i

-- no place tells the two files apart, and yet one is accepted and the other refused
pub same_bytes : (i : ℕ) → get_or whole_file i 0 ≡ get_or cut_file i 0
unfolding decoded
same_bytes i = last_zero cut_file i

pub whole_accepted : (decode_section two whole_file 0 >>= λ d. ok d.cursor) ≡ ok 100
unfolding decoded
whole_accepted = refl

pub cut_refused : decode_section two cut_file 0 ≡ refuse 4 8
unfolding decoded
cut_refused = refl

-- ---- 13 has to come before 14, and 12 or 13 before 15

pub given_14 : ask14 (counted 65536 65536 262144 262144) ≡ refuse 14 92
unfolding decoded ask14
given_14 = refl

pub named_13 : decode_section two (framed (counted 65536 65536 262144 262144)) 0 ≡ refuse 13 100
unfolding decoded
named_13 = refl

pub given_15 : ask15 (counted 0 0 0 8388517) ≡ refuse 15 92
unfolding decoded ask15
given_15 = refl

pub named_12 : decode_section two (framed (counted 0 0 0 8388517)) 0 ≡ refuse 12 96
unfolding decoded
named_12 = refl
