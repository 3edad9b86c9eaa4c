-- Over a sequence with two sets more claims can be refused than before, so nothing is claimed of the number: a claim that is now accepted may hinder
-- others that were accepted. By computation.
use mathlib.Core.Path.{◌≡◌, refl}
use Prim.Native.Nat.{ℕ}
use mathlib.Core.List.{List, [], ◌∷◌, map}
use mathlib.Core.Bool.{true, false}
use lib.Dec.{eqb}
use Rattle.local_format.specs.Out.{ok, refuse}
use Rattle.local_format.specs.Tag.{equal}
use Rattle.semcode_records.specs.Records.{no_records}
use Rattle.semcode_records.specs.Path.{Path, Event, borrow, no_activation, write, no_execution}
use Rattle.semcode_decode.specs.Block.{Block}
use Rattle.lock_rules.specs.Lock.{begins, touches, hinders}
use Rattle.lock_rules.specs.Register.{any, Step, claims, claimed, answers}
use Rattle.lock_rules.specs.Source.{same_root, root_under}

abbrev path_on : Event → ℕ → Path
path_on event root = record { event = event; root = root; components = no_records 0 }

abbrev written : ℕ → Path
written = path_on (write no_execution)

abbrev borrowed : ℕ → Path
borrowed = path_on (borrow no_activation)

-- a block with these paths
abbrev block_with : List Path → Block
block_with paths =
    record {
      strings = no_records 0;
      debug = record { found = false; table = no_records 0 };
      ownership = record { found = true; table = record { start = 0; entries = map (λ p. record { start = 0; value = p; next = 0 }) paths; end = 0 } };
      signature = record { found = false; table = no_records 0 };
    }

-- owner 1 writes root 5; owner 2 writes roots 5 and 6 under another set; owners 3 and 4 borrow root 6 under that one
abbrev sequence : {R : Type 0} → (ℕ → R) → (ℕ → R) → List (Step R)
sequence one other =
    claims one 1 (ok (block_with (written 5 ∷ [])))
    ∷ claims other 2 (ok (block_with (written 5 ∷ written 6 ∷ [])))
    ∷ claims other 3 (ok (block_with (borrowed 6 ∷ [])))
    ∷ claims other 4 (ok (block_with (borrowed 6 ∷ [])))
    ∷ []

pub one_refused : answers eqb [] (sequence (λ n. n) (λ n. n)) ≡ ok 1 ∷ refuse 67 0 ∷ ok 2 ∷ ok 3 ∷ []
unfolding answers claimed any hinders touches begins
one_refused = refl

pub two_refused : answers same_root [] (sequence (root_under (0 ∷ [])) (root_under (1 ∷ []))) ≡ ok 1 ∷ ok 3 ∷ refuse 67 0 ∷ refuse 67 0 ∷ []
unfolding answers claimed any hinders touches begins same_root equal
two_refused = refl
