-- The sections of the examples. Their proofs have authority 7 but where said, and proposition 0 but where said.
use Rattle.std.specs.Prelude.{ℕ, zero, suc, List, [], ◌∷◌}
use Rattle.derivation.specs.Rule.{pos_witness1, neg_witness1, op_t_only1}
use Rattle.derivation.specs.Section.{Proof, Section}
use Rattle.specimens.specs.Build.{leaf, join, op, witness}

-- a join of a positive and a negative proof, an OP on the join, an OP on that OP, and two joins upon joins
unfoldable pub joins : Section
joins =
    record {
      propositions = 1;
      proofs = leaf pos_witness1 0 0 0 ∷ leaf neg_witness1 1 1 0 ∷ join 2 2 0 ∷ op 7 3 2 2 ∷ op 7 4 2 3 ∷ join 5 2 4 ∷ join 6 2 6 ∷ [];
      witnesses = witness 0 1 ∷ witness 1 0 ∷ [];
      parents = 0 ∷ 1 ∷ 2 ∷ 3 ∷ 2 ∷ 4 ∷ 2 ∷ 5 ∷ [];
    }

-- two positive and two negative proofs, a join of the positive ones, of the negative ones and of one of each, an OP on the first and on the
-- last of these joins, a join of both OP, and a join of the first join and the OP on it
unfoldable pub sides : Section
sides =
    record {
      propositions = 1;
      proofs =
          leaf pos_witness1 0 0 0 ∷ leaf pos_witness1 1 1 0 ∷ leaf neg_witness1 2 2 0 ∷ leaf neg_witness1 3 3 0 ∷
          join 4 4 0 ∷ join 5 4 2 ∷ join 6 4 4 ∷ op 7 7 4 6 ∷ op 7 8 4 7 ∷ join 9 4 8 ∷ join 10 4 10 ∷ [];
      witnesses = witness 0 1 ∷ witness 1 1 ∷ witness 2 0 ∷ witness 3 0 ∷ [];
      parents = 0 ∷ 1 ∷ 2 ∷ 3 ∷ 1 ∷ 2 ∷ 4 ∷ 6 ∷ 7 ∷ 8 ∷ 4 ∷ 7 ∷ [];
    }

-- an OP proof on a negative one
unfoldable pub op_on_negative : Section
op_on_negative = record { propositions = 1; proofs = leaf neg_witness1 0 0 0 ∷ op 7 1 1 0 ∷ []; witnesses = witness 0 0 ∷ []; parents = 0 ∷ [] }

-- ---- A chain: a positive proof and n OP proofs, each on the one before

unfoldable pub ops_from : ℕ → ℕ → List Proof
ops_from zero i = []
ops_from (suc n) i = op 7 (suc i) 1 i ∷ ops_from n (suc i)

-- n numbers, from i on up
unfoldable pub up_from : ℕ → ℕ → List ℕ
up_from zero i = []
up_from (suc n) i = i ∷ up_from n (suc i)

-- n numbers, from n - 1 on down
unfoldable pub down_to0 : ℕ → List ℕ
down_to0 zero = []
down_to0 (suc n) = n ∷ down_to0 n

unfoldable pub chain : ℕ → Section
chain n = record { propositions = 1; proofs = leaf pos_witness1 0 0 0 ∷ ops_from n 0; witnesses = witness 0 1 ∷ []; parents = up_from n 0 }

-- ---- Sections that are refused

-- an OP proof with authority 8
unfoldable pub other_authority : Section
other_authority = record { propositions = 1; proofs = leaf pos_witness1 0 0 0 ∷ op 8 1 1 0 ∷ []; witnesses = witness 0 1 ∷ []; parents = 0 ∷ [] }

-- an OP proof of proposition 1
unfoldable pub other_proposition : Section
other_proposition =
    record {
      propositions = 2;
      proofs =
          leaf pos_witness1 0 0 0 ∷
          record {
            number = 1;
            proposition = 1;
            rule = op_t_only1;
            authority = 7;
            first_witness = 1;
            witness_count = 0;
            first_parent = 0;
            parent_count = 1;
            operation = 1;
          } ∷ [];
      witnesses = witness 0 1 ∷ [];
      parents = 0 ∷ [];
    }

-- a witness of proposition 1
unfoldable pub witness_of_other : Section
witness_of_other =
    record {
      propositions = 2;
      proofs = leaf pos_witness1 0 0 0 ∷ [];
      witnesses = record { number = 0; proposition = 1; polarity = 1; span_start = 0; span_end = 0 } ∷ [];
      parents = [];
    }

-- a negative proof whose witness has polarity 1
unfoldable pub wrong_polarity : Section
wrong_polarity = record { propositions = 1; proofs = leaf neg_witness1 0 0 0 ∷ []; witnesses = witness 0 1 ∷ []; parents = [] }

-- a positive proof with two witnesses, where the section has one: 19 and 21 both apply
unfoldable pub past_the_count : Section
past_the_count =
    record {
      propositions = 1;
      proofs =
          record {
            number = 0;
            proposition = 0;
            rule = pos_witness1;
            authority = 7;
            first_witness = 0;
            witness_count = 2;
            first_parent = 0;
            parent_count = 0;
            operation = 0;
          } ∷ [];
      witnesses = witness 0 1 ∷ [];
      parents = [];
    }
