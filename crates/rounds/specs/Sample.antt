-- Sections of the examples, over the four rules. Their proofs have proposition 0, and authority 7 but where said.
use Rattle.std.specs.Prelude.{ℕ, zero, suc, List, [], ◌∷◌, ◌++◌}
use Rattle.derivation.specs.Rule.{Rule, pos_witness1, neg_witness1, join_same_p1, op_t_only1}
use Rattle.derivation.specs.Section.{Proof, Witness, Section}

-- the proof n, with its first witness and its first parent cell
abbrev pub by : Rule → ℕ → ℕ → ℕ → ℕ → Proof
by r authority n witness parent =
    record {
      number = n;
      proposition = 0;
      rule = r;
      authority = authority;
      first_witness = witness;
      witness_count = r.witnesses;
      first_parent = parent;
      parent_count = r.parents;
      operation = r.operation;
    }

abbrev pub seen : ℕ → ℕ → Witness
seen n polarity = record { number = n; proposition = 0; polarity = polarity; span_start = 0; span_end = 0 }

-- a positive and a negative proof, their join, an OP on the join and one on the positive proof
unfoldable pub joined : Section
joined =
    record {
      propositions = 1;
      proofs = by pos_witness1 7 0 0 0 ∷ by neg_witness1 7 1 1 0 ∷ by join_same_p1 7 2 2 0 ∷ by op_t_only1 7 3 2 2 ∷ by op_t_only1 7 4 2 3 ∷ [];
      witnesses = seen 0 1 ∷ seen 1 0 ∷ [];
      parents = 0 ∷ 1 ∷ 2 ∷ 0 ∷ [];
    }

-- an OP proof on the proof after it, and one on itself
unfoldable pub upwards : Section
upwards = record { propositions = 1; proofs = by op_t_only1 7 0 0 0 ∷ by pos_witness1 7 1 0 1 ∷ []; witnesses = seen 0 1 ∷ []; parents = 1 ∷ [] }

unfoldable pub on_itself : Section
on_itself = record { propositions = 1; proofs = by pos_witness1 7 0 0 0 ∷ by op_t_only1 7 1 1 0 ∷ []; witnesses = seen 0 1 ∷ []; parents = 1 ∷ [] }

-- a positive proof and n OP proofs, each on the one before; and then an OP proof of this authority on this one
unfoldable pub ops_from : ℕ → ℕ → List Proof
ops_from zero i = []
ops_from (suc n) i = by op_t_only1 7 (suc i) 1 i ∷ ops_from n (suc i)

unfoldable pub up_from : ℕ → ℕ → List ℕ
up_from zero i = []
up_from (suc n) i = i ∷ up_from n (suc i)

unfoldable pub chain_then : ℕ → ℕ → ℕ → Section
chain_then n authority parent =
    record {
      propositions = 1;
      proofs = by pos_witness1 7 0 0 0 ∷ ops_from n 0 ++ (by op_t_only1 authority (suc n) 1 n ∷ []);
      witnesses = seen 0 1 ∷ [];
      parents = up_from n 0 ++ (parent ∷ []);
    }
