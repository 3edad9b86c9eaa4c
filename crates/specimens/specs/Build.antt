-- The bytes of sections, for specimens and examples: the layout of document 01, written.
use Rattle.std.specs.Prelude.{ℕ, zero, suc, ◌/◌, ◌%◌, List, [], ◌∷◌, ◌++◌, length}
use Rattle.local_format.specs.Tag.{evr0}
use Rattle.derivation.specs.Rule.{Rule, join_same_p1, op_t_only1}
use Rattle.derivation.specs.Section.{Proof, Witness}
use Rattle.evr0_section.specs.Head.{span_width}

-- ---- Fields and texts

-- a number as a field of `width` bytes, the lowest first
unfoldable pub number : ℕ → ℕ → List ℕ
number zero n = []
number (suc width) n = n % 256 ∷ number width (n / 256)

-- `count` bytes by their place, from a place on
unfoldable pub bytes : (ℕ → ℕ) → ℕ → ℕ → List ℕ
bytes f zero at = []
bytes f (suc count) at = f at ∷ bytes f count (suc at)

unfoldable pub text : List ℕ → List ℕ
text b = number 2 (length b) ++ b

-- records one after the other
unfoldable pub each : {A : Type 0} → (A → List ℕ) → List A → List ℕ
each f [] = []
each f (x ∷ xs) = f x ++ each f xs

-- ---- Records

-- what no rule of document 01 reads: digests, epoch, and the owner, scope and type of a proposition that is alone; each by its bytes
pub record Free : Type 0 where
  pub source_set : ℕ → ℕ
  pub compiler_contract : ℕ → ℕ
  pub epoch : ℕ → ℕ
  pub proposition : ℕ → ℕ
  pub file_digest : ℕ → ℕ
  pub origin_digest : ℕ → ℕ

-- a proposition of kind "k"
unfoldable pub proposition_bytes : Free → List ℕ
proposition_bytes free = text (0x6B ∷ []) ++ bytes free.proposition 12 0

unfoldable pub proof_bytes : Proof → List ℕ
proof_bytes p =
    number 4 p.number ++ (number 4 p.proposition ++ (text p.rule.name ++ (number 4 p.authority ++
    (number 4 p.first_witness ++ (number 4 p.witness_count ++ (number 4 p.first_parent ++ (number 4 p.parent_count ++
    (number 1 p.operation ++ number 3 0))))))))

-- with a span whose ends have `width` bytes
unfoldable pub witness_bytes : ℕ → Free → Witness → List ℕ
witness_bytes width free w =
    number 4 w.number ++ (number 4 w.proposition ++ (number 1 w.polarity ++ (number 3 0 ++ (bytes free.file_digest 32 0 ++
    (number width w.span_start ++ (number width w.span_end ++ bytes free.origin_digest 32 0))))))

-- ---- Sections

-- of a schema: policy "a", issuer "b", and the tables; the propositions as bytes
unfoldable pub payload_of : ℕ → Free → List (List ℕ) → List Proof → List Witness → List ℕ → List ℕ
payload_of schema free propositions proofs witnesses parents =
    number 2 schema ++ (number 2 0 ++ (bytes free.source_set 32 0 ++ (bytes free.compiler_contract 32 0 ++ (bytes free.epoch 2 0 ++
    (text (0x61 ∷ []) ++ (text (0x62 ∷ []) ++
    (number 4 (length propositions) ++ (number 4 (length proofs) ++ (number 4 (length witnesses) ++ (number 4 (length parents) ++
    (each (λ p. p) propositions ++ (each proof_bytes proofs ++ (each (witness_bytes (span_width schema) free) witnesses ++
    each (number 4) parents)))))))))))))

-- of schema 1
abbrev pub payload : Free → List (List ℕ) → List Proof → List Witness → List ℕ → List ℕ
payload = payload_of 1

unfoldable pub framed : List ℕ → List ℕ
framed p = evr0 ++ (number 4 (length p) ++ p)

-- ---- Proofs of proposition 0 and authority 7

-- by a one-witness rule
abbrev pub leaf : Rule → ℕ → ℕ → ℕ → Proof
leaf rule n witness parent =
    record {
      number = n;
      proposition = 0;
      rule = rule;
      authority = 7;
      first_witness = witness;
      witness_count = 1;
      first_parent = parent;
      parent_count = 0;
      operation = 0;
    }

abbrev pub join : ℕ → ℕ → ℕ → Proof
join n witness parent =
    record {
      number = n;
      proposition = 0;
      rule = join_same_p1;
      authority = 7;
      first_witness = witness;
      witness_count = 0;
      first_parent = parent;
      parent_count = 2;
      operation = 0;
    }

abbrev pub op : ℕ → ℕ → ℕ → ℕ → Proof
op authority n witness parent =
    record {
      number = n;
      proposition = 0;
      rule = op_t_only1;
      authority = authority;
      first_witness = witness;
      witness_count = 0;
      first_parent = parent;
      parent_count = 1;
      operation = 1;
    }

-- a witness of proposition 0, with an empty span
abbrev pub witness : ℕ → ℕ → Witness
witness n polarity = record { number = n; proposition = 0; polarity = polarity; span_start = 0; span_end = 0 }
