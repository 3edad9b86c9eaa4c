-- The head of a payload: schema, flags, two digests, epoch, two namespaces and four counts, and the checks that follow the counts.
use Rattle.std.specs.Prelude.{ℕ, ◌+◌, ◌-◌, ◌*◌, List, [], ◌∷◌, Bool, cond, ◌&&◌, ◌||◌, length, leb, eqb}
use Rattle.local_format.specs.Out.{Out, ok, check, ◌>>=◌, ◌>>◌}
use Rattle.local_format.specs.Text.{Span, bytes_at, section_field, text_at}

-- ---- Digests

pub record Digest : Type 0 where
  pub bytes : List ℕ
  pub next : ℕ

-- a digest is a field of 32 bytes
unfoldable pub digest_at : List ℕ → ℕ → Out Digest
digest_at s at = do
  g ← section_field 32 s at
  ok (record { bytes = bytes_at s at 32; next = g.next })

-- ---- The four counts

pub record Counts : Type 0 where
  pub propositions : ℕ
  pub proofs : ℕ
  pub witnesses : ℕ
  pub parents : ℕ

pub record Counted : Type 0 where
  pub counts : Counts
  pub next : ℕ

unfoldable pub counts_at : List ℕ → ℕ → Out Counted
counts_at p at = do
  propositions ← section_field 4 p at
  proofs ← section_field 4 p propositions.next
  witnesses ← section_field 4 p proofs.next
  parents ← section_field 4 p witnesses.next
  ok (record {
    counts = record { propositions = propositions.value; proofs = proofs.value; witnesses = witnesses.value; parents = parents.value };
    next = parents.next;
  })

-- ---- What the schema decides (document 02, Slip 12)

-- the schemas that are read
abbrev pub is_schema : ℕ → Bool
is_schema schema = eqb schema 1 || eqb schema 2

-- the width of a span's start and of its end
unfoldable pub span_width : ℕ → ℕ
span_width schema = cond (eqb schema 2) 8 4

-- the size of a witness whose span's ends have this width: 84 or 92
abbrev pub witness_size : ℕ → ℕ
witness_size width = 76 + 2 * width

-- what 14 counts for a witness
unfoldable pub witness_memory : ℕ → ℕ
witness_memory schema = cond (eqb schema 2) 96 84

-- ---- The head

-- the two namespaces as texts, and the places of their lengths; the place of the first count, and the place after the counts
pub record Head : Type 0 where
  pub schema : ℕ
  pub source_set : List ℕ
  pub compiler_contract : List ℕ
  pub epoch : ℕ
  pub policy_at : ℕ
  pub policy : Span
  pub issuer_at : ℕ
  pub issuer : Span
  pub counts : Counts
  pub counts_at : ℕ
  pub next : ℕ

unfoldable pub head_of : List ℕ → Out Head
head_of p = do
  schema ← section_field 2 p 0
  check (is_schema schema.value) 10 schema.next
  flags ← section_field 2 p schema.next
  check (eqb flags.value 0) 11 flags.next
  source_set ← digest_at p flags.next
  compiler_contract ← digest_at p source_set.next
  epoch ← section_field 2 p compiler_contract.next
  policy ← text_at p epoch.next
  issuer ← text_at p policy.next
  counted ← counts_at p issuer.next
  ok (record {
    schema = schema.value;
    source_set = source_set.bytes;
    compiler_contract = compiler_contract.bytes;
    epoch = epoch.value;
    policy_at = epoch.next;
    policy = policy;
    issuer_at = policy.next;
    issuer = issuer;
    counts = counted.counts;
    counts_at = issuer.next;
    next = counted.next;
  })

-- ---- The checks after the counts

-- the lengths of the lent tables
pub record Room : Type 0 where
  pub propositions : ℕ
  pub proofs : ℕ
  pub depths : ℕ

abbrev pub listed : Counts → List ℕ
listed c = c.propositions ∷ c.proofs ∷ c.witnesses ∷ c.parents ∷ []

abbrev pub count_limits : List ℕ
count_limits = 65536 ∷ 65536 ∷ 262144 ∷ 262144 ∷ []

-- each count is at most its limit: the first that is not is refused at its place
unfoldable pub within_limits : List ℕ → List ℕ → ℕ → Out (Unit {0})
within_limits [] limits at = ok tt
within_limits (c ∷ cs) [] at = ok tt
within_limits (c ∷ cs) (limit ∷ limits) at = do
  check (leb c limit) 12 at
  within_limits cs limits (at + 4)

-- each count times the size of one record, added up
unfoldable pub sizes : Counts → ℕ → ℕ → ℕ → ℕ → ℕ
sizes c proposition proof witness parent = proposition * c.propositions + proof * c.proofs + witness * c.witnesses + parent * c.parents

-- whether the lent tables are long enough
unfoldable pub has_room : Room → Counts → Bool
has_room room c = leb c.propositions room.propositions && (leb c.proofs room.proofs && leb c.proofs room.depths)

unfoldable pub check_counts : Room → List ℕ → Head → Out (Unit {0})
check_counts room p h = do
  within_limits (listed h.counts) count_limits h.counts_at
  check (leb (sizes h.counts 15 35 (witness_size (span_width h.schema)) 4) (length p - h.next)) 13 h.next
  check (leb (length p + sizes h.counts 40 64 (witness_memory h.schema) 4) 16777216) 14 h.next
  check (leb (length p + sizes h.counts 1 1 1 1) 8388608) 15 h.next
  check (has_room room h.counts) 61 h.next

-- a head whose counts passed their checks
unfoldable pub checked_head : Room → List ℕ → Out Head
checked_head room p = do
  h ← head_of p
  check_counts room p h
  ok h
