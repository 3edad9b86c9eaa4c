-- The tests of a proof, each by itself.
use Rattle.std.specs.Prelude.{◌+◌, Bool, ◌&&◌, ltb, leb, eqb}
use Rattle.evr0_section.specs.Head.{Counts}
use Rattle.evr0_section.specs.Proof.{ProofRecord, Unowned}

-- 17
abbrev pub is_next : Counts → Unowned → ProofRecord → Bool
is_next counts u r = eqb r.number u.proof && ltb r.proposition counts.propositions

-- 18
abbrev pub is_contiguous : Unowned → ProofRecord → Bool
is_contiguous u r = eqb r.first_witness u.witness && eqb r.first_parent u.parent

-- 19, of a proof that passes 18
abbrev pub ends_within : Counts → ProofRecord → Bool
ends_within counts r =
    leb (r.first_witness + r.witness_count) counts.witnesses && leb (r.first_parent + r.parent_count) counts.parents
