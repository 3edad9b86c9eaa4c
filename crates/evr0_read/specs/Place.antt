-- Where a witness and a parent cell start in the payload of an accepted section. The witnesses, all of one size, and then the parents, of 4
-- bytes each, are the last bytes of the payload; so the places follow from its length and the counts. 0 where there is no such number.
use Rattle.std.specs.Prelude.{ℕ, ◌+◌, ◌-◌, ◌*◌, cond, ltb}
use Rattle.evr0_section.specs.Head.{witness_size}

-- the witness with the number k, in a payload of `len` bytes whose spans have ends of this width
unfoldable pub witness_place : (len width witnesses parents k : ℕ) → ℕ
witness_place len width witnesses parents k = cond (ltb k witnesses) (len - (witness_size width * (witnesses - k) + 4 * parents)) 0

-- the parent cell with the number k
unfoldable pub parent_place : (len parents k : ℕ) → ℕ
parent_place len parents k = cond (ltb k parents) (len - 4 * (parents - k)) 0
