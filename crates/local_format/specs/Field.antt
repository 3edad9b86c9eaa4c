-- A little-endian field of any width at a place of a list of bytes.
use Rattle.std.specs.Prelude.{ℕ, zero, suc, ◌+◌, ◌*◌, List, cond, length, get_or, leb}
use Rattle.local_format.specs.Out.{Out, ok, refuse}

-- the number of `width` bytes, the lowest first, which start at a place
unfoldable pub le : ℕ → List ℕ → ℕ → ℕ
le zero s at = 0
le (suc width) s at = get_or s at 0 + 256 * le width s (at + 1)

-- what was read: the value and the place after it
pub record Got : Type 0 where
  pub value : ℕ
  pub next : ℕ

pub data Field : Type 0 where
  whole : Got → Field
  cut : Field

-- a field is cut where it passes the end
unfoldable pub field_at : ℕ → List ℕ → ℕ → Field
field_at width s at = cond (leb (at + width) (length s)) (whole (record { value = le width s at; next = at + width })) cut

-- a field that has to be there: where it is cut, the refusal with this number at its start
abbrev pub or_cut : ℕ → ℕ → Field → Out Got
or_cut number at (whole g) = ok g
or_cut number at cut = refuse number at

abbrev pub field : ℕ → ℕ → List ℕ → ℕ → Out Got
field number width s at = or_cut number at (field_at width s at)
