-- Each width's bytes are the number's.
use Rattle.column_fields.proofs.BytesLaws.{two_bytes, four_bytes, eight_bytes}
use Rattle.column_fields.proofs.form.put_plain.Goals as goal

pub returns-in-Two : goal.returns-in-Two
returns-in-Two c =
    rw (c.in-Two.is, ← two_bytes c.args.n, ← c.to_le_bytes.ensures) c.put_array.ensures

pub returns-in-Four : goal.returns-in-Four
returns-in-Four c =
    rw (c.in-Four.is, ← four_bytes c.args.n, ← c.to_le_bytes-in-Four.ensures) c.put_array-in-Four.ensures

pub returns-in-Eight : goal.returns-in-Eight
returns-in-Eight c =
    rw (c.in-Eight.is, ← eight_bytes c.args.n, ← c.to_le_bytes-in-Eight.ensures) c.put_array-in-Eight.ensures
