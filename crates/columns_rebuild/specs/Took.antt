-- A part of a column file taken back: read in one form, and written in another.
use Rattle.std.specs.Prelude.{ℕ, ◌≡◌, List, length, drop}
use Rattle.local_format.specs.Refusal.{Refusal}
use Rattle.local_format.specs.Out.{ok, refused}
use Rattle.byte_output.specs.Written.{Written}
use Rattle.evr0_columns.specs.Form.{Form}
use Rattle.evr0_columns.specs.Columns.{rebuilt}

-- from a place of the file on, up to another; and into the output from a place on, up to another
pub record Took {A : Type 0} (from to : Form A) (c : List ℕ) (at : ℕ) (before : List ℕ) (next : ℕ) (after : List ℕ) (at' next' : ℕ) : Type 0 where
  pub value : A
  pub read : from.get (length c) (drop at c) ≡ ok (record { value = value; rest = drop at' c })
  pub puts : Written before next (to.put value) after next'

-- refused as it is met
pub record Stopped {A : Type 0} (from : Form A) (c : List ℕ) (at : ℕ) (r : Refusal) : Type 0 where
  pub read : from.get (length c) (drop at c) ≡ refused r

-- the whole file
pub record RebuiltTo (c before after : List ℕ) (len : ℕ) : Type 0 where
  pub section : List ℕ
  pub is : rebuilt c ≡ ok section
  pub puts : Written before 0 section after len
