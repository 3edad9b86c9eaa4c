-- What the functions leave on the way to the answer.
use Rattle.std.specs.Prelude.{ℕ, List}
use Rattle.local_format.specs.Out.{Out, ok, ◌>>=◌}
use Rattle.rule_table.specs.ByTable.{Given, decode_by}
use Rattle.evr0_section.specs.Head.{Room}
use Rattle.evr0_section.specs.Section.{Section}
use Rattle.evr0_columns.specs.Columns.{Copy}

-- a section that was rebuilt, decoded
abbrev pub copied : List ℕ → Section → Out Copy
copied section d = ok (record { section = d; bytes = section })

abbrev pub copy_of : Given → Room → List ℕ → Out Copy
copy_of given room section = decode_by given room section 0 >>= copied section
