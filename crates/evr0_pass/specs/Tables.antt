-- The tables of a payload as one value.
use Rattle.std.specs.Prelude.{ℕ, List}
use Rattle.derivation.specs.Rule.{Rule}
use Rattle.derivation.specs.Section.{Proof, Section}
use Rattle.evr0_pass.specs.View.{ProofDue}
use Rattle.evr0_pass.specs.Maps.{layout_out, tables_in}
use Rattle.evr0_pass.specs.declared.pass.Tables.{Tables}

-- by some rules
abbrev pub tables_by : List Rule → Tables → Section
tables_by rules t = tables_in rules t.payload.now t.starts.now t.layout

-- a proof of theirs, after those whose depths are known
abbrev pub ProofOf : Tables → List ℕ → Proof → Type 0
ProofOf t depths q = ProofDue t.payload.now t.starts.now (layout_out t.layout) depths q
