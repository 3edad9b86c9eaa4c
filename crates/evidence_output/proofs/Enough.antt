-- 61 is never printed: 13 leaves no input of 65,536 bytes more records than the tables have entries.
use Prim.Native.Nat.{ℕ, ◌≤◌, min}
use mathlib.Core.Path.{◌≡◌}
use mathlib.Core.Bool.{true}
use mathlib.Core.List.{List}
use native.Mathlib.Omega.{arith}
use lib.ListN.{length}
use borrow.Author.Tests.{le-leb}
use Rattle.local_format.specs.Refusal.{Refusal}
use Rattle.local_format.specs.Out.{refused}
use Rattle.derivation.specs.Rule.{four_rules}
use Rattle.evr0_section.specs.Head.{Counts, sizes, has_room}
use Rattle.evr0_section.specs.Section.{decode_section}
use Rattle.evr0_section.specs.Demand.{Stage, in_tables, in_last_pass}
use Rattle.evr0_section.proofs.SectionWithin.{Numbered, usual, long, short}
use Rattle.evr0_section.proofs.Stages.{early_upto, tables_number}
use Rattle.evr0_section.proofs.Demand.{demand_3}
use Rattle.evidence_output.specs.Output.{enough}

long_enough : (c : Counts) → sizes c 15 35 84 4 ≤ 65536 → has_room enough c ≡ true
unfolding sizes has_room
long_enough c h = rw (le-leb c.propositions 4369 (omega arith), le-leb c.proofs 1872 (omega arith))

-- the refusals of an input that `evidence` takes
pub refused_upto_29 : (s : List ℕ) (cursor : ℕ) {r : Refusal} → length s ≤ 65536 → decode_section enough s cursor ≡ refused r → r.number ≤ 29
unfolding decode_section
refused_upto_29 s cursor l e = of_stage ((demand_3 enough s cursor).by_rules.stage _ e)
  where
    of_tables : {n : ℕ} → Numbered enough (min 4194304 (length s)) n → n ≤ 29
    of_tables {n} (usual t) = omega (arith, early_upto n t)
    of_tables (long h) = absurd (omega arith)
    of_tables (short c f h) = let g = long_enough c (omega arith) in absurd (let z : ◌≡◌ {A = ℕ} 0 1 = cc in omega arith)

    of_stage : {r : Refusal} → Stage four_rules enough s cursor r → r.number ≤ 29
    of_stage (in_tables t w) = of_tables (tables_number four_rules enough s cursor t)
    of_stage (in_last_pass t h a b) = b
