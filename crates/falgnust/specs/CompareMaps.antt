-- The flat struct of a comparison.
use Rattle.std.specs.Prelude.{ℕ, true, false}
use Rattle.local_format.specs.Refusal.{Refusal}
use Rattle.evr0_compare.specs.Compare.{Tally, Answer, rules_refused, first_refused, second_refused, pair_refused, held}
use Rattle.falgnust.specs.Maps.{flat_refusal, no_refusal}
use Rattle.falgnust.specs.declared.compare.Compared.{Compared}

-- whose refusal it is by its number
abbrev pub refused_by : ℕ → Refusal → Compared
refused_by whose r =
    record { accepted = false; whose = whose; refusal = flat_refusal r; agreed = 0; contradicted = 0; first_only = 0; second_only = 0 }

abbrev pub flat_comparison : Answer Tally → Compared
flat_comparison (held t) =
    record {
      accepted = true;
      whose = 0;
      refusal = no_refusal;
      agreed = t.agreed;
      contradicted = t.contradicted;
      first_only = t.first_only;
      second_only = t.second_only;
    }
flat_comparison (rules_refused r) = refused_by 1 r
flat_comparison (first_refused r) = refused_by 2 r
flat_comparison (second_refused r) = refused_by 3 r
flat_comparison (pair_refused r) = refused_by 4 r
