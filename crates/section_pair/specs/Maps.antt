-- From the code's structs and enums to the definitions' types.
use Rattle.evr0_compare.specs.Compare.{Tally, Verdict, agreed, contradicted, first_only, second_only}
use Rattle.section_pair.specs.declared.verdict.Verdict as verdict
use Rattle.section_pair.specs.declared.verdict.Verdict.TheVariants.{Agreed, Contradicted, FirstOnly, SecondOnly}
use Rattle.section_pair.specs.declared.totals.Totals.{Totals}

abbrev pub totals_out : Totals → Tally
totals_out t = record { agreed = t.agreed; contradicted = t.contradicted; first_only = t.first_only; second_only = t.second_only }

abbrev pub verdict_out : verdict.Verdict → Verdict
verdict_out Agreed = agreed
verdict_out Contradicted = contradicted
verdict_out FirstOnly = first_only
verdict_out SecondOnly = second_only
