-- From the structs and enums of the last pass to the definitions' types.
use Rattle.std.specs.Prelude.{ℕ, ◌≡◌, List, [], length, Result, Ok, Err, eqb}
use Rattle.local_format.specs.Out.{Out, ok, refused, check, ◌>>=◌, ◌>>◌}
use Rattle.local_format.specs.Maps.{refusal_out}
use Rattle.local_format.specs.declared.refusal.Refusal.{Refusal}
use Rattle.lent_table.specs.Lent.{lent}
use Rattle.derivation.specs.Rule.{Rule, polarity_fits}
use Rattle.derivation.specs.Section as section
use Rattle.evr0_head.specs.Maps.{counts_out}
use Rattle.evr0_rules.specs.Maps.{asking}
use Rattle.evr0_pass.specs.View as view
use Rattle.evr0_pass.specs.declared.pass.Layout.{Layout}
use Rattle.evr0_pass.specs.declared.pass.SettledProof.{SettledProof}

abbrev pub layout_out : Layout → view.Layout
layout_out l =
    record { counts = counts_out l.counts; witness_size = l.witness_size; witnesses_at = l.witnesses_at; parents_at = l.parents_at }

-- the tables of a payload, by some rules
abbrev pub tables_in : List Rule → List ℕ → List ℕ → Layout → section.Section
tables_in rules payload starts l = view.view rules payload starts (layout_out l)

-- a proof by this rule, but with the polarity that was noted
abbrev pub proof_out : Rule → SettledProof → section.Proof
proof_out rule p =
    record {
      number = p.proof_id.0;
      proposition = p.proposition_index.0;
      rule = asking p.polarity rule;
      authority = p.authority_context;
      first_witness = p.witness_first.0;
      witness_count = p.witness_count;
      first_parent = p.parent_first;
      parent_count = p.parent_count;
      operation = p.authorized_operation;
    }

-- the lent table where the pass is done
abbrev pub filled : Result (Unit {0}) Refusal → List ℕ → Out (List ℕ)
filled (Ok u) ds = ok ds
filled (Err r) ds = refused (refusal_out r)

-- whether the pass is done, or its refusal
abbrev pub done_in : Out (List ℕ) → Out (Unit {0})
done_in x = do
  ds ← x
  ok tt

-- what fills the lent table; a refusal has nothing
abbrev pub depths_in : Out (List ℕ) → List ℕ
depths_in (ok ds) = ds
depths_in (refused r) = []

pub record Derives (x : Out (List ℕ)) (before after : List ℕ) (given : Out (Unit {0})) : Type 0 where
  pub answer : given ≡ done_in x
  pub depths : after ≡ lent (length before) (depths_in x)

-- what a witness of this proposition and polarity is answered, under a rule and for a proof's own proposition
abbrev pub suited : Rule → ℕ → ℕ → ℕ → Out (Unit {0})
suited rule own found polarity = check (eqb found own) 28 0 >> check (polarity_fits rule polarity) 29 0
