-- The texts that a section hands on, with the number of their characters. Document 02, Slip 4.
use Rattle.std.specs.Prelude.{ℕ, drop}
use mathlib.Core.List.{List, Memᴰ}
use Rattle.local_format.specs.Characters.{Characters}
use Rattle.evr0_section.specs.Rows.{Entry}
use Rattle.evr0_section.specs.Proposition.{Proposition}
use Rattle.evr0_section.specs.Proof.{Settled}
use Rattle.evr0_section.specs.Section.{Tables}

-- of the tables of a payload: both namespaces, each proposition's kind and each proof's rule, the last two at their places in the record
pub record Counted (p : List ℕ) (t : Tables) : Type 0 where
  pub policy : Characters p t.head.policy
  pub issuer : Characters p t.head.issuer
  pub kinds : (e : Entry Proposition) → Memᴰ e t.propositions.entries → Characters (drop e.start p) e.item.kind
  pub rules : (e : Entry Settled) → Memᴰ e t.proofs.entries → Characters (drop e.start p) e.item.proof.rule
