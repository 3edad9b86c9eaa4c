-- A turn over the proofs: what was read of one is the definition's proof, whose rule asks the polarity that the lent table brings.
use Prim.Native.Nat.{ℕ, ◌<◌}
use mathlib.Core.Path.{◌≡◌, sym, ap, ap₂, ◌∙◌}
use mathlib.Core.List.{List}
use lib.ListN.{length, take, get_or}
use Rattle.local_format.specs.Out.{Out}
use Rattle.derivation.specs.Rule.{Rule}
use Rattle.derivation.specs.Section.{Proof, proof_at}
use Rattle.derivation.specs.Pass.{depth_of}
use Rattle.evr0_rules.specs.Maps.{asking}
use Rattle.evr0_pass.specs.View.{nameless, rule_at, proof_by, proof_view}
use Rattle.evr0_pass.specs.Maps.{layout_out, proof_out}
use Rattle.evr0_pass.specs.Tables.{tables_by}
use Rattle.evr0_pass.specs.declared.pass.SettledProof.{SettledProof}
use Rattle.evr0_pass.specs.declared.pass.Tables.{Tables}
use Rattle.evr0_pass.proofs.ViewLaws.{proof_at_lem}

module _ (t : Tables) (i asked : ℕ) (h : i < length t.starts.now) (q : SettledProof)
    (read : (rule : Rule) → proof_out rule q ≡ proof_by (asking asked rule) t.payload.now (get_or t.starts.now i 0)) where
  pub proof_number : q.proof_id.0 ≡ i
  proof_number = ap (λ (q : Proof). q.number) (read nameless) ∙ (t.there.proofs i h).number

  pub depth_at : (rs : List Rule) (depths : List ℕ) {x : Out ℕ} → asked ≡ (rule_at rs t.payload.now (get_or t.starts.now i 0)).polarity
      → ((rule : Rule) → x ≡ depth_of t.layout.parents_at (tables_by rs t) (proof_out rule q) (take q.proof_id.0 depths))
      → depth_of t.layout.parents_at (tables_by rs t) (proof_at (tables_by rs t) i) (take i depths) ≡ x
  unfolding proof_view
  depth_at rs depths asks e =
      let rule = rule_at rs t.payload.now (get_or t.starts.now i 0) in
      let same : asking asked rule ≡ rule = ap (λ (n : ℕ). asking n rule) asks in
      let is = proof_at_lem rs t.payload.now t.starts.now (layout_out t.layout) i h
      ∙ sym (read rule ∙ ap (λ (r : Rule). proof_by r t.payload.now (get_or t.starts.now i 0)) same) in
      ap₂ (λ (q : Proof) (k : ℕ). depth_of t.layout.parents_at (tables_by rs t) q (take k depths)) is (sym proof_number) ∙ sym (e rule)
