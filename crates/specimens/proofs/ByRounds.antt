-- The chains by rounds: the longest that is accepted has its depths, and the shortest that is not is refused alike. Both methods are equal once its parent
-- cells have passed, so no round is computed.
use Prim.Native.Nat.{ℕ}
use mathlib.Core.Path.{◌≡◌, refl, ap, ◌∙◌}
use Rattle.local_format.specs.Refusal.{refusal}
use Rattle.local_format.specs.Out.{ok, refuse}
use Rattle.derivation.specs.Rule.{four_rules}
use Rattle.derivation.specs.Section.{Section}
use Rattle.derivation.specs.Pass.{depths}
use Rattle.evr0_section.specs.Section as evr0
use Rattle.evr0_section.specs.Section.{section_of, decode_section}
use Rattle.rule_table.specs.ByTable.{four}
use Rattle.rule_table.proofs.ByTable.{decodes_by}
use Rattle.rounds.specs.Rounds.{kin_from, kin, rounds}
use Rattle.rounds.specs.Height.{left_aside}
use Rattle.rounds.specs.ByRounds.{rounds_by}
use Rattle.rounds.proofs.ByRounds.{rounds_refused, rounds_by_lem, methods_by}
use Rattle.specimens.specs.Written.{written, enough}
use Rattle.specimens.specs.Examples.{chain, ops_from, up_from}
use Rattle.specimens.proofs.Computed.{decoded}
use Rattle.specimens.proofs.Chains.{chain_accepted, chain_refused}

-- 256 proofs: each round is the depth
chain_by_rounds : (d : evr0.Section) × (rounds_by four enough (written (chain 255)) 0 ≡ ok d) × (d.depths ≡ up_from 256 1)
unfolding decode_section
chain_by_rounds =
    let a = chain_accepted in (
      a.decoded,
      (methods_by four enough (written (chain 255)) 0).accepted a.decoded (decodes_by four enough (written (chain 255)) 0 four_rules refl ∙ a.accepted),
      a.depths,
    )

-- 257: one is left after 256 rounds
cells_pass : (cells : ℕ) → kin cells (chain 256) ≡ ok tt
unfolding decoded chain ops_from up_from kin_from
cells_pass cells = refl

aside_27 : (cells : ℕ) → depths cells (left_aside (chain 256)) ≡ refuse 27 0
unfolding decoded chain ops_from up_from left_aside
aside_27 cells = refl

chain_27 : rounds_by four enough (written (chain 256)) 0 ≡ refuse 27 8
chain_27 =
    let a = chain_refused.reads in
    let cells : ℕ = a.tables.witnesses.next in
    let equal : rounds cells (section_of a.tables) ≡ depths cells (left_aside (section_of a.tables)) =
    ((methods_by four enough (written (chain 256)) 0).started a.tables
    (record { rules = four_rules; loaded = refl; read = a.read; cells = ap (kin cells) a.same ∙ cells_pass cells })).equal in
    rounds_by_lem four enough (written (chain 256)) 0 four_rules refl
    ∙ rounds_refused four_rules enough (written (chain 256)) 0 a.tables (refusal 27 0) a.read
    (equal ∙ ap (λ (s : Section). depths cells (left_aside s)) a.same ∙ aside_27 cells)
