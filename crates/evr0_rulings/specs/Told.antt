-- *Way down*: what is told of a proof of a section that was decoded anew.
use Rattle.std.specs.Prelude.{ℕ}
use Rattle.local_format.specs.Out.{Out}
use Rattle.local_format.specs.Number.{Chosen}
use Rattle.derivation.specs.Down.{Down, way_down}
use Rattle.evr0_section.specs.Rows.{Entry}
use Rattle.evr0_section.specs.Proof.{Settled}
use Rattle.evr0_section.specs.Section.{Section, section_of}
use Rattle.evr0_read.specs.Asked.{telling}

-- from the proof with the number n, with a limit on the moves
abbrev pub way_down_told : ℕ → ℕ → Out (Chosen Section (Entry Settled)) → Out Down
way_down_told limit n = telling (λ c. way_down (section_of c.decoded.tables) limit n)
