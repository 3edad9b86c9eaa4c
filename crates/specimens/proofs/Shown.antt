-- What an example shows, from one computation of its tables and one of its depths.
use Prim.Native.Nat.{ℕ, ◌+◌}
use mathlib.Core.Path.{◌≡◌, sym, ap, ◌∙◌}
use mathlib.Core.List.{List}
use Rattle.local_format.specs.Refusal.{refusal}
use Rattle.local_format.specs.Out.{Out, ok, refuse, ◌>>=◌}
use Rattle.local_format.proofs.OutLaws.{bind_ok, ok_same}
use Rattle.derivation.specs.Rule.{four_rules}
use Rattle.derivation.specs.Section.{Section}
use Rattle.derivation.specs.Pass.{depths}
use Rattle.derivation.specs.Walk.{Walk, Fails}
use Rattle.evr0_section.specs.Section.{Tables, section_of, tables_at, decode_section}
use Rattle.evr0_section.proofs.SectionSteps.{Parts, section_parts, section_of_lem, section_refused}
use Rattle.specimens.specs.Written.{written, enough, Reads, Accepts, Refuses}

-- the tables and the place of the parent table
pub record Shown : Type 0 where
  pub section : Section
  pub cells : ℕ

abbrev pub shown : Section → Out Shown
shown s = do
  t ← tables_at four_rules enough (written s) 0
  ok (record { section = section_of t; cells = t.witnesses.next })

module _ (s : Section) (cells : ℕ) (e : shown s ≡ ok (record { section = s; cells = cells })) where
  record Read : Type 0 where
    reads : Reads s
    cells_at : reads.tables.witnesses.next ≡ cells

  read : Read
  read =
      let a = bind_ok (tables_at four_rules enough (written s) 0) _ e in
      let q = ok_same a.2 in
      record {
        reads = record { tables = a.0; read = a.1; same = ap (λ (x : Shown). x.section) q };
        cells_at = ap (λ (x : Shown). x.cells) q;
      }

  -- the depths of the tables that were read are those of the tables that were written
  same_depths : depths read.reads.tables.witnesses.next (section_of read.reads.tables) ≡ depths cells s
  same_depths = ap (λ (n : ℕ). depths n (section_of read.reads.tables)) read.cells_at ∙ ap (depths cells) read.reads.same

  pub accepts : (ds : List ℕ) → depths cells s ≡ ok ds → Accepts s ds
  unfolding decode_section
  accepts ds h =
      let t : Tables = read.reads.tables in
      let d = section_of_lem four_rules enough (written s) 0 t ds read.reads.read (same_depths ∙ h) in
      let p : Parts four_rules enough (written s) 0 d.0 = section_parts four_rules enough (written s) 0 d.0 d.1 in
      let q : d.0.tables ≡ t = ok_same (sym p.tables ∙ read.reads.read) in
      let again : depths d.0.tables.witnesses.next (section_of d.0.tables) ≡ ok ds =
      ap (λ (t : Tables). depths t.witnesses.next (section_of t)) q ∙ same_depths ∙ h in
      record {
        reads = read.reads;
        decoded = d.0;
        accepted = d.1;
        same = ap section_of q ∙ read.reads.same;
        depths = ok_same (sym p.depths ∙ again);
      }

  pub refuses : (number offset : ℕ) → depths cells s ≡ refuse number offset → (start : ℕ) (picks : List ℕ) (last : ℕ) → Walk s start picks last
      → Fails s start picks
      → Refuses s number (8 + offset)
  unfolding decode_section
  refuses number offset h start picks last walk fails =
      record {
        reads = read.reads;
        start = start;
        picks = picks;
        last = last;
        walk = walk;
        fails = fails;
        refused = section_refused four_rules enough (written s) 0 read.reads.tables (refusal number offset) read.reads.read (same_depths ∙ h);
      }
