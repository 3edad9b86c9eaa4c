-- In every section whose tables read, each text that they hand on has the number of its characters: `text_characters`, at each step that
-- reads a text.
use Prim.Native.Nat.{ℕ}
use mathlib.Core.Path.{◌≡◌, sym, ◌∙◌}
use mathlib.Core.List.{List}
use lib.ListN.{drop}
use lib.Dec.{eqb}
use Rattle.local_format.specs.Out.{Out, ok, refused}
use Rattle.local_format.specs.Text.{bytes_at, section_field, text_at}
use Rattle.local_format.specs.Characters.{Characters}
use Rattle.local_format.proofs.OutLaws.{ok_same, bind_ok, moved_ok}
use Rattle.local_format.proofs.Each.{Each, answers, refuses, always, each, each_ok, on, on_check}
use Rattle.local_format.proofs.CharacterLaws.{text_characters}
use Rattle.derivation.specs.Rule.{Rule}
use Rattle.evr0_section.specs.Rows.{Row}
use Rattle.evr0_section.specs.Head.{Counts, Room, digest_at, counts_at, is_schema, head_of}
use Rattle.evr0_section.specs.Proposition.{Before, key_of, rises, proposition_of, proposition_row}
use Rattle.evr0_section.specs.Proof.{Settled, Unowned, zeros_at, proof_of, proof_row}
use Rattle.evr0_section.specs.Section.{Frame, Tables, frame_at, tables_of, tables_at}
use Rattle.evr0_section.specs.Characters.{Counted}
use Rattle.evr0_section.proofs.RowsLaws.{trace, each_entry}
use Rattle.evr0_section.proofs.RowChecks.{proof_behind}
use Rattle.evr0_section.proofs.CheckedTables.{steps}

any : {A : Type 0} (x : Out A) → Each (λ (a : A). Unit {0}) always x
any (ok a) = answers tt
any (refused r) = refuses tt

text_counted : (s : List ℕ) (at : ℕ) → Each (Characters s) always (text_at s at)
text_counted s at = each (text_at s at) (λ t e. text_characters s at t e) (λ r e. tt)

-- ---- The head
head_counted : (p : List ℕ) → Each (λ h. Characters p h.policy × Characters p h.issuer) always (head_of p)
unfolding head_of
head_counted p =
    on (any (section_field 2 p 0)) (λ schema a.
    on_check (is_schema schema.value) 10 schema.next _ tt
    (on (any (section_field 2 p schema.next)) (λ flags b.
    on_check (eqb flags.value 0) 11 flags.next _ tt
    (on (any (digest_at p flags.next)) (λ source c.
    on (any (digest_at p source.next)) (λ contract d.
    on (any (section_field 2 p contract.next)) (λ epoch e.
    on (text_counted p epoch.next) (λ policy f.
    on (text_counted p policy.next) (λ issuer g. on (any (counts_at p issuer.next)) (λ counts h. answers (f, g)))))))))))

-- ---- A record
proposition_counted : (s : List ℕ) → Each (λ x. Characters s x.item.kind) always (proposition_of s)
unfolding proposition_of
proposition_counted s =
    on (text_counted s 0) (λ kind h.
    on (any (section_field 4 s kind.next)) (λ owner a.
    on (any (section_field 4 s owner.next)) (λ scope b. on (any (section_field 4 s scope.next)) (λ type c. answers h))))

kind_counted : (before : Before) (s : List ℕ) → Each (λ r. Characters s r.item.kind) always (proposition_row before s)
unfolding proposition_row
kind_counted before s = on (proposition_counted s) (λ x h. on_check (rises before (key_of s x.item)) 16 0 _ tt (answers h))

proof_counted : (s : List ℕ) → Each (λ x. Characters s x.item.rule) always (proof_of s)
unfolding proof_of
proof_counted s =
    on (any (section_field 4 s 0)) (λ number a.
    on (any (section_field 4 s number.next)) (λ proposition b.
    on (text_counted s proposition.next) (λ rule h.
    on (any (section_field 4 s rule.next)) (λ authority c.
    on (any (section_field 4 s authority.next)) (λ first d.
    on (any (section_field 4 s first.next)) (λ count e.
    on (any (section_field 4 s count.next)) (λ parent f.
    on (any (section_field 4 s parent.next)) (λ parents g.
    on (any (section_field 1 s parents.next)) (λ operation i. on (any (zeros_at s operation.next)) (λ zeros j. answers h))))))))))

rule_counted : (rules : List Rule) (counts : Counts) (u : Unowned) (s : List ℕ) (r : Row Settled Unowned) → proof_row rules counts u s ≡ ok r
    → Characters s r.item.proof.rule
rule_counted rules counts u s r e =
    let b = proof_behind rules counts u s r e in
    rw b.item (each_ok (proof_counted s) b.read)

-- ---- The tables
tables_counted : (rules : List Rule) (room : Room) (p : List ℕ) (t : Tables) → tables_of rules room p ≡ ok t → Counted p t
tables_counted rules room p t e =
    let s = steps rules room p t e in
    let h = each_ok (head_counted p) s.head in
    record {
      policy = h.0;
      issuer = h.1;
      kinds =
          each_entry proposition_row p _ (λ u at r k. each_ok (kind_counted u (drop at p)) k)
          (trace proposition_row p _ _ _ t.propositions s.propositions);
      rules =
          each_entry (proof_row rules t.head.counts) p _ (λ u at r k. rule_counted rules t.head.counts u (drop at p) r k)
          (trace (proof_row rules t.head.counts) p _ _ _ t.proofs s.proofs);
    }

-- of the section at a cursor
pub section_counted : (rules : List Rule) (room : Room) (bytes : List ℕ) (cursor : ℕ) (f : Frame) (t : Tables) → frame_at bytes cursor ≡ ok f
    → tables_at rules room bytes cursor ≡ ok t → Counted (bytes_at bytes f.start f.len) t
unfolding tables_at
section_counted rules room bytes cursor f t framed read =
    let a = bind_ok (frame_at bytes cursor) _ read in
    let same : a.0 ≡ f = ok_same (sym a.1 ∙ framed) in
    tables_counted rules room _ t (rw (← same) (moved_ok a.0.start _ a.2))
