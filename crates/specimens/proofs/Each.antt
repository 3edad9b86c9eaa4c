-- A section of many records is read as each of its records is read by itself: less to compute than its definition on all bytes.
use Prim.Native.Nat.{ℕ, ◌+◌}
use mathlib.Core.Path.{◌≡◌, sym, ap, ◌∙◌, subst}
use mathlib.Core.Bool.{true, ◌&&◌}
use mathlib.Core.List.{List, [], ◌∷◌, ◌++◌, append_assoc, append-nil}
use native.Mathlib.Omega.{arith}
use lib.ListN.{length, drop, length-append}
use lib.Seq.{drop_at, take-length}
use lib.Dec.{eqb}
use borrow.Author.Tests.{eqb-true}
use Rattle.local_format.specs.Out.{Out, ok, check, moved, ◌>>=◌, ◌>>◌}
use Rattle.local_format.specs.Text.{bytes_at}
use Rattle.local_format.proofs.OutLaws.{bind_ok, checked_ok, on_ok}
use Rattle.derivation.specs.Rule.{four_rules}
use Rattle.derivation.specs.Section.{Proof}
use Rattle.derivation.proofs.Tests.{both}
use Rattle.evr0_section.specs.Rows.{Row, Rows, rows}
use Rattle.evr0_section.specs.Head.{Room, Counts, span_width, checked_head}
use Rattle.evr0_section.specs.Proposition.{first, proposition_row}
use Rattle.evr0_section.specs.Proof.{Settled, Unowned, none_owned, proof_row}
use Rattle.evr0_section.specs.Witness.{witness_row, parent_row}
use Rattle.evr0_section.specs.Section.{frame_at, Rest, Four, Tables, rest_after, tables_after, whole, tables_of, tables_at}
use Rattle.specimens.specs.Build.{number, each, framed, proof_bytes}
use Rattle.specimens.proofs.Front.{Follows, proof_row_front, parent_front}

-- ---- A table
module _ {A S C : Type 0} (row : S → List ℕ → Out (Row A S)) (bytes : C → List ℕ) where
  -- each record by itself
  unfoldable pub read_each : S → ℕ → List C → Out (Rows A S)
  read_each u at [] = ok (record { entries = []; state = u; next = at })
  read_each u at (c ∷ cs) = do
    r ← row u (bytes c)
    check (eqb r.size (length (bytes c))) 0 0
    rest ← read_each r.state (at + r.size) cs
    ok (record { entries = record { start = at; item = r.item } ∷ rest.entries; state = rest.state; next = rest.next })

  module _ (front : (u : S) (s t : List ℕ) → Follows (row u s) (row u (s ++ t))) where
    rows_each : (cs : List C) (u : S) (at : ℕ) (before after : List ℕ) (out : Rows A S) → length before ≡ at → read_each u at cs ≡ ok out
        → rows row (length cs) u (before ++ (each bytes cs ++ after)) at ≡ ok out
    unfolding read_each rows each
    rows_each [] u at before after out l e = e
    rows_each (c ∷ cs) u at before after out l e =
        let a = bind_ok (row u (bytes c)) _ e in
        let r : Row A S = a.0 in
        let b = checked_ok (eqb r.size (length (bytes c))) 0 0 _ a.2 in
        let d = bind_ok (read_each r.state (at + r.size) cs) _ b.1 in
        let rest : List ℕ = each bytes cs ++ after in
        let here : drop at (before ++ ((bytes c ++ each bytes cs) ++ after)) ≡ bytes c ++ rest =
        drop_at before ((bytes c ++ each bytes cs) ++ after) at l ∙ append_assoc (bytes c) (each bytes cs) after in
        let read : row u (drop at (before ++ ((bytes c ++ each bytes cs) ++ after))) ≡ ok r =
        ap (row u) here ∙ (front u (bytes c) rest).same a.1 in
        let again : before ++ ((bytes c ++ each bytes cs) ++ after) ≡ (before ++ bytes c) ++ rest =
        ap (λ (x : List ℕ). before ++ x) (append_assoc (bytes c) (each bytes cs) after) ∙ sym (append_assoc before (bytes c) rest) in
        let more : rows row (length cs) r.state (before ++ ((bytes c ++ each bytes cs) ++ after)) (at + r.size) ≡ ok d.0 =
        ap (λ (p : List ℕ). rows row (length cs) r.state p (at + r.size)) again
        ∙ rows_each cs r.state (at + r.size) (before ++ bytes c) after d.0
        (omega (arith, length-append before (bytes c), eqb-true r.size (length (bytes c)) b.0)) d.1 in
        on_ok _ (ap (moved at) read) ∙ on_ok _ more ∙ d.2

-- ---- The tables of a payload: some bytes, the proofs, some bytes, the parents
module _ {A B : Type 0} {b : B} where
  same_bind : (x : Out A) (f g : A → Out B) → (x >>= f) ≡ ok b → ((a : A) → f a ≡ ok b → g a ≡ ok b) → (x >>= g) ≡ ok b
  same_bind x f g e k = let a = bind_ok x f e in on_ok g a.1 ∙ k a.0 a.2

module _ (room : Room) (before between : List ℕ) (ps : List Proof) (cs : List ℕ) where
  abbrev pub bytes : List ℕ
  bytes = before ++ (each proof_bytes ps ++ (between ++ each (number 4) cs))

  abbrev upto_parents : List ℕ
  upto_parents = before ++ (each proof_bytes ps ++ between)

  -- as `rest_after`, `tables_after` and `tables_of`, but the proofs and the parents each by itself
  unfoldable pub rest_each : ℕ → Counts → ℕ → Out Rest
  rest_each width counts at = do
    witnesses ← rows (witness_row width counts) counts.witnesses 0 bytes at
    check (eqb (length cs) counts.parents && eqb (length upto_parents) witnesses.next) 0 0
    parents ← read_each parent_row (number 4) tt witnesses.next cs
    check (eqb parents.next (length bytes)) 24 parents.next
    ok (record { witnesses = witnesses; parents = parents })

  unfoldable pub four_each : ℕ → Counts → ℕ → Out Four
  four_each width counts at = do
    propositions ← rows proposition_row counts.propositions first bytes at
    check (eqb (length ps) counts.proofs && eqb (length before) propositions.next) 0 0
    proofs ← read_each (proof_row four_rules counts) proof_bytes none_owned propositions.next ps
    check (eqb proofs.state.witness counts.witnesses && eqb proofs.state.parent counts.parents) 22 proofs.next
    rest ← rest_each width counts proofs.next
    ok (record { propositions = propositions; proofs = proofs; rest = rest })

  unfoldable pub tables_each : Out Tables
  tables_each = do
    head ← checked_head room bytes
    tables ← four_each (span_width head.schema) head.counts head.next
    ok (whole head tables)

  parents_last : bytes ≡ upto_parents ++ (each (number 4) cs ++ [])
  parents_last = sym (simp (append_assoc, append-nil))

  proofs_each : (counts : Counts) (at : ℕ) (out : Rows Settled Unowned) → (eqb (length ps) counts.proofs && eqb (length before) at) ≡ true
      → read_each (proof_row four_rules counts) proof_bytes none_owned at ps ≡ ok out
      → rows (proof_row four_rules counts) counts.proofs none_owned bytes at ≡ ok out
  proofs_each counts at out t e =
      let a = both (eqb (length ps) counts.proofs) (eqb (length before) at) t in
      subst (λ (n : ℕ). rows (proof_row four_rules counts) n none_owned bytes at ≡ ok out) (eqb-true (length ps) counts.proofs a.0)
      (rows_each (proof_row four_rules counts) proof_bytes (λ u s t. proof_row_front s t four_rules counts u) ps none_owned at before
      (between ++ each (number 4) cs) out (eqb-true (length before) at a.1) e)

  parents_each : (n at : ℕ) (out : Rows ℕ (Unit {0})) → (eqb (length cs) n && eqb (length upto_parents) at) ≡ true
      → read_each parent_row (number 4) tt at cs ≡ ok out → rows parent_row n tt bytes at ≡ ok out
  parents_each n at out t e =
      let a = both (eqb (length cs) n) (eqb (length upto_parents) at) t in
      rw (← eqb-true (length cs) n a.0, parents_last)
      (rows_each parent_row (number 4) (λ u s t. parent_front s t u) cs tt at upto_parents [] out (eqb-true (length upto_parents) at a.1) e)

  rest_each_lem : (width : ℕ) (counts : Counts) (at : ℕ) (r : Rest) → rest_each width counts at ≡ ok r → rest_after width counts bytes at ≡ ok r
  unfolding rest_each rest_after
  rest_each_lem width counts at r e =
      same_bind (rows (witness_row width counts) counts.witnesses 0 bytes at) _ _ e λ witnesses e.
      let a = checked_ok (eqb (length cs) counts.parents && eqb (length upto_parents) witnesses.next) 0 0 _ e in
      let b = bind_ok (read_each parent_row (number 4) tt witnesses.next cs) _ a.1 in
      on_ok _ (parents_each counts.parents witnesses.next b.0 a.0 b.1) ∙ b.2

  four_each_lem : (width : ℕ) (counts : Counts) (at : ℕ) (f : Four) → four_each width counts at ≡ ok f → tables_after four_rules width counts bytes at ≡ ok f
  unfolding four_each tables_after
  four_each_lem width counts at f e =
      same_bind (rows proposition_row counts.propositions first bytes at) _ _ e λ propositions e.
      let a = checked_ok (eqb (length ps) counts.proofs && eqb (length before) propositions.next) 0 0 _ e in
      let b = bind_ok (read_each (proof_row four_rules counts) proof_bytes none_owned propositions.next ps) _ a.1 in
      let c = checked_ok (eqb b.0.state.witness counts.witnesses && eqb b.0.state.parent counts.parents) 22 b.0.next _ b.2 in
      let d = bind_ok (rest_each width counts b.0.next) _ c.1 in
      on_ok _ (proofs_each counts propositions.next b.0 a.0 b.1)
      ∙ rw (c.0, rest_each_lem width counts b.0.next d.0 d.1) d.2

  tables_each_lem : (t : Tables) → tables_each ≡ ok t → tables_of four_rules room bytes ≡ ok t
  unfolding tables_each tables_of
  tables_each_lem t e =
      same_bind (checked_head room bytes) _ _ e λ head e.
      let width : ℕ = span_width head.schema in
      let a = bind_ok (four_each width head.counts head.next) _ e in
      on_ok _ (four_each_lem width head.counts head.next a.0 a.1) ∙ a.2

-- ---- The section
payload_there : (p : List ℕ) → bytes_at (framed p) 8 (length p) ≡ p
unfolding framed number
payload_there p = take-length p

module _ (room : Room) (before between : List ℕ) (ps : List Proof) (cs p : List ℕ) (split : p ≡ bytes room before between ps cs)
    (frame : frame_at (framed p) 0 ≡ ok (record { start = 8; len = length p })) (t : Tables) (read : tables_each room before between ps cs ≡ ok t) where
  pub tables_read : tables_at four_rules room (framed p) 0 ≡ ok t
  unfolding tables_at
  tables_read =
      on_ok _ frame
      ∙ ap (λ (s : List ℕ). moved 8 (tables_of four_rules room s)) (payload_there p ∙ split)
      ∙ ap (moved 8) (tables_each_lem room before between ps cs t read)
