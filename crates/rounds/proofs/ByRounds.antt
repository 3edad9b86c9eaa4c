-- Depth by rounds, about bytes. Both readings have the frame and the tables in common, so they are alike where the last step is alike.
use Prim.Native.Nat.{ℕ, ◌+◌, ◌≤◌}
use mathlib.Core.Path.{◌≡◌, refl, sym, ap, ◌∙◌, subst}
use mathlib.Core.Logic.{◌⊎◌, inl, inr, ⊎_elim}
use mathlib.Core.List.{List, Memᴰ}
use native.Mathlib.Omega.{arith}
use Rattle.local_format.specs.Refusal.{Refusal}
use Rattle.local_format.specs.Out.{Out, ok, refused, moved, at_offset, ◌>>=◌}
use Rattle.local_format.specs.Text.{bytes_at}
use Rattle.local_format.proofs.OutLaws.{never, ok_same, refused_same, on_ok, on_refused}
use Rattle.derivation.specs.Rule.{Rule, Shaped}
use Rattle.derivation.specs.Section.{Checked}
use Rattle.derivation.specs.Pass.{depths}
use Rattle.derivation.proofs.Tests.{order}
use Rattle.evr0_section.specs.Head.{Room}
use Rattle.evr0_section.specs.Section.{Frame, frame_at, Tables, Section, section_of, tables_of, tables_at, section_in, section_at}
use Rattle.evr0_section.specs.Demand.{Stage, in_tables, in_last_pass}
use Rattle.evr0_section.proofs.SectionSteps.{frame_place, tables_of_lem, Parts, section_parts, section_of_lem, section_refused}
use Rattle.evr0_section.proofs.Stages.{stage}
use Rattle.evr0_section.proofs.Demand.{checked}
use Rattle.rule_table.specs.ByTable.{Given, four, table, rules_given, decode_by}
use Rattle.rule_table.proofs.Load.{load_refuses}
use Rattle.rule_table.proofs.ByTable.{given_shaped}
use Rattle.rounds.specs.Rounds.{rounds}
use Rattle.rounds.specs.Height.{heights, RefusedWith}
use Rattle.rounds.specs.ByRounds.{rounds_in, rounds_at, rounds_by, Started, MethodsEqual, Methods}
use Rattle.rounds.proofs.Rounds.{heights_are, round_is_depth, unmarked_exactly}
use Rattle.rounds.proofs.Methods.{methods_equal, rounds_accept, depths_heights, rounds_refuse, rounds_27_else, rounds_late}

module _ (rules : List Rule) (room : Room) (bytes : List ℕ) (cursor : ℕ) where
  -- the decoder's answer, that by rounds, and the tables of both
  abbrev decoded : Out Section
  decoded = section_at rules room bytes cursor

  abbrev by_rounds : Out Section
  by_rounds = rounds_at rules room bytes cursor

  abbrev Read : Tables → Type 0
  Read t = tables_at rules room bytes cursor ≡ ok t

  -- ---- The last step
  abbrev depths_in : Tables → Out (List ℕ)
  depths_in t = depths t.witnesses.next (section_of t)

  abbrev rounds_of : Tables → Out (List ℕ)
  rounds_of t = rounds t.witnesses.next (section_of t)

  -- the section from what the last step answers
  abbrev put : Frame → Tables → Out (List ℕ) → Out Section
  put f t x = x >>= λ ds. ok (record { tables = t; depths = ds; cursor = f.start + f.len })

  alike : ((t : Tables) → Read t → rounds_of t ≡ depths_in t) → by_rounds ≡ decoded
  unfolding rounds_at rounds_in section_at section_in tables_at
  alike same = by_frame (frame_at bytes cursor) refl
    where
      by_tables : (f : Frame) → frame_at bytes cursor ≡ ok f → (x : Out Tables) → tables_of rules room (bytes_at bytes f.start f.len) ≡ x
          → (x >>= λ t. put f t (rounds_of t)) ≡ (x >>= λ t. put f t (depths_in t))
      by_tables f h (ok t) q = ap (put f t) (same t (on_ok _ h ∙ ap (moved f.start) q))
      by_tables f h (refused r) q = refl

      by_frame : (x : Out Frame) → frame_at bytes cursor ≡ x
          → (x >>= λ f. moved f.start (rounds_in rules room (bytes_at bytes f.start f.len) (f.start + f.len)))
          ≡ (x >>= λ f. moved f.start (section_in rules room (bytes_at bytes f.start f.len) (f.start + f.len)))
      by_frame (ok f) h = ap (moved f.start) (by_tables f h _ refl)
      by_frame (refused r) h = refl

  pub rounds_refused : (t : Tables) (r : Refusal) → Read t → rounds_of t ≡ refused r → by_rounds ≡ refused (at_offset r (cursor + 8 + r.offset))
  unfolding rounds_at rounds_in
  rounds_refused t r e h =
      let a = tables_of_lem rules room bytes cursor t e in
      on_ok _ a.1
      ∙ ap (moved a.0.start) (on_ok _ a.2 ∙ on_refused _ h)
      ∙ ap (λ (n : ℕ). refused (at_offset r (n + r.offset))) (frame_place bytes cursor a.1).0

  rounds_marked : (t : Tables) (rs : List ℕ) → Read t → rounds_of t ≡ ok rs → (d : Section) × (by_rounds ≡ ok d)
  unfolding rounds_at rounds_in
  rounds_marked t rs e h =
      let a = tables_of_lem rules room bytes cursor t e in
      (record { tables = t; depths = rs; cursor = _ }, on_ok _ a.1 ∙ ap (moved a.0.start) (on_ok _ a.2 ∙ on_ok _ h))

  -- where the tables are refused, both refuse with that
  tables_alike : (r : Refusal) → tables_at rules room bytes cursor ≡ refused r → by_rounds ≡ decoded
  tables_alike r h = alike (λ t k. absurd (never (sym h ∙ k)))

  never_28 : (r : Refusal) → by_rounds ≡ refused r → (r.number ≤ 27) ⊎ (30 ≤ r.number)
  never_28 r e = by_tables _ refl
    where
      of_tables : (q : Refusal) → tables_at rules room bytes cursor ≡ refused q → Stage rules room bytes cursor r → (r.number ≤ 27) ⊎ (30 ≤ r.number)
      of_tables q h (in_tables k n) = ⊎_elim (λ l. inl (omega arith)) (λ l. inr (omega arith)) n
      of_tables q h (in_last_pass t k l u) = absurd (never (sym h ∙ k))

      by_rounds_lem : (t : Tables) → Read t → (x : Out (List ℕ)) → rounds_of t ≡ x → (r.number ≤ 27) ⊎ (30 ≤ r.number)
      by_rounds_lem t h (ok rs) k = absurd (never (sym e ∙ (rounds_marked t rs h k).1))
      by_rounds_lem t h (refused q) k =
          let same = ap (λ (r : Refusal). r.number) (refused_same (sym (rounds_refused t q h k) ∙ e)) in
          inl (omega (arith, rounds_late _ _ q k, same))

      by_tables : (x : Out Tables) → tables_at rules room bytes cursor ≡ x → (r.number ≤ 27) ⊎ (30 ≤ r.number)
      by_tables (ok t) h = by_rounds_lem t h _ refl
      by_tables (refused q) h = of_tables q h (stage rules room bytes cursor r (sym (tables_alike q h) ∙ e))

  module _ (shaped : (r : Rule) → Memᴰ r rules → Shaped r) where
    tables_checked : (t : Tables) → Read t → Checked (section_of t)
    tables_checked = checked rules room bytes cursor shaped

    as_decoded : (d : Section) → decoded ≡ ok d → by_rounds ≡ ok d
    as_decoded d e =
        let a : Parts rules room bytes cursor d = section_parts rules room bytes cursor d e in
        alike (λ t h.
        let same : d.tables ≡ t = ok_same (sym a.tables ∙ h) in
        let accepted : depths_in t ≡ ok d.depths = subst (λ (t : Tables). depths_in t ≡ ok d.depths) same a.depths in
        rounds_accept _ _ (tables_checked t h) d.depths accepted ∙ sym accepted)
        ∙ e

    depths_are : (d : Section) → decoded ≡ ok d → d.depths ≡ heights (section_of d.tables)
    depths_are d e =
        let a : Parts rules room bytes cursor d = section_parts rules room bytes cursor d e in
        depths_heights _ _ (tables_checked d.tables a.tables) d.depths a.depths

    module _ (r : Refusal) (e : decoded ≡ refused r) where
      -- the last pass's refusal has the number
      number_is : (t : Tables) → Read t → (q : Refusal) → depths_in t ≡ refused q → q.number ≡ r.number
      number_is t h q k = ap (λ (r : Refusal). r.number) (refused_same (sym (section_refused rules room bytes cursor t q h k) ∙ e))

      -- 25 and 26 are the same refusal
      refused_so : r.number ≤ 26 → (t : Tables) → Read t → (x : Out (List ℕ)) → depths_in t ≡ x → rounds_of t ≡ x
      refused_so l t h (ok ds) k = rounds_accept _ _ (tables_checked t h) ds k
      refused_so l t h (refused q) k = rounds_refuse _ _ (tables_checked t h) q k (omega (arith, number_is t h q k))

      refused_alike : (r.number ≤ 26) ⊎ (30 ≤ r.number) → by_rounds ≡ refused r
      refused_alike early = go (stage rules room bytes cursor r e)
        where
          go : Stage rules room bytes cursor r → by_rounds ≡ refused r
          go (in_tables h n) = tables_alike r h ∙ e
          go (in_last_pass t h l u) = alike (λ t h. refused_so (⊎_elim (λ l. l) (λ l. absurd (omega arith)) early) t h _ refl) ∙ e

      refused_27 : r.number ≡ 27 → (by_rounds ≡ refused r) ⊎ RefusedWith 25 26 by_rounds
      refused_27 is = go (stage rules room bytes cursor r e)
        where
          by_pass : (t : Tables) → Read t → (x : Out (List ℕ)) → depths_in t ≡ x → (by_rounds ≡ refused r) ⊎ RefusedWith 25 26 by_rounds
          by_pass t h (ok ds) k = absurd (never (sym e ∙ (section_of_lem rules room bytes cursor t ds h k).1))
          by_pass t h (refused q) k =
              ⊎_elim
              (λ same. inl (rounds_refused t q h same ∙ sym (section_refused rules room bytes cursor t q h k) ∙ e))
              (λ p. inr (_, rounds_refused t p.0 h p.1, p.2, p.3))
              (rounds_27_else _ _ (tables_checked t h) q k (number_is t h q k ∙ is))

          go : Stage rules room bytes cursor r → (by_rounds ≡ refused r) ⊎ RefusedWith 25 26 by_rounds
          go (in_tables h n) = inl (tables_alike r h ∙ e)
          go (in_last_pass t h l u) = by_pass t h _ refl

    left_aside : (d : Section) → by_rounds ≡ ok d → (decoded ≡ ok d) ⊎ RefusedWith 28 29 decoded
    left_aside d a = go _ refl
      where
        refuses : (r : Refusal) → by_rounds ≡ refused r → ⊥
        refuses r k = never (sym k ∙ a)

        late : (r : Refusal) → decoded ≡ refused r → 28 ≤ r.number
        late r e =
            ⊎_elim
            (λ h. absurd (refuses r (refused_alike r e (inl h))))
            (λ h. ⊎_elim
            (λ g. absurd (⊎_elim (refuses r) (λ q. refuses q.0 q.1) (refused_27 r e (omega arith))))
            (λ g. g)
            (order r.number 27))
            (order r.number 26)

        upto : (r : Refusal) → decoded ≡ refused r → r.number ≤ 29
        upto r e = ⊎_elim (λ h. h) (λ h. absurd (refuses r (refused_alike r e (inr h)))) (order r.number 29)

        go : (x : Out Section) → decoded ≡ x → (decoded ≡ ok d) ⊎ RefusedWith 28 29 decoded
        go (ok c) e = inl (e ∙ sym (as_decoded c e) ∙ a)
        go (refused r) e = inr (r, e, late r e, upto r e)

-- ---- By the rules of a call
module _ (given : Given) (room : Room) (bytes : List ℕ) (cursor : ℕ) where
  rules_refuse : (given : Given) (r : Refusal) → rules_given given ≡ refused r → 30 ≤ r.number
  rules_refuse four r e = absurd (never (sym e))
  rules_refuse (table t) r e = ⊎_elim (λ k. rw k (omega arith)) (λ k. rw k (omega arith)) (load_refuses t r e)

  pub rounds_by_lem : (rules : List Rule) → rules_given given ≡ ok rules → rounds_by given room bytes cursor ≡ rounds_at rules room bytes cursor
  unfolding rounds_by
  rounds_by_lem rules e = on_ok _ e

  started : (t : Tables) → Started given room bytes cursor t → MethodsEqual t
  started t k =
      let c = checked k.rules room bytes cursor (given_shaped given k.rules k.loaded) t k.read in
      record {
        depth = heights_are _ _ c k.cells;
        round = round_is_depth _ _ c k.cells;
        unmarked = unmarked_exactly _ _ c k.cells;
        equal = methods_equal _ _ c k.cells;
      }

  pub methods_by : Methods given room bytes cursor
  unfolding decode_by rounds_by
  methods_by = go _ refl
    where
      go : (x : Out (List Rule)) → rules_given given ≡ x → Methods given room bytes cursor
      go (ok rules) e =
          let shaped = given_shaped given rules e in
          let d : decode_by given room bytes cursor ≡ section_at rules room bytes cursor = on_ok _ e in
          let b : rounds_by given room bytes cursor ≡ rounds_at rules room bytes cursor = on_ok _ e in
          record {
            started = started;
            accepted = λ s h. b ∙ as_decoded rules room bytes cursor shaped s (sym d ∙ h);
            heights = λ s h. depths_are rules room bytes cursor shaped s (sym d ∙ h);
            alike = λ r h l. b ∙ refused_alike rules room bytes cursor shaped r (sym d ∙ h) l;
            deep = λ r h l. rw b (refused_27 rules room bytes cursor shaped r (sym d ∙ h) l);
            aside = λ s h. rw d (left_aside rules room bytes cursor shaped s (sym b ∙ h));
            never = λ r h. never_28 rules room bytes cursor r (sym b ∙ h);
          }
      go (refused q) e =
          let same : rounds_by given room bytes cursor ≡ decode_by given room bytes cursor = on_refused _ e ∙ sym (on_refused _ e) in
          let is : rounds_by given room bytes cursor ≡ refused q = on_refused _ e in
          record {
            started = started;
            accepted = λ s h. same ∙ h;
            heights = λ s h. absurd (never (sym is ∙ same ∙ h));
            alike = λ r h l. same ∙ h;
            deep = λ r h l. inl (same ∙ h);
            aside = λ s h. inl (sym same ∙ h);
            never = λ r h. let k : q ≡ r = refused_same (sym is ∙ h) in inr (rw (← k) (rules_refuse given q e));
          }
