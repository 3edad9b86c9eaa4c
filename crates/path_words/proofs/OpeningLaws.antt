-- A path's words, and where it ends, by what stands in front of its components: from the path that was read, and from its first 12 bytes, by its
-- event's two bytes.
use Prim.Native.Nat.{ℕ, zero, suc, ◌+◌, ◌*◌, ◌≤◌}
use mathlib.Core.Path.{◌≡◌, refl, ap, sym, ◌∙◌}
use mathlib.Core.Bool.{true, cond}
use mathlib.Core.List.{List, [], ◌∷◌}
use native.Mathlib.Omega.{arith}
use lib.ListN.{length}
use Rattle.std.specs.Prelude.{Some, None, Result, Ok, Err}
use Rattle.std.specs.Result.{result_ok}
use Rattle.local_format.specs.Refusal.{Refusal}
use Rattle.local_format.specs.Maps.{answer_out}
use Rattle.local_format.specs.declared.field.Field.{Field}
use Rattle.local_format.specs.declared.refusal.Refusal as code
use Rattle.semcode_records.specs.declared.path.DecodedAccessPath.{DecodedAccessPath}
use Rattle.semcode_records.specs.Maps.{taken_out, head_is}
use Rattle.local_format.specs.Out.{Out, ok, refused, ◌>>=◌}
use Rattle.local_format.specs.Field.{le}
use Rattle.local_format.proofs.OutLaws.{bind_ok, ok_same}
use Rattle.semcode_records.specs.Records.{Taken, Table, next_of, records, ends}
use Rattle.semcode_records.specs.Component.{Component, component_at}
use Rattle.semcode_records.specs.Path.{Event, borrow, write, frame_entry, borrow_store_site, write_store_site, write_record_site}
use Rattle.semcode_records.specs.Sizes.{site_size}
use Rattle.semcode_records.specs.Path.{known, kind_of_event, or_unknown, Front, front_at, Path, path_at, Head, head_at}
use Rattle.semcode_records.proofs.FrontLaws.{entry, store, written_store, written_record}
use Rattle.semcode_records.proofs.PathLaws.{head_from, head_steps, front_kind, path_read, path_components}
use Rattle.path_words.specs.Words.{component_words, words_of, path_words}
use Rattle.semcode_records.specs.Numbers.{Numbered, numbered}
use Rattle.path_words.specs.declared.Opening as coded
use Rattle.path_words.specs.Front.{there, site_of, Opening, opening_words}

pub both : (n : Numbered) {event site : ℕ} → event ≡ n.event → site ≡ n.site → record { event = event; site = site } ≡ n
both n e f = rw (e, f)

module _ (revision : ℕ) (s : List ℕ) (at : ℕ) where
  abbrev reader : ℕ → ℕ → Out (Taken Component)
  reader kind = component_at revision kind s

  -- ---- From the path that was read

  pub closed : {r : Refusal} → head_at revision s at ≡ refused r → path_words revision s at ≡ []
  unfolding path_words
  closed e = rw e

  -- by the answer of the reader
  module _ (r : Result (Field DecodedAccessPath) code.Refusal) (read : answer_out (taken_out head_is) r ≡ head_at revision s at) where
    pub is_closed : None ≡ result_ok r → path_words revision s at ≡ []
    is_closed e = go r read e
      where
        go : (r : Result (Field DecodedAccessPath) code.Refusal) → answer_out (taken_out head_is) r ≡ head_at revision s at → None ≡ result_ok r
            → path_words revision s at ≡ []
        go (Ok f) h e = absurd (cc)
        go (Err q) h e = closed (sym h)

    pub is_read : {f : Field DecodedAccessPath} → Some f ≡ result_ok r → head_at revision s at ≡ ok (taken_out head_is f)
    is_read {f} e = go r read e
      where
        go : (r : Result (Field DecodedAccessPath) code.Refusal) → answer_out (taken_out head_is) r ≡ head_at revision s at → Some f ≡ result_ok r
            → head_at revision s at ≡ ok (taken_out head_is f)
        go (Ok g) h e = let same : f ≡ g = cc in sym h ∙ rw same
        go (Err q) h e = absurd (cc)

  pub opened : {t : Taken Head} → head_at revision s at ≡ ok t → {event site kind : ℕ} → record { event = event; site = site } ≡ numbered t.value.event
      → kind ≡ kind_of_event t.value.event
      → path_words revision s at ≡ opening_words reader (record {
        whole = true;
        kind = kind;
        event = event;
        site = site;
        root = t.value.root;
        count = t.value.count;
        start = t.value.start;
      })
  unfolding path_words
  opened {t} e q k =
      let p = path_read revision s at e in
      let c = path_components revision s at p.1 in
      let x = ap (λ (n : Numbered). n.event) q in
      let y = ap (λ (n : Numbered). n.site) q in
      let here = ap (λ (h : Head). there (records (reader (kind_of_event h.event)) h.count h.start)) (sym p.2) ∙ ap there c in
      rw (e, x, y, k, here)

  -- an accepted path ends where its components do
  path_last : {t : Taken Path} → path_at revision s at ≡ ok t → t.next ≡ t.value.components.end
  unfolding path_at
  path_last {t} h =
      let a = bind_ok (front_at revision s at) _ h in
      let e = bind_ok (records (reader a.0.kind) a.0.count a.0.start) _ a.2 in
      let f = bind_ok (or_unknown 60 e.0.end a.0.kinded) _ e.2 in
      let same = ok_same f.2 in
      ap (λ (t : Taken Path). t.next) (sym same) ∙ ap (λ (t : Taken Path). t.value.components.end) same

  -- the path ends where the components behind this opening do
  abbrev pub Ends : coded.Opening → Type 0
  Ends o = next_of (path_at revision s at) ≡ ends (records (reader o.kind) o.count o.start)

  pub ends_told : {a b : coded.Opening} → Some a ≡ Some b → Ends a → Ends b
  ends_told {a} {b} e h = let same : a ≡ b = cc in rw same at h

  pub opened_ends : {t : Taken Head} → head_at revision s at ≡ ok t → {kind : ℕ} → kind ≡ kind_of_event t.value.event
      → next_of (path_at revision s at) ≡ ends (records (reader kind) t.value.count t.value.start)
  opened_ends {t} e k =
      let p = path_read revision s at e in
      let c = path_components revision s at p.1 in
      let here = ap (λ (h : Head). ends (records (reader (kind_of_event h.event)) h.count h.start)) (sym p.2) ∙ ap ends c in
      rw (p.1, k, here) (ap ok (path_last p.1))

  -- ---- From its front

  by_front : (e : Event) {f : Front} → front_at revision s at ≡ ok f → f.kinded ≡ known e
      → path_words revision s at ≡ opening_words reader (record {
        whole = true;
        kind = f.kind;
        event = (numbered e).event;
        site = (numbered e).site;
        root = f.root;
        count = f.count;
        start = f.start;
      })
  unfolding path_words
  by_front e {f} h k = rw (head_steps, h, k) (go (records (reader f.kind) f.count f.start))
    where
      kind : f.kind ≡ kind_of_event e
      kind = front_kind revision s at e h k

      go : (x : Out (Table Component)) → words_of reader (ends x >>= head_from (known e) f.root f.count f.start)
          ≡ cond (there x) ((numbered e).event ∷ (numbered e).site ∷ f.root ∷ f.count ∷ component_words (reader f.kind) f.count f.start) []
      go (ok t) = rw kind
      go (refused r) = refl

  module _ (from21 : 21 ≤ revision) (room : at + 12 ≤ length s) where
    -- by kind and mode
    abbrev opening : ℕ → ℕ → Opening
    opening kind mode =
        record {
          whole = true;
          kind = kind;
          event = 1 + mode + 3 * kind;
          site = site_of (site_size kind mode) (le 4 s (at + 2));
          root = le 4 s (at + 2 + site_size kind mode);
          count = le 2 s (at + 6 + site_size kind mode);
          start = at + 8 + site_size kind mode;
        }

    two : at + 1 + 1 ≡ at + 2
    two = omega arith

    four : at + 1 + 1 + 4 ≡ at + 2 + 4
    four = omega arith

    six : at + 2 + 4 + 4 ≡ at + 6 + 4
    six = omega arith

    eight : at + 6 + 4 + 2 ≡ at + 8 + 4
    eight = omega arith

    pub by_bytes : (kind mode : ℕ) → le 1 s at ≡ kind → le 1 s (at + 1) ≡ mode → kind ≤ 1 → mode ≤ 1
        → path_words revision s at ≡ opening_words reader (opening kind mode)
    by_bytes zero zero k m h l =
        let a : at + 2 + 0 ≡ at + 1 + 1 = omega arith in
        let b : at + 6 + 0 ≡ at + 1 + 1 + 4 = omega arith in
        let c : at + 8 + 0 ≡ at + 1 + 1 + 4 + 2 = omega arith in
        rw (a, b, c) (by_front (borrow frame_entry) (entry revision s at from21 room k m) refl)
    by_bytes zero (suc zero) k m h l =
        rw (four, six, eight, two) at (by_front (borrow (borrow_store_site (le 4 s (at + 1 + 1)))) (store revision s at from21 room k m) refl)
    by_bytes (suc zero) zero k m h l =
        rw (four, six, eight, two) at (by_front (write (write_store_site (le 4 s (at + 1 + 1)))) (written_store revision s at from21 room k m) refl)
    by_bytes (suc zero) (suc zero) k m h l =
        rw (four, six, eight, two) at (by_front (write (write_record_site (le 4 s (at + 1 + 1)))) (written_record revision s at from21 room k m) refl)
    by_bytes zero (suc (suc mode)) k m h l = absurd (omega arith)
    by_bytes (suc zero) (suc (suc mode)) k m h l = absurd (omega arith)
    by_bytes (suc (suc kind)) mode k m h l = absurd (omega arith)
