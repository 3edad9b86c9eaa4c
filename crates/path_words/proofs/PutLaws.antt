-- Words put behind others at the front of a table: those of a record to the part that is left, and those of all records of a table one after the other.
use Prim.Native.Nat.{ℕ, ◌+◌, ◌-◌, ◌*◌, ◌≤◌, ◌<◌}
use mathlib.Core.Path.{◌≡◌, refl, ap, sym, ◌∙◌}
use mathlib.Core.Bool.{cond}
use mathlib.Core.List.{List, [], ◌∷◌, ◌++◌, append-nil, append_assoc}
use native.Mathlib.Omega.{arith}
use lib.ListN.{length, take, drop, length-append, length-drop}
use lib.Seq.{take_all, take_at, drop-drop, drop-append_seam}
use borrow.Author.Tests.{le-leb}
use borrow.Rule.Slice.PartMut.{put_mid}
use Rattle.std.specs.Prelude.{min, Some, None}
use Rattle.std.proofs.Math.Nat.{min-le_right, min-eq_left}
use Rattle.local_format.specs.Refusal.{Refusal}
use Rattle.local_format.specs.Out.{Out, ok, refused}
use Rattle.local_format.proofs.OutLaws.{ok_same}
use Rattle.lent_table.specs.Lent.{laid}
use Rattle.semcode_records.specs.Records.{Taken, Table, records, ends}
use Rattle.semcode_records.specs.Component.{Component, component_at}
use Rattle.semcode_records.specs.Path.{kind_of_event, Head, head_at}
use Rattle.semcode_decode.specs.Layout.{starts_of}
use Rattle.semcode_decode.proofs.TableLaws.{Passing, pass_first, pass_refused, pass_on, passed}
use Rattle.record_words.specs.Words.{all_words}
use Rattle.record_words.proofs.Laws.{put_size, last_put}
use Rattle.path_words.specs.Blocks.{Fronts, Laid, Adds}
use Rattle.path_words.specs.Words.{path_words, fitting}
use Rattle.path_words.proofs.Laws.{all_append, all_one, length_components, one_none, unlike}

-- ---- One record

module _ (before front : List ℕ) (from : ℕ) (t : List ℕ) (inv : Laid before front from t) where
  -- its words go to the part behind those that were put
  pub laid_on : (k : ℕ) → k ≡ min from (length t) → (words part : List ℕ) (n : ℕ) → length part ≡ length t - k
      → Fronts words (take (length t - k) (drop k t)) part n
      → Laid before (front ++ words) (from + n) (put_mid k (length t - k) t part)
  laid_on k e words part n l f =
      let inside : k ≤ length t = rw e (min-le_right from (length t)) in
      let size : length (put_mid k (length t - k) t part) ≡ length t = put_size k (length t - k) t part l (omega arith) in
      record {
        count = let a = inv.count in let b = f.count in rw length-append (omega arith);
        size = size ∙ inv.size;
        front = λ fits. go fits;
      }
    where
      go : from + n ≤ length before → put_mid k (length t - k) t part ≡ laid (front ++ words) before
      go fits =
          let s = inv.size in
          let here : k ≡ from = e ∙ min-eq_left (omega arith) in
          let t_is : t ≡ laid front before = inv.front (omega arith) in
          let c : length front ≡ k = let a = inv.count in omega arith in
          let rest : drop k t ≡ drop k before =
          ap (drop k) t_is ∙ ap (λ (m : ℕ). drop m (front ++ drop (length front) before)) (sym c) ∙ drop-append_seam front (drop (length front) before)
          ∙ ap (λ (m : ℕ). drop m before) c in
          let slice : take (length t - k) (drop k t) ≡ drop k before =
          take_all (length t - k) (drop k t) (let d = length-drop k t in omega arith) ∙ rest in
          let held : length (take (length t - k) (drop k t)) ≡ length before - k = ap length slice ∙ length-drop k before in
          let put : part ≡ words ++ drop (length words) (drop k before) = f.front (omega arith) ∙ rw slice refl in
          last_put t part k
          ∙ rw (put, drop-drop (length words) k before)
          (ap (λ (ws : List ℕ). ws ++ (words ++ drop (k + length words) before)) (ap (take k) t_is ∙ take_at front (drop (length front) before) k c)
          ∙ sym (append_assoc front words (drop (k + length words) before))
          ∙ ap (λ (m : ℕ). (front ++ words) ++ drop m before) (rw length-append (omega arith)))

-- ---- The records of a table

module _ {A : Type 0} (read : ℕ → Out (Taken A)) (words_of : ℕ → List ℕ) (count at from : ℕ) (t : List ℕ) where
  -- i records are read, and their words are put
  pub record Walking (i cursor to : ℕ) (t' : List ℕ) : Type 0 where
    pub starts : List ℕ
    pub passing : Passing read count at i cursor starts
    pub adds : Adds (all_words words_of starts) from t to t'
    pub few : to ≤ from + 65539 * i

  pub walk_first : Walking 0 at from t
  unfolding all_words
  walk_first =
      record {
        starts = [];
        passing = pass_first read count at;
        adds = λ before front l. rw append-nil l;
        few = omega arith;
      }

  module _ (i cursor to : ℕ) (t' : List ℕ) (inv : Walking i cursor to t') where
    pub walk_refused : {r : Refusal} → i < count → read cursor ≡ refused r → records read count at ≡ refused r
    walk_refused more e = pass_refused read count at i cursor inv.starts inv.passing more e

    pub walk_on : {x : Taken A} → i < count → read cursor ≡ ok x → (k : ℕ) → k ≡ min to (length t') → (part : List ℕ) (n : ℕ)
        → length part ≡ length t' - k → Fronts (words_of cursor) (take (length t' - k) (drop k t')) part n
        → Walking (i + 1) x.next (to + n) (put_mid k (length t' - k) t' part)
    walk_on {x} more e k h part n l f =
        let m = f.few in
        let g = inv.few in
        record {
          starts = inv.starts ++ cursor ∷ [];
          passing = pass_on read count at i cursor inv.starts inv.passing more e;
          adds = λ before front b.
              rw (all_append words_of inv.starts (cursor ∷ []), all_one words_of cursor, ← append_assoc front (all_words words_of inv.starts) (words_of cursor))
              (laid_on before (front ++ all_words words_of inv.starts) to t' (inv.adds before front b) k h (words_of cursor) part n l f);
          few = omega arith;
        }

    pub walk_end : i ≡ count → ok cursor ≡ ends (records read count at)
    walk_end e =
        let p : Passing read count at count cursor inv.starts = rw e at inv.passing in
        let w = passed read count at cursor inv.starts p in
        rw (w.1, w.3)

    pub walk_adds : i ≡ count → (x : Table A) → records read count at ≡ ok x → Adds (all_words words_of (starts_of x)) from t to t'
    walk_adds e x h =
        let p : Passing read count at count cursor inv.starts = rw e at inv.passing in
        let w = passed read count at cursor inv.starts p in
        let s : starts_of x ≡ inv.starts = ap starts_of (ok_same (sym h ∙ w.1)) ∙ w.2 in
        rw s inv.adds

-- ---- A path that is not put

-- a path read back has four words and one for each component
pub head_many : (revision : ℕ) (s : List ℕ) (at : ℕ) {h : Taken Head} → head_at revision s at ≡ ok h → length (path_words revision s at) ≡ 4 + h.value.count
unfolding path_words
head_many revision s at {h} e =
    let read : ℕ → Out (Taken Component) = component_at revision (kind_of_event h.value.event) s in
    let n = length_components read h.value.count h.value.start in
    rw e (omega arith)

-- words of which none are put do not fit
pub unfitting : (xs : List ℕ) (room : ℕ) → None ≡ cond (fitting (length xs) room) (Some (length xs)) None → 1 ≤ length xs → length xs ≤ room → ⊥
unfitting xs room e some fits = unlike (sym (one_none xs room e) ∙ rw (le-leb 1 (length xs) some, le-leb (length xs) room fits))
