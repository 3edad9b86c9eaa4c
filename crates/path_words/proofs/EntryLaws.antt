-- The words of records that are read at their places are those of the entries of their table.
use Prim.Native.Nat.{ℕ, zero, suc}
use mathlib.Core.Path.{◌≡◌, refl, ap, ◌∙◌}
use mathlib.Core.List.{List, ◌∷◌}
use lib.ListN.{length}
use Rattle.local_format.specs.Out.{Out, ok}
use Rattle.local_format.proofs.OutLaws.{ok_same, bind_ok}
use Rattle.semcode_records.specs.Records.{Taken, Table, records}
use Rattle.semcode_records.specs.Component.{Component, component_at}
use Rattle.semcode_records.specs.Path.{kind_of_event, Path, path_at, head_at}
use Rattle.semcode_records.proofs.PathLaws.{path_components}
use Rattle.semcode_decode.specs.Layout.{starts_of}
use Rattle.semcode_decode.proofs.ReadLaws.{ReadBy}
use Rattle.record_words.specs.Words.{all_words}
use Rattle.path_words.specs.Words.{component_word, step_of, component_words, path_words}
use Rattle.path_words.specs.Blocks.{entry_words, component_fields, path_fields, words_at}

module _ {A : Type 0} (read : ℕ → Out (Taken A)) (words : ℕ → List ℕ) (fields : A → List ℕ)
    (one : (at : ℕ) (x : Taken A) → read at ≡ ok x → words at ≡ fields x.value) where
  records_words : (count at : ℕ) (t : Table A) → records read count at ≡ ok t → all_words words (starts_of t) ≡ entry_words fields t.entries
  unfolding records all_words entry_words
  records_words zero at t h = rw (← ok_same h) refl
  records_words (suc count) at t h =
      let (first, f, h1) = bind_ok (read at) _ h in
      let (rest, g, h2) = bind_ok (records read count first.next) _ h1 in
      rw (← ok_same h2, one at first f, records_words count first.next rest g)

  pub table_words : {t : Table A} → ReadBy read t → all_words words (starts_of t) ≡ entry_words fields t.entries
  table_words {t} r = records_words r.0 t.start t r.1

pub at_words : {A : Type 0} (read : ℕ → Out (Taken A)) (fields : A → List ℕ) (at : ℕ) (x : Taken A) → read at ≡ ok x
    → words_at fields (read at) ≡ fields x.value
at_words read fields at x e = rw e

components_words : (read : ℕ → Out (Taken Component)) (count at : ℕ) (t : Table Component) → records read count at ≡ ok t
    → component_words read count at ≡ entry_words component_fields t.entries
unfolding records component_words entry_words
components_words read zero at t h = rw (← ok_same h) refl
components_words read (suc count) at t h =
    let (first, f, h1) = bind_ok (read at) _ h in
    let (rest, g, h2) = bind_ok (records read count first.next) _ h1 in
    ap (λ (x : Out (Taken Component)). (step_of x).word ∷ component_words read count (step_of x).next) f
    ∙ ap (λ (ws : List ℕ). component_word first.value ∷ ws) (components_words read count first.next rest g)
    ∙ ap (λ (t : Table Component). entry_words component_fields t.entries) (ok_same h2)

pub path_words_are : (revision : ℕ) (s : List ℕ) (at : ℕ) (x : Taken Path) → path_at revision s at ≡ ok x → path_words revision s at ≡ path_fields x.value
unfolding path_words head_at
path_words_are revision s at x e =
    let p = x.value in
    let c = path_components revision s at e in
    rw (e, components_words (component_at revision (kind_of_event p.event) s) (length p.components.entries) p.components.start p.components c)
