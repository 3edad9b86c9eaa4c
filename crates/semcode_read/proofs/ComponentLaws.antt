-- A path's component by number: the path's first, and then the component after those before it.
use mathlib.Core.Path.{◌≡◌, refl, ap, sym, subst, ◌∙◌}
use Prim.Native.Nat.{ℕ, ◌≤◌, ◌<◌}
use native.Mathlib.Omega.{arith}
use mathlib.Core.Bool.{Bool, true, false}
use mathlib.Core.List.{List}
use lib.Dec.{leb}
use lib.ListN.{length}
use borrow.Author.Tests.{leb-true, leb-false}
use Rattle.local_format.specs.Refusal.{Refusal}
use Rattle.local_format.specs.Out.{Out, ok, refused, refuse, ◌>>=◌}
use Rattle.local_format.specs.Number.{numbered}
use Rattle.local_format.proofs.OutLaws.{never, refused_same, ok_same, on_ok}
use Rattle.local_format.proofs.NumberLaws.{not_there_lem}
use Rattle.semcode_records.specs.Records.{Taken, taken, Entry}
use Rattle.semcode_records.specs.Component.{Component, component_at}
use Rattle.semcode_records.specs.Path.{Path, kind_of_event, path_at, Head, head_of}
use Rattle.semcode_records.proofs.PathLaws.{path_components}
use Rattle.semcode_decode.specs.Block.{Rooms, Block, block_of}
use Rattle.semcode_decode.specs.Number.{Asked, path_number, component_number, block_in, taken_in, head_in}
use Rattle.semcode_decode.proofs.ReadLaws.{there, tables_read}
use Rattle.semcode_read.specs.After.{component_after}

within : {A : Type 0} (n : ℕ) (es : List (Entry A)) {e : Entry A} → numbered n es ≡ ok e → n < length es
within n es h = go (leb (length es) n) refl
  where
    go : (b : Bool) → leb (length es) n ≡ b → n < length es
    go true e = absurd (never (sym (not_there_lem n es (leb-true (length es) n e)) ∙ h))
    go false e = leb-false (length es) n e

-- the path that was chosen
pub record ChosenPath (n : ℕ) (x : Out Block) (head : Head) : Type 0 where
  pub block : Block
  pub entry : Entry Path
  pub accepted : x ≡ ok block
  pub is : numbered n block.ownership.table.entries ≡ ok entry
  pub read_back : head_of entry.value ≡ head

pub chosen_path : (n : ℕ) (x : Out Block) {t : Taken Head} → head_in (path_number n x) ≡ ok t → ChosenPath n x t.value
unfolding path_number
chosen_path n (refused r) h = absurd (never h)
chosen_path n (ok b) {t} h = go (numbered n b.ownership.table.entries) refl h
  where
    go : (y : Out (Entry Path)) → numbered n b.ownership.table.entries ≡ y
        → head_in (y >>= λ e. ok (record { decoded = b; value = e })) ≡ ok t → ChosenPath n (ok b) t.value
    go (ok e) k l = record { block = b; entry = e; accepted = refl; is = k; read_back = ap (λ (t : Taken Head). t.value) (ok_same l) }
    go (refused r) k l = absurd (never l)

abbrev chosen_in : {A : Type 0} → Block → Entry A → Out (Asked A)
chosen_in b e = ok (record { decoded = b; value = e })

-- no path, no component
pub no_path : (n k : ℕ) (x : Out Block) {r : Refusal} → head_in (path_number n x) ≡ refused r
    → (component_number n k x ≡ refused r) × (path_number n x ≡ refused r)
unfolding path_number component_number
no_path n k (refused q) h = let e = refused_same h in (ap refused e, ap refused e)
no_path n k (ok b) {r} h = go (numbered n b.ownership.table.entries) h
  where
    go : (y : Out (Entry Path)) → head_in (y >>= λ e. ok (record { decoded = b; value = e })) ≡ refused r
        → (((y >>= λ e. numbered k e.value.components.entries) >>= chosen_in b) ≡ refused r) × ((y >>= chosen_in b) ≡ refused r)
    go (ok e) l = absurd (never (sym l))
    go (refused q) l = let e = refused_same l in (ap refused e, ap refused e)

module _ (n k : ℕ) (x : Out Block) (b : Block) (e : Entry Path) (head : Head)
    (accepted : x ≡ ok b) (is : numbered n b.ownership.table.entries ≡ ok e) (read_back : head_of e.value ≡ head) where
  count : length e.value.components.entries ≡ head.count
  count = ap (λ (h : Head). h.count) read_back

  pub component_missing : head.count ≤ k → component_number n k x ≡ refuse 62 0
  unfolding component_number
  component_missing h =
      let c = count in
      rw (accepted, is, not_there_lem k e.value.components.entries (omega arith))

  picked : (c : Entry Component) → numbered k e.value.components.entries ≡ ok c
      → (taken_in (component_number n k x) ≡ taken c.value c.next) × (block_in (component_number n k x) ≡ block_in (path_number n x))
  unfolding path_number component_number
  picked c h = (rw (accepted, is, h), rw (accepted, is, h))

  module _ (revision : ℕ) (rooms : Rooms) (s : List ℕ) (read : block_of revision rooms s ≡ ok b) where
    path_again : path_at revision s e.start ≡ taken e.value e.next
    path_again =
        let r = (tables_read revision rooms s read).2 in
        let table = b.ownership.table in
        let p = there (path_at revision s) r.0 table.start n table r.1 (within n table.entries is) in
        subst (λ (e : Entry Path). path_at revision s e.start ≡ taken e.value e.next) (ok_same (sym p.found ∙ is)) p.again

    pub component_found : k < head.count
        → (component_after revision (kind_of_event head.event) s k head.start ≡ taken_in (component_number n k x))
        × (block_in (component_number n k x) ≡ block_in (path_number n x))
    component_found h =
        let c = count in
        let components = e.value.components in
        let reader = component_at revision (kind_of_event e.value.event) s in
        let t = there reader (length components.entries) components.start k components (path_components revision s e.start path_again)
        (omega arith) in
        let p = picked t.entry t.found in (
          ap (λ (h : Head). component_after revision (kind_of_event h.event) s k h.start) (sym read_back)
              ∙ on_ok reader t.passed
              ∙ t.again
              ∙ sym p.0,
          p.1,
        )
