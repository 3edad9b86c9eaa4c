-- A claim over a block: its paths stand at the starts that the lent table holds, and what was lent is left as the block has it or cleared.
use mathlib.Core.Path.{◌≡◌, refl, ap, sym, subst, ◌∙◌}
use Prim.Native.Nat.{ℕ, ◌-◌, ◌<◌, ◌≤◌}
use native.Mathlib.Omega.{arith}
use mathlib.Core.List.{List, []}
use lib.ListN.{length, get_or, replicate, take, length-append, length-map, get_or-append}
use lib.Seq.{length-take-le, get_or-take}
use Rattle.local_format.specs.Refusal.{Refusal}
use Rattle.local_format.specs.Out.{Out, ok, refused, ◌>>◌}
use Rattle.local_format.proofs.OutLaws.{never, based_ok}
use Rattle.local_format.proofs.NumberLaws.{there_map}
use Rattle.std.specs.Prelude.{Result, Ok, Err}
use Rattle.std.specs.Result.{is_err}
use Rattle.local_format.specs.declared.refusal.Refusal as code
use Rattle.local_format.specs.Maps.{answer_out}
use Rattle.lock_rules.proofs.ListLaws.{no}
use mathlib.Core.Bool.{true, false}
use Rattle.lent_table.specs.Lent.{lent}
use Rattle.semcode_records.specs.Records.{Entry}
use Rattle.semcode_records.specs.Path.{Path, path_at}
use Rattle.semcode_decode.specs.Block.{Rooms, Block, block_of}
use Rattle.semcode_decode.specs.Layout.{Layout, layout_of, layout, starts_of, path_starts, Lent, rooms_of, Decodes}
use Rattle.semcode_decode.specs.Number.{decode_anew}
use Rattle.semcode_decode.proofs.BlockLaws.{layout_ok, layout_refused}
use Rattle.semcode_decode.proofs.ReadLaws.{there, tables_read}
use Rattle.lock_rules.specs.Lock.{Lock}
use Rattle.lock_rules.specs.Register.{paths_of, held_count}
use Rattle.lock_rules.specs.Source.{Root}
use Rattle.locks.specs.Claim.{claim_in, Claims}
use Rattle.locks.specs.Phase.{no_path, Standing, Listed, Tried, TriedPaths}

-- ---- The starts

lent_at : (n i : ℕ) (xs : List ℕ) → i < length xs → get_or (lent n xs) i 0 ≡ get_or xs i 0
lent_at n i xs h = get_or-append xs (replicate (n - length xs) 0) 0 i h

module _ (revision : ℕ) (rooms : Rooms) (s : List ℕ) (b : Block) (read : block_of revision rooms s ≡ ok b) (n : ℕ) where
  listed : Listed revision s (lent n (path_starts (ok b))) (length b.ownership.table.entries) (paths_of b)
  listed = record { many = length-map b.ownership.table.entries (λ (e : Entry Path). e.value); each = λ i h. go i h }
    where
      go : (i : ℕ) → i < length b.ownership.table.entries
          → Standing revision s (get_or (lent n (starts_of b.ownership.table)) i 0) (get_or (paths_of b) i no_path)
      go i h =
          let table = b.ownership.table in
          let (_, _, r, _, _) = tables_read revision rooms s read in
          let t = there (path_at revision s) r.0 table.start i table r.1 h in
          let m = length-map table.entries (λ (e : Entry Path). e.start) in
          let p = there_map (λ (e : Entry Path). e.value) no_path table.entries i t.found in
          record { next = t.entry.next; is_read = rw (lent_at n i (starts_of table) (omega arith), t.start, p) t.again }

-- the first so many starts alone
listed_first : (revision : ℕ) (s starts : List ℕ) (n : ℕ) (paths : List Path) → n ≤ length starts → Listed revision s starts n paths
    → Listed revision s (take n starts) (length (take n starts)) paths
listed_first revision s starts n paths h l =
    let size : length (take n starts) ≡ n = length-take-le n starts h in
    record {
      many = l.many ∙ sym size;
      each = λ i k. let m : i < n = omega arith in rw (get_or-take n starts i 0 m) (l.each i m);
    }

pub tried_first : (revision : ℕ) (s starts : List ℕ) (n : ℕ) (source : List ℕ) (owner : ℕ) (answer : Out ℕ) (words after : List ℕ)
    → n ≤ length starts → TriedPaths revision s (take n starts) (length (take n starts)) source owner answer words after
    → TriedPaths revision s starts n source owner answer words after
tried_first revision s starts n source owner answer words after h t paths l = t paths (listed_first revision s starts n paths h l)

-- ---- The answers

pub told_err : (x : Result ℕ code.Refusal) → true ≡ is_err x → (r : Refusal) × (answer_out (λ n. n) x ≡ refused r)
told_err (Ok n) e = no e
told_err (Err r) e = (_, refl)

pub told_ok : (x : Result ℕ code.Refusal) → false ≡ is_err x → (n : ℕ) × (answer_out (λ n. n) x ≡ ok n)
told_ok (Ok n) e = (n, refl)
told_ok (Err r) e = no (sym e)

abbrev Locks : Type 0
Locks = List (Lock Root)

accepted : (x : Out Locks) {n : ℕ} → ok n ≡ held_count x → (ls : Locks) × (x ≡ ok ls)
accepted (ok ls) h = (ls, refl)
accepted (refused r) h = absurd (never (sym h))

turned_down : (x : Out Locks) {r : Refusal} → refused r ≡ held_count x → (q : Refusal) × (x ≡ refused q)
turned_down (ok ls) h = absurd (never h)
turned_down (refused q) h = (q, refl)

module _ (source : List ℕ) (owner base revision : ℕ) (s words : List ℕ) (brought left : Lent) {told : Out Layout}
    (d : Decodes layout base revision 8192 s brought left told)
  where
    abbrev block : Out Block
    block = decode_anew base revision s brought

    -- the block is refused
    pub block_refused : {q r : Refusal} → told ≡ refused r → q ≡ r
        → Claims (λ x. x) source owner base revision s words words brought left (refused q)
    block_refused {q} {r} h e =
        let k : block ≡ refused r = layout_refused block (sym d.answer ∙ h) in
        let strings = d.strings in
        let paths = d.paths in
        let families = d.families in
        rw (k, e) (record {
          tables = record { answer = refl; strings = rw k at strings; paths = rw k at paths; families = rw k at families };
          register = refl;
        })

    module _ {l : Layout} (h : told ≡ ok l) where
      whole : (b : Block) × (block ≡ ok b) × (layout_of b ≡ l)
      whole = layout_ok block (sym d.answer ∙ h)

      -- the starts of as many paths as the layout says
      pub starts_room : l.paths ≤ length left.paths
      starts_room =
          let (b, e, m) = whole in
          let p = ap (λ (l : Layout). l.paths) m in
          let n = length-map b.ownership.table.entries (λ (x : Entry Path). x.start) in
          rw (d.paths, e) (simp length-append (omega arith))

      module _ (answer : Out ℕ) (after : List ℕ) (t : TriedPaths revision s left.paths l.paths source owner answer words after) where
        tried : Tried (claim_in source owner words block) answer words after
        tried =
            let (b, e, m) = whole in
            let rooms = rooms_of brought 8192 in
            let n : length b.ownership.table.entries ≡ l.paths = ap (λ (l : Layout). l.paths) m in
            let z = listed revision rooms s b (based_ok base (block_of revision rooms s) e) (length brought.paths) in
            let y : lent (length brought.paths) (path_starts (ok b)) ≡ left.paths =
            sym (d.paths ∙ ap (λ (x : Out Block). lent (length brought.paths) (path_starts x)) e) in
            let here = subst (λ (c : ℕ). Listed revision s left.paths c (paths_of b)) n
            (subst (λ (starts : List ℕ). Listed revision s starts (length b.ownership.table.entries) (paths_of b)) y z) in
            subst (λ (x : Out Block). Tried (claim_in source owner words x) answer words after) (sym e) (t (paths_of b) here)

        -- its paths are claimed
        pub paths_held : {n : ℕ} → answer ≡ ok n → Claims (λ x. x) source owner base revision s words after brought left (ok n)
        paths_held e =
            let told = sym e ∙ tried.told in
            let k = (accepted (claim_in source owner words block) told).1 in
            let ending : (claim_in source owner words block >> block) ≡ block = ap (λ (x : Out Locks). x >> block) k in
            record {
              tables = rw ending (record { answer = told; strings = d.strings; paths = d.paths; families = d.families });
              register = tried.left;
            }

        -- they are refused: the tables are cleared
        pub paths_refused : {r : Refusal} (cleared : Lent) → answer ≡ refused r
            → cleared.strings ≡ lent (length left.strings) [] → cleared.paths ≡ lent (length left.paths) []
            → cleared.families ≡ lent (length left.families) []
            → length left.strings ≡ length brought.strings → length left.paths ≡ length brought.paths
            → length left.families ≡ length brought.families
            → Claims (λ x. x) source owner base revision s words after brought cleared answer
        paths_refused cleared e strings paths families l m n =
            record {
              tables =
                  record {
                    answer = tried.told;
                    strings = rw ending (strings ∙ ap (λ (n : ℕ). lent n []) l);
                    paths = rw ending (paths ∙ ap (λ (n : ℕ). lent n []) m);
                    families = rw ending (families ∙ ap (λ (n : ℕ). lent n []) n);
                  };
              register = tried.left;
            }
          where
            down : (q : Refusal) × (claim_in source owner words block ≡ refused q)
            down = turned_down (claim_in source owner words block) (sym e ∙ tried.told)

            ending : (claim_in source owner words block >> block) ≡ refused down.0
            ending = ap (λ (x : Out Locks). x >> block) down.1

-- the same set, by another name
pub of_set : {set source : List ℕ} (owner base revision : ℕ) (s words : List ℕ) {after : List ℕ} (brought : Lent) {left : Lent} {told : Out ℕ}
    → set ≡ source → Claims (λ x. x) set owner base revision s words after brought left told
    → Claims (λ x. x) source owner base revision s words after brought left told
of_set owner base revision s words brought e c = rw e at c
