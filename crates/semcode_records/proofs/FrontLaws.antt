-- What stands in front of a path's components, from its first 12 bytes, by its event's two bytes; and where the path ends.
use Prim.Native.Nat.{ℕ, zero, suc, ◌+◌, ◌≤◌}
use mathlib.Core.Path.{◌≡◌, refl}
use mathlib.Core.Bool.{true}
use mathlib.Core.List.{List}
use native.Mathlib.Omega.{arith}
use lib.Dec.{leb}
use lib.ListN.{length}
use package.borrow.Author.Tests.{le-leb}
use Rattle.local_format.specs.Out.{Out, ok, refused, ◌>>=◌}
use Rattle.local_format.specs.Field.{le}
use Rattle.local_format.proofs.FieldLaws.{field_there}
use Rattle.semcode_records.specs.Records.{taken, next_of, Table, records, ends}
use Rattle.semcode_records.specs.Component.{Component, component_at}
use Rattle.semcode_records.specs.Sizes.{site_size}
use Rattle.semcode_records.specs.Path.{Event, borrow, write, frame_entry, borrow_store_site, write_store_site, write_record_site}
use Rattle.semcode_records.specs.Path.{activation_at, execution_at, event_of, known, or_unknown, Path, Front, front_at, path_at}

-- a path of a known kind ends where its components do
path_ends : (revision : ℕ) (s : List ℕ) (at : ℕ) (e : Event) {f : Front} → front_at revision s at ≡ ok f → f.kinded ≡ known e
    → next_of (path_at revision s at) ≡ ends (records (component_at revision f.kind s) f.count f.start)
unfolding path_at
path_ends revision s at e {f} h k = rw (h, k) (go (records (component_at revision f.kind s) f.count f.start))
  where
    go : (x : Out (Table Component))
        → next_of {A = Path} (x >>= λ components. or_unknown 60 components.end (known e) >>= λ event. taken (record {
          event = event;
          root = f.root;
          components = components;
        }) components.end) ≡ ends x
    go (ok t) = refl
    go (refused r) = refl

module _ (revision : ℕ) (s : List ℕ) (at : ℕ) (from21 : 21 ≤ revision) (room : at + 12 ≤ length s) where
  modes : leb 21 revision ≡ true
  modes = le-leb 21 revision from21

  -- the root and what follows it
  abbrev pub front : ℕ → Event → ℕ → Front
  front kind e root = record { kind = kind; kinded = known e; root = le 4 s root; count = le 2 s (root + 4); start = root + 4 + 2 }

  pub entry : le 1 s at ≡ 0 → le 1 s (at + 1) ≡ 0 → front_at revision s at ≡ ok (front 0 (borrow frame_entry) (at + 1 + 1))
  unfolding front_at event_of activation_at
  entry k m =
      rw (
        field_there 41 1 s at (omega arith),
        k,
        modes,
        field_there 42 1 s (at + 1) (omega arith),
        m,
        field_there 48 4 s (at + 1 + 1) (omega arith),
        field_there 49 2 s (at + 1 + 1 + 4) (omega arith),
      )

  pub store : le 1 s at ≡ 0 → le 1 s (at + 1) ≡ 1 → front_at revision s at ≡ ok (front 0 (borrow (borrow_store_site (le 4 s (at + 1 + 1)))) (at + 1 + 1 + 4))
  unfolding front_at event_of activation_at
  store k m =
      rw (
        field_there 41 1 s at (omega arith),
        k,
        modes,
        field_there 42 1 s (at + 1) (omega arith),
        m,
        field_there 43 4 s (at + 1 + 1) (omega arith),
        field_there 48 4 s (at + 1 + 1 + 4) (omega arith),
        field_there 49 2 s (at + 1 + 1 + 4 + 4) (omega arith),
      )

  pub written_store : le 1 s at ≡ 1 → le 1 s (at + 1) ≡ 0
      → front_at revision s at ≡ ok (front 1 (write (write_store_site (le 4 s (at + 1 + 1)))) (at + 1 + 1 + 4))
  unfolding front_at event_of execution_at
  written_store k m =
      rw (
        field_there 41 1 s at (omega arith),
        k,
        modes,
        field_there 45 1 s (at + 1) (omega arith),
        m,
        field_there 46 4 s (at + 1 + 1) (omega arith),
        field_there 48 4 s (at + 1 + 1 + 4) (omega arith),
        field_there 49 2 s (at + 1 + 1 + 4 + 4) (omega arith),
      )

  pub written_record : le 1 s at ≡ 1 → le 1 s (at + 1) ≡ 1
      → front_at revision s at ≡ ok (front 1 (write (write_record_site (le 4 s (at + 1 + 1)))) (at + 1 + 1 + 4))
  unfolding front_at event_of execution_at
  written_record k m =
      rw (
        field_there 41 1 s at (omega arith),
        k,
        modes,
        field_there 45 1 s (at + 1) (omega arith),
        m,
        field_there 46 4 s (at + 1 + 1) (omega arith),
        field_there 48 4 s (at + 1 + 1 + 4) (omega arith),
        field_there 49 2 s (at + 1 + 1 + 4 + 4) (omega arith),
      )

  ten : at + 6 + 4 ≡ at + 1 + 1 + 4 + 4
  ten = omega arith

  twelve : at + 8 + 4 ≡ at + 1 + 1 + 4 + 4 + 2
  twelve = omega arith

  -- by kind and mode
  pub ends_by_bytes : (kind mode : ℕ) → le 1 s at ≡ kind → le 1 s (at + 1) ≡ mode → kind ≤ 1 → mode ≤ 1
      → next_of (path_at revision s at)
      ≡ ends (records (component_at revision kind s) (le 2 s (at + 6 + site_size kind mode)) (at + 8 + site_size kind mode))
  ends_by_bytes zero zero k m h l =
      let b : at + 6 + 0 ≡ at + 1 + 1 + 4 = omega arith in
      let c : at + 8 + 0 ≡ at + 1 + 1 + 4 + 2 = omega arith in
      rw (b, c) (path_ends revision s at (borrow frame_entry) (entry k m) refl)
  ends_by_bytes zero (suc zero) k m h l =
      rw (ten, twelve) (path_ends revision s at (borrow (borrow_store_site (le 4 s (at + 1 + 1)))) (store k m) refl)
  ends_by_bytes (suc zero) zero k m h l =
      rw (ten, twelve) (path_ends revision s at (write (write_store_site (le 4 s (at + 1 + 1)))) (written_store k m) refl)
  ends_by_bytes (suc zero) (suc zero) k m h l =
      rw (ten, twelve) (path_ends revision s at (write (write_record_site (le 4 s (at + 1 + 1)))) (written_record k m) refl)
  ends_by_bytes zero (suc (suc mode)) k m h l = absurd (omega arith)
  ends_by_bytes (suc zero) (suc (suc mode)) k m h l = absurd (omega arith)
  ends_by_bytes (suc (suc kind)) mode k m h l = absurd (omega arith)
