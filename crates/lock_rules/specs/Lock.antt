-- A lock, and when two touch. Document 02, Slip 2. Over any kind of root and any test of it.
use Rattle.std.specs.Prelude.{ℕ, List, [], ◌∷◌, map, Bool, true, false, not, ◌&&◌, ◌||◌, eqb}
use Rattle.semcode_records.specs.Component as component
use Rattle.semcode_records.specs.Path.{Event, borrow, write, Path}

-- a component by its kind's byte, and its one or two numbers
pub record Part : Type 0 where
  pub kind : ℕ
  pub first : ℕ
  pub second : ℕ

abbrev pub part_of : component.Component → Part
part_of (component.tuple_index index) = record { kind = 0; first = index; second = 0 }
part_of (component.field_symbol symbol) = record { kind = 1; first = symbol; second = 0 }
part_of (component.variant which index) = record { kind = 2; first = which; second = index }
part_of (component.sequence_index index) = record { kind = 3; first = index; second = 0 }

unfoldable pub same_part : Part → Part → Bool
same_part a b = eqb a.kind b.kind && (eqb a.first b.first && eqb a.second b.second)

pub record Lock (R : Type 0) : Type 0 where
  pub owner : ℕ
  pub write : Bool
  pub root : R
  pub parts : List Part

abbrev pub is_write : Event → Bool
is_write (borrow _) = false
is_write (write _) = true

-- the lock that an owner takes on a path, whose symbol stands for a root
abbrev pub lock_of : {R : Type 0} → (ℕ → R) → ℕ → Path → Lock R
lock_of root_of owner p =
    record {
      owner = owner;
      write = is_write p.event;
      root = root_of p.root;
      parts = map (λ e. part_of e.value) p.components.entries;
    }

-- whether a list is the beginning of another
unfoldable pub begins : List Part → List Part → Bool
begins [] ys = true
begins (x ∷ xs) [] = false
begins (x ∷ xs) (y ∷ ys) = same_part x y && begins xs ys

module _ {R : Type 0} (same : R → R → Bool) where
  -- one is the beginning of the other
  unfoldable pub touches : Lock R → Lock R → Bool
  touches a b = same a.root b.root && (begins a.parts b.parts || begins b.parts a.parts)

  -- they are of different owners, either is a write, and they touch
  unfoldable pub hinders : Lock R → Lock R → Bool
  hinders a b = not (eqb a.owner b.owner) && ((a.write || b.write) && touches a b)
