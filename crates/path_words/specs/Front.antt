-- A path's words from its front and from its components, as they are read once.
use Rattle.std.specs.Prelude.{ℕ, Bool, true, false, cond, ◌&&◌, List, [], ◌∷◌, Option, Some, None, eqb}
use Rattle.local_format.specs.Out.{Out, ok, refused}
use Rattle.semcode_records.specs.Records.{Taken, records}
use Rattle.semcode_records.specs.Component.{Component}
use Rattle.path_words.specs.Words.{component_words}

-- ---- Components

-- whether all are there
abbrev pub there : {A : Type 0} → Out A → Bool
there (ok a) = true
there (refused r) = false

-- the answer, where there is one
abbrev pub found : {A : Type 0} → Out A → Option A
found (ok a) = Some a
found (refused r) = None

-- ---- What stands in front of a path's components

-- the site behind an event's kind and mode, of so many bytes: 0 where it has none
abbrev pub site_of : ℕ → ℕ → ℕ
site_of size anchor = cond (eqb size 0) 0 anchor

-- its event's kind, number and site, its root, how many components it has and where they start; not whole where the path is refused for it
pub record Opening : Type 0 where
  pub whole : Bool
  pub kind : ℕ
  pub event : ℕ
  pub site : ℕ
  pub root : ℕ
  pub count : ℕ
  pub start : ℕ

-- the path's words, where all its components are there
abbrev pub opening_words : (ℕ → ℕ → Out (Taken Component)) → Opening → List ℕ
opening_words read o =
    cond (o.whole && there (records (read o.kind) o.count o.start))
    (o.event ∷ o.site ∷ o.root ∷ o.count ∷ component_words (read o.kind) o.count o.start) []
