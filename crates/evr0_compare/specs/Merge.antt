-- The list by one merge over the starts of two sections' propositions, and their flags, in two payloads: what a merge goes by, and what it
-- leaves.
use Rattle.std.specs.Prelude.{ℕ, suc, ◌+◌, ◌≤◌, ◌<◌, ◌≡◌, false, List, [], ◌∷◌, eqb, length, get_or, set}
use Rattle.local_format.specs.Field.{le}
use Rattle.local_format.specs.Text.{bytes_at}
use Rattle.evr0_section.specs.Proposition.{Key, compare_keys}
use Rattle.evr0_compare.specs.Compare.{Standing, Listed, Verdict, agreed, first_only, second_only, of_both, by_order, total, codes}

-- ---- A proposition by its start

-- the place after its kind, where the owner stands
abbrev pub kind_end : List ℕ → ℕ → ℕ
kind_end p start = start + 2 + le 2 p start

unfoldable pub key_at : List ℕ → ℕ → Key
key_at p start =
    record {
      kind = bytes_at p (start + 2) (le 2 p start);
      owner = le 4 p (kind_end p start);
      scope = le 4 p (kind_end p start + 4);
      type = le 4 p (kind_end p start + 8);
    }

-- propositions with these starts and flags lie in the payload, and are no more than 12 allows
pub record SideThere (p starts flags : List ℕ) : Type 0 where
  pub inside : (i : ℕ) → i < length starts → kind_end p (get_or starts i 0) + 12 ≤ length p
  pub flagged : length starts ≤ length flags
  pub few : length starts ≤ 65536

abbrev pub no_standing : Standing
no_standing = record { key = record { kind = []; owner = 0; scope = 0; type = 0 }; authorised = false }

-- what the bytes say of them
pub record Views (p starts flags : List ℕ) (xs : List Standing) : Type 0 where
  pub count : length xs ≡ length starts
  pub each : (i : ℕ) → i < length starts
      → get_or xs i no_standing ≡ record { key = key_at p (get_or starts i 0); authorised = eqb (get_or flags i 0) 1 }

-- ---- The merge

-- the verdict on the next proposition
abbrev pub next_verdict : List Standing → List Standing → Verdict
next_verdict [] ys = second_only
next_verdict (x ∷ xs) [] = first_only
next_verdict (x ∷ xs) (y ∷ ys) = by_order (compare_keys x.key y.key) first_only (of_both x.authorised y.authorised) second_only

-- numbers written into a table from an entry on; those past its end are left out
unfoldable pub written : List ℕ → ℕ → List ℕ → List ℕ
written table at [] = table
written table at (n ∷ ns) = written (set table at n) (suc at) ns

-- what the merge leaves of the list
pub record Lists (ls : List Listed) (before after : List ℕ) (entries same : ℕ) : Type 0 where
  pub size : entries ≡ length ls
  pub agreed : same ≡ total agreed ls
  pub table : after ≡ written before 0 (codes ls)
