-- The list that is lent, filled: in the code's struct, where each entry is known by its number, and in the definitions' record.
use mathlib.Core.Path.{◌≡◌, refl, ap, sym, ◌∙◌}
use Prim.Native.Nat.{ℕ, zero, suc, ◌+◌, ◌-◌, ◌≤◌}
use native.Mathlib.Omega.{arith}
use mathlib.Core.List.{List, [], ◌∷◌, ◌++◌, map}
use lib.ListN.{length, get_or, replicate, length-append, length-map, length-replicate}
use Rattle.semcode_records.specs.Symbol.{Symbol}
use Rattle.semcode_records.specs.declared.symbol.DecodedDebugSymbol.{DecodedDebugSymbol as DebugSymbol}
use Rattle.semcode_symbols.specs.Symbols.{no_symbol, lent_symbols}
use Rattle.semcode_records.specs.Maps.{symbol_is}

abbrev pub struct_of : Symbol → DebugSymbol
struct_of y = record { pc = y.pc; line = y.line; col = y.column }

abbrev pub none : DebugSymbol
none = struct_of no_symbol

get_or_map : {A B : Type 0} (f : A → B) (xs : List A) (i : ℕ) (d : A) → get_or (map f xs) i (f d) ≡ f (get_or xs i d)
get_or_map f [] i d = refl
get_or_map f (x ∷ xs) zero d = refl
get_or_map f (x ∷ xs) (suc i) d = get_or_map f xs i d

get_or_zeros : {A : Type 0} (m i : ℕ) (d : A) → get_or (replicate m d) i d ≡ d
get_or_zeros zero i d = refl
get_or_zeros (suc m) zero d = refl
get_or_zeros (suc m) (suc i) d = get_or_zeros m i d

get_or_padded : {A : Type 0} (xs : List A) (m i : ℕ) (d : A) → get_or (xs ++ replicate m d) i d ≡ get_or xs i d
get_or_padded [] m i d = get_or_zeros m i d
get_or_padded (x ∷ xs) m zero d = refl
get_or_padded (x ∷ xs) m (suc i) d = get_or_padded xs m i d

there_and_back : (xs : List Symbol) → map symbol_is (map struct_of xs) ≡ xs
there_and_back [] = refl
there_and_back (x ∷ xs) = ap (λ (ys : List Symbol). x ∷ ys) (there_and_back xs)

module _ (n : ℕ) (xs : List Symbol) where
  abbrev pub wanted : List DebugSymbol
  wanted = map struct_of (lent_symbols n xs)

  pub wanted_long : length xs ≤ n → length wanted ≡ n
  wanted_long h =
      length-map (lent_symbols n xs) struct_of
      ∙ length-append xs (replicate (n - length xs) no_symbol)
      ∙ ap (λ (m : ℕ). length xs + m) (length-replicate (n - length xs) no_symbol)
      ∙ omega (arith, h)

  pub wanted_is : {l : List DebugSymbol} → l ≡ wanted → map symbol_is l ≡ lent_symbols n xs
  wanted_is e = ap (map symbol_is) e ∙ there_and_back (lent_symbols n xs)

  -- a record with the numbers of symbol i, or zeros past the symbols
  pub is_wanted : (i : ℕ) (r : DebugSymbol) → symbol_is r ≡ get_or xs i no_symbol → r ≡ get_or wanted i none
  is_wanted i r e =
      ap struct_of (e ∙ sym (get_or_padded xs (n - length xs) i no_symbol)) ∙ sym (get_or_map struct_of (lent_symbols n xs) i no_symbol)
