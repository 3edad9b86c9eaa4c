-- A number's field in a section is what the library's `to_le_bytes` gives of it, at each width.
use Prim.Native.Nat.{ℕ, ◌%◌}
use mathlib.Core.Path.{◌≡◌}
use mathlib.Core.List.{[], ◌∷◌}
use native.Mathlib.Omega.{arith}
use Rattle.std.specs.Int.{w16, w32, w64, to_le_bytes}
use Rattle.evr0_columns.specs.Layout.{number}

pub two_bytes : (n : ℕ) → to_le_bytes w16 (n % 65536) ≡ number 2 n
unfolding number
two_bytes n = same (omega arith) (omega arith)
  where
    same : {a b c d : ℕ} → a ≡ c → b ≡ d → a ∷ b ∷ [] ≡ c ∷ d ∷ []
    same q r = cc

pub four_bytes : (n : ℕ) → to_le_bytes w32 (n % 4294967296) ≡ number 4 n
unfolding number
four_bytes n = same (omega arith) (omega arith) (omega arith) (omega arith)
  where
    same : {a b c d e f g h : ℕ} → a ≡ e → b ≡ f → c ≡ g → d ≡ h → a ∷ b ∷ c ∷ d ∷ [] ≡ e ∷ f ∷ g ∷ h ∷ []
    same q r s t = cc

pub eight_bytes : (n : ℕ) → to_le_bytes w64 n ≡ number 8 n
unfolding number
eight_bytes n =
    same (omega arith) (omega arith) (omega arith) (omega arith) (omega arith) (omega arith) (omega arith) (omega arith)
  where
    same : {a b c d e f g h i j k l m n o p : ℕ} → a ≡ i → b ≡ j → c ≡ k → d ≡ l → e ≡ m → f ≡ n → g ≡ o → h ≡ p
        → a ∷ b ∷ c ∷ d ∷ e ∷ f ∷ g ∷ h ∷ [] ≡ i ∷ j ∷ k ∷ l ∷ m ∷ n ∷ o ∷ p ∷ []
    same q r s t u v w x = cc
