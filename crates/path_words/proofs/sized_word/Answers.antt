-- The mask of each size is one less than a power of 2.
use Rattle.std.proofs.Common.{◌≡◌, ℕ, zero, suc, ◌-◌, ◌*◌, ◌/◌, ◌^◌, ◌≤◌, [], ◌∷◌, slice_index_or, refl, arith}
use Rattle.std.proofs.lemmas.Nat.{and_mask}
use Rattle.path_words.proofs.sized_word.Goals as goal

mask : (n : ℕ) → 1 ≤ n → n ≤ 7
    → slice_index_or {A = ℕ} (0 ∷ 0 ∷ 0xff ∷ 0xffff ∷ 0xffffff ∷ 0xffffffff ∷ 0xffffffffff ∷ 0xffffffffffff ∷ []) n 0 ≡ 2 ^ (8 * (n - 1)) - 1
mask zero h l = absurd (omega arith)
mask (suc zero) h l = refl
mask (suc (suc zero)) h l = refl
mask (suc (suc (suc zero))) h l = refl
mask (suc (suc (suc (suc zero)))) h l = refl
mask (suc (suc (suc (suc (suc zero))))) h l = refl
mask (suc (suc (suc (suc (suc (suc zero)))))) h l = refl
mask (suc (suc (suc (suc (suc (suc (suc zero))))))) h l = refl
mask (suc (suc (suc (suc (suc (suc (suc (suc n)))))))) h l = absurd (omega arith)

pub returns : goal.returns
returns c = rw (mask c.args.size (omega arith) (omega arith), and_mask (c.args.bytes / 256) (8 * (c.args.size - 1)))
