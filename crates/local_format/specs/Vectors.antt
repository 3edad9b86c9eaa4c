-- Texts, strings and the kinds of refusals: theorems that compute.
use Rattle.std.specs.Prelude.{◌≡◌, refl, ℕ, zero, suc, ◌+◌, List, [], ◌∷◌, map}
use Rattle.utf8.specs.Utf8.{decode, decode_from, step_of, lead_of, later_of, table, is_control, any_control}
use Rattle.local_format.specs.Refusal.{invalid, limit, strings, debug, ownership, added, truncated, name, signature, among, kind_of}
use Rattle.local_format.specs.Out.{ok, refuse}
use Rattle.local_format.specs.Field.{le, field_at}
use Rattle.local_format.specs.Text.{text_at, decode_at, string_at}

-- ---- Texts and strings: `01 FF` is not UTF-8 before it holds a control character, and U+0085 passes in a string
texts : map (λ (s : List ℕ). text_at s 0) (
    (0x01 ∷ []) ∷
    (0x00 ∷ 0x00 ∷ []) ∷
    (0x01 ∷ 0x10 ∷ []) ∷
    (0x02 ∷ 0x00 ∷ 0x41 ∷ []) ∷
    (0x02 ∷ 0x00 ∷ 0x01 ∷ 0xFF ∷ []) ∷
    (0x02 ∷ 0x00 ∷ 0xC2 ∷ 0x85 ∷ []) ∷
    (0x02 ∷ 0x00 ∷ 0xC2 ∷ 0xA0 ∷ []) ∷ []
    ) ≡
    refuse 5 0 ∷
    refuse 6 2 ∷
    refuse 6 2 ∷
    refuse 5 2 ∷
    refuse 7 4 ∷
    refuse 8 4 ∷
    ok (record { start = 2; len = 2; chars = 1; next = 4 }) ∷ []
unfolding text_at field_at le decode decode_from step_of lead_of later_of table any_control is_control
texts = refl

function_strings : map (λ (s : List ℕ). string_at s 0) (
    (0x01 ∷ []) ∷
    (0x00 ∷ 0x00 ∷ []) ∷
    (0x01 ∷ 0x04 ∷ []) ∷
    (0x02 ∷ 0x00 ∷ 0x41 ∷ []) ∷
    (0x02 ∷ 0x00 ∷ 0x01 ∷ 0xFF ∷ []) ∷
    (0x02 ∷ 0x00 ∷ 0xC2 ∷ 0x85 ∷ []) ∷ []
    ) ≡
    refuse 32 0 ∷
    ok (record { start = 2; len = 0; chars = 0; next = 2 }) ∷
    refuse 33 2 ∷
    refuse 34 2 ∷
    refuse 34 2 ∷
    ok (record { start = 2; len = 2; chars = 1; next = 4 }) ∷ []
unfolding string_at decode_at field_at le decode decode_from step_of lead_of later_of table
function_strings = refl

-- ---- The kind of each refusal from 1 to 73
up_from : ℕ → ℕ → List ℕ
up_from c zero = []
up_from c (suc n) = c ∷ up_from (c + 1) n

kinds : map kind_of (up_from 1 73) ≡
    invalid ∷ invalid ∷ limit ∷ invalid ∷ invalid ∷ invalid ∷ invalid ∷ invalid ∷ invalid ∷ invalid ∷
    invalid ∷ limit ∷ invalid ∷ limit ∷ limit ∷ invalid ∷ invalid ∷ invalid ∷ invalid ∷ invalid ∷
    invalid ∷ invalid ∷ invalid ∷ invalid ∷ invalid ∷ invalid ∷ limit ∷ invalid ∷ invalid ∷ strings ∷
    limit ∷ strings ∷ strings ∷ strings ∷ debug ∷ limit ∷ debug ∷ debug ∷ debug ∷ ownership ∷
    ownership ∷ ownership ∷ ownership ∷ ownership ∷ ownership ∷ ownership ∷ ownership ∷ ownership ∷ ownership ∷ ownership ∷
    ownership ∷ ownership ∷ ownership ∷ ownership ∷ ownership ∷ ownership ∷ ownership ∷ ownership ∷ ownership ∷ ownership ∷
    added ∷ added ∷ truncated ∷ name ∷ limit ∷ added ∷ added ∷ added ∷ added ∷ added ∷
    signature ∷ signature ∷ limit ∷ []
unfolding up_from kind_of among
kinds = refl
