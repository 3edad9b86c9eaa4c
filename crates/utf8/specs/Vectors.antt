-- Texts at the edges of Table 3-7 and of the control characters, with what they are, and blocks of characters there and back:
-- theorems that compute.
use Rattle.std.specs.Prelude.{◌≡◌, refl, ℕ, zero, suc, ◌+◌, List, [], ◌∷◌, ◌++◌, map, true, false}
use Rattle.utf8.specs.Utf8.{Decoded, points, ill, decode, decode_from, step_of, lead_of, later_of, table, is_control}
use Rattle.utf8.specs.Encoding.{encode}

-- ---- Bytes and their code points, a row's first and last character on each side of its edges
data Case : Type 0 where
  case : List ℕ → Decoded → Case

given : Case → Decoded
given (case s d) = decode s

due : Case → Decoded
due (case s d) = d

one : ℕ → Decoded
one c = points (c ∷ [])

edges : List Case
edges =
    case [] (points []) ∷
    -- 00..7F
    case (0x00 ∷ []) (one 0x00) ∷
    case (0x7F ∷ []) (one 0x7F) ∷
    case (0x80 ∷ []) ill ∷
    case (0xBF ∷ []) ill ∷
    -- C2..DF 80..BF; C0 and C1 are overlong
    case (0xC0 ∷ 0x80 ∷ []) ill ∷
    case (0xC1 ∷ 0xBF ∷ []) ill ∷
    case (0xC2 ∷ 0x7F ∷ []) ill ∷
    case (0xC2 ∷ 0x80 ∷ []) (one 0x80) ∷
    case (0xC2 ∷ 0xA0 ∷ []) (one 0xA0) ∷
    case (0xDF ∷ 0xBF ∷ []) (one 0x7FF) ∷
    case (0xDF ∷ 0xC0 ∷ []) ill ∷
    case (0xDF ∷ []) ill ∷
    -- E0 A0..BF 80..BF
    case (0xE0 ∷ 0x80 ∷ 0x80 ∷ []) ill ∷
    case (0xE0 ∷ 0x9F ∷ 0xBF ∷ []) ill ∷
    case (0xE0 ∷ 0xA0 ∷ 0x80 ∷ []) (one 0x800) ∷
    case (0xE0 ∷ 0xBF ∷ 0xBF ∷ []) (one 0xFFF) ∷
    -- E1..EC 80..BF 80..BF
    case (0xE1 ∷ 0x7F ∷ 0x80 ∷ []) ill ∷
    case (0xE1 ∷ 0x80 ∷ 0x80 ∷ []) (one 0x1000) ∷
    case (0xE2 ∷ 0x80 ∷ 0xA8 ∷ []) (one 0x2028) ∷
    case (0xE2 ∷ 0x82 ∷ []) ill ∷
    case (0xEC ∷ 0xBF ∷ 0xBF ∷ []) (one 0xCFFF) ∷
    case (0xEC ∷ 0xBF ∷ 0xC0 ∷ []) ill ∷
    -- ED 80..9F 80..BF; ED A0..BF are surrogates
    case (0xED ∷ 0x80 ∷ 0x80 ∷ []) (one 0xD000) ∷
    case (0xED ∷ 0x9F ∷ 0xBF ∷ []) (one 0xD7FF) ∷
    case (0xED ∷ 0xA0 ∷ 0x80 ∷ []) ill ∷
    case (0xED ∷ 0xBF ∷ 0xBF ∷ []) ill ∷
    -- EE..EF 80..BF 80..BF
    case (0xEE ∷ 0x80 ∷ 0x80 ∷ []) (one 0xE000) ∷
    case (0xEF ∷ 0xBB ∷ 0xBF ∷ []) (one 0xFEFF) ∷
    case (0xEF ∷ 0xBF ∷ 0xBF ∷ []) (one 0xFFFF) ∷
    -- F0 90..BF 80..BF 80..BF
    case (0xF0 ∷ 0x80 ∷ 0x80 ∷ 0x80 ∷ []) ill ∷
    case (0xF0 ∷ 0x8F ∷ 0xBF ∷ 0xBF ∷ []) ill ∷
    case (0xF0 ∷ 0x90 ∷ 0x80 ∷ 0x80 ∷ []) (one 0x10000) ∷
    case (0xF0 ∷ 0xBF ∷ 0xBF ∷ 0xBF ∷ []) (one 0x3FFFF) ∷
    -- F1..F3 80..BF 80..BF 80..BF
    case (0xF1 ∷ 0x80 ∷ 0x80 ∷ 0x80 ∷ []) (one 0x40000) ∷
    case (0xF3 ∷ 0xBF ∷ 0xBF ∷ 0xBF ∷ []) (one 0xFFFFF) ∷
    case (0xF3 ∷ 0xBF ∷ 0xBF ∷ []) ill ∷
    -- F4 80..8F 80..BF 80..BF; what comes after is past U+10FFFF
    case (0xF4 ∷ 0x80 ∷ 0x80 ∷ 0x80 ∷ []) (one 0x100000) ∷
    case (0xF4 ∷ 0x8F ∷ 0xBF ∷ 0xBF ∷ []) (one 0x10FFFF) ∷
    case (0xF4 ∷ 0x90 ∷ 0x80 ∷ 0x80 ∷ []) ill ∷
    case (0xF5 ∷ 0x80 ∷ 0x80 ∷ 0x80 ∷ []) ill ∷
    case (0xFE ∷ []) ill ∷
    case (0xFF ∷ []) ill ∷
    -- several characters: U+0047, U+00FC, U+4E16, U+1D11E
    case (0x47 ∷ 0xC3 ∷ 0xBC ∷ 0xE4 ∷ 0xB8 ∷ 0x96 ∷ 0xF0 ∷ 0x9D ∷ 0x84 ∷ 0x9E ∷ []) (points (0x47 ∷ 0xFC ∷ 0x4E16 ∷ 0x1D11E ∷ [])) ∷
    case (0x01 ∷ 0xFF ∷ []) ill ∷ []

table_edges : map given edges ≡ map due edges
unfolding edges given due one decode decode_from step_of lead_of later_of table
table_edges = refl

-- ---- Control characters: both ends of both ranges, and their neighbours
control_edges :
    map is_control (0x00 ∷ 0x1F ∷ 0x20 ∷ 0x7E ∷ 0x7F ∷ 0x80 ∷ 0x85 ∷ 0x9F ∷ 0xA0 ∷ 0x2028 ∷ 0xFEFF ∷ 0xFFFF ∷ [])
    ≡ true ∷ true ∷ false ∷ false ∷ true ∷ true ∷ true ∷ true ∷ false ∷ false ∷ false ∷ false ∷ []
unfolding is_control
control_edges = refl

-- ---- Characters encoded and decoded again: the first of some blocks and the characters at the edges of each number of bytes
up_from : ℕ → ℕ → List ℕ
up_from c zero = []
up_from c (suc n) = c ∷ up_from (c + 1) n

blocks : List ℕ
blocks = up_from 0x00 0x180 ++ up_from 0x7F0 0x20 ++ up_from 0xD7F0 0x10 ++ up_from 0xE000 0x10 ++ up_from 0xFFF0 0x20 ++ up_from 0x10FFF0 0x10

back : ℕ → Decoded
back c = decode (encode c)

there_and_back : map back blocks ≡ map one blocks
unfolding blocks up_from back one encode decode decode_from step_of lead_of later_of table
there_and_back = refl
