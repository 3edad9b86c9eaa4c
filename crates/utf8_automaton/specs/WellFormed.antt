-- Whether bytes are well-formed UTF-8.
use Rattle.std.specs.Prelude.{Bool, true, false}
use Rattle.utf8.specs.Utf8.{Decoded, points, ill}

abbrev pub is_points : Decoded → Bool
is_points (points cs) = true
is_points ill = false
