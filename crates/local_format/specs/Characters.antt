-- What the number of a text's characters is. Document 02, Slip 4.
use Rattle.std.specs.Prelude.{ℕ, ◌≡◌, List, length}
use Rattle.utf8.specs.Encoding.{Scalars, encodings}
use Rattle.local_format.specs.Text.{Span, bytes_at}

-- the bytes of the text t of s are the encodings of so many scalar values
pub record Characters (s : List ℕ) (t : Span) : Type 0 where
  pub points : List ℕ
  pub scalars : Scalars points
  pub bytes : bytes_at s t.start t.len ≡ encodings points
  pub number : t.chars ≡ length points
