-- From the code's types to the definitions' types.
use Rattle.std.specs.Prelude.{ℕ, ◌≤◌, ◌<◌, ◌≡◌, List, length, drop, Option, Some, None, Result, Ok, Err}
use Rattle.utf8.specs.Utf8.{Part, decode, decode_from}
use Rattle.utf8.specs.Scan as scan
use Rattle.utf8.specs.declared.Char.{Char}
use Rattle.utf8.specs.declared.Scanned.{Scanned}
use Rattle.utf8.specs.declared.Utf8.{Utf8}
use Rattle.utf8.specs.declared.Utf8Error.{Utf8Error}
use Rattle.utf8.specs.declared.Utf8Error.TheVariants.{NotUtf8, Cut}

-- a part of a character: how many bytes are due, the range of the next, and the bits so far
abbrev pub part : ℕ → ℕ → ℕ → ℕ → Part
part due low high point = record { due = due; low = low; high = high; point = point }

-- a character and the text after it
abbrev pub char_then : List ℕ → Option Char → scan.Scanned
char_then s (Some c) = scan.joined 1 c.control (scan.scan_of (decode (drop c.next s)))
char_then s None = scan.not_utf8

-- a character that was read ends after its start and within the bytes
abbrev pub Within : ℕ → List ℕ → Option Char → Type 0
Within at s (Some c) = (at < c.next) × (c.next ≤ length s)
Within at s None = Unit {0}

-- what the bytes from a place on are, after a part of a character
pub record Reads (s : List ℕ) (at : ℕ) (p : Part) (r : Option Char) : Type 0 where
  pub told : char_then s r ≡ scan.scan_of (decode_from p (drop at s))
  pub within : Within at s r

abbrev pub scanned_out : Option Scanned → scan.Scanned
scanned_out (Some x) = scan.text x.chars x.control
scanned_out None = scan.not_utf8

abbrev pub utf8_out : Result Utf8 Utf8Error → scan.Utf8
utf8_out (Ok x) = scan.whole (scan.text x.chars x.control) x.next
utf8_out (Err (NotUtf8 next)) = scan.whole scan.not_utf8 next
utf8_out (Err Cut) = scan.cut
