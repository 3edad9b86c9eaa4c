-- From the code's structs and enums to the definitions' types.
use Rattle.std.specs.Prelude.{ℕ, Option, Some, None, Result, Ok, Err}
use Rattle.local_format.specs.Refusal.{Refusal, refusal}
use Rattle.local_format.specs.Refusal as of
use Rattle.local_format.specs.Out.{Out, ok, refused}
use Rattle.local_format.specs.Field.{Field, whole, cut}
use Rattle.local_format.specs.Text.{Span}
use Rattle.local_format.specs.declared.refusal.Kind as kind
use Rattle.local_format.specs.declared.refusal.Kind.TheVariants.{Invalid, Limit, Strings, Debug, Ownership, Added, Truncated, Name, Signature}
use Rattle.local_format.specs.declared.refusal.Refusal as code
use Rattle.local_format.specs.declared.field.Field as code_field
use Rattle.local_format.specs.declared.text.Span as code_span

-- ---- Refusals
abbrev pub kind_out : kind.Kind → of.Kind
kind_out Invalid = of.invalid
kind_out Limit = of.limit
kind_out Strings = of.strings
kind_out Debug = of.debug
kind_out Ownership = of.ownership
kind_out Added = of.added
kind_out Truncated = of.truncated
kind_out Name = of.name
kind_out Signature = of.signature

abbrev pub refusal_out : code.Refusal → Refusal
refusal_out r = record { kind = kind_out r.kind; number = r.number; offset = r.offset }

-- an answer of the code: its value by a map, or its refusal
abbrev pub answer_out : {T A : Type 0} → (T → A) → Result T code.Refusal → Out A
answer_out value (Ok x) = ok (value x)
answer_out value (Err r) = refused (refusal_out r)

-- the refusal that an answer holds
abbrev pub refusal_of : {A : Type 0} → Out A → Refusal
refusal_of (ok a) = refusal 0 0
refusal_of (refused r) = r

-- ---- Fields
abbrev pub field_out : {T : Type 0} → (T → ℕ) → Option (code_field.Field T) → Field
field_out number (Some f) = whole (record { value = number f.value; next = f.next })
field_out number None = cut

-- ---- Texts
abbrev pub span_out : code_span.Span → Span
span_out t = record { start = t.start; len = t.len; chars = t.chars; next = t.next }
