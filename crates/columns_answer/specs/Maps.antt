-- From the code's answer to the definition's type.
use Rattle.std.specs.Prelude.{ℕ, Result}
use Rattle.local_format.specs.Out.{Out}
use Rattle.local_format.specs.Maps.{answer_out}
use Rattle.local_format.specs.declared.refusal.Refusal.{Refusal}

-- the length written, or a refusal
abbrev pub columns_out : Result ℕ Refusal → Out ℕ
columns_out answer = answer_out (λ n. n) answer
