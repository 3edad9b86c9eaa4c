-- Where an entry of a table starts stands the row that it was read from: by induction along the trace of a table that was read.
use Prim.Native.Nat.{ℕ, zero, suc, ◌+◌, ◌*◌}
use mathlib.Core.Path.{◌≡◌, refl, ap, subst}
use mathlib.Core.List.{List}
use native.Mathlib.Omega.{arith}
use lib.ListN.{drop}
use Rattle.local_format.specs.Out.{Out, ok}
use Rattle.local_format.specs.Number.{numbered}
use Rattle.local_format.proofs.OutLaws.{never, ok_same}
use Rattle.evr0_section.specs.Rows.{Row, Entry}
use Rattle.evr0_section.proofs.RowsLaws.{Trace, none, more}

module _ {A S : Type 0} (row : S → List ℕ → Out (Row A S)) (p : List ℕ) where
  pub record Found (e : Entry A) : Type 0 where
    pub state : S
    pub read : Row A S
    pub reads : row state (drop e.start p) ≡ ok read
    pub item : read.item ≡ e.item

  pub trace_found : {n at end : ℕ} {u v : S} {es : List (Entry A)} → Trace row p n u at es v end → (i : ℕ) {e : Entry A} → numbered i es ≡ ok e → Found e
  unfolding numbered
  trace_found none i f = absurd (never f)
  trace_found (more {state = u} r e w) zero f = subst Found (ok_same f) (record { state = u; read = r; reads = e; item = refl })
  trace_found (more r e w) (suc i) f = trace_found w i f

  -- records of one size
  module _ (size : ℕ) (each : (u : S) (s : List ℕ) (r : Row A S) → row u s ≡ ok r → r.size ≡ size) where
    pub fixed_size : {n at end : ℕ} {u v : S} {es : List (Entry A)} → Trace row p n u at es v end → end ≡ at + size * n
    fixed_size none = omega arith
    fixed_size (more {at = at} {state = u} r e w) = omega (arith, each u (drop at p) r e, fixed_size w)

    pub fixed_start : {n at end : ℕ} {u v : S} {es : List (Entry A)} → Trace row p n u at es v end → (i : ℕ) {e : Entry A} → numbered i es ≡ ok e
        → e.start ≡ at + size * i
    unfolding numbered
    fixed_start none i f = absurd (never f)
    fixed_start (more {at = at} r e w) zero f = omega (arith, ap (λ (x : Entry A). x.start) (ok_same f))
    fixed_start (more {at = at} {state = u} r e w) (suc i) f = omega (arith, each u (drop at p) r e, fixed_start w i f)
