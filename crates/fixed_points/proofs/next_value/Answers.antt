use mathlib.Core.Path.{sym, ap, ◌∙◌}
use Prim.Native.Nat.{ℕ, ◌+◌}
use native.Mathlib.Omega.{arith}
use Rattle.fixed_points.proofs.Loads.{interference_fits}
use Rattle.fixed_points.proofs.Values.{next_within, next_past}
use Rattle.fixed_points.proofs.next_value.Goals as goal

pub returns-then-limit-w : goal.returns-then-limit-w
returns-then-limit-w c =
    let a = c.args in
    let ls = a.tasks.loads.now in
    sym (next_past a.base a.limit a.w ls (omega (arith, c.if-limit-w.true)))

pub overflow_add-result : goal.overflow_add-result
overflow_add-result c =
    let f = interference_fits c.args.tasks.loads.now c.args.tasks.in_limits 0 c.args.w (omega arith) in
    record { fits = omega (arith, c.interference.ensures, f) }

pub returns : goal.returns
returns c =
    let a = c.args in
    let ls = a.tasks.loads.now in
    ap (λ (x : ℕ). a.base + x) c.interference.ensures
    ∙ sym (next_within a.base a.limit a.w ls (omega arith))
