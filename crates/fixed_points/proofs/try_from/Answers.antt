use Rattle.std.proofs.Common.{◌≡◌, ℕ, ◌≤◌, ◌<◌, List, arith}
use Rattle.responses.specs.declared.Load.{Load}
use Rattle.fixed_points.specs.inside.Values.{next_value, Searching}
use Rattle.fixed_points.proofs.Values.{moves, Reached, reached_first, stands, reached_next}
use Rattle.fixed_points.proofs.try_from.Goals as goal

pub loop-last-init : goal.loop-last-init
loop-last-init c =
    let a = c.args in
    reached_first a.first a.base a.limit a.tasks.loads.now c.requires.searching

pub next_value-next-requires : goal.next_value-next-requires
next_value-next-requires c = (omega (arith, c.loop-last.invariant.few), c.requires.base_bound, c.requires.limit_bound)

pub returns-then-next-last : goal.returns-then-next-last
returns-then-next-last c =
    let r = c.loop-last.invariant in
    record {
      last_is = r.value-is;
      ends = omega (arith, c.next_value-next.ensures, c.if-next-last.true);
      goes_on = r.moved;
    }

-- a turn that goes on does so from within the limit, and to a greater value
further : (first base limit : ℕ) (ls : List Load) (w k next : ℕ) → Searching base limit ls first
    → Reached first base limit ls w k → next ≡ next_value base limit ls w → (next ≡ w → ⊥)
    → (w ≤ limit) × (w < next)
further first base limit ls w k next s r is other =
    let on = moves base limit ls w (stands first base limit ls s w k r) (λ e. other (omega (arith, e, is))) in
    (on.0, omega (arith, on.1, is))

pub overflow_add-steps : goal.overflow_add-steps
overflow_add-steps c =
    let a = c.args in
    let x = c.loop-last in
    let on = further a.first a.base a.limit a.tasks.loads.now x.last x.steps _ c.requires.searching x.invariant
    c.next_value-next.ensures c.if-next-last.false in
    record { fits = omega (arith, on, x.invariant.few, c.requires.limit_bound) }

pub loop-last-smaller : goal.loop-last-smaller
loop-last-smaller c =
    let a = c.args in
    let x = c.loop-last in
    omega (
      arith,
      further a.first a.base a.limit a.tasks.loads.now x.last x.steps _ c.requires.searching x.invariant
          c.next_value-next.ensures c.if-next-last.false,
    )

pub loop-last-preserved : goal.loop-last-preserved
loop-last-preserved c =
    let a = c.args in
    let x = c.loop-last in
    let ls = a.tasks.loads.now in
    let on = further a.first a.base a.limit ls x.last x.steps _ c.requires.searching x.invariant
    c.next_value-next.ensures c.if-next-last.false in
    reached_next a.first a.base a.limit ls c.requires.searching x.last x.steps x.invariant _ c.next_value-next.ensures on.1
