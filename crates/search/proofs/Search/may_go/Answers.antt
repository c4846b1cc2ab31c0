-- A row of which the rest of the set is known to have no order does not go lowest.
use Rattle.std.proofs.Common.{ℕ, ◌-◌, ◌^◌, ◌<◌, ap, sym, ◌∙◌, length, get_or, arith}
use Rattle.basics.proofs.Tests.{never}
use Rattle.rows.specs.inside.Lent.{table_of}
use Rattle.orders.specs.Stability.{stable}
use Rattle.search.proofs.Record.{goes_none, known_none}
use Rattle.search.proofs.LentRows.{small, a_set, recorded_of}
use Rattle.search.proofs.Search.may_go.Goals as goal

pub returns-then-self-m-clause-goes : goal.returns-then-self-m-clause-goes
returns-then-self-m-clause-goes g c =
    let a = c.args in
    let x = a.self.now in
    let table = table_of x.rows.now in
    let rest : a.m - 2 ^ a.i < 2 ^ length x.rows.now = omega (arith, c.requires.0) in
    let byte = ap (λ (k : ℕ). get_or x.sets (a.m - k) 0) (sym c.power.ensures) ∙ c.if-self-m.true in
    record {
      in_set = λ h. never h;
      passes = λ h. never h;
      goes_not = λ h. sym (goes_none stable table a.m a.i
          (known_none stable table (small x.lent) x.sets (recorded_of x.lent x.recorded) (a.m - 2 ^ a.i)
          (a_set x.lent (a.m - 2 ^ a.i) rest) byte));
    }
