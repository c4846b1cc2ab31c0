use Prim.Native.Nat.{ℕ}
use native.Mathlib.Omega.{arith}
use lib.ListN.{length-set}
use Rattle.std.proofs.lemmas.Result.{err_from_is_err_and}
use Rattle.watches.proofs.Numbers.{reading_starts, reading_on, reading_stops, reading_ends}
use Rattle.watches.proofs.lines.read_numbers.Goals as goal

pub loop-m-init : goal.loop-m-init
loop-m-init c = reading_starts _ _ _ _ _ _ _

pub bounds-lines-lines : goal.bounds-lines-lines
bounds-lines-lines c = c.requires.readable.owned c.loop-m.m (omega arith)

pub returns-in_err-line : goal.returns-in_err-line
returns-in_err-line c =
    let p = err_from_is_err_and c.from_residual.result c.from_residual.ensures.1 in
    rw (p.1, p.2) (reading_stops _ _ _ _ _ _ c.loop-m.invariant (omega arith) _ c.in_err-line.ensures _
    (omega (arith, length-set {A = ℕ})))

pub loop-m-preserved : goal.loop-m-preserved
loop-m-preserved c = reading_on _ _ _ _ _ _ c.loop-m.invariant (omega arith) c.in_ok-line.line c.in_ok-line.ensures

pub returns : goal.returns
returns c = reading_ends _ _ _ _ _ _ c.loop-m.invariant (omega arith)
