-- `curves::points_from` meets its contract: the first numbers, cut by two.
use mathlib.Core.Path.{ap, ◌∙◌}
use Prim.Native.Nat.{◌*◌}
use native.Mathlib.Omega.{arith}
use lib.Seq.{length-take-le}
use Rattle.curves.specs.Curves.{points_of}
use Rattle.curves.proofs.PointNumbers.{chunks_are}
use Rattle.curves.proofs.points_from.Goals as goal

pub returns-clause-points : goal.returns-clause-points
returns-clause-points c =
    let a = c.args in
    let long = length-take-le (2 * a.n) a.numbers.now c.requires in
    ap points_of c.as_chunks.ensures.front ∙ chunks_are a.n _ a.numbers.now (omega (arith, long))
