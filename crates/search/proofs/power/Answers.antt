use mathlib.Core.Path.{◌≡◌, ◌∙◌}
use Prim.Native.Nat.{◌*◌, ◌^◌}
use native.Mathlib.Omega.{arith}
use lib.Dec.{lit<}
use lib.Pow.{shl_exact}
use Rattle.search.proofs.power.Goals as goal

pub returns : goal.returns
returns c =
    let i = c.args.i in
    let e : 1 * 2 ^ i ≡ 2 ^ i = omega arith in
    shl_exact {a = 1} 1 i 64 (lit< tt) (omega arith) ∙ e
