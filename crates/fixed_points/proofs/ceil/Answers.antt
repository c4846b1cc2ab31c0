use borrow.Author.Rules.{rules}
use mathlib.Core.Path.{sym}
use mir.Facts.{Fits-div}
use Rattle.responses.proofs.Sums.{ceiling_one, ceiling_is}
use Rattle.fixed_points.proofs.ceil.Goals as goal

pub returns-then-x-p : goal.returns-then-x-p
returns-then-x-p c = sym (ceiling_one c.args.x c.args.p c.requires.0 c.if-x-p.true)

pub overflow_cast-result-3 : goal.overflow_cast-result-3
overflow_cast-result-3 c = Fits-div _ (search rules)

pub returns : goal.returns
returns c = sym (ceiling_is c.args.x c.args.p c.requires.2)
