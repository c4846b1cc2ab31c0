use Rattle.std.proofs.Common.{arith}
use Rattle.text.proofs.Decimals.{decimal_places}
use Rattle.text.proofs.writers.places.Goals as goal

pub returns : goal.returns
returns c = decimal_places c.args.n c.ilog10.result (omega arith) (omega arith)
