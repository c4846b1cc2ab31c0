-- The measure is the number of rows in the set.
use Rattle.std.proofs.Common.{length}
use Rattle.search.proofs.Search.+rebuild.Given as goal

abbrev pub decreases-rebuild : goal.decreases-rebuild
decreases-rebuild g l = length l.tasks.now
