-- The loads are those of the rows of the rest of the set.
use Rattle.std.proofs.Common.{◌≡◌, ℕ, ◌-◌, ◌^◌, Bool, List, sym, ap, ◌∙◌, arith}
use Rattle.std.specs.Prelude.{Option, Some, None}
use Rattle.rows.specs.Rows.{Row, row_at, in_range}
use Rattle.responses.specs.declared.Load.{Load}
use Rattle.responses.specs.Figures.{blocking, is_stable}
use Rattle.analysis.specs.inside.Above.{Filled, StableSaid}
use Rattle.rows.specs.inside.Lent.{table_of}
use Rattle.rows.proofs.LentRows.{table_at}
use Rattle.rows.proofs.Limits.{all_times}
use Rattle.responses.proofs.Blocking.{blocking_max}
use Rattle.search.specs.inside.Search.{FitsSaid}
use Rattle.search.specs.inside.Sets.{members, others}
use Rattle.search.proofs.LentRows.{ranged}
use Rattle.search.proofs.Gathering.{some_pass}
use Rattle.search.proofs.Search.stable_under.Goals as goal

pub stable_under-requires : goal.stable_under-requires
stable_under-requires g c =
    let a = c.args in
    let p = a.self.now.lent in
    let table = table_of a.self.now.rows.now in
    let found = rw c.power.ensures at c.gather-count.ensures.gathered in
    let above = members (a.m - 2 ^ a.i) table in
    let below = others a.m table in
    record {
      is_in_range = ranged p a.i c.requires.0;
      rows = above;
      few = omega (arith, found.counted, found.few, p.table.few);
      filled = found.filled;
      times_are_in_range = all_times above (some_pass in_range 1 (a.m - 2 ^ a.i) table p.table.is_in_range);
      below = below;
      blocked_is = c.requires.2;
      blocked_max = omega (
        arith,
        c.requires.2,
        blocking_max below (some_pass in_range 0 a.m table p.table.is_in_range),
      );
    }

-- what is said of the loads is said of the rows
said : (table : List Row) (m i : ℕ) (t : Row) (blocked : ℕ) (worst best : List Load) (r : Option Bool)
    → row_at table i ≡ t → Filled (members (m - 2 ^ i) table) worst best → blocked ≡ blocking (others m table)
    → StableSaid t blocked worst best r → FitsSaid table m i r
said table m i t blocked worst best None e f b s = s
said table m i t blocked worst best (Some x) e f b s =
    s (members (m - 2 ^ i) table) (others m table) f b
    ∙ sym (ap (λ (u : Row). is_stable u (members (m - 2 ^ i) table) (others m table)) e)

pub returns-clause-fits : goal.returns-clause-fits
returns-clause-fits g c =
    let a = c.args in
    let found = rw c.power.ensures at c.gather-count.ensures.gathered in
    said (table_of a.self.now.rows.now) a.m a.i _ a.blocked _ _ c.stable_under.result
    (table_at a.self.now.rows.now a.i c.requires.0) found.filled c.requires.2 c.stable_under.ensures.says
