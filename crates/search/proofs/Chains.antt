-- The order read off the record. The record is closed, so a set that it has, with an order, has a chain: its lowest
-- row, that of the rest, and so on. The tasks along the chain are the order's.
use mathlib.Core.Path.{◌≡◌, refl, ap, ap₂, sym, ◌∙◌}
use mathlib.Core.Bool.{true}
use mathlib.Core.Option.{some}
use mathlib.Core.List.{List, [], ◌∷◌, ◌++◌, append-nil}
use Prim.Native.Nat.{ℕ, zero, suc, ◌-◌, ◌/◌, ◌%◌, ◌^◌, ◌<◌}
use native.Mathlib.Decide.{ℕ_discrete}
use native.Mathlib.Omega.{arith}
use lib.ListN.{length, get_or, set, drop, length-append}
use lib.Pow.{pow_pos}
use lib.Seq.{drop-length}
use Rattle.rows.specs.Rows.{Row}
use Rattle.rows.specs.Rows.{max_tasks, in_range, row_at, tasks_of}
use Rattle.rows.specs.inside.Numbers.{row_from}
use Rattle.rows.specs.inside.Lent.{table_of, lent_row}
use Rattle.rows.proofs.Tasks.{tasks_last}
use Rattle.rows.proofs.Arrays.{front_next}
use Rattle.rows.proofs.LentRows.{table_at}
use Rattle.analysis.proofs.Found.{map_long}
use Rattle.orders.specs.Orders.{the_order}
use Rattle.search.specs.inside.Sets.{members, is_some, order_at, Known, Recorded}
use Rattle.orders.specs.Stability.{stable}
use Rattle.search.specs.inside.Search.{Lent, Chained, chain_tasks}
use Rattle.orders.proofs.Possible.{taken_length}
use Rattle.search.proofs.Sets.{less_row, taken_at, no_members, all_members, some_member}
use Rattle.search.proofs.LentRows.{small, a_set, few_rows, ranged}
use Rattle.search.proofs.Scan.{at_empty}
use Rattle.search.proofs.Record.{says_lowest}

-- ---- along the chain of a set that is not empty
module _ (rows : List (List ℕ)) (sets : List ℕ) where
  -- its lowest row, and the rest
  pub row_of :
      (m k : ℕ) →
      0 < k →
      Chained rows sets k m →
      let i = get_or sets m 0 in
      (i < max_tasks)
      × (i < length rows)
      × (in_range (lent_row rows i) ≡ true)
      × (m / 2 ^ i % 2 ≡ 1)
      × Chained rows sets (k - 1) (m - 2 ^ i)
  row_of m zero l c = absurd (omega arith)
  row_of m (suc k) l c = let e : suc k - 1 ≡ k = omega arith in rw e c

  pub chain_length : (k m : ℕ) → length (chain_tasks rows sets k m) ≡ k
  chain_length zero m = refl
  chain_length (suc k) m =
      let i = get_or sets m 0 in
      let above = chain_tasks rows sets k (m - 2 ^ i) in
      omega (arith, length-append above ((lent_row rows i).task ∷ []), chain_length k (m - 2 ^ i))

  -- the lowest row's task goes below those of the rest, in the last place
  pub chain_lowest :
      (m k : ℕ) (above tasks : List ℕ) (task : ℕ) →
      0 < k →
      length tasks ≡ k →
      let i = get_or sets m 0 in
      task ≡ (lent_row rows i).task →
      above ≡ chain_tasks rows sets (k - 1) (m - 2 ^ i) →
      set (above ++ drop (k - 1) tasks) (k - 1) task ≡ chain_tasks rows sets k m
  chain_lowest m zero above tasks task more many is h = absurd (omega arith)
  chain_lowest m (suc k) above tasks task more many is h =
      let e : suc k - 1 ≡ k = omega arith in
      let i = get_or sets m 0 in
      let rest = chain_tasks rows sets k (m - 2 ^ i) in
      let last = (lent_row rows i).task ∷ [] in
      let whole : above ≡ rest = rw e at h in
      rw (is, e, whole)
      (front_next 0 rest tasks k (lent_row rows i).task (chain_length k (m - 2 ^ i)) (omega (arith, many))
      ∙ ap (λ (j : ℕ). (rest ++ last) ++ drop j tasks) (sym many)
      ∙ ap (λ (l : List ℕ). (rest ++ last) ++ l) (drop-length tasks)
      ∙ append-nil (rest ++ last))

-- ---- the chain of a set that has an order, and is in the record
module _ (rows : List (List ℕ)) (lent : Lent rows) (sets : List ℕ) (rec : Recorded stable (table_of rows) sets) where
  abbrev table : List Row
  table = table_of rows

  chain_of :
      (k m : ℕ) (os : List Row) →
      length (members m table) ≡ k →
      m < 2 ^ length rows →
      Known stable table sets m →
      order_at stable table m ≡ some os →
      Chained rows sets k m × (chain_tasks rows sets k m ≡ tasks_of os)
  chain_of zero m os e l h o = elim (ℕ_discrete m 0) [
    | yes z ↦
        let empty : [] ≡ os = cc (at_empty the_order stable table, ap (order_at stable table) z) in
        (z, ap tasks_of empty)
    | no z ↦ absurd (omega (arith, (some_member table m z (a_set lent m l)).1))
  ]
  chain_of (suc k) m os e l h o =
      let i = get_or sets m 0 in
      let some_row : m ≡ 0 → ⊥ =
      λ z. omega (arith, ap (λ (j : ℕ). length (members j table)) z, ap length (no_members table)) in
      let low = says_lowest stable table (small lent) m i (h some_row) (ap is_some o) in
      let row : i < length rows = omega (arith, low.in_table, map_long row_from rows) in
      let taken = taken_at 1 table i m (m - 2 ^ i) low.in_table (less_row i m low.in_set).0 in
      let is = sym (table_at rows i row) in
      let there = rec.closed m (a_set lent m l) low in
      let rest = chain_of k (m - 2 ^ i) low.above (omega (arith, taken_length taken)) (omega arith) there low.above_is in
      let whole : low.above ++ (row_at table i ∷ []) ≡ os = cc (low.order_is) in (
        (omega (arith, row, few_rows lent), row, ranged lent i row, low.in_set, rest.0),
        ap₂ (λ (ts : List ℕ) (r : Row). ts ++ (r.task ∷ [])) rest.1 is
            ∙ sym (tasks_last low.above (row_at table i)) ∙ ap tasks_of whole,
      )

  -- of the whole table
  pub chain :
      (all : ℕ) (os : List Row) →
      all ≡ 2 ^ length rows - 1 →
      Known stable table sets all →
      order_at stable table all ≡ some os →
      Chained rows sets (length rows) all × (chain_tasks rows sets (length rows) all ≡ tasks_of os)
  chain all os e =
      let many = map_long row_from rows in
      let whole : all ≡ 2 ^ length table - 1 = e ∙ ap (λ (k : ℕ). 2 ^ k - 1) (sym many) in
      let full = ap (λ (m : ℕ). length (members m table)) whole ∙ ap length (all_members table) ∙ many in
      chain_of (length rows) all os full (omega (arith, pow_pos (length rows)))
