-- The owners on the way: the first m are known, and each rank's next release stands in its column.
use mathlib.Core.Path.{◌≡◌, sym, ap, ◌∙◌}
use mathlib.Core.List.{List}
use mathlib.Core.Logic.{inl, inr}
use Prim.Native.Nat.{ℕ, ◌+◌, ◌*◌, ◌≤◌, ◌<◌}
use native.Mathlib.Omega.{arith}
use native.Mathlib.Nat.{not-suc-le-zero}
use native.Mathlib.Numerals.{add-one}
use lib.Dec.{eqb}
use lib.ListN.{length, get_or, set, length-set}
use lib.Seq.{get_or-set_same, get_or-set_other}
use borrow.Author.Tests.{eqb-true, eqb-false}
use Rattle.basics.proofs.Tests.{test_of}
use Rattle.rows.specs.Rows.{max_ticks, row_at}
use Rattle.rows.specs.Rows.{Row}
use Rattle.watch_demands.specs.Jobs.{release_of, rank_with}
use Rattle.watch_demands.proofs.Jobs.{rank_is}
use Rattle.watch_demands.specs.inside.Least.{LeastIs}
use Rattle.watch_demands.proofs.Merges.{bump, Merged, merged_none, merged_index, merged_next}
use Rattle.watch_runs.specs.inside.Owners.{rank_at, EarliestIs, Mergeable, Released, Owns}
use Rattle.watch_runs.specs.declared.steps.Rank.{Rank}
use Rattle.watch_runs.proofs.Lists.{set_each}

module _ (ranks : List Rank) where
  abbrev n : ℕ
  n = length ranks

  abbrev rank : ℕ → Rank
  rank = rank_at ranks

  -- of an order: the first m jobs, the next releases after them, and their owners
  pub record Counted (order : List Row) (offset : ℕ → ℕ) (owners nexts : List ℕ) (m : ℕ) : Type 0 where
    pub count : ℕ → ℕ
    pub merged : Merged order offset count m
    pub next_is : (j : ℕ) → j < n → get_or nexts j 0 ≡ release_of order offset j (count j)
    pub owner_is : (p : ℕ) → p < m → get_or owners p 0 ≡ rank_with order offset p

  pub record Merging (owners nexts : List ℕ) (m : ℕ) : Type 0 where
    pub next_max : (j : ℕ) → j < n → get_or nexts j 0 ≤ max_ticks * (m + 1)
    pub nexts_long : length nexts ≡ n
    pub within : (p : ℕ) → p < m → get_or owners p 0 < n
    pub merges : (order : List Row) (offset : ℕ → ℕ) → Released order offset ranks → Counted order offset owners nexts m

  pub merging_starts : {owners nexts : List ℕ} → Mergeable owners ranks → length nexts ≡ n
      → ((j : ℕ) → j < n → get_or nexts j 0 ≡ (rank j).offset) → Merging owners nexts 0
  merging_starts a long first = record {
    next_max = λ j l. omega (arith, a.offset_max j l, first j l);
    nexts_long = long;
    within = λ p l. absurd (not-suc-le-zero l);
    merges = λ order offset s. record {
      count = λ j. 0;
      merged = merged_none order offset;
      next_is = λ j l. omega (arith, s.offset_is j l, first j l);
      owner_is = λ p l. absurd (not-suc-le-zero l);
    };
  }

  module _
      {owners₀ owners nexts : List ℕ} {m r : ℕ} (a : Mergeable owners₀ ranks) (g : Merging owners nexts m)
      (more : m < length owners) (first : EarliestIs nexts r)
    where
      x : LeastIs n (λ j. get_or nexts j 0) r
      x = rw g.nexts_long at first

      abbrev next : ℕ
      next = get_or nexts r 0 + (rank r).period

      in_nexts : r < length nexts
      in_nexts = omega (arith, x.within, g.nexts_long)

      before : (q : ℕ) → q < m + 1 → (q ≡ m → ⊥) → q < m
      before q l h = omega (arith, h)

      module _ (order : List Row) (offset : ℕ → ℕ) (s : Released order offset ranks) where
        f : Counted order offset owners nexts m
        f = g.merges order offset s

        some : (j : ℕ) → j < length order → 1 ≤ (row_at order j).period
        some j l = s.period_some j (omega (arith, s.as_many))

        earliest : LeastIs (length order) (λ j. release_of order offset j (f.count j)) r
        earliest = record {
          within = omega (arith, x.within, s.as_many);
          least = λ j l.
              let b : j < n = omega (arith, s.as_many) in
              omega (arith, f.next_is r x.within, f.next_is j b, x.least j b);
          first = λ j l.
              omega (arith, f.next_is r x.within, f.next_is j (omega (arith, x.within, l)), x.first j l);
        }

        its_rank : r ≡ rank_with order offset m
        its_rank =
            sym (rank_is order offset some r (f.count r) earliest.within)
            ∙ ap (rank_with order offset) (merged_index order offset some f.merged r earliest)

        counted_on : Counted order offset (set owners m r) (set nexts r next) (m + 1)
        counted_on = record {
          count = bump r f.count;
          merged = rw (add-one m) (merged_next order offset some f.merged r earliest);
          next_is = λ j l. elim (test_of (eqb j r)) [
            | inl e ↦ rw (e, eqb-true j r e, get_or-set_same nexts r next 0 in_nexts)
                (omega (arith, f.next_is r x.within, s.period_is r x.within))
            | inr e ↦ rw (e, get_or-set_other nexts r j next 0 (eqb-false j r e)) (f.next_is j l)
          ];
          owner_is = λ q l. set_each (λ q v. v ≡ rank_with order offset q) owners m r more its_rank q
              (λ ne. f.owner_is q (before q l ne));
        }

      pub merging_on : Merging (set owners m r) (set nexts r next) (m + 1)
      merging_on = record {
        next_max = λ j l. set_each (λ j v. v ≤ max_ticks * (m + 1 + 1)) nexts r next in_nexts
            (omega (arith, g.next_max r x.within, a.period_max r x.within)) j
            (λ ne. omega (arith, g.next_max j l));
        nexts_long = length-set nexts r next ∙ g.nexts_long;
        within = λ q l. set_each (λ q v. v < n) owners m r more x.within q (λ ne. g.within q (before q l ne));
        merges = counted_on;
      }

  pub merging_ends : {owners nexts : List ℕ} {m : ℕ} → Merging owners nexts m → length owners ≤ m
      → Owns owners ranks
  merging_ends g done = record {
    within = λ q l. g.within q (omega arith);
    owned = λ order offset s q l. (g.merges order offset s).owner_is q (omega arith);
  }
