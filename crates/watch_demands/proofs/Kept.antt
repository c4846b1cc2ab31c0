-- A run that is watched is one of which demand 3 speaks: each of its jobs takes from its row's best to its worst and
-- the
-- switch. So each that is printed keeps the lines of the order's plan.
use mathlib.Core.Path.{◌≡◌, refl, sym, subst, ◌∙◌}
use mathlib.Core.Bool.{Bool}
use mathlib.Core.List.{List, [], ◌∷◌}
use mathlib.Core.Logic.{inl, inr}
use Prim.Native.Nat.{ℕ, zero, suc, ◌+◌, ◌*◌, ◌≤◌, ◌<◌}
use native.Mathlib.Omega.{arith}
use native.Mathlib.Nat.{le_refl}
use lib.ListN.{length, get_or, get_or-eq_default}
use Rattle.basics.proofs.Tests.{le-or-lt}
use Rattle.rows.specs.Rows.{row_at, cost}
use Rattle.rows.specs.Rows.{Row}
use Rattle.responses.specs.Claims.{NoneHolds}
use Rattle.boards.specs.Boards.{Done}
use Rattle.boards.specs.Claims.{LastsInRange, Finishes}
use Rattle.boards.specs.Witnesses.{never}
use Rattle.boards.proofs.Document01.{same_board}
use Rattle.demands.specs.Demands.{Promised}
use Rattle.watch_demands.specs.Jobs.{index_of, rank_with, length_of, Indexed}
use Rattle.watch_demands.specs.Runs.{finished_by, FinishedWithin}
use Rattle.watch_demands.specs.Demands.{RunKept}
use Rattle.watch_demands.proofs.Finished.{finished_only}

-- a number within a list, whatever stands past its end
get_d_any : (l : List ℕ) (i a b : ℕ) → i < length l → get_or l i a ≡ get_or l i b
get_d_any [] i a b h = absurd (omega arith)
get_d_any (x ∷ l) zero a b h = refl
get_d_any (x ∷ l) (suc i) a b h = get_d_any l i a b (omega arith)

module _ (order : List Row) (offset : ℕ → ℕ) (lengths : List ℕ) where
  abbrev need : ℕ → ℕ → ℕ
  need = length_of order offset lengths

  -- each length suits the rank with its index, so it suits its own job
  pub lasts : Indexed order offset
      → ((i : ℕ) → i < length order → (row_at order i).best ≤ cost (row_at order i))
      → ((m : ℕ) → m < length lengths
      → let r = row_at order (rank_with order offset m) in
      (r.best ≤ get_or lengths m 0) × (get_or lengths m 0 ≤ cost r))
      → LastsInRange order need
  lasts indexed sane suits i k l =
      let m = index_of order offset i k in
      let most = cost (row_at order i) in
      elim (le-or-lt (length lengths) m) [
        | inl h ↦ rw (get_or-eq_default lengths most h) (sane i l, le_refl most)
        | inr h ↦
            rw (get_d_any lengths m most 0 h)
            (subst (λ j. ((row_at order j).best ≤ get_or lengths m 0) × (get_or lengths m 0 ≤ cost (row_at order j)))
            (indexed.rank_is i k l) (suits m h))
      ]

  pub given : (i k : ℕ) → index_of order offset i k < length lengths
      → need i k ≡ get_or lengths (index_of order offset i k) 0
  given i k l = get_d_any lengths (index_of order offset i k) (cost (row_at order i)) 0 l

  pub past : (i k : ℕ) → length lengths ≤ index_of order offset i k
      → need i k ≡ (row_at order i).worst + (row_at order i).switch
  unfolding cost
  past i k l = get_or-eq_default lengths (cost (row_at order i)) l

  -- with no hold a run is the same whatever it says of stretches
  pub finished_same : NoneHolds order → (keeps : ℕ → Bool) (ticks : ℕ) (ds : List Done)
      → FinishedWithin order offset need keeps ticks ds → ds ≡ finished_by order offset lengths ticks
  finished_same none keeps ticks ds w =
      finished_only order offset need keeps ticks ds w
      ∙ ((same_board order offset need keeps).same_finished none ticks
      ∙ sym ((same_board order offset need never).same_finished none ticks))

  pub run_kept : Promised order → LastsInRange order need → (keeps : ℕ → Bool) (ticks : ℕ) (ds : List Done)
      → FinishedWithin order offset need keeps ticks ds → RunKept order offset lengths ds
  run_kept promised is_in_range keeps ticks ds w =
      let k = promised.kept offset need keeps is_in_range in
      let runs = promised.by_rules offset need keeps is_in_range in
      record {
        in_time = λ i r f e.
            let done = ((w.these i r f).0 e).0 in
            let job = runs.a_job i r f done in
            let release : r ≡ offset i + job.1.0 * (row_at order i).period = job.1.1 in
            let t = k.in_time i job.1.0 job.0 in
            let same = k.once i r f t.0 job.0 done
            (subst (λ x. Finishes order offset need keeps i x t.0) (sym release) t.3) in
            (omega (arith, t.1, same, release), omega (arith, t.2, same, release));
        not_early = λ i r f e started.
            let done = ((w.these i r f).0 e).0 in k.not_early i r f (runs.a_job i r f done).0 started done;
      }
