-- The largest hold of the rows at some positions: one row more counts with the rest.
use mathlib.Core.Path.{◌≡◌, refl, sym, ap, ◌∙◌}
use mathlib.Core.Bool.{Bool, true}
use mathlib.Core.List.{List, [], ◌∷◌, ◌++◌, map}
use Prim.Native.Nat.{ℕ, zero, suc, ◌+◌, ◌≤◌, ◌<◌}
use native.Mathlib.Numerals.{add-one}
use native.Mathlib.Omega.{arith}
use lib.ListN.{length, get_or, set, take, drop, drop_of_length-le}
use lib.Seq.{drop-cons, take-suc, length-take-le}
use Rattle.basics.specs.Basics.{larger}
use Rattle.basics.proofs.Numbers.{larger_right, larger_assoc, larger_none}
use Rattle.rows.specs.Rows.{Row, all_rows}
use Rattle.rows.specs.inside.Lent.{lent_row, lent_rows}
use Rattle.rows.proofs.Arrays.{front_next}
use Rattle.rows.proofs.Limits.{head_passes, tail_passes}
use Rattle.responses.specs.declared.Load.{Load}
use Rattle.fixed_points.specs.inside.Loads.{no_load}
use Rattle.responses.specs.Figures.{largest_hold, blocking}
use Rattle.responses.proofs.Blocking.{blocking_is}

module _ (rows : List (List ℕ)) (ps : List ℕ) where
  abbrev pub largest_from : ℕ → ℕ
  largest_from k = largest_hold (lent_rows rows (drop k ps))

  hold_more : (k : ℕ) → k < length ps
      → largest_from k ≡ larger (lent_row rows (get_or ps k 0)).hold (largest_from (suc k))
  hold_more k h = ap (λ qs. largest_hold (lent_rows rows qs)) (drop-cons ps k 0 h)

  -- the largest of those before, with all to come
  pub largest_next : (k largest hold : ℕ) → k < length ps → hold ≡ (lent_row rows (get_or ps k 0)).hold
      → larger largest (largest_from k) ≡ largest_from 0
      → larger (larger largest hold) (largest_from (suc k)) ≡ largest_from 0
  largest_next k largest hold h e is =
      larger_assoc largest hold (largest_from (suc k))
      ∙ ap (λ x. larger largest (larger x (largest_from (suc k)))) e
      ∙ ap (larger largest) (sym (hold_more k h))
      ∙ is

  -- with none to come
  pub all_passed : (k largest : ℕ) → length ps ≤ k → larger largest (largest_from k) ≡ largest_from 0
      → largest ≡ largest_hold (lent_rows rows ps)
  all_passed k largest h is =
      let none = ap (λ qs. largest_hold (lent_rows rows qs)) (drop_of_length-le ps {i = k} h) in
      sym (larger_none largest) ∙ ap (larger largest) (sym none) ∙ is

-- with nothing to wait for from the first row on, there is nothing behind it
pub none_behind : (rows : List Row) → 1 ≤ length rows → blocking rows ≡ 0 → blocking (drop 1 rows) ≡ 0
none_behind [] h e = absurd (omega arith)
none_behind (r ∷ rows) h e =
    let more = larger_right r.hold (largest_hold rows) in
    let here = sym (blocking_is (r ∷ rows)) ∙ e in
    blocking_is rows ∙ omega (arith, more, here)

-- ---- the loads of the rows at some positions
pub position_passes : (f : Row → Bool) (rows : List (List ℕ)) (ps : List ℕ) (k : ℕ) → k < length ps
    → all_rows f (lent_rows rows ps) ≡ true → f (lent_row rows (get_or ps k 0)) ≡ true
position_passes f rows [] k h all = absurd (omega arith)
position_passes f rows (p ∷ ps) zero h all = head_passes f (lent_row rows p) (lent_rows rows ps) all
position_passes f rows (p ∷ ps) (suc k) h all =
    position_passes f rows ps k (omega arith) (tail_passes f (lent_row rows p) (lent_rows rows ps) all)

module _ (load : Row → Load) (rows : List (List ℕ)) where
  abbrev loads : List ℕ → List Load
  loads ps = map load (lent_rows rows ps)

  loads_long : (ps : List ℕ) → length (loads ps) ≡ length ps
  loads_long [] = refl
  loads_long (p ∷ ps) = ap suc (loads_long ps)

  loads_last : (ps : List ℕ) (p : ℕ) → loads (ps ++ (p ∷ [])) ≡ loads ps ++ (load (lent_row rows p) ∷ [])
  loads_last [] p = refl
  loads_last (q ∷ ps) p = ap (λ ls. load (lent_row rows q) ∷ ls) (loads_last ps p)

  -- one more behind those that stand at the front
  pub loads_next : (ps : List ℕ) (before now : List Load) (k : ℕ) (x : Load) → k < length ps
      → length before ≡ length ps → x ≡ load (lent_row rows (get_or ps k 0))
      → now ≡ loads (take k ps) ++ drop k before
      → set now k x ≡ loads (take (k + 1) ps) ++ drop (k + 1) before
  loads_next ps before now k x h long e is =
      let many = loads_long (take k ps) ∙ length-take-le k ps (omega arith) in
      let more = ap loads (take-suc ps k 0 h) ∙ loads_last (take k ps) (get_or ps k 0) in
      rw (add-one k) (ap (λ ls. set ls k x) is
      ∙ front_next no_load (loads (take k ps)) before k x many (omega (arith, long))
      ∙ ap (λ y. (loads (take k ps) ++ (y ∷ [])) ++ drop (suc k) before) e
      ∙ ap (λ ls. ls ++ drop (suc k) before) (sym more))
