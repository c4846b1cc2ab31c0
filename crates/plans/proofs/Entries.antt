-- The entry at a rank is that of its row between the rows before it and those after it; the first late rank is late and
-- those above it are not; and the entry of a row that is not late keeps its limits.
use mathlib.Core.Path.{◌≡◌, refl, sym, ap, ap₂, subst, ◌∙◌}
use mathlib.Core.Bool.{Bool, true, false}
use mathlib.Core.List.{List, [], ◌∷◌, ◌++◌, append-nil}
use mathlib.Core.Logic.{inl, inr}
use Prim.Native.Nat.{ℕ, zero, suc, ◌+◌, ◌*◌, ◌≤◌, ◌<◌}
use native.Mathlib.Nat.{mul-le-mul}
use native.Mathlib.Omega.{arith}
use lib.Dec.{ltb}
use lib.IntN.{ℤ, pos, negsuc, sub_ℕ, nat_abs}
use lib.ListN.{length, get_or, take, drop}
use lib.Seq.{append_snoc}
use borrow.Author.Tests.{ltb-true}
use Rattle.basics.proofs.Tests.{test_of, le-or-lt}
use Rattle.curves.specs.Curves.{curve_margin}
use Rattle.curves.specs.Claims.{max_margin}
use Rattle.rows.specs.Rows.{max_task, min_ticks, max_ticks, max_alpha, max_beta, in_range, all_rows, no_row}
use Rattle.rows.specs.Rows.{Row}
use Rattle.rows.proofs.Limits.{limits, in_range_times, all_times}
use Rattle.responses.specs.Figures.{rows_above, rows_below, earliest, latest, is_late, jitter, margin}
use Rattle.responses.specs.Claims.{spent, SameFigures}
use Rattle.responses.proofs.Conditions.{line_margin_lem, by_condition}
use Rattle.responses.proofs.Responses.{figured}
use Rattle.plans.specs.declared.Entry.{Entry}
use Rattle.plans.specs.Entries.{entry, entries_from, entries, late_from, first_late}

-- ---- by rank
pub entries_length : (above order : List Row) → length (entries_from above order) ≡ length order
entries_length above [] = refl
entries_length above (r ∷ rs) = ap suc (entries_length (above ++ (r ∷ [])) rs)

entry_from_lem : (above order : List Row) (i : ℕ) (d : Entry) → i < length order
    → get_or (entries_from above order) i d ≡ entry (get_or order i no_row) (above ++ take i order) (drop (suc i) order)
entry_from_lem above [] i d h = absurd (omega arith)
entry_from_lem above (r ∷ rs) zero d h = ap (λ (l : List Row). entry r l rs) (sym (append-nil above))
entry_from_lem above (r ∷ rs) (suc i) d h =
    entry_from_lem (above ++ (r ∷ [])) rs i d (omega arith)
    ∙ ap (λ (l : List Row). entry (get_or rs i no_row) l (drop (suc i) rs)) (append_snoc above r (take i rs))

pub entry_at_lem : (order : List Row) (i : ℕ) (d : Entry) → i < length order
    → get_or (entries order) i d ≡ entry (get_or order i no_row) (rows_above order i) (rows_below order i)
entry_at_lem order i d h = entry_from_lem [] order i d h

-- the same figures are the same entry
pub entry_same : (t : Row) (above above' below below' : List Row) → SameFigures t above above' below below'
    → entry t above below ≡ entry t above' below'
entry_same t above above' below below' same =
    ap₂ (λ (e w : ℕ). made e w (jitter t above below) (margin t above below)) same.earliest_same same.latest-same
    ∙ ap₂ (λ (j : ℕ) (m : ℤ). made (earliest t above' below') (latest t above' below') j m)
    same.jitter_same same.margin_same
  where
    made : ℕ → ℕ → ℕ → ℤ → Entry
    made e w j m = record { task = t.task; best = e; worst = w; jitter = j; margin = m }

-- ---- late ranks
-- rank i of an order under more rows
abbrev late_at : List Row → List Row → ℕ → Bool
late_at above order i = is_late (get_or order i no_row) (above ++ take i order) (drop (suc i) order)

-- the highest rank, and one below it
late_first : (above : List Row) (r : Row) (rs : List Row) → late_at above (r ∷ rs) 0 ≡ is_late r above rs
late_first above r rs = ap (λ (l : List Row). is_late r l rs) (append-nil above)

late_later : (above : List Row) (r : Row) (rs : List Row) (j : ℕ)
    → late_at above (r ∷ rs) (suc j) ≡ late_at (above ++ (r ∷ [])) rs j
late_later above r rs j =
    ap (λ (l : List Row). is_late (get_or rs j no_row) l (drop (suc j) rs)) (sym (append_snoc above r (take j rs)))

-- with no late rank, every task is in time
none_late : (k : ℕ) (above order : List Row) (i : ℕ) → late_from (suc k) above order ≡ 0 → i < length order
    → late_at above order i ≡ false
none_late k above [] i e h = absurd (omega arith)
none_late k above (r ∷ rs) i e h =
    elim (test_of (is_late r above rs)) [
      | inl t ↦ absurd (let z : suc k ≡ 0 = rw (t, late_from) at e in omega arith)
      | inr t ↦ at_rank i t (none_late (suc k) (above ++ (r ∷ [])) rs) h (rw (t, late_from) at e)
    ]
  where
    at_rank :
        (i : ℕ) → is_late r above rs ≡ false
        → ((j : ℕ) → late_from (suc (suc k)) (above ++ (r ∷ [])) rs ≡ 0 → j < length rs
        → late_at (above ++ (r ∷ [])) rs j ≡ false)
        → i < suc (length rs) → late_from (suc (suc k)) (above ++ (r ∷ [])) rs ≡ 0
        → late_at above (r ∷ rs) i ≡ false
    at_rank zero t ih l z = late_first above r rs ∙ t
    at_rank (suc j) t ih l z = late_later above r rs j ∙ ih j z (omega arith)

pub first_late_none : (order : List Row) → first_late order ≡ 0 → (i : ℕ) → i < length order
    → is_late (get_or order i no_row) (rows_above order i) (rows_below order i) ≡ false
first_late_none order e i h = none_late 0 [] order i e h

-- the first late rank: it is late, and no rank above it is
pub record FirstLate (above order : List Row) (i : ℕ) : Type 0 where
  pub there : i < length order
  pub late : late_at above order i ≡ true
  pub above_in_time : (j : ℕ) → j < i → late_at above order j ≡ false

late_some : (k : ℕ) (above order : List Row) (m : ℕ) → late_from k above order ≡ suc m
    → (i : ℕ) × (suc m ≡ k + i) × FirstLate above order i
late_some k above [] m e = absurd (omega arith)
late_some k above (r ∷ rs) m e =
    let ih = late_some (suc k) (above ++ (r ∷ [])) rs m in
    elim (test_of (is_late r above rs)) [
      | inl t ↦
          let is : k ≡ suc m = rw (t, late_from) at e in (
            0,
            omega arith,
            record {
              there = omega arith;
              late = late_first above r rs ∙ t;
              above_in_time = λ j h. absurd (omega arith);
            },
          )
      | inr t ↦
          let l = ih (rw (t, late_from) at e) in
          let at = l.0 in (
            suc at,
            omega (arith, l.1),
            record {
              there = omega (arith, l.2.there);
              late = late_later above r rs at ∙ l.2.late;
              above_in_time = λ j h. earlier j t at h l.2.above_in_time;
            },
          )
    ]
  where
    earlier :
        (j : ℕ) → is_late r above rs ≡ false → (at : ℕ) → j < suc at
        → ((j : ℕ) → j < at → late_at (above ++ (r ∷ [])) rs j ≡ false)
        → late_at above (r ∷ rs) j ≡ false
    earlier zero t at h f = late_first above r rs ∙ t
    earlier (suc j) t at h f = late_later above r rs j ∙ f j (omega arith)

pub first_late_some : (order : List Row) (i : ℕ) → first_late order ≡ suc i → FirstLate [] order i
first_late_some order i e =
    let l = late_some 1 [] order i e in
    let same : l.0 ≡ i = omega (arith, l.1) in
    subst (FirstLate [] order) same l.2

-- ---- limits
-- less is ever taken from beta than the steepest line takes of the most ticks
abbrev most_spent : ℕ
most_spent = max_alpha * max_ticks

-- a margin is at most beta's limit, and no further below 0 than what may be taken from it
abbrev pub MarginIn : ℤ → Type 0
MarginIn (pos v) = v ≤ max_beta
MarginIn (negsuc v) = suc v < most_spent

difference_in : (beta spent : ℕ) → beta ≤ max_beta → spent < most_spent → MarginIn (sub_ℕ beta spent)
difference_in beta spent most few = elim (test_of (ltb beta spent)) [
  | inl e ↦ rw e (omega (arith, ltb-true beta spent e))
  | inr e ↦ rw e (omega arith)
]

-- that of a curve is smaller than both
small_in : (m : ℤ) → nat_abs m ≤ max_margin → MarginIn m
small_in (pos v) h = omega (arith, h)
small_in (negsuc v) h = omega (arith, h)

-- the numbers of an entry; W is E and the jitter together
pub record InLimits (e : Entry) : Type 0 where
  pub task_in : e.task ≤ max_task
  pub best_in_lem : min_ticks ≤ e.best
  pub worst_in_lem : e.worst ≤ max_ticks
  pub jitter_is : e.best + e.jitter ≡ e.worst
  pub margin_in : MarginIn e.margin

pub entry_limits : (r : Row) (above below : List Row) → in_range r ≡ true → all_rows in_range above ≡ true
    → is_late r above below ≡ false → InLimits (entry r above below)
entry_limits r above below hr ha l =
    let limit = limits r hr in
    let f = figured r above below (in_range_times r hr) (all_times above ha) in
    let some : min_ticks ≤ earliest r above below = elim (le-or-lt 2 r.hold) [
      | inl h ↦ omega (arith, f.earliest_held h, limit.best.low_le)
      | inr h ↦ (f.earliest_fixed (omega arith) l).1
    ] in
    let most : latest r above below ≤ max_ticks = omega (arith, (f.latest_is l).2, limit.deadline.le_high) in
    let steep = mul-le-mul {n₁ = r.alpha} {m₁ = jitter r above below} {n₂ = max_alpha} {m₂ = jitter r above below}
    limit.alpha.le_high (omega arith) in
    record {
      task_in = limit.task.le_high;
      best_in_lem = some;
      worst_in_lem = most;
      jitter_is = f.jitter_is l;
      margin_in = elim (le-or-lt 1 (length r.curve)) [
        | inl points ↦
            let by = (by_condition r above below hr).by_curve points in
            subst MarginIn (sym by.margin_is)
            (small_in (curve_margin r.curve (latest r above below) (earliest r above below))
            (by.margined.small most (omega (arith, f.jitter_is l))))
        | inr none ↦
            subst MarginIn (sym (line_margin_lem r.alpha r.beta (latest r above below) (earliest r above below)
            r.curve (omega (arith, none))))
            (difference_in r.beta (spent r above below) limit.beta.le_high
            (omega (arith, steep, some, most, f.jitter_is l)))
      ];
    }
