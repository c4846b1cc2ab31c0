-- The w(q) of a row between the rows above and below it, and its busy interval: each w(q) is a least fixed point, so at
-- or below every window that has room for its jobs; W and late are those of equation 4; and the interval always ends.
use mathlib.Core.Path.{◌≡◌, refl, sym, ap, ◌∙◌, subst}
use mathlib.Core.Bool.{true, false}
use mathlib.Core.Logic.{◌⊎◌, inl, inr}
use mathlib.Core.List.{List, [], ◌∷◌, map}
use Prim.Native.Nat.{ℕ, suc, ◌+◌, ◌-◌, ◌*◌, ◌≤◌, ◌<◌}
use native.Mathlib.Nat.{le_refl, mul-le-mul_left, mul-le-mul_right, mul_comm, mul_assoc, mul-add, sub-zero}
use native.Mathlib.Omega.{arith}
use lib.Dec.{eqb}
use lib.ListN.{length}
use borrow.Author.Tests.{eqb-true, eqb-false, eq-eqb, ne_eqb}
use Rattle.basics.proofs.Tests.{test_of, le-or-lt}
use Rattle.rows.specs.Rows.{Row, max_ticks, cost, times_in_range, all_rows, row_at}
use Rattle.rows.proofs.Limits.{Times, times, head_passes, tail_passes}
use Rattle.responses.specs.declared.Load.{Load}
use Rattle.responses.specs.Interference.{ceiling, least_fixed}
use Rattle.responses.specs.BusyIntervals.{jobs_in, longest, longest_response}
use Rattle.responses.specs.Figures.{worst_load, worst_in, blocking, finish_of, latest, is_late}
use Rattle.responses.specs.Claims.{Equation4, NotFound, Divides, Ends, WithinPeriod}
use Rattle.responses.proofs.Sums.{ceiling_covers, ceiling_under, ceiling_some}
use Rattle.responses.proofs.FixedPoints.{fixed_below, demand_mono, least_fixed_lem, least_least}
use Rattle.responses.proofs.BusyIntervals.{Counts, some_jobs, jobs_least, goes_on, equation, not_found}
use Rattle.responses.proofs.BusyIntervals.{response_is, in_deadline, past_deadline, timely}
use Rattle.responses.proofs.BusyIntervals.{longest_covers, longest_one, latest_here, late_here}

-- ---- in a window x that is a multiple of every period: what each other window v brings is at least its share of that
multiple_own : (v x p n : ℕ) → 1 ≤ p → Divides p x → v ≤ n * p → v * ceiling x p ≤ n * x
multiple_own v x p n pos (k, is) h =
    let few : ceiling x p ≤ k = ceiling_under k x p pos (omega (arith, is)) in
    let more : v * k ≤ n * p * k = mul-le-mul_right k h in
    let same : n * p * k ≡ n * x = mul_assoc n p k ∙ ap (λ y. n * y) (mul_comm p k ∙ sym is) in
    omega (arith, mul-le-mul_left v few, more, same)

in_multiple : (v x : ℕ) (rs : List Row) → all_rows times_in_range rs ≡ true
    → ((i : ℕ) → i < length rs → Divides (row_at rs i).period x) → v * worst_in x rs ≤ x * worst_in v rs
in_multiple v x [] ok others = omega arith
in_multiple v x (r ∷ rs) ok others =
    let l = times r (head_passes times_in_range r rs ok) in
    let p = r.period in
    let a = ceiling x p - 0 in
    let b = ceiling v p - 0 in
    let pos : 1 ≤ p = omega (arith, l.best_some, l.best_cost, l.cost_period) in
    let covered : v ≤ b * p = rw (sub-zero (ceiling v p)) (ceiling_covers v p pos) in
    let one : v * a ≤ b * x = rw (sub-zero (ceiling x p)) (multiple_own v x p b pos (others 0 (omega arith)) covered) in
    let term : v * (a * cost r) ≤ x * (b * cost r) =
    omega (
      arith,
      mul-le-mul_right (cost r) one,
      mul_assoc v a (cost r),
      mul_assoc x b (cost r),
      ap (λ y. y * cost r) (mul_comm b x),
    ) in
    let rest = in_multiple v x rs (tail_passes times_in_range r rs ok) (λ i h. others (suc i) (omega arith)) in
    omega (
      arith,
      term,
      rest,
      mul-add v (a * cost r) (worst_in x rs),
      mul-add x (b * cost r) (worst_in v rs),
    )

too_much : (v x n k c b mine theirs : ℕ) → 1 ≤ v → v ≡ n * c + b + mine → v * k ≤ n * x → v * theirs ≤ x * mine
    → x < k * c + theirs → ⊥
too_much v x n k c b mine theirs some is own others heavy =
    let over : v * x < v * (k * c + theirs) = omega (arith, mul-le-mul_left v heavy, some) in
    let here : v * (k * c + theirs) ≡ v * k * c + v * theirs =
    mul-add v (k * c) theirs ∙ ap (λ y. y + v * theirs) (sym (mul_assoc v k c)) in
    let there : x * v ≡ x * (n * c) + x * b + x * mine =
    ap (λ y. x * y) is ∙ mul-add x (n * c + b) mine ∙ ap (λ y. y + x * mine) (mul-add x (n * c) b) in
    let same : n * x * c ≡ x * (n * c) = ap (λ y. y * c) (mul_comm n x) ∙ mul_assoc x n c in
    omega (arith, over, here, there, same, mul-le-mul_right c own, others, mul_comm v x)

module _ (t : Row) (above below : List Row) where
  abbrev w : ℕ → ℕ
  w q = finish_of t above below q

  -- ---- each w(q)
  pub finish_fixed : (q : ℕ) → 1 ≤ w q
      → (w q ≡ suc q * cost t + blocking below + worst_in (w q) above) × (w q ≤ max_ticks)
  finish_fixed q h = least_fixed_lem (suc q * cost t + blocking below) max_ticks (map worst_load above) h

  pub finish_least : (q v : ℕ) → 1 ≤ v → v ≡ suc q * cost t + blocking below + worst_in v above → v ≤ max_ticks
      → (1 ≤ w q) × (w q ≤ v)
  finish_least q v h e l = least_least (suc q * cost t + blocking below) max_ticks (map worst_load above) v h e l

  module _ (ht : times_in_range t ≡ true) where
    abbrev own : Times t
    own = times t ht

    abbrev period_some : 1 ≤ t.period
    period_some = omega (arith, own.best_some, own.best_cost, own.cost_period)

    pub cost_some : 1 ≤ cost t
    cost_some = omega (arith, own.best_some, own.best_cost)

    -- at or below every window that has room for its jobs
    pub finish_within : (q x : ℕ) → x ≤ max_ticks → suc q * cost t + blocking below + worst_in x above ≤ x
        → (1 ≤ w q) × (w q ≤ x)
    finish_within q x most fits =
        let base = suc q * cost t + blocking below in
        let some : 1 ≤ base = omega (arith, cost_some) in
        let p = fixed_below (λ y. base + worst_in y above) (demand_mono 0 base (map worst_load above))
        (λ y. omega arith) x fits in
        let h = finish_least q p.point p.some p.is_fixed_lem (omega (arith, p.below)) in
        (h.0, omega (arith, h.1, p.below))

    pub counts : Counts w
    counts = record {
      most = λ q. elim (le-or-lt 1 (w q)) [
        | inl h ↦ (finish_fixed q h).1
        | inr h ↦ omega arith
      ];
      each = λ q h. omega (arith, (finish_fixed q h).0, mul-le-mul_left (suc q) cost_some);
    }

    -- ---- late, or W by equation 4
    abbrev W : ℕ
    W = latest t above below

    abbrev response : ℕ
    response = longest_response w t.period

    pub not_late : is_late t above below ≡ false → 1 ≤ W
    not_late h = let k = eqb-false W 0 h in omega arith

    pub is_timely : 1 ≤ W → is_late t above below ≡ false
    is_timely h = ne_eqb W 0 (λ z. omega (arith, z))

    pub latest_is : is_late t above below ≡ false
        → (last : ℕ) × Equation4 w t.period W last × (W ≤ t.deadline)
    latest_is h =
        let l = timely w t.period period_some counts t.deadline (not_late h) in
        let e = equation w t.period period_some counts (omega (arith, l.0, not_late h)) in
        (jobs_in w t.period - 1, rw l.0 e, omega (arith, l.0, l.1))

    pub latest_if : (most last : ℕ) → Equation4 w t.period most last → most ≤ t.deadline
        → (is_late t above below ≡ false) × (W ≡ most)
    latest_if most last e h =
        let r = response_is w t.period period_some counts most last e in
        let l = in_deadline w t.period period_some counts t.deadline (omega (arith, r.0)) in
        (is_timely (omega (arith, l, r.0, r.1)), l ∙ r.0)

    pub late_past : (most last : ℕ) → Equation4 w t.period most last → t.deadline < most
        → is_late t above below ≡ true
    late_past most last e h =
        let r = response_is w t.period period_some counts most last e in
        eq-eqb W 0 (past_deadline w t.period period_some counts t.deadline (omega (arith, r.0)))

    pub late_not_found : (q : ℕ) → NotFound w t.period q → is_late t above below ≡ true
    late_not_found q e =
        eq-eqb W 0 (late_here w t.period period_some counts t.deadline q e.goes_on (inl e.none))

    pub late_is : is_late t above below ≡ true
        → ((most : ℕ) × (last : ℕ) × Equation4 w t.period most last × (t.deadline < most))
        ⊎ ((q : ℕ) × NotFound w t.period q)
    late_is late =
        let z = eqb-true W 0 late in
        elim (le-or-lt 1 response) [
          | inl h ↦ inl (
            response,
            jobs_in w t.period - 1,
            equation w t.period period_some counts h,
            elim (le-or-lt response t.deadline) [
              | inl l ↦
                  absurd (omega (arith, in_deadline w t.period period_some counts t.deadline l))
              | inr l ↦ l
            ],
          )
          | inr h ↦ inr (
            jobs_in w t.period - 1,
            not_found w t.period period_some counts (omega arith),
          )
        ]

    -- ---- of a task that is not late: w(0) is one job's, and at or below W
    pub first_is : 1 ≤ W → w 0 ≡ cost t + blocking below + worst_in (w 0) above
    first_is h =
        let e = (latest_is (is_timely h)).1 in
        let f = (finish_fixed 0 (e.found 0 (omega arith))).0 in
        omega (arith, f)

    pub first_latest : 1 ≤ W → w 0 ≤ W
    first_latest h = omega (arith, (latest_is (is_timely h)).1.none_longer 0 (omega arith))

    pub latest_max : W ≤ max_ticks
    latest_max = elim (le-or-lt 1 W) [
      | inl h ↦ (
          let at = (latest_is (is_timely h)).1.reached in
          omega (arith, at.2, counts.most at.0))
      | inr h ↦ omega arith
    ]

    -- ---- the interval ends
    abbrev n : ℕ
    n = jobs_in w t.period

    few_jobs : (n - 1) * t.period < max_ticks
    few_jobs = elim (le-or-lt n 1) [
      | inl h ↦ (let z : n - 1 ≡ 0 = omega arith in rw z (omega arith))
      | inr h ↦ (
          let q = n - 2 in
          let same : suc q ≡ n - 1 = omega arith in
          let l : suc q * t.period < max_ticks =
          omega (arith, goes_on w t.period period_some counts q (omega arith), counts.most q) in
          rw same at l)
    ]

    by_window : (x : ℕ) → 1 ≤ x → x ≤ max_ticks
        → ceiling x t.period * cost t + blocking below + worst_in x above ≤ x → n ≤ ceiling x t.period
    by_window x some most fits =
        let k = ceiling x t.period in
        let q = k - 1 in
        let same : suc q ≡ k = omega (arith, ceiling_some x t.period some period_some) in
        let room : suc q * cost t + blocking below + worst_in x above ≤ x = rw same fits in
        let f = finish_within q x most room in
        let covers : x ≤ suc q * t.period = rw same (ceiling_covers x t.period period_some) in
        let each = counts.each q f.0 in
        let few = jobs_least w t.period period_some counts q (omega (arith, f.1, each)) (omega (arith, f.1, covers)) in
        omega (arith, same, few)

    -- the window of the last job would bring more than it has room for
    overloaded : all_rows times_in_range above ≡ true → (x : ℕ) → Divides t.period x
        → ((i : ℕ) → i < length above → Divides (row_at above i).period x)
        → x < ceiling x t.period * cost t + worst_in x above → is_late t above below ≡ true
    overloaded ha x mine others heavy = elim (test_of (is_late t above below)) [
      | inl h ↦ h
      | inr h ↦ (
          let last = (latest_is h).0 in
          let e = (latest_is h).1 in
          let some = e.found last (le_refl last) in
          let f = (finish_fixed last some).0 in
          let share = multiple_own (w last) x t.period (suc last) period_some mine e.ends in
          absurd (too_much (w last) x (suc last) (ceiling x t.period) (cost t) (blocking below)
          (worst_in (w last) above) (worst_in x above) some f share (in_multiple (w last) x above ha others) heavy))
    ]

    pub ends : all_rows times_in_range above ≡ true → Ends t above below
    ends ha = record {
      jobs_some = some_jobs w t.period period_some counts;
      jobs_few = few_jobs;
      by_window = by_window;
      overloaded = λ x some mine others heavy. overloaded ha x mine others heavy;
    }

    -- ---- a deadline at or below the period: one job decides
    abbrev base : ℕ
    base = cost t + blocking below

    abbrev loads : List Load
    loads = map worst_load above

    abbrev v : ℕ
    v = least_fixed base t.deadline loads

    first_late : v ≡ 0 → (w 0 ≡ 0) ⊎ (0 * t.period + t.deadline < w 0)
    first_late z = elim (le-or-lt 1 (w 0)) [
      | inl a ↦ elim (le-or-lt (w 0) t.deadline) [
        | inl b ↦ (
            let i = (finish_fixed 0 a).0 in
            let least = least_least base t.deadline loads (w 0) a (omega (arith, i)) b in
            absurd (omega (arith, least.0)))
        | inr b ↦ inr (omega (arith, b))
      ]
      | inr a ↦ inl (omega arith)
    ]

    pub one_job : t.deadline ≤ t.period
        → latest t above below ≡ least_fixed (cost t + blocking below) t.deadline (map worst_load above)
    one_job short = elim (le-or-lt 1 v) [
      | inl h ↦ (
          let f = least_fixed_lem base t.deadline loads h in
          let fits : suc 0 * cost t + blocking below + worst_in v above ≤ v = omega (arith, f.0) in
          let g = finish_within 0 v (omega (arith, f.1, own.period_max)) fits in
          let i = (finish_fixed 0 g.0).0 in
          let least = least_least base t.deadline loads (w 0) g.0 (omega (arith, i))
          (omega (arith, g.1, f.1)) in
          let same : w 0 ≡ v = omega (arith, g.1, least.1) in
          let here = latest_here w t.period period_some counts t.deadline 0 (λ j a. absurd (omega (arith, a)))
          (λ j a. let z : j ≡ 0 = omega (arith, a) in rw z (g.0, omega (arith, same, f.1)))
          (omega (arith, same, f.1, short)) in
          let x = longest_one w t.period 1
          (omega (arith, g.0, longest_covers w t.period 1 0 (omega arith))) in
          let first : x.0 ≡ 0 = omega (arith, x.1) in
          let only : w 0 ≡ longest w t.period 1 + 0 * t.period =
          subst (λ (q : ℕ). w q ≡ longest w t.period 1 + q * t.period) first x.2 in
          omega (arith, here, only, same))
      | inr h ↦ (
          let z : v ≡ 0 = omega arith in
          late_here w t.period period_some counts t.deadline 0 (λ j a. absurd (omega (arith, a)))
          (first_late z)
          ∙ sym z)
    ]

pub within_period : WithinPeriod
within_period t above below ht same =
    let base = cost t + blocking below in
    let loads = map worst_load above in
    let then = one_job t above below ht (omega (arith, same))
    ∙ ap (λ (d : ℕ). least_fixed base d loads) same in
    record { latest_then = then; late_then = ap (λ (x : ℕ). eqb x 0) then; earliest_then = refl }
