-- A busy interval over any w: it has a last job, W is the longest response of its jobs, and both are the only ones of
-- equation 4. It suffices that no w is above 1,000,000 and that q + 1 jobs take q + 1 ticks at least.
use mathlib.Core.Path.{◌≡◌, sym, ap, ◌∙◌}
use mathlib.Core.Bool.{Bool, true}
use mathlib.Core.Logic.{◌⊎◌, inl, inr}
use Prim.Native.Nat.{ℕ, zero, suc, ◌+◌, ◌-◌, ◌*◌, ◌≤◌, ◌<◌}
use native.Mathlib.Nat.{le_refl, mul-le-mul_left}
use native.Mathlib.Omega.{arith}
use lib.Dec.{leb}
use borrow.Author.Tests.{eq-eqb, ne_eqb, leb-true, le-leb, lt-leb}
use Rattle.basics.specs.Basics.{pick}
use Rattle.basics.proofs.Tests.{test_of, le-or-lt}
use Rattle.basics.proofs.Numbers.{larger_left, larger_right}
use Rattle.rows.specs.Rows.{max_ticks}
use Rattle.responses.specs.BusyIntervals.{ends_with, jobs_in, longest, longest_response, latest_within}
use Rattle.responses.specs.Claims.{Equation4, NotFound}
use Rattle.responses.proofs.FixedPoints.{smallest_takes, smallest_least}

-- ---- the longest response is one of them, and none is longer
module _ (w : ℕ → ℕ) (period : ℕ) where
  pub longest_covers : (n q : ℕ) → q < n → w q ≤ longest w period n + q * period
  longest_covers zero q l = absurd (omega arith)
  longest_covers (suc n) q l = elim (le-or-lt n q) [
    | inl h ↦ (
        let e : q ≡ n = omega arith in
        rw e (omega (arith, larger_right (longest w period n) (w n - n * period))))
    | inr h ↦ omega (arith, longest_covers n q h, larger_left (longest w period n) (w n - n * period))
  ]

  pub longest_one : (n : ℕ) → 1 ≤ longest w period n → (q : ℕ) × (q < n) × (w q ≡ longest w period n + q * period)
  longest_one zero h = absurd (omega arith)
  longest_one (suc n) h = elim (test_of (leb (longest w period n) (w n - n * period))) [
    | inl e ↦ (
        let some : 1 ≤ w n - n * period = rw e at h in
        rw e (n, le_refl (suc n), omega arith))
    | inr e ↦ (
        let x = longest_one n (rw e at h) in
        rw e (x.0, omega (arith, x.1), x.2))
  ]

-- where w counts nothing but ticks of jobs, up to 1,000,000
pub record Counts (w : ℕ → ℕ) : Type 0 where
  pub most : (q : ℕ) → w q ≤ max_ticks
  pub each : (q : ℕ) → 1 ≤ w q → suc q ≤ w q

module _ (w : ℕ → ℕ) (period : ℕ) (some : 1 ≤ period) (c : Counts w) where
  abbrev jobs : ℕ
  jobs = jobs_in w period

  abbrev test : ℕ → Bool
  test = ends_with w period

  -- ---- the number of jobs
  pub some_jobs : 1 ≤ jobs
  unfolding jobs_in
  some_jobs =
      let n = max_ticks - 1 in
      let ends = le-leb (w n) (max_ticks * period) (omega (arith, c.most n, mul-le-mul_left max_ticks some)) in
      (smallest_least test max_ticks max_ticks (omega arith) (le_refl max_ticks) ends).0

  takes : (test jobs ≡ true) × (jobs ≤ max_ticks)
  unfolding jobs_in
  takes = smallest_takes test max_ticks some_jobs

  pub jobs_least : (q : ℕ) → q < max_ticks → w q ≤ suc q * period → jobs ≤ suc q
  unfolding jobs_in
  jobs_least q few ends =
      (smallest_least test max_ticks (suc q) (omega arith) few (le-leb (w q) (suc q * period) ends)).1

  pub goes_on : (q : ℕ) → suc q < jobs → suc q * period < w q
  goes_on q h = elim (le-or-lt (w q) (suc q * period)) [
    | inl e ↦ absurd (omega (arith, jobs_least q (omega (arith, takes.1)) e))
    | inr e ↦ e
  ]

  pub ended : w (jobs - 1) ≤ suc (jobs - 1) * period
  ended =
      let n : jobs ≡ suc (jobs - 1) = omega (arith, some_jobs) in
      leb-true (w (jobs - 1)) (suc (jobs - 1) * period) (ap test (sym n) ∙ takes.0)

  -- where the jobs before one go on, and it ends or is not found, it is the last
  jobs_are : (last : ℕ) → ((q : ℕ) → q < last → suc q * period < w q) → w last ≤ suc last * period → jobs ≡ suc last
  jobs_are last first ends =
      let few : last < max_ticks = fewer last first in
      let n : jobs ≡ suc (jobs - 1) = omega (arith, some_jobs) in
      elim (le-or-lt last (jobs - 1)) [
        | inl h ↦ omega (arith, jobs_least last few ends)
        | inr h ↦ absurd (omega (arith, first (jobs - 1) h, ended))
      ]
    where
      fewer : (n : ℕ) → ((q : ℕ) → q < n → suc q * period < w q) → n < max_ticks
      fewer zero h = omega arith
      fewer (suc q) h = omega (arith, h q (le_refl (suc q)), c.most q, mul-le-mul_left (suc q) some)

  -- ---- W
  abbrev response : ℕ
  response = longest_response w period

  unfound : w (jobs - 1) ≡ 0 → response ≡ 0
  unfolding longest_response
  unfound z = ap (λ (b : Bool). pick b 0 (longest w period jobs)) (eq-eqb (w (jobs - 1)) 0 z)

  all_found : 1 ≤ w (jobs - 1) → response ≡ longest w period jobs
  unfolding longest_response
  all_found h = ap (λ (b : Bool). pick b 0 (longest w period jobs)) (ne_eqb (w (jobs - 1)) 0 (λ z. omega arith))

  -- of equation 4, where the last is found
  pub equation : 1 ≤ response → Equation4 w period response (jobs - 1)
  equation h =
      let last = jobs - 1 in
      let n = some_jobs in
      let there : 1 ≤ w last = elim (le-or-lt 1 (w last)) [
        | inl a ↦ a
        | inr a ↦ absurd (omega (arith, unfound (omega arith)))
      ] in
      let is = all_found there in
      let x = longest_one w period jobs (omega (arith, is)) in
      record {
        found = λ q a. elim (le-or-lt last q) [
          | inl b ↦ (let e : q ≡ last = omega arith in rw e there)
          | inr b ↦ omega (arith, goes_on q (omega (arith, b)))
        ];
        goes_on = λ q a. goes_on q (omega (arith, a));
        ends = ended;
        reached = (x.0, omega (arith, x.1), omega (arith, x.2, is));
        none_longer = λ q a. omega (arith, is, longest_covers w period jobs q (omega arith));
      }

  pub not_found : response ≡ 0 → NotFound w period (jobs - 1)
  not_found z =
      let n = some_jobs in
      record {
        goes_on = λ q a. goes_on q (omega (arith, a));
        none = elim (le-or-lt 1 (w (jobs - 1))) [
          | inl h ↦ (
              let is = all_found h in
              let first = longest_covers w period jobs 0 (omega arith) in
              let nothing : w 0 ≡ 0 = omega (arith, is, first) in
              absurd (omega (arith, nothing, from_first h)))
          | inr h ↦ omega arith
        ];
      }
    where
      -- the first job is found where the last is
      from_first : 1 ≤ w (jobs - 1) → 1 ≤ w 0
      from_first h = elim (le-or-lt jobs 1) [
        | inl a ↦ (let e : jobs - 1 ≡ 0 = omega arith in rw e at h)
        | inr a ↦ omega (arith, goes_on 0 a)
      ]

  -- and only of that
  pub response_is : (most last : ℕ) → Equation4 w period most last → (response ≡ most) × (1 ≤ most)
  response_is most last e =
      let are = jobs_are last e.goes_on e.ends in
      let same : jobs - 1 ≡ last = omega (arith, are) in
      let there : 1 ≤ w (jobs - 1) = rw same (e.found last (le_refl last)) in
      let is = all_found there in
      let at = e.reached in
      let covers = longest_covers w period jobs at.0 (omega (arith, are, at.1)) in
      let first = longest_covers w period jobs 0 (omega (arith, are)) in
      let begun = e.found 0 (omega arith) in
      let x = longest_one w period jobs (omega arith) in
      let no_longer = e.none_longer x.0 (omega (arith, x.1, are)) in
      let no_less = e.none_longer 0 (omega arith) in
      (omega (arith, is, covers, at.2, x.2, no_longer), omega (arith, no_less, begun))

  pub response_none : (q : ℕ) → NotFound w period q → response ≡ 0
  response_none q e =
      let are = jobs_are q e.goes_on (omega (arith, e.none)) in
      let same : jobs - 1 ≡ q = omega (arith, are) in
      unfound (rw same e.none)

  -- ---- within a deadline
  module _ (deadline : ℕ) where
    abbrev latest : ℕ
    latest = latest_within w period deadline

    pub in_deadline : response ≤ deadline → latest ≡ response
    unfolding latest_within
    in_deadline h = ap (λ (b : Bool). pick b response 0) (le-leb response deadline h)

    pub past_deadline : deadline < response → latest ≡ 0
    unfolding latest_within
    past_deadline h = ap (λ (b : Bool). pick b response 0) (lt-leb response deadline h)

    pub timely : 1 ≤ latest → (latest ≡ response) × (response ≤ deadline)
    timely h = elim (le-or-lt response deadline) [
      | inl a ↦ (in_deadline a, a)
      | inr a ↦ absurd (omega (arith, past_deadline a))
    ]

    -- as the search finds it: job q is the last, and all are within the deadline
    pub latest_here : (q : ℕ) → ((j : ℕ) → j < q → suc j * period < w j)
        → ((j : ℕ) → j ≤ q → (1 ≤ w j) × (w j ≤ j * period + deadline))
        → w q ≤ suc q * period → latest ≡ longest w period (suc q)
    latest_here q on each ends =
        let are = jobs_are q on ends in
        let same : jobs - 1 ≡ q = omega (arith, are) in
        let there : 1 ≤ w (jobs - 1) = rw same (each q (le_refl q)).0 in
        let is : response ≡ longest w period (suc q) = all_found there ∙ ap (longest w period) are in
        let begun = longest_covers w period (suc q) 0 (omega arith) in
        let x = longest_one w period (suc q) (omega (arith, (each 0 (omega arith)).0)) in
        in_deadline (omega (arith, is, x.2, (each x.0 (omega (arith, x.1))).1)) ∙ is

    -- or job q shows the task late
    pub late_here : (q : ℕ) → ((j : ℕ) → j < q → suc j * period < w j)
        → ((w q ≡ 0) ⊎ (q * period + deadline < w q)) → latest ≡ 0
    late_here q on (inl z) =
        let none = response_none q (record { goes_on = on; none = z }) in
        in_deadline (omega (arith, none)) ∙ none
    late_here q on (inr past) = elim (le-or-lt 1 response) [
      | inl h ↦ (
          let e = equation h in
          let n = some_jobs in
          let among : q ≤ jobs - 1 = elim (le-or-lt q (jobs - 1)) [
            | inl a ↦ a
            | inr a ↦ absurd (omega (arith, on (jobs - 1) a, ended))
          ] in
          past_deadline (omega (arith, e.none_longer q among)))
      | inr h ↦ (let none : response ≡ 0 = omega arith in in_deadline (omega arith) ∙ none)
    ]

-- more of each: the interval is no shorter, and so is no response
module _ (w v : ℕ → ℕ) (period : ℕ) (some : 1 ≤ period) (c : Counts w) (d : Counts v)
    (more : (q : ℕ) → 1 ≤ v q → (1 ≤ w q) × (w q ≤ v q)) where
  pub response_mono : 1 ≤ longest_response v period
      → (1 ≤ longest_response w period) × (longest_response w period ≤ longest_response v period)
  response_mono h =
      let e = equation v period some d h in
      let last = jobs_in v period - 1 in
      let n = some_jobs w period some c in
      let few : jobs_in w period ≤ suc last =
      jobs_least w period some c last (omega (arith, d.most last, d.each last (e.found last (le_refl last))))
      (omega (arith, (more last (e.found last (le_refl last))).1, e.ends)) in
      let there : 1 ≤ longest_response w period = elim (le-or-lt 1 (longest_response w period)) [
        | inl a ↦ a
        | inr a ↦ (
            let x = not_found w period some c (omega arith) in
            absurd (omega (arith, x.none, (more (jobs_in w period - 1) (e.found (jobs_in w period - 1) (omega arith))).0)))
      ] in
      let f = equation w period some c there in
      let at = f.reached in (
        there,
        omega (
          arith,
          at.2,
          (more at.0 (e.found at.0 (omega (arith, at.1)))).1,
          e.none_longer at.0 (omega (arith, at.1)),
        ),
      )
