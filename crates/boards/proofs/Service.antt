-- Service: which rank each tick goes to, and how many each rank has had. A tick in a stretch may go to a rank while
-- those above it have work left; but they had none when the stretch began, so a tick that is quiet for them, one before
-- which all of their work is done, lies at most a stretch back. So after the last quiet tick lower ranks have no more
-- ticks than their largest hold less one.
use mathlib.Core.Path.{◌≡◌, ap₂, ◌∙◌}
use mathlib.Core.Bool.{Bool, true, false}
use mathlib.Core.Logic.{◌⊎◌, inl, inr}
use Prim.Native.Nat.{ℕ, zero, suc, ◌+◌, ◌-◌, ◌≤◌, ◌<◌}
use native.Mathlib.Omega.{arith}
use native.Mathlib.Nat.{add-zero, add-suc, le_refl, le_trans, le_of_eq, lt_of_lt_of_le, lt_of_not-le, lt_trans}
use lib.Dec.{eqb, ltb, leb-suc-zero, leb-suc-suc, eqb-zero-suc, eqb-suc-zero, eqb-suc-suc}
use borrow.Author.Tests.{eqb-true, eq-eqb, lt-ltb}
use Rattle.basics.specs.Basics.{sum_to}
use Rattle.basics.proofs.Tests.{test_of, le-or-lt}
use Rattle.boards.proofs.Sums.{Above, sum-zero, sum-le, sum-add, sum_last, sum_tight}

-- 1 for a test that holds
abbrev pub mark : Bool → ℕ
mark true = 1
mark false = 0

-- the ticks before t that went to rank j; and those that went to a rank above n
abbrev pub service : (ℕ → ℕ) → ℕ → ℕ → ℕ
service runs j zero = 0
service runs j (suc t) = service runs j t + mark (eqb (runs t) j)

abbrev pub service_above : (ℕ → ℕ) → ℕ → ℕ → ℕ
service_above runs n zero = 0
service_above runs n (suc t) = service_above runs n t + mark (ltb (runs t) n)

-- the work of the ranks above n that is released before t
abbrev pub work_above : (ℕ → ℕ → ℕ) → ℕ → ℕ → ℕ
work_above work n t = sum_to n (λ j. work j t)

-- a tick has one rank
sum_mark : (n x : ℕ) → sum_to n (λ j. mark (eqb x j)) ≡ mark (ltb x n)
sum_mark zero x = rw leb-suc-zero
sum_mark (suc n) zero =
    simp eqb-zero-suc (rw (lt-ltb 0 (suc n) (omega arith)) (omega (arith, sum-zero n)))
sum_mark (suc n) (suc x) = simp (eqb-suc-zero, eqb-suc-suc, leb-suc-suc) (omega (arith, sum_mark n x))

mark_most : (b : Bool) → mark b ≤ 1
mark_most true = omega arith
mark_most false = omega arith

-- ---- any run
module _ (runs : ℕ → ℕ) where
  pub sum_service : (n t : ℕ) → sum_to n (λ j. service runs j t) ≡ service_above runs n t
  sum_service n zero = sum-zero n
  sum_service n (suc t) =
      sum-add n (λ j. service runs j t) (λ j. mark (eqb (runs t) j))
      ∙ ap₂ ◌+◌ (sum_service n t) (sum_mark n (runs t))

  pub service_step : (j t : ℕ) → runs t ≡ j → service runs j (suc t) ≡ suc (service runs j t)
  service_step j t e = rw (eq-eqb (runs t) j e) (omega arith)

  pub service_grows : (j s t : ℕ) → s ≤ t → service runs j s ≤ service runs j t
  service_grows j s zero l = let e : s ≡ 0 = omega arith in rw e (omega arith)
  service_grows j s (suc t) l = elim (le-or-lt s t) [
    | inl h ↦ omega (arith, service_grows j s t h)
    | inr h ↦ (let e : s ≡ suc t = omega arith in rw e (le_refl _))
  ]

  -- a tick of rank j that does not take its service past that after tick t is at t or before
  pub served_by : (j t u : ℕ) → runs u ≡ j → service runs j (suc u) ≤ service runs j (suc t) → u ≤ t
  served_by j t u r h = elim (le-or-lt u t) [
    | inl l ↦ l
    | inr l ↦ absurd (omega (arith, service_grows j (suc t) u l, service_step j u r))
  ]

  -- each tick is one tick
  pub above_most : (n s d : ℕ) → service_above runs n (s + d) ≤ service_above runs n s + d
  above_most n s zero = rw (add-zero s) (omega arith)
  above_most n s (suc d) =
      rw (add-suc s d) (omega (arith, above_most n s d, mark_most (ltb (runs (s + d)) n)))

  pub service_most : (j s d : ℕ) → service runs j (s + d) ≤ service runs j s + d
  service_most j s zero = rw (add-zero s) (omega arith)
  service_most j s (suc d) =
      rw (add-suc s d) (omega (arith, service_most j s d, mark_most (eqb (runs (s + d)) j)))

  above_grows : (n s d : ℕ) → service_above runs n s ≤ service_above runs n (s + d)
  above_grows n s zero = rw (add-zero s) (le_refl _)
  above_grows n s (suc d) = rw (add-suc s d) (omega (arith, above_grows n s d))

  -- ticks that go to ranks above n, all but the first b
  above_but : (n s b d : ℕ) → ((u : ℕ) → s + b ≤ u → u < s + d → runs u < n)
      → service_above runs n s + d ≤ service_above runs n (s + d) + b
  above_but n s b zero h = rw (add-zero s) (omega arith)
  above_but n s b (suc d) h = rw (add-suc s d) (elim (le-or-lt b d) [
    | inl a ↦ (let last = lt-ltb (runs (s + d)) n (h (s + d) (omega arith) (omega arith)) in
        rw last (omega (arith, above_but n s b d (λ u x y. h u x (omega arith)))))
    | inr a ↦ omega (arith, above_grows n s d)
  ])

-- ---- the last tick up to t at which f is not above g
pub record Last (f g : ℕ → ℕ) (t : ℕ) : Type 0 where
  pub tick : ℕ
  pub reached : tick ≤ t
  pub under : f tick ≤ g tick
  pub over : (u : ℕ) → tick < u → u ≤ t → g u < f u

pub last_under : (f g : ℕ → ℕ) → f 0 ≤ g 0 → (t : ℕ) → Last f g t
last_under f g z zero = record { tick = 0; reached = omega arith; under = z; over = λ u a b. omega arith }
last_under f g z (suc t) = elim (le-or-lt (f (suc t)) (g (suc t))) [
  | inl h ↦ record { tick = suc t; reached = omega arith; under = h; over = λ u a b. omega arith }
  | inr h ↦ (let l = last_under f g z t in
      record {
        tick = l.tick;
        reached = omega (arith, l.reached);
        under = l.under;
        over = λ u a b. elim (le-or-lt u t) [
          | inl c ↦ l.over u a c
          | inr c ↦ (let e : u ≡ suc t = omega arith in rw e h)
        ];
      })
]

-- the tick in which a count comes to a number
pub crossing : (f : ℕ → ℕ) (n t : ℕ) → f 0 < n → n ≤ f t → (u : ℕ) × (u < t) × (f u < n) × (n ≤ f (suc u))
crossing f n zero a b = absurd (omega arith)
crossing f n (suc t) a b = elim (le-or-lt n (f t)) [
  | inl h ↦ (let c = crossing f n t a h in (c.0, omega (arith, c.1), c.2, c.3))
  | inr h ↦ (t, le_refl (suc t), h, b)
]

-- ---- a run by rank and in stretches: work j t is that of rank j released before t, and the stretch of tick t began in
-- tick began t; of N ranks, and an idle tick goes to N itself
pub record Run (N : ℕ) (hold : ℕ → ℕ) (runs began : ℕ → ℕ) (work : ℕ → ℕ → ℕ) : Type 0 where
  pub starts : (j : ℕ) → j < N → work j 0 ≡ 0
  pub grows : (j t : ℕ) → j < N → work j t ≤ work j (suc t)
  -- the rank that runs has work left
  pub has_work : (j t : ℕ) → j < N → runs t ≡ j → service runs j t < work j (suc t)
  -- the ranks above it had none when its stretch began
  pub by_rank : (j t : ℕ) → j < N → j < runs t → work j (suc (began t)) ≤ service runs j (began t)
  pub earlier : (t : ℕ) → began t ≤ t
  -- a stretch of two or more ticks is a job's, and has at most its hold
  pub stretch : (t : ℕ) → began t < t → (runs t < N) × (t < began t + hold (runs t))

-- a quiet tick for the ranks above n: all of their work is done
abbrev pub Quiet : (ℕ → ℕ) → (ℕ → ℕ → ℕ) → ℕ → ℕ → Type 0
Quiet runs work n t = work_above work n t ≤ service_above runs n t

module _ (N : ℕ) (hold : ℕ → ℕ) (runs began : ℕ → ℕ) (work : ℕ → ℕ → ℕ) (run : Run N hold runs began work) where
  -- no rank is served more than its work
  pub service_within : (j t : ℕ) → j < N → service runs j t ≤ work j t
  service_within j zero l = omega arith
  service_within j (suc t) l =
      let h = service_within j t l in
      elim (test_of (eqb (runs t) j)) [
        | inl e ↦ rw e (omega (arith, run.has_work j t l (eqb-true (runs t) j e)))
        | inr e ↦ rw e (omega (arith, run.grows j t l))
      ]

  pub quiet_each : (n t : ℕ) → n ≤ N → Quiet runs work n t → Above n (λ j. work j t ≤ service runs j t)
  quiet_each n t l q =
      sum_tight n (λ j. service runs j t) (λ j. work j t) (λ j b. service_within j t (lt_of_lt_of_le b l))
      (omega (arith, sum_service runs n t))

  -- the tick after a lower rank's stretch began is quiet for the ranks above n
  quiet_after : (n t : ℕ) → n ≤ N → n ≤ runs t → Quiet runs work n (suc (began t))
  quiet_after n t l h =
      let u = began t in
      let each : Above n (λ j. work j (suc u) ≤ service runs j (suc u)) = λ j b.
      le_trans (run.by_rank j t (lt_of_lt_of_le b l) (lt_of_lt_of_le b h))
      (service_grows runs j u (suc u) (omega arith)) in
      let all = sum-le n (λ j. work j (suc u)) (λ j. service runs j (suc u)) each in
      omega (arith, sum_service runs n (suc u))

  pub last_quiet : (n t : ℕ) → n ≤ N → Last (work_above work n) (service_above runs n) t
  last_quiet n t l =
      let start = sum-le n (λ j. work j 0) (λ j. 0) (λ j b. le_of_eq (run.starts j (lt_of_lt_of_le b l))) in
      last_under (work_above work n) (service_above runs n) (omega (arith, sum-zero n)) t

  -- after the last quiet tick up to t, all ticks but a blocking time b go to ranks above n
  module _ (n b t : ℕ) (l : n ≤ N) (lower : (m : ℕ) → n ≤ m → m < N → hold m ≤ b + 1)
      (q : Last (work_above work n) (service_above runs n) t) where
    not_lower : (u : ℕ) → q.tick + b ≤ u → u < t → n ≤ runs u → (u ≤ began u) ⊎ (began u < u) → ⊥
    not_lower u x y z (inl h) =
        let e = run.earlier u in
        omega (arith, quiet_after n u l z, q.over (suc (began u)) (omega arith) (omega arith))
    not_lower u x y z (inr h) =
        let s = run.stretch u h in
        let after : q.tick < suc (began u) = omega (arith, lower (runs u) z s.0, s.1) in
        omega (arith, quiet_after n u l z, q.over (suc (began u)) after (omega arith))

    pub busy : (d : ℕ) → q.tick + d ≤ t
        → service_above runs n q.tick + d ≤ service_above runs n (q.tick + d) + b
    busy d h =
        above_but runs n q.tick b d
        (λ u x y. lt_of_not-le (λ z. not_lower u x (lt_of_lt_of_le y h) z (le-or-lt u (began u))))

  -- a rank whose hold is 0 or 1 runs by rank only
  pub own_tick : (t : ℕ) → (runs t < N → hold (runs t) ≤ 1) → began t ≡ t
  own_tick t short = elim (le-or-lt t (began t)) [
    | inl h ↦ omega (arith, run.earlier t)
    | inr h ↦ (let s = run.stretch t h in absurd (omega (arith, short s.0, s.1)))
  ]

  -- such a tick of rank i ends a window from s: it has room for the work above that the window brings, and for i's
  -- ticks
  pub room : (i t s : ℕ) → i < N → runs t ≡ i → hold i ≤ 1 → s ≤ suc t
      → (m : ℕ → ℕ) → Above i (λ j. work j s + m j ≤ work j (suc t))
      → sum_to i m + service runs i (suc t) + s ≤ service runs i s + suc t
  room i t s l r short b m h =
      let e : s + (suc t - s) ≡ suc t = omega arith in
      let own = own_tick t (λ x. rw r short) in
      let most = rw e at (above_most runs (suc i) s (suc t - s)) in
      let each : Above i (λ j. service runs j s + m j ≤ service runs j (suc t)) = λ j x.
      omega (
        arith,
        h j x,
        service_within j s (lt_trans x l),
        rw own at (run.by_rank j t (lt_trans x l) (omega arith)),
        service_grows runs j t (suc t) (omega arith),
      ) in
      let parts = sum-le i (λ j. service runs j s + m j) (λ j. service runs j (suc t)) each in
      let split = sum-add i (λ j. service runs j s) m in
      let before = sum_last i (λ j. service runs j s) in
      let after = sum_last i (λ j. service runs j (suc t)) in
      omega (arith, sum_service runs (suc i) s, sum_service runs (suc i) (suc t))
