-- The responses of a run. In time: after the last quiet tick s up to a release and W, all ticks but the blocking time
-- go to the rank and those above. The job is the qth of its task that is released from s on. If it is one of those that
-- W is taken over, its work is done w(q) ticks after s. Else the last of those has w(q) within its own periods, where a
-- quiet tick would follow s. Not early: where the task runs by rank only, the E - 1 ticks before a finish bring at
-- least E's interference from above, so with the job's own ticks they have no room for a response below E; else a job
-- takes at least its own ticks.
use mathlib.Core.Path.{◌≡◌, sym, ap, ◌∙◌}
use mathlib.Core.Bool.{Bool}
use mathlib.Core.List.{List}
use mathlib.Core.Logic.{inl, inr}
use Prim.Native.Nat.{ℕ, suc, ◌+◌, ◌-◌, ◌*◌, ◌≤◌, ◌<◌}
use native.Mathlib.Omega.{arith}
use native.Mathlib.Nat.{add-mul, mul-le-mul_right, le_refl, le_of_eq, lt_trans}
use lib.ListN.{length}
use Rattle.basics.proofs.Tests.{le-or-lt}
use Rattle.rows.specs.Rows.{row_at, cost}
use Rattle.rows.specs.Rows.{Row}
use Rattle.rows.proofs.Limits.{Times}
use Rattle.responses.specs.Interference.{ceiling}
use Rattle.responses.specs.Figures.{rows_above, rows_below, worst_in, best_in, blocking}
use Rattle.responses.proofs.Sums.{ceiling_covers, ceiling_under}
use Rattle.responses.proofs.Blocking.{blocks}
use Rattle.boards.specs.Claims.{LastsInRange, Finishes}
use Rattle.boards.proofs.Sums.{Above, sum-le, sum_last}
use Rattle.boards.proofs.Releases.{ceiling_short, released_before_lem, unreleased, needed, needed_most, needed_grows}
use Rattle.boards.proofs.Service.{service, service_above, work_above, sum_service, service_grows, service_most}
use Rattle.boards.proofs.Service.{Last, crossing, Run, service_within, quiet_each, last_quiet, busy, room}
use Rattle.boards.proofs.Stretches.{runs_in, began_in, hold_of}
use Rattle.boards.proofs.Traces.{release_of, released_of, work_of, trace, unserved, served_after}
use Rattle.boards.proofs.Traces.{finish_told, of_finish, finish_once}
use Rattle.boards.proofs.Ranks.{best_part, best_above, hold_below}
use Rattle.boards.proofs.Windows.{periods, needs, needs_best, window_most, window_least, window_above}

module _ (order : List Row) (offset : ℕ → ℕ) (need : ℕ → ℕ → ℕ) (keeps : ℕ → Bool)
    (ok : (j : ℕ) → j < length order → Times (row_at order j)) (lasts : LastsInRange order need) where
  abbrev runs : ℕ → ℕ
  runs t = runs_in order offset need keeps t

  abbrev began : ℕ → ℕ
  began t = began_in order offset need keeps t

  abbrev holds : ℕ → ℕ
  holds j = hold_of order j

  abbrev work : ℕ → ℕ → ℕ
  work j t = work_of order offset need j t

  abbrev release : ℕ → ℕ → ℕ
  release j k = release_of order offset j k

  abbrev period_some : (j : ℕ) → j < length order → 1 ≤ (row_at order j).period
  period_some = periods order offset need ok lasts

  abbrev need_some : (j k : ℕ) → j < length order → 1 ≤ need j k
  need_some = needs order offset need ok lasts

  run : Run (length order) holds runs began work
  run = trace order offset need keeps period_some need_some

  unserved_till : (j k t : ℕ) → j < length order → t ≤ release j k → service runs j t ≤ needed (need j) k
  unserved_till = unserved order offset need keeps period_some need_some

  done_released : (j k t : ℕ) → j < length order → needed (need j) (suc k) ≤ service runs j t → release j k < t
  done_released = served_after order offset need keeps period_some need_some

  -- ---- after a quiet tick of rank i and those above, the last up to a limit
  module _ (i limit : ℕ) (l : i < length order)
      (z : Last (work_above work (suc i)) (service_above runs (suc i)) limit) where
    abbrev blocked : ℕ
    blocked = blocking (rows_below order i)

    -- all ticks but the blocking time go to rank i and those above
    busy_for : (d : ℕ) → z.tick + d ≤ limit
        → work_above work i z.tick + work i z.tick + d ≤ service_above runs (suc i) (z.tick + d) + blocked
    busy_for d h =
        let lower = hold_below (suc i) (blocked + 1) order (blocks (rows_below order i)).covers in
        let b = busy (length order) holds runs began work run (suc i) blocked limit l lower z d h in
        omega (arith, z.under, sum_last i (λ j. work j z.tick))

    -- so the next q + 1 jobs of rank i are done in x ticks that they, the blocking time and those above fit
    done_after : (q x : ℕ) → suc q * cost (row_at order i) + blocked + worst_in x (rows_above order i) ≤ x
        → z.tick + x ≤ limit → needed (need i) (released_of order offset i z.tick + suc q) ≤ service runs i limit
    done_after q x fits in_time =
        let s = z.tick in
        let u = s + x in
        let own =
        needed_most (need i) (cost (row_at order i)) (λ k. (lasts i k l).1) (released_of order offset i s) (suc q) in
        let each : Above i (λ j. service runs j u ≤ work j u) = λ j b.
        service_within (length order) holds runs began work run j u (lt_trans b l) in
        let above = sum-le i (λ j. service runs j u) (λ j. work j u) each in
        let brought = window_above order offset need ok lasts i s x (omega arith) in
        let split = sum_last i (λ j. service runs j u) in
        omega (arith, busy_for x in_time, service_grows runs i u limit in_time, sum_service runs (suc i) u)

    -- and such x ticks, within the periods of those jobs, would bring another quiet tick
    no_more : (q x : ℕ) → suc q * cost (row_at order i) + blocked + worst_in x (rows_above order i) ≤ x
        → 1 ≤ x → x ≤ suc q * (row_at order i).period → z.tick + x ≤ limit → ⊥
    no_more q x fits some ends in_time =
        let s = z.tick in
        let r = row_at order i in
        let u = s + x in
        let own = window_most order offset need ok lasts i s x l in
        let few = mul-le-mul_right (cost r) (ceiling_under (suc q) x r.period (period_some i l) ends) in
        let brought = window_above order offset need ok lasts i s x (omega arith) in
        let split = sum_last i (λ j. work j u) in
        let over = z.over u (omega arith) in_time in
        omega (arith, busy_for x in_time)

  -- ---- in time
  -- the jobs of a busy interval up to the last: w q bounds what the first q + 1 take, and W their responses
  pub record Covers (i W last : ℕ) (w : ℕ → ℕ) : Type 0 where
    pub some : (q : ℕ) → q ≤ last → 1 ≤ w q
    pub fits :
        (q : ℕ) → q ≤ last
        → suc q * cost (row_at order i) + blocking (rows_below order i) + worst_in (w q) (rows_above order i) ≤ w q
    pub within : (q : ℕ) → q ≤ last → w q ≤ W + q * (row_at order i).period
    pub ends : w last ≤ suc last * (row_at order i).period

  module _ (i k W last : ℕ) (w : ℕ → ℕ) (l : i < length order) (c : Covers i W last w) where
    abbrev limit : ℕ
    limit = release i k + W

    -- while the job is not done, the last quiet tick is not after its release
    before_release : (s : ℕ) → s ≤ limit → work_above work (suc i) s ≤ service_above runs (suc i) s
        → service runs i limit < needed (need i) (suc k) → s ≤ release i k
    before_release s a q short = elim (le-or-lt s (release i k)) [
      | inl h ↦ h
      | inr h ↦ (
          let quiet = quiet_each (length order) holds runs began work run (suc i) s l q i (le_refl (suc i)) in
          let known = released_before_lem (row_at order i).period (offset i) (period_some i l) k s h in
          let due = needed_grows (need i) (suc k) (released_of order offset i s) known in
          absurd (omega (arith, service_grows runs i s limit a)))
    ]

    completed : needed (need i) (suc k) ≤ service runs i limit
    completed = elim (le-or-lt (needed (need i) (suc k)) (service runs i limit)) [
      | inl h ↦ h
      | inr h ↦ (
          let z = last_quiet (length order) holds runs began work run (suc i) limit l in
          let s = z.tick in
          let r = row_at order i in
          let a = released_of order offset i s in
          let q = k - a in
          let early = before_release s z.reached z.under h in
          let some : a ≤ k = unreleased r.period (offset i) (period_some i l) k s early in
          let e : k ≡ a + q = omega arith in
          let whole = ap (λ (x : ℕ). x * r.period) e ∙ add-mul a q r.period in
          let first : s + q * r.period ≤ release i k =
          omega (arith, ceiling_covers (s - offset i) r.period (period_some i l)) in
          elim (le-or-lt q last) [
            | inl b ↦ (
                let count : a + suc q ≡ suc k = omega arith in
                rw count at (done_after i limit l z q (w q) (c.fits q b) (omega (arith, c.within q b))))
            | inr b ↦ (
                let fits = c.fits last (le_refl last) in
                let some = c.some last (le_refl last) in
                absurd (no_more i limit l z last (w last) fits some c.ends
                (omega (arith, c.ends, mul-le-mul_right r.period b))))
          ])
    ]

    pub kept_late : (f : ℕ) × (release i k < f) × (f ≤ release i k + W)
        × Finishes order offset need keeps i (release i k) f
    kept_late =
        let none = need_some i k l in
        let x = crossing (service runs i) (needed (need i) (suc k)) limit (omega arith) completed in (
          suc x.0,
          done_released i k (suc x.0) l x.3,
          omega (arith, x.1),
          finish_told order offset need keeps period_some need_some i x.0 k l x.2 x.3,
        )

  -- ---- not early
  -- a job takes its own ticks, whoever runs
  pub kept_own : (i r f : ℕ) → i < length order → Finishes order offset need keeps i r f
      → r + (row_at order i).best ≤ f
  kept_own i r f l done =
      let n = of_finish order offset need keeps period_some need_some i r f l done in
      let k = n.index in
      let first = release i k in
      let after = done_released i k (suc n.tick) l (le_of_eq (sym n.complete)) in
      let whole : first + (suc n.tick - first) ≡ suc n.tick = omega arith in
      let most = rw whole at (service_most runs i first (suc n.tick - first)) in
      let own = needs_best order offset need ok lasts i k l in
      omega (arith, n.release_is, n.after, n.complete, unserved_till i k first l (le_refl first))

  -- of a task that runs by rank only, for any e up to d, where all above have started d before the release
  module _ (i k t e d : ℕ) (l : i < length order) (turn : runs t ≡ i) (alone : (row_at order i).hold ≤ 1)
      (complete : service runs i (suc t) ≡ needed (need i) (suc k)) (pos : 1 ≤ e) (lead : e ≤ d)
      (fits : e ≤ (row_at order i).best + best_in e (rows_above order i))
      (started : (j : ℕ) → j < i → offset j + d ≤ release i k) where
    -- the start of the e - 1 ticks before the finish, and what those above bring from there
    abbrev start : ℕ
    start = suc (suc t) - e

    released : release i k < suc t
    released = done_released i k (suc t) l (le_of_eq (sym complete))

    brings : Above i (λ j. work j start + best_part e (row_at order j) ≤ work j (suc t))
    brings j b =
        let p = (row_at order j).period in
        let begun = started j b in
        let whole : start + (e - 1) ≡ suc t = omega (arith, released) in
        let short = ceiling_short e p (period_some j (lt_trans b l)) pos in
        let least = window_least order offset need ok lasts j start (e - 1) (ceiling e p - 1) in
        rw whole at (least (lt_trans b l) (omega (arith, released)) (omega arith))

    -- a response below e leaves no room for it
    no_room : suc t < release i k + e → ⊥
    no_room h =
        let before : start ≤ suc t = omega arith in
        let part : ℕ → ℕ = λ j. best_part e (row_at order j) in
        let used = room (length order) holds runs began work run i t start l turn alone before part brings in
        let own = unserved_till i k start l (omega arith) in
        let shortest = needs_best order offset need ok lasts i k l in
        omega (arith, released, best_above e i order (omega arith))

    not-before : release i k + e ≤ suc t
    not-before = elim (le-or-lt (release i k + e) (suc t)) [ inl h ↦ h | inr h ↦ absurd (no_room h) ]

  pub kept_early : (i r f e d : ℕ) → i < length order → (row_at order i).hold ≤ 1 → 1 ≤ e → e ≤ d
      → e ≤ (row_at order i).best + best_in e (rows_above order i)
      → ((j : ℕ) → j < i → offset j + d ≤ r)
      → Finishes order offset need keeps i r f
      → r + e ≤ f
  kept_early i r f e d l alone pos lead fits started done =
      let n = of_finish order offset need keeps period_some need_some i r f l done in
      let begun : (j : ℕ) → j < i → offset j + d ≤ release i n.index = λ j b. omega (arith, started j b, n) in
      let before = not-before i n.index n.tick e d l n.ran alone n.complete pos lead fits begun in
      omega (arith, n.release_is, n.after)

  pub kept_once : (i r f g : ℕ) → i < length order
      → Finishes order offset need keeps i r f → Finishes order offset need keeps i r g → f ≡ g
  kept_once = finish_once order offset need keeps period_some need_some
