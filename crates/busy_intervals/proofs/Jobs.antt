-- The jobs of a busy interval, one after another. A solution for a job more, less its cost, has room for the jobs
-- before: so none lies below their w and that cost. A search up to the deadline of its job finds its w, or shows the
-- task late.
use mathlib.Core.Path.{◌≡◌, sym, ap, ◌∙◌}
use mathlib.Core.Bool.{Bool}
use mathlib.Core.Logic.{◌⊎◌, inl, inr}
use mathlib.Core.List.{List}
use Prim.Native.Nat.{ℕ, zero, suc, ◌+◌, ◌-◌, ◌*◌, ◌≤◌, ◌<◌}
use native.Mathlib.Nat.{le_refl, le_antisymm, mul-le-mul_left}
use native.Mathlib.Omega.{arith}
use borrow.Author.Tests.{le-leb, lt-leb}
use Rattle.basics.specs.Basics.{pick, larger}
use Rattle.basics.proofs.Tests.{le-or-lt}
use Rattle.basics.proofs.Numbers.{larger_left, larger_right, larger_most}
use Rattle.rows.specs.Rows.{max_ticks}
use Rattle.responses.specs.declared.Load.{Load}
use Rattle.responses.specs.Interference.{interference, least_fixed}
use Rattle.responses.specs.BusyIntervals.{longest, latest_within}
use Rattle.responses.proofs.Sums.{interference_mono}
use Rattle.responses.proofs.FixedPoints.{fixed_below, demand_mono, least_fixed_lem, least_least, least_is}
use Rattle.responses.proofs.BusyIntervals.{Counts, latest_here, late_here}
use Rattle.fixed_points.specs.inside.Values.{Searching}
use Rattle.busy_intervals.specs.inside.Finishes.{finishes, limit_for, InLimits, Stretch}

-- ---- limits
pub limit_within : (due : ℕ) → due ≤ max_ticks → limit_for due ≡ due
limit_within due h = ap (λ (b : Bool). pick b due max_ticks) (le-leb due max_ticks h)

pub limit_past : (due : ℕ) → max_ticks < due → limit_for due ≡ max_ticks
limit_past due h = ap (λ (b : Bool). pick b due max_ticks) (lt-leb due max_ticks h)

pub limit_max : (due : ℕ) → limit_for due ≤ max_ticks
limit_max due = elim (le-or-lt due max_ticks) [
  | inl h ↦ omega (arith, limit_within due h)
  | inr h ↦ omega (arith, limit_past due h)
]

limit_least : (due x : ℕ) → x ≤ due → x ≤ max_ticks → x ≤ limit_for due
limit_least due x h k = elim (le-or-lt due max_ticks) [
  | inl l ↦ omega (arith, limit_within due l)
  | inr l ↦ omega (arith, limit_past due l)
]

limit_due : (due : ℕ) → limit_for due ≤ due
limit_due due = elim (le-or-lt due max_ticks) [
  | inl h ↦ omega (arith, limit_within due h)
  | inr h ↦ omega (arith, limit_past due h)
]

module _ (base limit : ℕ) (ls : List Load) (less : limit ≤ max_ticks) where
  -- a solution that is found within a limit is that up to 1,000,000
  same_found : 1 ≤ least_fixed base limit ls → least_fixed base limit ls ≡ least_fixed base max_ticks ls
  same_found h =
      let f = least_fixed_lem base limit ls h in
      let g = least_least base max_ticks ls (least_fixed base limit ls) h f.0 (omega (arith, f.1)) in
      let i = least_fixed_lem base max_ticks ls g.0 in
      let k = least_least base limit ls (least_fixed base max_ticks ls) g.0 i.0 (omega (arith, g.1, f.1)) in
      omega (arith, g.1, k.1)

  -- where none is, it is past the limit, or there is none
  none_found : least_fixed base limit ls ≡ 0 → (least_fixed base max_ticks ls ≡ 0) ⊎ (limit < least_fixed base max_ticks ls)
  none_found z = elim (le-or-lt 1 (least_fixed base max_ticks ls)) [
    | inl h ↦ elim (le-or-lt (least_fixed base max_ticks ls) limit) [
      | inl l ↦ (
          let f = least_fixed_lem base max_ticks ls h in
          absurd (omega (arith, z, (least_least base limit ls (least_fixed base max_ticks ls) h f.0 l).0)))
      | inr l ↦ inr l
    ]
    | inr h ↦ inl (omega arith)
  ]

-- ---- where the search stands behind job q: it and all before it are found within their deadlines, and those before it
-- go on
pub record Behind (cost blocked period deadline : ℕ) (ls : List Load) (q base finish most next : ℕ) : Type 0 where
  pub base_is : base ≡ suc q * cost + blocked
  pub finish_is : finish ≡ finishes cost blocked ls q
  pub next_is : next ≡ suc q * period
  pub most_some : 1 ≤ most
  pub longest_is : most ≡ longest (finishes cost blocked ls) period (suc q)
  pub goes_on : (j : ℕ) → j < q → suc j * period < finishes cost blocked ls j
  pub in_time :
      (j : ℕ) → j ≤ q → (1 ≤ finishes cost blocked ls j) × (finishes cost blocked ls j ≤ j * period + deadline)

module _ (cost blocked period deadline : ℕ) (ls : List Load) (t : InLimits cost blocked period deadline) where
  abbrev w : ℕ → ℕ
  w q = finishes cost blocked ls q

  abbrev latest : ℕ
  latest = latest_within w period deadline

  period_some : 1 ≤ period
  period_some = omega (arith, t.cost_some, t.cost_period)

  fixed : (q : ℕ) → 1 ≤ w q → (w q ≡ suc q * cost + blocked + interference 0 (w q) ls) × (w q ≤ max_ticks)
  fixed q h = least_fixed_lem (suc q * cost + blocked) max_ticks ls h

  counts : Counts w
  counts = record {
    most = λ q. elim (le-or-lt 1 (w q)) [ inl h ↦ (fixed q h).1 | inr h ↦ omega arith ];
    each = λ q h. omega (arith, (fixed q h).0, mul-le-mul_left (suc q) t.cost_some);
  }

  -- ---- the first job
  pub first_late : least_fixed (cost + blocked) deadline ls ≡ 0 → 0 ≡ latest
  first_late z =
      let base : suc 0 * cost + blocked ≡ cost + blocked = omega arith in
      let none : least_fixed (suc 0 * cost + blocked) deadline ls ≡ 0 =
      ap (λ (b : ℕ). least_fixed b deadline ls) base ∙ z in
      sym (late_here w period period_some counts deadline 0 (λ j l. absurd (omega arith))
      (elim (none_found (suc 0 * cost + blocked) deadline ls t.deadline_max none) [
        | inl e ↦ inl e
        | inr e ↦ inr (omega (arith, e))
      ]))

  pub first_job : (finish : ℕ) → finish ≡ least_fixed (cost + blocked) deadline ls → 1 ≤ finish
      → Behind cost blocked period deadline ls 0 (cost + blocked) finish finish period
  first_job finish is some =
      let base : cost + blocked ≡ suc 0 * cost + blocked = omega arith in
      let e : finish ≡ least_fixed (suc 0 * cost + blocked) deadline ls =
      is ∙ ap (λ (b : ℕ). least_fixed b deadline ls) base in
      let there : 1 ≤ least_fixed (suc 0 * cost + blocked) deadline ls = omega (arith, e) in
      let f = least_fixed_lem (suc 0 * cost + blocked) deadline ls there in
      let same : finish ≡ w 0 = e ∙ same_found (suc 0 * cost + blocked) deadline ls t.deadline_max there in
      record {
        base_is = base;
        finish_is = same;
        next_is = omega arith;
        most_some = some;
        longest_is = only_one finish same;
        goes_on = λ j l. absurd (omega arith);
        in_time = λ j l.
            let z : j ≡ 0 = omega arith in
            rw z (omega (arith, same), omega (arith, same, e, f.1));
      }
    where
      only_one : (x : ℕ) → x ≡ w 0 → x ≡ longest w period 1
      only_one x e =
          let whole : w 0 - 0 * period ≡ w 0 = omega arith in
          e ∙ sym (ap (λ (b : Bool). pick b (w 0 - 0 * period) 0) (le-leb 0 (w 0 - 0 * period) (omega arith)) ∙ whole)

  -- ---- the next
  module _ (q base finish most next : ℕ) (b : Behind cost blocked period deadline ls q base finish most next) where
    limits : (finish ≤ max_ticks) × (base ≤ max_ticks)
    limits =
        let f = fixed q (b.in_time q (le_refl q)).0 in
        (omega (arith, b.finish_is, f.1), omega (arith, b.base_is, f.0, f.1))

    pub small : (finish ≤ max_ticks) × (base ≤ max_ticks) × (1 ≤ finish)
    small = (limits.0, limits.1, omega (arith, b.finish_is, (b.in_time q (le_refl q)).0))

    more : base + cost ≡ suc (suc q) * cost + blocked
    more = omega (arith, b.base_is)

    solved : finish ≡ base + interference 0 finish ls
    solved =
        let f = fixed q (b.in_time q (le_refl q)).0 in
        b.finish_is ∙ f.0 ∙ sym (ap (λ (x : ℕ). x + interference 0 (w q) ls) b.base_is)
        ∙ ap (λ (x : ℕ). base + interference 0 x ls) (sym b.finish_is)

    -- no solution lies below the last and a cost
    pub from_last : (limit : ℕ) → limit ≤ max_ticks → Searching (base + cost) limit ls (finish + cost)
    from_last limit l =
        record {
          some = omega (arith, t.cost_some);
          rises = omega (arith, solved, interference_mono 0 finish (finish + cost) ls (omega arith));
          none_below = λ v h e k. below v h e (omega (arith, k, l));
        }
      where
        below : (v : ℕ) → 1 ≤ v → v ≡ base + cost + interference 0 v ls → v ≤ max_ticks → finish + cost ≤ v
        below v h e k =
            let u = v - cost in
            let fits : suc q * cost + blocked + interference 0 u ls ≤ u =
            omega (arith, b.base_is, e, interference_mono 0 u v ls (omega arith)) in
            let base' = suc q * cost + blocked in
            let p = fixed_below (λ y. base' + interference 0 y ls) (demand_mono 0 base' ls)
            (λ y. omega (arith, t.cost_some)) u fits in
            let least = least_least base' max_ticks ls p.point p.some p.is_fixed_lem (omega (arith, p.below)) in
            omega (arith, b.finish_is, least.1, p.below, e)

    -- behind it: late, or one job more
    module _ (on : next < finish) (found : ℕ) (is : found ≡ least_fixed (base + cost) (limit_for (next + deadline)) ls) where
      abbrev limit : ℕ
      limit = limit_for (next + deadline)

      also : (j : ℕ) → j < suc q → suc j * period < w j
      also j l = elim (le-or-lt q j) [
        | inl h ↦ (let e : j ≡ q = omega arith in rw e (omega (arith, on, b.next_is, b.finish_is)))
        | inr h ↦ b.goes_on j h
      ]

      same_base : found ≡ least_fixed (suc (suc q) * cost + blocked) limit ls
      same_base = is ∙ ap (λ (x : ℕ). least_fixed x limit ls) more

      pub next_late : found ≡ 0 → 0 ≡ latest
      next_late z =
          sym (late_here w period period_some counts deadline (suc q) also
          (elim (none_found (suc (suc q) * cost + blocked) limit ls (limit_max (next + deadline)) (sym same_base ∙ z)) [
            | inl e ↦ inl e
            | inr e ↦ inr (elim (le-or-lt (next + deadline) max_ticks) [
              | inl h ↦ omega (arith, e, limit_within (next + deadline) h, b.next_is)
              | inr h ↦ absurd (omega (arith, e, limit_past (next + deadline) h, counts.most (suc q)))
            ])
          ]))

      module _ (some : 1 ≤ found) where
        there : 1 ≤ least_fixed (suc (suc q) * cost + blocked) limit ls
        there = omega (arith, same_base)

        found_is : found ≡ w (suc q)
        found_is = same_base
            ∙ same_found (suc (suc q) * cost + blocked) limit ls (limit_max (next + deadline)) there

        due : w (suc q) ≤ suc q * period + deadline
        due =
            let f = least_fixed_lem (suc (suc q) * cost + blocked) limit ls there in
            omega (arith, found_is, same_base, f.1, limit_due (next + deadline), b.next_is)

        pub next_job : Behind cost blocked period deadline ls (suc q) (base + cost) found (larger most (found - next)) (next + period)
        next_job = record {
          base_is = more;
          finish_is = found_is;
          next_is = omega (arith, b.next_is);
          most_some = omega (arith, b.most_some, larger_left most (found - next));
          longest_is = rw (b.longest_is, found_is, b.next_is);
          goes_on = also;
          in_time = λ j l. elim (le-or-lt (suc q) j) [
            | inl h ↦ (
                let e : j ≡ suc q = omega arith in
                rw e (omega (arith, some, found_is), due))
            | inr h ↦ b.in_time j (omega arith)
          ];
        }

        -- it is done later, and after its release
        pub later : (finish < found) × (next ≤ found)
        later =
            let least = least_fixed_lem (base + cost) limit ls (omega (arith, is)) in
            let s = from_last limit (limit_max (next + deadline)) in
            let past = s.none_below found some (is ∙ least.0 ∙ ap (λ (x : ℕ). base + cost + interference 0 x ls) (sym is))
            (omega (arith, is, least.1)) in
            (omega (arith, past, t.cost_some), omega (arith, past, on))

    -- ---- the last
    pub last_job : finish ≤ next → most ≡ latest
    last_job ends =
        b.longest_is
        ∙ sym (latest_here w period period_some counts deadline q b.goes_on b.in_time
        (omega (arith, ends, b.finish_is, b.next_is)))

  -- ---- the jobs of a stretch, behind job q: each is found a cost later, none takes longer
  module _ (q base finish most next : ℕ) (b : Behind cost blocked period deadline ls q base finish most next) where
    -- where the first k are behind too, one more
    module _ (k : ℕ) (at : Behind cost blocked period deadline ls (q + k) (base + k * cost) (finish + k * cost) most (next + k * period))
        (s : Stretch cost period ls finish next (suc k)) where
      abbrev found : ℕ
      found = finish + k * cost + cost

      abbrev last_tick : ℕ
      last_tick = next + k * period + deadline

      due_in_time : found ≤ last_tick
      due_in_time =
          omega (arith, (at.in_time (q + k) (le_refl (q + k))).1, at.finish_is, at.next_is, t.cost_period)

      later_is : found ≡ least_fixed (base + k * cost + cost) (limit_for last_tick) ls
      later_is =
          let most_ticks : found ≤ max_ticks = omega (arith, s.fits) in
          let same = s.same found (omega arith) (omega arith) in
          let here = solved q base finish most next b in
          let search = from_last (q + k) (base + k * cost) (finish + k * cost) most (next + k * period) at (limit_for last_tick)
          (limit_max last_tick) in
          least_is (base + k * cost + cost) (limit_for last_tick) ls found (omega (arith, t.cost_some))
          (omega (arith, same, here)) (limit_least last_tick found due_in_time most_ticks) search.none_below

      no_longer : larger most (found - (next + k * period)) ≡ most
      no_longer =
          let last = larger_right (longest w period (q + k)) (w (q + k) - (q + k) * period) in
          let less : found - (next + k * period) ≤ most =
          omega (arith, at.longest_is, last, at.finish_is, at.next_is, t.cost_period) in
          le_antisymm (larger_most most (found - (next + k * period)) most (le_refl most) less)
          (larger_left most (found - (next + k * period)))

      one_more : Behind cost blocked period deadline ls (suc (q + k)) (base + k * cost + cost) found most (next + k * period + period)
      one_more =
          rw no_longer at (next_job (q + k) (base + k * cost) (finish + k * cost) most (next + k * period) at
          (s.goes_on k (omega arith)) found later_is (omega (arith, t.cost_some)))

    pub stretch : (k : ℕ) → Stretch cost period ls finish next k
        → Behind cost blocked period deadline ls (q + k) (base + k * cost) (finish + k * cost) most (next + k * period)
    stretch zero s =
        let z : (x : ℕ) → x + 0 * cost ≡ x = λ x. omega arith in
        let y : next + 0 * period ≡ next = omega arith in
        let n : q + 0 ≡ q = omega arith in
        rw (n, z base, z finish, y) b
    stretch (suc k) s =
        let before = stretch k (record {
          fits = omega (arith, s.fits);
          same = λ y h l. s.same y h (omega (arith, l));
          goes_on = λ j l. s.goes_on j (omega (arith, l));
        }) in
        let n : q + suc k ≡ suc (q + k) = omega arith in
        let z : (x : ℕ) → x + suc k * cost ≡ x + k * cost + cost = λ x. omega arith in
        let y : next + suc k * period ≡ next + k * period + period = omega arith in
        rw (n, z base, z finish, y) (one_more k before s)
