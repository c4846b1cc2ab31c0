-- Where no job may hold the processor past a tick, a switch costs nothing and the deadline is the period, the figures
-- are those of document 03, whose definitions stand here as they stand there: a job takes at most the row's worst, the
-- rows below delay nobody, and no job is done past the next release.
use mathlib.Core.Path.{◌≡◌, refl, ap, ap₂, sym, ◌∙◌}
use mathlib.Core.Bool.{Bool, true, false, ◌&&◌, not, cond}
use mathlib.Core.Logic.{inl, inr}
use mathlib.Core.List.{List, [], ◌∷◌, map}
use Prim.Native.Nat.{ℕ, zero, suc, ◌+◌, ◌-◌, ◌*◌, ◌≤◌, ◌<◌}
use native.Mathlib.Nat.{sub-zero}
use native.Mathlib.Omega.{arith}
use borrow.Author.Tests.{ltb-true, ltb-false, eqb-true, eqb-false, leb-true, leb-false, lt-ltb, le-ltb}
use lib.Dec.{eqb, ltb, leb}
use lib.IntN.{ℤ, pos, negsuc, sub_ℕ}
use lib.ListN.{length}
use lib.Signed.{le_z}
use Rattle.rows.specs.Rows.{times_in_range, all_rows}
use Rattle.rows.specs.Rows.{Row}
use Rattle.rows.proofs.Limits.{times}
use Rattle.std.specs.Prelude.{Ok}
use Rattle.responses.specs.Extremes.{largest}
use Rattle.responses.specs.Interference.{ceiling, interference, least_fixed, largest_fixed}
use Rattle.basics.specs.Basics.{pick}
use Rattle.basics.proofs.Tests.{test_of}
use Rattle.responses.specs.Figures.{best_load, best_in}
use Rattle.responses.specs.Figures as F
use Rattle.curves.proofs.Floors.{sub_sign}
use Rattle.responses.proofs.Conditions.{line_margin_lem}
use Rattle.responses.proofs.FixedPoints.{demand_mono, least_is, least_none, largest_is}
use Rattle.responses.specs.Claims.{plain_load, NoneHolds, NoSwitch}
use Rattle.responses.proofs.Switches.{cost_is}
use Rattle.responses.proofs.Responses.{responses, limits_times, without_either}

-- ---- document 03
abbrev pub worst_sum : ℕ → List Row → ℕ
worst_sum x [] = 0
worst_sum x (r ∷ rs) = ceiling x r.period * r.worst + worst_sum x rs

abbrev pub best_sum : ℕ → List Row → ℕ
best_sum x [] = 0
best_sum x (r ∷ rs) = (ceiling x r.period - 1) * r.best + best_sum x rs

abbrev pub latest_from : ℕ → Row → List Row → ℕ → ℕ
latest_from zero t rs w = 0
latest_from (suc f) t rs w =
    let x = t.worst + worst_sum w rs in
    elim (ltb t.period x) [ true ↦ 0 | false ↦ elim (eqb x w) [ true ↦ w | false ↦ latest_from f t rs x ] ]

abbrev pub latest : Row → List Row → ℕ
latest t rs = latest_from (suc t.period) t rs t.worst

abbrev pub is_late : Row → List Row → Bool
is_late t rs = eqb (latest t rs) 0

abbrev pub earliest_from : ℕ → Row → List Row → ℕ → ℕ
earliest_from zero t rs e = e
earliest_from (suc f) t rs e =
    let x = t.best + best_sum e rs in
    elim (eqb x e) [ true ↦ e | false ↦ earliest_from f t rs x ]

abbrev pub earliest : Row → List Row → ℕ
earliest t rs = earliest_from (latest t rs) t rs (latest t rs)

abbrev pub less : ℕ → ℕ → ℤ
less a b = pick (leb b a) (pos (a - b)) (negsuc (b - a - 1))

abbrev pub jitter : Row → List Row → ℕ
jitter t rs = latest t rs - earliest t rs

abbrev pub cost : Row → List Row → ℕ
cost t rs = 1000 * earliest t rs + t.alpha * jitter t rs

abbrev pub margin : Row → List Row → ℤ
margin t rs = less t.beta (cost t rs)

abbrev pub is_stable : Row → List Row → Bool
is_stable t rs = not (is_late t rs) && leb (cost t rs) t.beta

-- ---- sums
abbrev plain_in : ℕ → List Row → ℕ
plain_in x rs = interference 0 x (map plain_load rs)

worst_is : (x : ℕ) (rs : List Row) → worst_sum x rs ≡ plain_in x rs
worst_is x [] = refl
worst_is x (r ∷ rs) = ap₂ (λ (k s : ℕ). k * r.worst + s) (sym (sub-zero (ceiling x r.period))) (worst_is x rs)

best_is : (x : ℕ) (rs : List Row) → best_sum x rs ≡ best_in x rs
best_is x [] = refl
best_is x (r ∷ rs) = ap (λ (s : ℕ). (ceiling x r.period - 1) * r.best + s) (best_is x rs)

-- ---- the iterations: one step, by its tests
abbrev step : Bool → Bool → ℕ → ℕ → ℕ
step past same w next = elim past [ true ↦ 0 | false ↦ elim same [ true ↦ w | false ↦ next ] ]

-- raised from w, which is at most what it takes and every fixed point, W is found
raised : (t : Row) (rs : List Row) (f w : ℕ) → 1 ≤ w → w ≤ t.worst + plain_in w rs
    → ((v : ℕ) → 1 ≤ v → v ≡ t.worst + plain_in v rs → v ≤ t.period → w ≤ v)
    → t.period < f + w → latest_from f t rs w ≡ least_fixed t.worst t.period (map plain_load rs)
raised t rs zero w h k l m =
    least_none t.worst t.period (map plain_load rs) (λ v a e b. omega (arith, l v a e b))
raised t rs (suc f) w h k l m =
    let x = t.worst + worst_sum w rs in
    let q = worst_is w rs in
    let up = demand_mono 0 t.worst (map plain_load rs) in
    elim (test_of (ltb t.period x)) [
      | inl a ↦ ap (λ (b : Bool). step b (eqb x w) w (latest_from f t rs x)) a
          ∙ (let g = ltb-true t.period x a in
          least_none t.worst t.period (map plain_load rs) (λ v n e b. omega (arith, up w v (l v n e b))))
      | inr a ↦ (let g = ltb-false t.period x a in elim (test_of (eqb x w)) [
        | inl c ↦ ap₂ (λ (b d : Bool). step b d w (latest_from f t rs x)) a c
            ∙ (let i = eqb-true x w c in
            least_is t.worst t.period (map plain_load rs) w h (omega arith) (omega arith) l)
        | inr c ↦ ap₂ (λ (b d : Bool). step b d w (latest_from f t rs x)) a c
            ∙ (let i = eqb-false x w c in
            raised t rs f x (omega arith) (omega (arith, up w x (omega arith)))
            (λ v n e b. omega (arith, up w v (l v n e b))) (omega arith))
      ])
    ]

-- lowered from e, whose demand fits it and which is at least every fixed point up to w, E is found
lowered : (t : Row) (rs : List Row) (w f e : ℕ) → 1 ≤ t.best → t.best + best_in w rs ≤ w → e ≤ w
    → t.best + best_in e rs ≤ e
    → ((v : ℕ) → v ≡ t.best + best_in v rs → v ≤ w → v ≤ e)
    → e ≤ f + t.best → earliest_from f t rs e ≡ largest_fixed t.best w (map best_load rs)
lowered t rs w zero e h n i k l m = largest_is t.best w (map best_load rs) e h n (omega arith) i l
lowered t rs w (suc f) e h n i k l m =
    let x = t.best + best_sum e rs in
    let q = best_is e rs in
    let up = demand_mono 1 t.best (map best_load rs) in
    elim (test_of (eqb x e)) [
      | inl c ↦ ap (λ (b : Bool). step false b e (earliest_from f t rs x)) c
          ∙ (let j = eqb-true x e c in largest_is t.best w (map best_load rs) e h n (omega arith) i l)
      | inr c ↦ ap (λ (b : Bool). step false b e (earliest_from f t rs x)) c
          ∙ (let j = eqb-false x e c in
          lowered t rs w f x h n (omega arith) (omega (arith, up x e (omega arith)))
          (λ v a b. omega (arith, up v e (l v a b))) (omega arith))
    ]

-- ---- differences
less_is : (a b : ℕ) → less a b ≡ sub_ℕ a b
less_is a b = elim (test_of (leb b a)) [
  | inl e ↦ ap (λ (c : Bool). pick c (pos (a - b)) (negsuc (b - a - 1))) e
      ∙ sym (ap (λ (c : Bool). cond c (negsuc (b - suc a)) (pos (a - b))) (le-ltb a b (leb-true b a e)))
  | inr e ↦ ap (λ (c : Bool). pick c (pos (a - b)) (negsuc (b - a - 1))) e
      ∙ (ap negsuc (omega arith)
      ∙ sym (ap (λ (c : Bool). cond c (negsuc (b - suc a)) (pos (a - b))) (lt-ltb a b (leb-false b a e))))
]

-- ---- figures of rows whose times are in range
module _ (t : Row) (rs below : List Row) (own : t.hold ≤ 1) (none : NoneHolds below) (free : t.switch ≡ 0)
    (others : NoSwitch rs) (due : t.deadline ≡ t.period) (ht : times_in_range t ≡ true) (hr : all_rows times_in_range rs ≡ true) where
  pub latest_is : latest t rs ≡ F.latest t rs below
  latest_is =
      let l = times t ht in
      let some : 1 ≤ t.worst = omega (arith, l.best_some, l.best_cost, cost_is t, free) in
      raised t rs (suc t.period) t.worst some (omega arith) (λ v a e b. omega arith) (omega arith)
      ∙ sym (without_either t rs below ht due free others own none).latest_then

  from_latest : (w : ℕ) → w ≡ F.latest t rs below → earliest_from w t rs w ≡ largest_fixed t.best w (map best_load rs)
  unfolding largest
  from_latest zero e = refl
  from_latest (suc w) e =
      let l = times t ht in
      let r = responses t rs below ht hr (omega arith) in
      let b : t.best + best_in (suc w) rs ≤ suc w = rw e r.best_fits in
      lowered t rs (suc w) (suc w) (suc w) l.best_some b (omega arith) b (λ v a c. c) (omega arith)

  pub earliest_is : earliest t rs ≡ F.earliest t rs below
  earliest_is = from_latest (latest t rs) latest_is
      ∙ ap (λ (w : ℕ). largest_fixed t.best w (map best_load rs)) latest_is
      ∙ sym (without_either t rs below ht due free others own none).earliest_then

  spent_is : cost t rs ≡ 1000 * F.earliest t rs below + t.alpha * F.jitter t rs below
  spent_is = ap₂ (λ (w e : ℕ). 1000 * e + t.alpha * (w - e)) latest_is earliest_is

  -- of a row without points
  module _ (bare : length t.curve ≡ 0) where
    by_line : sub_ℕ t.beta (cost t rs) ≡ F.margin t rs below
    by_line =
        ap (sub_ℕ t.beta) spent_is
        ∙ sym (line_margin_lem t.alpha t.beta (F.latest t rs below) (F.earliest t rs below) t.curve bare)

    pub margin_is : margin t rs ≡ F.margin t rs below
    margin_is = less_is t.beta (cost t rs) ∙ by_line

    pub stable_is : is_stable t rs ≡ F.is_stable t rs below
    stable_is =
        ap₂ (λ (w : ℕ) (b : Bool). not (eqb w 0) && b) latest_is
        (sym (sub_sign t.beta (cost t rs)) ∙ ap (le_z (pos 0)) by_line)

-- ---- what the call promises: 03's FiguresSay, with the task's range among the rest
abbrev Say : Bool → Bool → ℕ → ℕ → ℕ → ℤ → Bool → F.Answered → Type 0
Say ok late w e j m s x =
    x ≡ pick ok
    (pick late F.late_figures (Ok record { worst = w; best = e; jitter = j; margin = m; stable = s }))
    F.no_figures

abbrev pub FiguresSay : Row → List Row → List Row → F.Answered → Type 0
FiguresSay t rs below x =
    Say (F.in_limits t rs below) (is_late t rs) (latest t rs) (earliest t rs) (jitter t rs) (margin t rs) (is_stable t rs)
    x

-- by cases: rows out of the limits, a row that is late, and one that is not
said : (ok l l' : Bool) (w w' e e' : ℕ) (m m' : ℤ) (s : Bool)
    → (ok ≡ true → (l ≡ l') × (w ≡ w') × (e ≡ e') × (m ≡ m') × (s ≡ (not l' && le_z (pos 0) m')))
    → Say ok l w e (w - e) m s (pick ok (pick l' F.late_figures (F.figures_at w' e' m')) F.no_figures)
said false l l' w w' e e' m m' s h = refl
said true l true w w' e e' m m' s h = let g = h refl in rw g.0 refl
said true l false w w' e e' m m' s h = let g = h refl in rw (g.0, g.1, g.2, g.3, g.4) refl

pub figures_say : (t : Row) (rs below : List Row) → t.hold ≤ 1 → NoneHolds below → t.switch ≡ 0 → NoSwitch rs
    → t.deadline ≡ t.period → length t.curve ≡ 0 → FiguresSay t rs below (F.figures_of t rs below)
figures_say t rs below own none free others due bare =
    said (F.in_limits t rs below) (is_late t rs) (F.is_late t rs below) (latest t rs) (F.latest t rs below)
    (earliest t rs) (F.earliest t rs below) (margin t rs) (F.margin t rs below) (is_stable t rs) (λ ok.
    let h = limits_times t rs below ok in
    let w = latest_is t rs below own none free others due h.0 h.1 in
    let e = earliest_is t rs below own none free others due h.0 h.1 in
    let m = margin_is t rs below own none free others due h.0 h.1 bare in
    (ap (λ (x : ℕ). eqb x 0) w, w, e, m, stable_is t rs below own none free others due h.0 h.1 bare))
