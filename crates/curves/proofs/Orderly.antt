-- Whether points keep the limits is one test of each after another, by what the point before it leaves to it: the delay
-- from the next tick on, the allow up to its own.
use mathlib.Core.Path.{◌≡◌, refl, ap, ap₂, sym, ◌∙◌}
use mathlib.Core.Bool.{Bool, true, false, ◌&&◌}
use mathlib.Core.List.{List, [], ◌∷◌}
use mathlib.Core.Logic.{inl, inr}
use Prim.Native.Nat.{ℕ, suc, ◌+◌, ◌≤◌, ◌<◌}
use native.Mathlib.Numerals.{add-one}
use native.Mathlib.Omega.{arith}
use borrow.Author.Tests.{le-leb, lt-leb, lt-ltb}
use lib.Dec.{leb, ltb}
use lib.ListN.{length, get_or, drop}
use lib.Seq.{drop-cons}
use Rattle.basics.specs.Basics.{within}
use Rattle.basics.proofs.Tests.{test_of, true_not_false, false_of, and_left, and_right, and_both}
use Rattle.basics.proofs.Tests.{Within, within_true, true_within}
use Rattle.curves.specs.Curves.{Point, no_point, min_delay, max_delay, min_allow, max_allow, max_points}
use Rattle.curves.specs.Curves.{in_limits, follows, orderly_from, orderly, well_formed, point_from, points_of}
use Rattle.curves.proofs.Lines.{step, head_in, head_limited}
use Rattle.curves.proofs.PointNumbers.{points_long, point_at}

-- one point: a delay from `low` on, an allow up to `high`
abbrev pub passes : ℕ → ℕ → Point → Bool
passes low high p = within low max_delay p.delay && within min_allow high p.allow

abbrev pub keeps : ℕ → ℕ → List Point → Bool
keeps low high [] = true
keeps low high (p ∷ ps) = passes low high p && keeps (suc p.delay) p.allow ps

module _ (low high : ℕ) (p : Point) where
  pub record Passed : Type 0 where
    pub delays : Within low max_delay p.delay
    pub allows : Within min_allow high p.allow

  pub passed : passes low high p ≡ true → Passed
  passed h =
      let d = within low max_delay p.delay in
      let a = within min_allow high p.allow in
      record {
        delays = within_true low max_delay p.delay (and_left d a h);
        allows = within_true min_allow high p.allow (and_right d a h);
      }

  pub passing : low ≤ p.delay → p.delay ≤ max_delay → p.allow ≤ high → passes low high p ≡ true
  passing l m h =
      and_both (within low max_delay p.delay) (within min_allow high p.allow)
      (true_within low max_delay p.delay l m) (true_within min_allow high p.allow (omega arith) h)

pub follow : (p q : Point) → p.delay < q.delay → q.allow ≤ p.allow → follows p q ≡ true
follow p q d a =
    and_both (ltb p.delay q.delay) (leb q.allow p.allow)
    (lt-ltb p.delay q.delay d) (le-leb q.allow p.allow a)

keeps-from : (p : Point) (ps : List Point) → in_limits p ≡ true
    → orderly_from p ps ≡ keeps (suc p.delay) p.allow ps
keeps-from p [] h = h
keeps-from p (q ∷ qs) h =
    let low = suc p.delay in
    let high = p.allow in
    let here = passed min_delay max_allow p h in
    elim (test_of (passes low high q)) [
      | inl e ↦ (let r = passed low high q e in
          let f = follow p q r.delays.low_le r.allows.le_high in
          let i = passing min_delay max_allow q (omega arith) r.delays.le_high
          (omega (arith, r.allows.le_high, here.allows.le_high)) in
          ap₂ (λ (a b : Bool). a && (b && orderly_from q qs)) h f
          ∙ (keeps-from q qs i ∙ sym (ap (λ (a : Bool). a && keeps (suc q.delay) q.allow qs) e)))
      | inr e ↦ false_of (orderly_from p (q ∷ qs)) (λ t. (let s = step p q qs t in
          let l = head_limited q qs s.rest in
          true_not_false (passes low high q) (passing low high q s.delays l.delay_max s.allows) e))
          ∙ sym (ap (λ (a : Bool). a && keeps (suc q.delay) q.allow qs) e)
    ]

orderly_keeps : (c : List Point) → orderly c ≡ keeps min_delay max_allow c
orderly_keeps [] = refl
orderly_keeps (p ∷ ps) =
    let rest : Bool → Bool = λ a. a && keeps (suc p.delay) p.allow ps in
    elim (test_of (in_limits p)) [
      | inl e ↦ keeps-from p ps e ∙ sym (ap rest e)
      | inr e ↦ false_of (orderly_from p ps) (λ t. true_not_false (in_limits p) (head_in p ps t) e) ∙ sym (ap rest e)
    ]

-- ---- points that are lent one by one
module _ (points : List (List ℕ)) where
  abbrev curve : List Point
  curve = points_of points

  pub too_many : max_points < length points → well_formed curve ≡ false
  unfolding well_formed
  too_many h = ap (λ (b : Bool). b && orderly curve) (lt-leb (length curve) max_points (omega (arith, points_long points)))

  -- from index i on
  module _ (i low high : ℕ) where
    abbrev pub left : Bool
    left = keeps low high (drop i curve)

    -- the point at index i
    module _ (l : i < length points) where
      abbrev here : Point
      here = point_from (get_or points i [])

      abbrev behind : List Point
      behind = drop (i + 1) curve

      opened : left ≡ keeps low high (here ∷ behind)
      opened =
          rw (add-one i) (ap (keeps low high) (drop-cons curve i no_point (omega (arith, points_long points))
          ∙ ap (λ (p : Point). p ∷ drop (suc i) curve) (point_at points i)))

      pub fails_left : passes low high here ≡ false → left ≡ false
      fails_left h = opened ∙ ap (λ (b : Bool). b && keeps (suc here.delay) here.allow behind) h

      pub next_left : (d : ℕ) → passes low high here ≡ true → d ≡ suc here.delay
          → left ≡ keeps d here.allow behind
      next_left d h e = opened ∙ ap₂ (λ (b : Bool) (k : ℕ). b && keeps k here.allow behind) h (sym e)

  -- all are left at first
  pub all_left : length points ≤ max_points → well_formed curve ≡ left 0 min_delay max_allow
  unfolding well_formed
  all_left h =
      ap (λ (b : Bool). b && orderly curve) (le-leb (length curve) max_points (omega (arith, points_long points)))
      ∙ orderly_keeps curve
