-- The jitter that a well-formed curve permits: each point's allow at its own delay, on the straight line between two
-- neighbours, and never more at a later delay. By going along the curve point by point.
use mathlib.Core.Path.{◌≡◌, refl, ap, sym, ◌∙◌, subst}
use mathlib.Core.Bool.{true}
use mathlib.Core.List.{List, [], ◌∷◌}
use mathlib.Core.Logic.{inl, inr}
use Prim.Native.Nat.{ℕ, zero, suc, ◌*◌, ◌≤◌, ◌<◌}
use native.Mathlib.Omega.{arith}
use borrow.Author.Tests.{le-leb, lt-leb}
use lib.Dec.{leb}
use lib.ListN.{length, get_or}
use Rattle.basics.specs.Basics.{pick}
use Rattle.basics.proofs.Tests.{le-or-lt}
use Rattle.curves.specs.declared.Fraction.{Fraction}
use Rattle.curves.specs.Curves.{Point, no_point, max_delay, max_allow, orderly_from, orderly, well_formed}
use Rattle.curves.specs.Curves.{whole, on_line, along, permitted, last_from, last_delay}
use Rattle.curves.specs.Claims.{AtMost, IsWhole, OnLine, Permits}
use Rattle.curves.proofs.Lines.{Limited, head_limited, step, orderly_of}
use Rattle.curves.proofs.Lines.{line_is, line_from, line_start, line_end, line_most, line_least, line_falls}
use Rattle.curves.proofs.Lines.{through, whole_most, none_most}

-- ---- along a curve: what is past a delay, and what is not
pub at_or_before : {A : Type 0} (e d : ℕ) (x y : A) → e ≤ d → pick (leb e d) x y ≡ x
at_or_before e d x y h = rw (le-leb e d h) refl

pub past : {A : Type 0} (e d : ℕ) (x y : A) → d < e → pick (leb e d) x y ≡ y
past e d x y h = rw (lt-leb e d h) refl

-- a claim of the choice by each side
either : {A : Type 0} (P : A → Type 0) (e d : ℕ) (x y : A) → (e ≤ d → P x) → (d < e → P y) → P (pick (leb e d) x y)
either P e d x y f g = elim (le-or-lt e d) [
  | inl h ↦ rw (le-leb e d h) (f h)
  | inr h ↦ rw (lt-leb e d h) (g h)
]

pub along_some : (p : Point) (ps : List Point) (e : ℕ) → orderly_from p ps ≡ true → 1 ≤ (along p ps e).under
along_some p [] e h = omega arith
along_some p (q ∷ qs) e h =
    let s = step p q qs h in
    either (λ (f : Fraction). 1 ≤ f.under) e q.delay (on_line p q e) (along q qs e)
    (λ l. omega (arith, s.delays)) (λ l. along_some q qs e s.rest)

-- at most the allow of the point before
pub along_most : (p : Point) (ps : List Point) (e : ℕ) → orderly_from p ps ≡ true → p.delay ≤ e
    → AtMost (along p ps e) (whole p.allow)
along_most p [] e h l = none_most (whole p.allow)
along_most p (q ∷ qs) e h l =
    let s = step p q qs h in
    either (λ (f : Fraction). AtMost f (whole p.allow)) e q.delay (on_line p q e) (along q qs e)
    (λ r. line_most p q s.delays e l r s.allows)
    (λ r. through q.allow (along q qs e) (whole p.allow) (along_most q qs e s.rest (omega arith))
    (whole_most q.allow p.allow s.allows))

pub along_falls : (p : Point) (ps : List Point) (e f : ℕ) → orderly_from p ps ≡ true → p.delay ≤ e → e ≤ f
    → AtMost (along p ps f) (along p ps e)
along_falls p [] e f h l m = none_most (whole 0)
along_falls p (q ∷ qs) e f h l m =
    let s = step p q qs h in
    either (λ (y : Fraction). AtMost (along p (q ∷ qs) f) y) e q.delay (on_line p q e) (along q qs e)
    (λ r. either (λ (x : Fraction). AtMost x (on_line p q e)) f q.delay (on_line p q f) (along q qs f)
    (λ t. line_falls p q s.delays e f l m t s.allows)
    (λ t. through q.allow (along q qs f) (on_line p q e) (along_most q qs f s.rest (omega arith))
    (line_least p q s.delays e l r s.allows)))
    (λ r. subst (λ (x : Fraction). AtMost x (along q qs e))
    (sym (past f q.delay (on_line p q f) (along q qs f) (omega arith)))
    (along_falls q qs e f s.rest (omega arith) m))

pub falls : (c : List Point) (e f : ℕ) → orderly c ≡ true → e ≤ f → AtMost (permitted c f) (permitted c e)
unfolding permitted
falls [] e f h m = none_most (whole 0)
falls (p ∷ ps) e f h m =
    either (λ (y : Fraction). AtMost (permitted (p ∷ ps) f) y) e p.delay (whole p.allow) (along p ps e)
    (λ r. either (λ (x : Fraction). AtMost x (whole p.allow)) f p.delay (whole p.allow) (along p ps f)
    (λ t. whole_most p.allow p.allow (omega arith))
    (λ t. along_most p ps f h (omega arith)))
    (λ r. subst (λ (x : Fraction). AtMost x (along p ps e))
    (sym (past f p.delay (whole p.allow) (along p ps f) (omega arith)))
    (along_falls p ps e f h (omega arith) m))

pub some : (c : List Point) (e : ℕ) → orderly c ≡ true → 1 ≤ (permitted c e).under
unfolding permitted
some [] e h = omega arith
some (p ∷ ps) e h =
    either (λ (f : Fraction). 1 ≤ f.under) e p.delay (whole p.allow) (along p ps e)
    (λ l. omega arith) (λ l. along_some p ps e h)

-- at most the first allow, so at most the limit
pub most : (c : List Point) (e : ℕ) → orderly c ≡ true → AtMost (permitted c e) (whole max_allow)
unfolding permitted
most [] e h = none_most (whole max_allow)
most (p ∷ ps) e h =
    let l = whole_most p.allow max_allow (head_limited p ps h).allow_max in
    either (λ (f : Fraction). AtMost f (whole max_allow)) e p.delay (whole p.allow) (along p ps e)
    (λ t. l) (λ t. through p.allow (along p ps e) (whole max_allow) (along_most p ps e h (omega arith)) l)

-- a fraction's parts are within the limit too
along_under : (p : Point) (ps : List Point) (e : ℕ) → orderly_from p ps ≡ true → (along p ps e).under ≤ max_delay
along_under p [] e h = omega arith
along_under p (q ∷ qs) e h =
    let s = step p q qs h in
    either (λ (f : Fraction). f.under ≤ max_delay) e q.delay (on_line p q e) (along q qs e)
    (λ l. omega (arith, (head_limited q qs s.rest).delay_max)) (λ l. along_under q qs e s.rest)

pub under_max : (c : List Point) (e : ℕ) → orderly c ≡ true → (permitted c e).under ≤ max_delay
unfolding permitted
under_max [] e h = omega arith
under_max (p ∷ ps) e h =
    either (λ (f : Fraction). f.under ≤ max_delay) e p.delay (whole p.allow) (along p ps e)
    (λ l. omega arith) (λ l. along_under p ps e h)

-- ---- by index
pub at_limited : (p : Point) (ps : List Point) (i : ℕ) → orderly_from p ps ≡ true → i < length (p ∷ ps)
    → Limited (get_or (p ∷ ps) i no_point)
at_limited p ps zero h l = head_limited p ps h
at_limited p [] (suc i) h l = absurd (omega arith)
at_limited p (q ∷ qs) (suc i) h l = at_limited q qs i (step p q qs h).rest (omega arith)

-- neighbours
pub record Neighbours (p q : Point) : Type 0 where
  pub delays : p.delay < q.delay
  pub allows : q.allow ≤ p.allow

pub neighbours : (p : Point) (ps : List Point) (i : ℕ) → orderly_from p ps ≡ true → suc i < length (p ∷ ps)
    → Neighbours (get_or (p ∷ ps) i no_point) (get_or (p ∷ ps) (suc i) no_point)
neighbours p [] i h l = absurd (omega arith)
neighbours p (q ∷ qs) zero h l = let s = step p q qs h in record { delays = s.delays; allows = s.allows }
neighbours p (q ∷ qs) (suc i) h l = neighbours q qs i (step p q qs h).rest (omega arith)

-- later points lie past a point
pub later : (p : Point) (ps : List Point) (i : ℕ) → orderly_from p ps ≡ true → i < length ps
    → p.delay < (get_or ps i no_point).delay
later p [] i h l = absurd (omega arith)
later p (q ∷ qs) zero h l = (step p q qs h).delays
later p (q ∷ qs) (suc i) h l =
    let s = step p q qs h in
    let r = later q qs i s.rest (omega arith) in
    omega (arith, s.delays)

along_at : (p : Point) (ps : List Point) (i e : ℕ) → orderly_from p ps ≡ true → i < length ps
    → (get_or ps i no_point).delay ≡ e → IsWhole (get_or ps i no_point).allow (along p ps e)
along_at p [] i e h l k = absurd (omega arith)
along_at p (q ∷ qs) zero e h l k =
    subst (IsWhole q.allow) (sym (at_or_before e q.delay (on_line p q e) (along q qs e) (omega arith)))
    (line_end p q (step p q qs h).delays e k)
along_at p (q ∷ qs) (suc i) e h l k =
    let s = step p q qs h in
    let t = later q qs i s.rest (omega arith) in
    subst (IsWhole (get_or qs i no_point).allow)
    (sym (past e q.delay (on_line p q e) (along q qs e) (omega arith)))
    (along_at q qs i e s.rest (omega arith) k)

pub at : (c : List Point) (i e : ℕ) → orderly c ≡ true → i < length c
    → (get_or c i no_point).delay ≡ e → IsWhole (get_or c i no_point).allow (permitted c e)
unfolding permitted
at [] i e h l k = absurd (omega arith)
at (p ∷ ps) zero e h l k =
    subst (IsWhole p.allow) (sym (at_or_before e p.delay (whole p.allow) (along p ps e) (omega arith)))
    record { some = omega arith; exact = omega arith }
at (p ∷ ps) (suc i) e h l k =
    let t = later p ps i h (omega arith) in
    subst (IsWhole (get_or ps i no_point).allow)
    (sym (past e p.delay (whole p.allow) (along p ps e) (omega arith)))
    (along_at p ps i e h (omega arith) k)

pub after : (c : List Point) (i e : ℕ) → orderly c ≡ true → suc i < length c → (get_or c i no_point).delay ≡ e
    → IsWhole (get_or c i no_point).allow (on_line (get_or c i no_point) (get_or c (suc i) no_point) e)
after [] i e h l k = absurd (omega arith)
after (p ∷ ps) i e h l k =
    line_start (get_or (p ∷ ps) i no_point) (get_or (p ∷ ps) (suc i) no_point) (neighbours p ps i h l).delays e k

-- the parts of what is permitted are small
pub record Parts (f : Fraction) : Type 0 where
  pub under_some : 1 ≤ f.under
  pub under_max : f.under ≤ max_delay
  pub over_max : f.over ≤ max_allow * f.under

pub permitted_parts : (c : List Point) (e : ℕ) (f : Fraction) → well_formed c ≡ true → f ≡ permitted c e → Parts f
permitted_parts c e f h k =
    let o = orderly_of c h in
    subst Parts (sym k) record {
      under_some = some c e o;
      under_max = under_max c e o;
      over_max = omega (arith, (most c e o).crossed);
    }

-- ---- by the index of the first delay that a response is not past
along_none : (p : Point) (ps : List Point) (e : ℕ) → ((k : ℕ) → k < length ps → (get_or ps k no_point).delay < e)
    → along p ps e ≡ whole 0
along_none p [] e h = refl
along_none p (q ∷ qs) e h =
    past e q.delay (on_line p q e) (along q qs e) (h 0 (omega arith))
    ∙ along_none q qs e (λ k l. h (suc k) (omega arith))

along_next : (p : Point) (ps : List Point) (i e : ℕ) → i < length ps
    → ((k : ℕ) → k < i → (get_or ps k no_point).delay < e) → e ≤ (get_or ps i no_point).delay
    → along p ps e ≡ on_line (get_or (p ∷ ps) i no_point) (get_or ps i no_point) e
along_next p [] i e l h r = absurd (omega arith)
along_next p (q ∷ qs) zero e l h r = at_or_before e q.delay (on_line p q e) (along q qs e) r
along_next p (q ∷ qs) (suc i) e l h r =
    past e q.delay (on_line p q e) (along q qs e) (h 0 (omega arith))
    ∙ along_next q qs i e (omega arith) (λ k t. h (suc k) (omega arith)) r

pub permitted_none : (c : List Point) (e : ℕ) → ((k : ℕ) → k < length c → (get_or c k no_point).delay < e)
    → permitted c e ≡ whole 0
unfolding permitted
permitted_none [] e h = refl
permitted_none (p ∷ ps) e h =
    past e p.delay (whole p.allow) (along p ps e) (h 0 (omega arith))
    ∙ along_none p ps e (λ k l. h (suc k) (omega arith))

pub permitted_first : (c : List Point) (e : ℕ) → 1 ≤ length c → e ≤ (get_or c 0 no_point).delay
    → permitted c e ≡ whole (get_or c 0 no_point).allow
unfolding permitted
permitted_first [] e l r = absurd (omega arith)
permitted_first (p ∷ ps) e l r = at_or_before e p.delay (whole p.allow) (along p ps e) r

pub permitted_next : (c : List Point) (i e : ℕ) → suc i < length c
    → ((k : ℕ) → k < suc i → (get_or c k no_point).delay < e) → e ≤ (get_or c (suc i) no_point).delay
    → permitted c e ≡ on_line (get_or c i no_point) (get_or c (suc i) no_point) e
unfolding permitted
permitted_next [] i e l h r = absurd (omega arith)
permitted_next (p ∷ ps) i e l h r =
    past e p.delay (whole p.allow) (along p ps e) (h 0 (omega arith))
    ∙ along_next p ps i e (omega arith) (λ k t. h (suc k) (omega arith)) r

-- ---- limits and neighbours by index
pub orderly_limits : (c : List Point) (i : ℕ) → orderly c ≡ true → i < length c → Limited (get_or c i no_point)
orderly_limits [] i h l = absurd (omega arith)
orderly_limits (p ∷ ps) i h l = at_limited p ps i h l

orderly_neighbours : (c : List Point) (i : ℕ) → orderly c ≡ true → suc i < length c
    → Neighbours (get_or c i no_point) (get_or c (suc i) no_point)
orderly_neighbours [] i h l = absurd (omega arith)
orderly_neighbours (p ∷ ps) i h l = neighbours p ps i h l

-- the last delay is that of the last point
last_from_at : (p : Point) (ps : List Point) → last_from p ps ≡ (get_or (p ∷ ps) (length ps) no_point).delay
last_from_at p [] = refl
last_from_at p (q ∷ qs) = last_from_at q qs

pub last_at : (c : List Point) (i : ℕ) → length c ≡ suc i → last_delay c ≡ (get_or c i no_point).delay
last_at [] i h = absurd (omega arith)
last_at (p ∷ ps) i h =
    let e : length ps ≡ i = omega arith in
    last_from_at p ps ∙ ap (λ (k : ℕ). (get_or (p ∷ ps) k no_point).delay) e

-- ---- the claims of what a curve permits
delays_rise : (c : List Point) (i k : ℕ) → orderly c ≡ true → i < length c → k < i
    → (get_or c k no_point).delay < (get_or c i no_point).delay
delays_rise [] i k h l m = absurd (omega arith)
delays_rise (p ∷ ps) zero k h l m = absurd (omega arith)
delays_rise (p ∷ ps) (suc i) zero h l m = later p ps i h (omega arith)
delays_rise (p ∷ []) (suc i) (suc k) h l m = absurd (omega arith)
delays_rise (p ∷ q ∷ qs) (suc i) (suc k) h l m =
    delays_rise (q ∷ qs) i k (step p q qs h).rest (omega arith) (omega arith)

between : (c : List Point) (i e : ℕ) → orderly c ≡ true → suc i < length c
    → (get_or c i no_point).delay ≤ e → e ≤ (get_or c (suc i) no_point).delay
    → OnLine (get_or c i no_point) (get_or c (suc i) no_point) e (permitted c e)
between c i e h l a b =
    let p = get_or c i no_point in
    let q = get_or c (suc i) no_point in
    let n = orderly_neighbours c i h l in
    elim (le-or-lt e p.delay) [
      | inl m ↦ line_from p q n.delays e (permitted c e) (omega arith) (at c i e h (omega arith) (omega arith))
      | inr m ↦ subst (OnLine p q e)
          (sym (permitted_next c i e l
          (λ k t. elim (le-or-lt i k) [
            | inl u ↦ (let z : i ≡ k = omega arith in subst (λ (j : ℕ). (get_or c j no_point).delay < e) z m)
            | inr u ↦ (let r = delays_rise c i k h (omega arith) u in omega arith)
          ])
          b))
          (line_is p q n.delays e a b n.allows)
    ]

pub permits : (c : List Point) → well_formed c ≡ true → Permits c
permits c h =
    let o = orderly_of c h in
    record {
      under_some = λ e. some c e o;
      first = λ e l r. permitted_first c e l r;
      between = λ i e l a b. between c i e o l a b;
      at_point = λ i e l k. at c i e o l k;
      line_after = λ i e l k. after c i e o l k;
      last = last_at c;
      never_rises = λ e f m. falls c e f o m;
    }
