-- The figures depend on the rows above only through their interference, and on those below only through the blocking
-- time: so on which rows they are, and not on their sequence.
use mathlib.Core.Path.{◌≡◌, refl, ap, ap₂, sym, ◌∙◌, fun_ext}
use mathlib.Core.Bool.{Bool, true, false, ◌&&◌, not, Bool-set}
use lib.IntN.{pos}
use lib.Signed.{le_z}
use mathlib.Core.Logic.{∥∥₁_elim}
use mathlib.Core.List.{List, [], ◌∷◌, ◌++◌, map, Perm}
use mathlib.Core.List.{Permᴰ}
use Prim.Native.Nat.{ℕ, zero, suc, ◌+◌, ◌-◌, ◌*◌, ◌<◌}
use native.Mathlib.Nat.{ℕ_set}
use native.Mathlib.Omega.{arith}
use lib.Dec.{eqb, leb}
use lib.ListN.{length}
use Rattle.basics.specs.Basics.{pick, larger}
use Rattle.basics.proofs.Numbers.{larger_swap}
use Rattle.rows.specs.Rows.{max_ticks, cost, in_range, all_rows, row_at}
use Rattle.rows.specs.Rows.{Row}
use Rattle.responses.specs.Extremes.{smallest, largest}
use Rattle.responses.specs.declared.Load.{Load}
use Rattle.responses.specs.Interference.{ceiling, interference}
use Rattle.responses.specs.BusyIntervals.{latest_within}
use Rattle.responses.specs.Figures.{worst_load, best_load, worst_in, best_in, blocking, finish_of, latest, earliest}
use Rattle.responses.specs.Figures.{largest_hold, may_hold, rows_above, rows_below, margin_at, late_figures, no_figures}
use Rattle.responses.specs.Figures.{Answered, figures_at, figures_under, max_others, in_limits, figures_of}
use Rattle.responses.specs.Claims.{SameFigures, BySet, ByBlocking}

-- the rows above a row, the row and the rows below it are the order
pub order_joins : (order : List Row) (i : ℕ) → i < length order
    → rows_above order i ++ (row_at order i ∷ rows_below order i) ≡ order
order_joins [] i h = absurd (omega arith)
order_joins (r ∷ rs) zero h = refl
order_joins (r ∷ rs) (suc i) h = ap (λ (l : List Row). r ∷ l) (order_joins rs i (omega (arith, h)))

-- rows above, xs or ys, and rows below, bs or cs, that count the same
pub record Same (xs ys bs cs : List Row) : Type 0 where
  pub worst_same : (x : ℕ) → worst_in x xs ≡ worst_in x ys
  pub best_same : (x : ℕ) → best_in x xs ≡ best_in x ys
  pub blocking_same : blocking bs ≡ blocking cs

module _ (t : Row) {xs ys bs cs : List Row} (s : Same xs ys bs cs) where
  finish_same : finish_of t xs bs ≡ finish_of t ys cs
  finish_same =
      fun_ext (λ q. ap (λ (f : ℕ → Bool). smallest f max_ticks)
      (fun_ext (λ x. ap₂ (λ (h k : ℕ). eqb x (suc q * cost t + h + k)) s.blocking_same (s.worst_same x))))

  pub latest-same : latest t xs bs ≡ latest t ys cs
  latest-same = ap (λ (w : ℕ → ℕ). latest_within w t.period t.deadline) finish_same

  pub earliest_same : earliest t xs bs ≡ earliest t ys cs
  earliest_same =
      ap₂ (λ (f : ℕ → Bool) (w : ℕ). pick (may_hold t) t.best (largest f w))
      (fun_ext (λ x. ap (λ (k : ℕ). eqb x (t.best + k)) (s.best_same x)))
      latest-same

  pub same_figures : SameFigures t xs ys bs cs
  same_figures = record {
    latest-same = latest-same;
    earliest_same = earliest_same;
    jitter_same = ap₂ ◌-◌ latest-same earliest_same;
    margin_same = ap₂ (margin_at t) latest-same earliest_same;
    late_same = ap (λ (w : ℕ). eqb w 0) latest-same;
    stable_same = ap₂ (λ (w e : ℕ). not (eqb w 0) && le_z (pos 0) (margin_at t w e)) latest-same earliest_same;
  }

  pub figures_same : figures_under t xs bs ≡ figures_under t ys cs
  figures_same =
      ap₂ (λ (w e : ℕ). pick (eqb w 0) late_figures (figures_at w e (margin_at t w e))) latest-same earliest_same

-- ---- the same rows in another sequence: whatever is made row by row, by steps that can be swapped
module _ {A : Type 0} (F : List Row → A) (step : Row → A → A)
    (is : (r : Row) (rs : List Row) → F (r ∷ rs) ≡ step r (F rs))
    (swap : (r q : Row) (a : A) → step r (step q a) ≡ step q (step r a)) where
  two : (r q : Row) (rs : List Row) → F (r ∷ q ∷ rs) ≡ step r (step q (F rs))
  two r q rs = is r (q ∷ rs) ∙ ap (step r) (is q rs)

  permuted : {xs ys : List Row} → Permᴰ xs ys → F xs ≡ F ys
  permuted Permᴰ.nil = refl
  permuted (Permᴰ.cons {a} {b} {l₁} {l₂} e d) = is a l₁ ∙ (ap₂ step e (permuted d) ∙ sym (is b l₂))
  permuted (Permᴰ.swap {a} {b} {a' = c} {b' = d} {l} e g) =
      two a b l ∙ (ap₂ (λ (r q : Row). step r (step q (F l))) e g ∙ (swap d c (F l) ∙ sym (two c d l)))
  permuted (Permᴰ.trans d e) = permuted d ∙ permuted e

interference_permuted : (f : Row → Load) (s x : ℕ) {xs ys : List Row} → Perm xs ys
    → interference s x (map f xs) ≡ interference s x (map f ys)
interference_permuted f s x p =
    ∥∥₁_elim p (ℕ_set _ _)
    (permuted (λ rs. interference s x (map f rs)) (λ r k. (ceiling x (f r).period - s) * (f r).cost + k)
    (λ r rs. refl) (λ r q k. omega arith))

and_swap : (a b c : Bool) → (a && (b && c)) ≡ (b && (a && c))
and_swap true b c = refl
and_swap false true c = refl
and_swap false false c = refl

all_permuted : (f : Row → Bool) {xs ys : List Row} → Perm xs ys → all_rows f xs ≡ all_rows f ys
all_permuted f p =
    ∥∥₁_elim p (Bool-set _ _)
    (permuted (all_rows f) (λ r b. f r && b) (λ r rs. refl) (λ r q b. and_swap (f r) (f q) b))

length_permuted : {xs ys : List Row} → Perm xs ys → length xs ≡ length ys
length_permuted p =
    ∥∥₁_elim p (ℕ_set _ _) (permuted length (λ r n. suc n) (λ r rs. refl) (λ r q n. refl))

blocking_permuted : {bs cs : List Row} → Perm bs cs → blocking bs ≡ blocking cs
unfolding blocking
blocking_permuted p =
    ap (λ (h : ℕ). h - 1)
    (∥∥₁_elim p (ℕ_set _ _)
    (permuted largest_hold (λ r h. larger r.hold h) (λ r rs. refl) (λ r q h. larger_swap r.hold q.hold h)))

pub same_permuted : {xs ys bs cs : List Row} → Perm xs ys → Perm bs cs → Same xs ys bs cs
same_permuted p q = record {
  worst_same = λ x. interference_permuted worst_load 0 x p;
  best_same = λ x. interference_permuted best_load 1 x p;
  blocking_same = blocking_permuted q;
}

pub by_set : BySet
by_set t above above' below below' p q = same_figures t (same_permuted p q)

pub figures_permuted : (t : Row) {xs ys bs cs : List Row} → Perm xs ys → Perm bs cs
    → figures_of t xs bs ≡ figures_of t ys cs
figures_permuted t p q =
    let few = ap₂ (λ (m n : ℕ). leb (m + n) max_others) (length_permuted p) (length_permuted q) in
    let rest = ap₂ ◌&&◌ (all_permuted in_range q) few in
    let limits = ap₂ (λ (a b : Bool). in_range t && (a && b)) (all_permuted in_range p) rest in
    ap₂ (λ (b : Bool) (x : Answered). pick b x no_figures) limits (figures_same t (same_permuted p q))

-- ---- other rows below, with the same blocking time
same_below : (above bs cs : List Row) → blocking bs ≡ blocking cs → Same above above bs cs
same_below above bs cs e = record { worst_same = λ x. refl; best_same = λ x. refl; blocking_same = e }

pub by_blocking : ByBlocking
by_blocking t above below below' e = same_figures t (same_below above below below' e)

pub figures_below : (t : Row) (above bs cs : List Row) → blocking bs ≡ blocking cs
    → in_limits t above bs ≡ in_limits t above cs → figures_of t above bs ≡ figures_of t above cs
figures_below t above bs cs e limits =
    ap₂ (λ (b : Bool) (x : Answered). pick b x no_figures) limits (figures_same t (same_below above bs cs e))
