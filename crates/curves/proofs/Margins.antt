-- The margin under a curve: its sign is exact, it is rounded down, it grows as W falls, and it is small.
use mathlib.Core.Path.{◌≡◌, refl, ap, sym, ◌∙◌}
use mathlib.Core.Bool.{true, false}
use mathlib.Core.List.{List, [], ◌∷◌}
use mathlib.Core.Logic.{inl, inr}
use Prim.Native.Nat.{ℕ, zero, suc, ◌-◌, ◌*◌, ◌≤◌, ◌<◌}
use native.Mathlib.Nat.{mul-le-mul_left, mul-le-mul_right}
use native.Mathlib.Omega.{arith}
use borrow.Author.Tests.{leb-true, le-leb, lt-leb}
use lib.Dec.{leb}
use lib.IntN.{ℤ, pos, sub_ℕ, nat_abs, ◌*ℤ◌}
use lib.Signed.{le_z}
use Rattle.basics.proofs.Tests.{le-or-lt, true_not_false}
use Rattle.curves.specs.declared.Fraction.{Fraction}
use Rattle.curves.specs.Curves.{Point, max_delay, max_allow, max_response, orderly_from, orderly, well_formed}
use Rattle.curves.specs.Curves.{whole, permitted, floor_of, thousandths}
use Rattle.curves.specs.Curves.{last_from, last_delay, curve_margin}
use Rattle.curves.specs.Claims.{AtMost, max_margin, Margined}
use Rattle.curves.proofs.Floors.{floor_largest, floor_rises, floor_sign, floor_small}
use Rattle.curves.proofs.Floors.{le_z_refl, sub_is, sub_sign, sub_neg, sub_falls, sub_small}
use Rattle.curves.proofs.Lines.{step, head_limited, orderly_of}
use Rattle.curves.proofs.Permits.{some, most}

-- ---- of one fraction
-- a law of a divisor that is not 0, from the law of a successor
with_divisor : (P : ℕ → Type 0) (d : ℕ) → 1 ≤ d → ((k : ℕ) → P (suc k)) → P d
with_divisor P zero h g = absurd (omega arith)
with_divisor P (suc k) h g = g k

pub thousandths_sign : (f : Fraction) (j : ℕ)
    → le_z (pos 0) (thousandths f j) ≡ leb (1000 * (j * f.under)) (1000 * f.over)
thousandths_sign f j =
    floor_sign (sub_ℕ (1000 * f.over) (1000 * (j * f.under))) f.under
    ∙ sub_sign (1000 * f.over) (1000 * (j * f.under))

thousandths_largest : (f : Fraction) (j : ℕ) (m : ℤ) → 1 ≤ f.under
    → le_z m (thousandths f j)
    ≡ le_z (m *ℤ pos f.under) (sub_ℕ (1000 * f.over) (1000 * (j * f.under)))
thousandths_largest f j m h =
    let z = sub_ℕ (1000 * f.over) (1000 * (j * f.under)) in
    with_divisor (λ (d : ℕ). le_z m (floor_of z d) ≡ le_z (m *ℤ pos d) z) f.under h (λ k. floor_largest m z k)

thousandths_eased : (f : Fraction) (i j : ℕ) → 1 ≤ f.under → i ≤ j → le_z (thousandths f j) (thousandths f i) ≡ true
thousandths_eased f i j h l =
    let y = sub_ℕ (1000 * f.over) (1000 * (j * f.under)) in
    let z = sub_ℕ (1000 * f.over) (1000 * (i * f.under)) in
    let k = sub_falls (1000 * f.over) (1000 * (i * f.under)) (1000 * (j * f.under))
    (mul-le-mul_left 1000 (mul-le-mul_right f.under l)) in
    with_divisor (λ (d : ℕ). le_z (floor_of y d) (floor_of z d) ≡ true) f.under h (λ d. floor_rises y z d k)

thousandths_small : (f : Fraction) (j : ℕ) → 1 ≤ f.under → AtMost f (whole max_allow) → j ≤ max_response
    → nat_abs (thousandths f j) ≤ max_margin
thousandths_small f j h a l =
    let z = sub_ℕ (1000 * f.over) (1000 * (j * f.under)) in
    let m = mul-le-mul_right f.under l in
    let s = sub_small (1000 * f.over) (1000 * (j * f.under)) (max_margin * f.under)
    (omega (arith, a.crossed)) (omega arith) in
    with_divisor (λ (d : ℕ). nat_abs z ≤ max_margin * d → nat_abs (floor_of z d) ≤ max_margin) f.under h
    (λ d. floor_small z d max_margin) s

-- ---- the two sides of the last delay
pub up_to_last : (c : List Point) (w e : ℕ) → e ≤ last_delay c
    → curve_margin c w e ≡ thousandths (permitted c e) (w - e)
unfolding curve_margin
up_to_last c w e h = rw (le-leb e (last_delay c) h) refl

pub past_last : (c : List Point) (w e : ℕ) → last_delay c < e
    → curve_margin c w e ≡ sub_ℕ (1000 * last_delay c) (1000 * e)
unfolding curve_margin
past_last c w e h = rw (lt-leb e (last_delay c) h) refl

pub past_unstable : (c : List Point) (w e : ℕ) → last_delay c < e → le_z (pos 0) (curve_margin c w e) ≡ false
past_unstable c w e h =
    ap (le_z (pos 0)) (past_last c w e h ∙ sub_neg (1000 * last_delay c) (1000 * e) (omega arith))

last_from_limit : (p : Point) (ps : List Point) → orderly_from p ps ≡ true → last_from p ps ≤ max_delay
last_from_limit p [] h = (head_limited p [] h).delay_max
last_from_limit p (q ∷ qs) h = last_from_limit q qs (step p q qs h).rest

pub last_limit : (c : List Point) → orderly c ≡ true → last_delay c ≤ max_delay
last_limit [] h = omega arith
last_limit (p ∷ ps) h = last_from_limit p ps h

-- ---- the margin
module _ (c : List Point) (w e : ℕ) (h : well_formed c ≡ true) where
  o : orderly c ≡ true
  o = orderly_of c h

  abbrev taken : ℕ
  taken = 1000 * ((w - e) * (permitted c e).under)

  abbrev given : ℕ
  given = 1000 * (permitted c e).over

  stable_only : le_z (pos 0) (curve_margin c w e) ≡ true → (e ≤ last_delay c) × AtMost (whole (w - e)) (permitted c e)
  stable_only s = elim (le-or-lt e (last_delay c)) [
    | inl l ↦ (let t = leb-true taken given (sym (thousandths_sign (permitted c e) (w - e))
        ∙ (sym (ap (le_z (pos 0)) (up_to_last c w e l)) ∙ s)) in
        (l, record { crossed = omega (arith, t) }))
    | inr l ↦ absurd (true_not_false (le_z (pos 0) (curve_margin c w e)) s (past_unstable c w e l))
  ]

  stable_if : e ≤ last_delay c → AtMost (whole (w - e)) (permitted c e) → le_z (pos 0) (curve_margin c w e) ≡ true
  stable_if l a =
      ap (le_z (pos 0)) (up_to_last c w e l)
      ∙ (thousandths_sign (permitted c e) (w - e) ∙ le-leb taken given (omega (arith, a.crossed)))

  eased : (v : ℕ) → v ≤ w → le_z (curve_margin c w e) (curve_margin c v e) ≡ true
  eased v l = elim (le-or-lt e (last_delay c)) [
    | inl k ↦ rw (up_to_last c w e k, up_to_last c v e k)
        (thousandths_eased (permitted c e) (v - e) (w - e) (some c e o) (omega arith))
    | inr k ↦ rw (past_last c w e k, past_last c v e k) (le_z_refl (sub_ℕ (1000 * last_delay c) (1000 * e)))
  ]

  small : w ≤ max_response → e ≤ w → nat_abs (curve_margin c w e) ≤ max_margin
  small k l = elim (le-or-lt e (last_delay c)) [
    | inl t ↦ rw (up_to_last c w e t)
        (thousandths_small (permitted c e) (w - e) (some c e o) (most c e o) (omega arith))
    | inr t ↦ rw (past_last c w e t)
        (sub_small (1000 * last_delay c) (1000 * e) max_margin (omega (arith, last_limit c o)) (omega arith))
  ]

  pub margined : Margined c w e
  margined = record {
    stable_only = stable_only;
    stable_if = stable_if;
    rounded_down = λ l m. ap (le_z m) (up_to_last c w e l) ∙ thousandths_largest (permitted c e) (w - e) m (some c e o);
    past = λ l. past_last c w e l ∙ sym (sub_is (1000 * last_delay c) (1000 * e));
    eased = eased;
    small = small;
  }
