-- A set less one of its rows, as a number: one bit changes (`Differ`), so the row is taken from the members
-- and joins the others.
use mathlib.Core.Path.{◌≡◌, refl, ap, sym, ◌∙◌}
use mathlib.Core.Bool.{Bool, true, false}
use mathlib.Core.List.{List, [], ◌∷◌, ◌++◌}
use Prim.Native.Nat.{ℕ, zero, suc, ◌+◌, ◌-◌, ◌/◌, ◌%◌, ◌^◌, ◌≤◌, ◌<◌}
use native.Mathlib.Nat.{div-mul-le_self, mul-le-mul_right, le_trans}
use native.Mathlib.Decide.{ℕ_discrete}
use native.Mathlib.Omega.{arith}
use borrow.Author.Tests.{eq-eqb, ne_eqb}
use lib.Dec.{eqb}
use lib.ListN.{length, take, drop}
use lib.Pow.{shr-shr, pow_pos}
use Rattle.rows.specs.Rows.{row_at}
use Rattle.rows.specs.Rows.{Row}
use Rattle.orders.specs.Orders.{Taken, here, later}
use Rattle.search.specs.inside.Sets.{keep, with_bit, members, others}

pub halved : (m i : ℕ) → m / 2 ^ suc i ≡ m / 2 / 2 ^ i
halved m i = let e : 1 + i ≡ suc i = omega arith in sym (rw e at (shr-shr m 1 i))

pub halved_after : (m i : ℕ) → m / 2 ^ suc i ≡ m / 2 ^ i / 2
halved_after m i = let e : i + 1 ≡ suc i = omega arith in sym (rw e at (shr-shr m i 1))

pub bit_le : (m i : ℕ) → m / 2 ^ i % 2 ≡ 1 → 2 ^ i ≤ m
bit_le m i h =
    let p : 1 ≤ m / 2 ^ i = omega arith in
    le_trans (omega (arith, mul-le-mul_right (2 ^ i) p)) (div-mul-le_self m (2 ^ i))

-- a has bit b at position i, c has the other, and elsewhere they agree
abbrev pub Differ : ℕ → ℕ → ℕ → ℕ → Type 0
Differ b zero a c = (a % 2 ≡ b) × (c % 2 ≡ b → ⊥) × (a / 2 ≡ c / 2)
Differ b (suc i) a c = (a % 2 ≡ c % 2) × Differ b i (a / 2) (c / 2)

-- a set and the set less its row i differ at i
pub less_row : (i m : ℕ) → m / 2 ^ i % 2 ≡ 1 → Differ 1 i m (m - 2 ^ i) × Differ 0 i (m - 2 ^ i) m
less_row zero m h =
    let odd : m % 2 ≡ 1 = omega arith in
    ((omega arith, (λ e. omega arith), omega arith), (omega arith, (λ e. omega arith), omega arith))
less_row (suc i) m h =
    let big = bit_le m (suc i) h in
    let ih = less_row i (m / 2) (sym (ap (λ (a : ℕ). a % 2) (halved m i)) ∙ h) in
    let half : m / 2 - 2 ^ i ≡ (m - 2 ^ suc i) / 2 = omega arith in
    let low : m % 2 ≡ (m - 2 ^ suc i) % 2 = omega (arith, big) in
    ((low, rw half at ih.0), (sym low, rw half at ih.1))

-- the row whose bit changes
pub taken_at :
    (b : ℕ) (table : List Row) (i a c : ℕ) →
    i < length table →
    Differ b i a c →
    Taken (row_at table i) (with_bit b a table) (with_bit b c table)
taken_at b [] i a c l d = absurd (omega arith)
taken_at b (r ∷ rs) zero a c l d = rw (eq-eqb (a % 2) b d.0, ne_eqb (c % 2) b d.1, d.2) here
taken_at b (r ∷ rs) (suc i) a c l d =
    let ih = taken_at b rs i (a / 2) (c / 2) (omega arith) d.1 in
    rw d.0 (elim (ℕ_discrete (c % 2) b)
    [ yes e ↦ rw (eq-eqb (c % 2) b e) (later ih) | no n ↦ rw (ne_eqb (c % 2) b n) ih ])

-- ---- a set cut at a row of the table
keep_front : (b : Bool) (r : Row) (xs ys : List Row) → keep b r xs ++ ys ≡ keep b r (xs ++ ys)
keep_front true r xs ys = refl
keep_front false r xs ys = refl

-- the members before row i + 1 are those before row i, and row i where it is one
pub before_next :
    (b : ℕ) (table : List Row) (i m : ℕ) →
    i < length table →
    with_bit b m (take (suc i) table) ≡ with_bit b m (take i table) ++ keep (eqb (m / 2 ^ i % 2) b) (row_at table i) []
before_next b [] i m l = absurd (omega arith)
before_next b (r ∷ rs) zero m l = let one : m / 2 ^ 0 ≡ m = omega arith in rw one
before_next b (r ∷ rs) (suc i) m l =
    let bit = eqb (m % 2) b in
    let last = keep (eqb (m / 2 / 2 ^ i % 2) b) (row_at rs i) [] in
    rw (halved m i)
    (ap (keep bit r) (before_next b rs i (m / 2) (omega arith))
    ∙ sym (keep_front bit r (with_bit b (m / 2) (take i rs)) last))

-- the set less its row i is the members before the row and those after it
pub less_row_is :
    (table : List Row) (i m c : ℕ) →
    i < length table →
    Differ 1 i m c →
    members m (take i table) ++ members (m / 2 ^ suc i) (drop (suc i) table) ≡ members c table
less_row_is [] i m c l d = absurd (omega arith)
less_row_is (r ∷ rs) zero m c l d =
    let half : m / 2 ^ 1 ≡ c / 2 = omega (arith, d.2) in
    rw (ne_eqb (c % 2) 1 d.1, half)
less_row_is (r ∷ rs) (suc i) m c l d =
    let bit = eqb (m % 2) 1 in
    let rest = members (m / 2 ^ suc (suc i)) (drop (suc i) rs) in
    keep_front bit r (members (m / 2) (take i rs)) rest
    ∙ ap (λ (k : ℕ). keep bit r (members (m / 2) (take i rs) ++ members k (drop (suc i) rs))) (halved m (suc i))
    ∙ ap (keep bit r) (less_row_is rs i (m / 2) (c / 2) (omega arith) d.1)
    ∙ ap (λ (k : ℕ). keep (eqb k 1) r (members (c / 2) rs)) d.0

-- ---- the empty set and the whole
pub no_members : (table : List Row) → members 0 table ≡ []
no_members [] = refl
no_members (r ∷ rs) = no_members rs

pub all_members : (table : List Row) → members (2 ^ length table - 1) table ≡ table
all_members [] = refl
all_members (r ∷ rs) =
    let k = length rs in
    let p = pow_pos k in
    let odd : (2 ^ suc k - 1) % 2 ≡ 1 = omega arith in
    let half : (2 ^ suc k - 1) / 2 ≡ 2 ^ k - 1 = omega arith in
    rw (odd, half) (ap (λ (l : List Row). r ∷ l) (all_members rs))

pub no_others : (table : List Row) → others (2 ^ length table - 1) table ≡ []
no_others [] = refl
no_others (r ∷ rs) =
    let k = length rs in
    let p = pow_pos k in
    let odd : (2 ^ suc k - 1) % 2 ≡ 1 = omega arith in
    let half : (2 ^ suc k - 1) / 2 ≡ 2 ^ k - 1 = omega arith in
    rw (odd, half) (no_others rs)

-- a set that is not empty has a row
pub some_member :
    (table : List Row) (m : ℕ) →
    (m ≡ 0 → ⊥) →
    m < 2 ^ length table →
    (k : ℕ) × (length (members m table) ≡ suc k)
some_member [] m h l = absurd (h (omega arith))
some_member (r ∷ rs) m h l =
    let l' : m < 2 ^ suc (length rs) = l in
    elim (ℕ_discrete (m % 2) 1) [
      | yes e ↦ (length (members (m / 2) rs), rw (eq-eqb (m % 2) 1 e))
      | no n ↦ rw (ne_eqb (m % 2) 1 n) (some_member rs (m / 2) (λ q. h (omega arith)) (omega arith))
    ]
