-- Possible orders, taken apart at the lowest row as well as at the highest.
-- Two rows can be taken from a set in either sequence (`swapped`); the rest follows by induction.
use mathlib.Core.Path.{◌≡◌, refl, ap, sym, ◌∙◌}
use mathlib.Core.Bool.{Bool, true}
use mathlib.Core.List.{List, [], ◌∷◌, ◌++◌}
use Prim.Native.Nat.{ℕ, suc}
use native.Mathlib.Omega.{arith}
use lib.ListN.{length}
use Rattle.basics.proofs.Tests.{and_both}
use Rattle.rows.specs.Rows.{all_rows}
use Rattle.rows.specs.Rows.{Row}
use Rattle.rows.proofs.Limits.{head_passes, tail_passes}
use Rattle.orders.specs.Orders.{Taken, here, later, Possible, nothing, first}

-- ---- rows of a set
pub record Swapped (x r : Row) (rs rest : List Row) : Type 0 where
  pub between : List Row
  pub second : Taken x rs between
  pub first : Taken r between rest

pub swapped :
    {r x : Row} {rs between rest : List Row} →
    Taken r rs between →
    Taken x between rest →
    Swapped x r rs rest
swapped here t = record { between = _; second = later t; first = here }
swapped (later s) here = record { between = _; second = here; first = s }
swapped (later s) (later t) =
    let w = swapped s t in
    record { between = _; second = later w.second; first = later w.first }

pub taken_length : {r : Row} {rs rest : List Row} → Taken r rs rest → length rs ≡ suc (length rest)
taken_length here = refl
taken_length (later t) = ap suc (taken_length t)

-- ---- possible orders
pub possible_self : (rs : List Row) → Possible rs rs
possible_self [] = nothing
possible_self (r ∷ rs) = first here (possible_self rs)

pub possible_length : {os rs : List Row} → Possible os rs → length os ≡ length rs
possible_length nothing = refl
possible_length (first t p) = ap suc (possible_length p) ∙ sym (taken_length t)

-- a row below an order of the rest
pub with_lowest :
    {r : Row} {os rs rest : List Row} →
    Taken r rs rest →
    Possible os rest →
    Possible (os ++ (r ∷ [])) rs
with_lowest t nothing = first t nothing
with_lowest t (first s p) =
    let w = swapped t s in
    first w.second (with_lowest w.first p)

pub record Lowest (os rs : List Row) : Type 0 where
  pub above : List Row
  pub lowest : Row
  pub rest : List Row
  pub order_is : os ≡ above ++ (lowest ∷ [])
  pub taken : Taken lowest rs rest
  pub possible : Possible above rest

lowest_row : {x : Row} {os rs : List Row} → Possible (x ∷ os) rs → Lowest (x ∷ os) rs
lowest_row {x} (first t nothing) =
    record { above = []; lowest = x; rest = []; order_is = refl; taken = t; possible = nothing }
lowest_row {x} (first t (first s p)) =
    let l = lowest_row (first s p) in
    let w = swapped t l.taken in
    record {
      above = x ∷ l.above;
      lowest = l.lowest;
      rest = w.between;
      order_is = ap (λ (os : List Row). x ∷ os) l.order_is;
      taken = w.second;
      possible = first w.first l.possible;
    }

-- an order has a lowest row, and is possible without it
pub lowest_of_lem : (n : ℕ) (os rs : List Row) → length rs ≡ suc n → Possible os rs → Lowest os rs
lowest_of_lem n [] rs e p = absurd (omega (arith, possible_length p))
lowest_of_lem n (x ∷ os) rs e p = lowest_row p

-- what holds of every row of a set holds of every row of an order of it
taken_passes :
    (f : Row → Bool) {r : Row} {rs rest : List Row} →
    Taken r rs rest →
    all_rows f rs ≡ true →
    (f r ≡ true) × (all_rows f rest ≡ true)
taken_passes f {r} (here {rs = rs}) h = (head_passes f r rs h, tail_passes f r rs h)
taken_passes f (later {x = x} {rs = rs} {rest = rest} t) h =
    let ih = taken_passes f t (tail_passes f x rs h) in
    (ih.0, and_both (f x) (all_rows f rest) (head_passes f x rs h) ih.1)

pub possible_passes :
    (f : Row → Bool) {os rs : List Row} →
    Possible os rs →
    all_rows f rs ≡ true →
    all_rows f os ≡ true
possible_passes f nothing h = refl
possible_passes f (first {r = r} {os = os} t p) h =
    let k = taken_passes f t h in
    and_both (f r) (all_rows f os) k.0 (possible_passes f p k.1)
