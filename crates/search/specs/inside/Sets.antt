-- A promise between functions: sets of a table's rows as numbers, bit i for row i, and the record of sets, a byte for
-- each.
use Rattle.std.specs.Prelude.{◌≡◌, Bool, true, false, ◌&&◌, List, [], ◌∷◌, ◌++◌, ◌⊎◌, ℕ, ◌-◌, ◌/◌, ◌%◌, ◌^◌, ◌≤◌, ◌<◌, eqb, Option, Some, None, length, get_or}
use Rattle.std.proofs.Math.Option as Maths
use Rattle.std.proofs.Math.Option.{none, some}
use Rattle.rows.specs.Rows.{row_at}
use Rattle.rows.specs.Rows.{Row}
use Rattle.orders.specs.Orders.{ByLowest, over_set, the_order}

abbrev pub keep : Bool → Row → List Row → List Row
keep true r rs = r ∷ rs
keep false r rs = rs

-- the rows whose bit in set m is b, in the table's sequence
abbrev pub with_bit : ℕ → ℕ → List Row → List Row
with_bit b m [] = []
with_bit b m (r ∷ rs) = keep (eqb (m % 2) b) r (with_bit b (m / 2) rs)

-- the rows of set m, and the table's other rows
abbrev pub members : ℕ → List Row → List Row
members m table = with_bit 1 m table

abbrev pub others : ℕ → List Row → List Row
others m table = with_bit 0 m table

abbrev pub has_bit : ℕ → ℕ → Bool
has_bit m i = eqb (m / 2 ^ i % 2) 1

abbrev pub is_some : Maths.Option (List Row) → Bool
is_some none = false
is_some (some os) = true

-- a byte of the record: not known yet, no order, or the lowest row of the set's order
abbrev pub unknown : ℕ
unknown = 254

abbrev pub no_order : ℕ
no_order = 255

module _ {A : Type 0} (known : ByLowest A) (test : Row → List Row → List Row → Bool) (table : List Row) where
  -- what is known of set m over the table's other rows
  abbrev pub at : ℕ → A
  at m = over_set known test (members m table) (others m table)

module _ (test : Row → List Row → List Row → Bool) (table : List Row) where
  abbrev pub order_at : ℕ → Maths.Option (List Row)
  order_at = at the_order test table

  -- row i passes as the lowest of set m
  abbrev pub fits : ℕ → ℕ → Bool
  fits m i = test (row_at table i) (members (m - 2 ^ i) table) (others m table)

  -- row i goes lowest in set m: it is in the set, passes, and the rest has an order
  abbrev pub goes : ℕ → ℕ → Bool
  goes m i = has_bit m i && (fits m i && is_some (order_at (m - 2 ^ i)))

  -- row i is the lowest of the order of set m
  pub record LowestIs (m i : ℕ) : Type 0 where
    pub in_table : i < length table
    pub in_set : m / 2 ^ i % 2 ≡ 1
    pub above : List Row
    pub above_is : order_at (m - 2 ^ i) ≡ some above
    pub order_is : order_at m ≡ some (above ++ (row_at table i ∷ []))

  -- what byte v says of set m
  abbrev pub Says : ℕ → ℕ → Type 0
  Says m v = ((v ≡ no_order) × (order_at m ≡ none)) ⊎ LowestIs m v

  -- set m is empty or the record has it
  abbrev pub Known : List ℕ → ℕ → Type 0
  Known sets m = (m ≡ 0 → ⊥) → Says m (get_or sets m 0)

  -- what was found to be lowest in set m: a row, and the record has the rest of the set; or none, and the set has no order
  abbrev pub LowestFound : ℕ → List ℕ → Option ℕ → Type 0
  LowestFound m sets None = order_at m ≡ none
  LowestFound m sets (Some i) = LowestIs m i × Known sets (m - 2 ^ i)

  -- the record: what is known of a set is so, and where its lowest row is known, so is the rest of the set
  pub record Recorded (sets : List ℕ) : Type 0 where
    pub room : 2 ^ length table ≤ length sets
    pub entries : (m : ℕ) → m < 2 ^ length table → (get_or sets m 0 ≡ unknown) ⊎ Says m (get_or sets m 0)
    pub closed : (m : ℕ) → m < 2 ^ length table → LowestIs m (get_or sets m 0) → Known sets (m - 2 ^ get_or sets m 0)

  -- the record has set m, and tells whether it has an order
  pub record Settled (m : ℕ) (sets : List ℕ) (found : Bool) : Type 0 where
    pub recorded : Recorded sets
    pub there : Known sets m
    pub found_is : found ≡ is_some (order_at m)
