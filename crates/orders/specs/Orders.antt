-- Orders of a table's rows (priority assignments), for any test of a row between the rows above it and those below it.
-- An order, the rows above and the rows below all stand highest first.
use Rattle.std.specs.Prelude.{◌≡◌, Bool, true, false, ◌&&◌, ◌||◌, List, [], ◌∷◌, ◌++◌, ℕ, zero, suc, eqb, ltb, length}
use Rattle.std.proofs.Math.Option.{Option, none, some}
use Rattle.rows.specs.Rows.{Row}

-- a row of a set, and the rest of the set in its sequence
pub data Taken : Row → List Row → List Row → Type 0 where
  here : {r : Row} {rs : List Row} → Taken r (r ∷ rs) rs
  later : {r x : Row} {rs rest : List Row} → Taken r rs rest → Taken r (x ∷ rs) (x ∷ rest)

-- a possible order of a set: each of its rows once and nothing else, in any sequence
pub data Possible : List Row → List Row → Type 0 where
  nothing : Possible [] []
  first : {r : Row} {os rs rest : List Row} → Taken r rs rest → Possible os rest → Possible (r ∷ os) rs

-- where a row's task stands in the table, counted from 0
abbrev pub position_in : List Row → Row → ℕ
position_in [] r = 0
position_in (x ∷ rs) r = elim (eqb r.task x.task) [ true ↦ 0 | false ↦ suc (position_in rs r) ]

-- the positions of an order's rows, the lowest row first
abbrev pub positions_up : (Row → ℕ) → List Row → List ℕ
positions_up position [] = []
positions_up position (r ∷ os) = positions_up position os ++ (position r ∷ [])

-- the rule's comparison: the lowest row earlier in the table; where it is the same, the second lowest, and so on upward
abbrev pub not_after : List ℕ → List ℕ → Bool
not_after [] ys = true
not_after (x ∷ xs) [] = false
not_after (x ∷ xs) (y ∷ ys) = ltb x y || (eqb x y && not_after xs ys)

-- ---- what is known of a set by the row that stands lowest in it and what remains: its order, or how many it has
pub record ByLowest (A : Type 0) : Type 0 where
  -- of no rows; and where no row is left to try
  pub empty : A
  pub none_left : A
  -- by whether a row passes as the lowest, what is known of the rest, the row, and what the rows after it give
  pub try : Bool → A → Row → A → A

module _ {A : Type 0} (known : ByLowest A) (test : Row → List Row → List Row → Bool) where
  -- each row of a set as its lowest, in the table's sequence, some having been tried before
  abbrev pub over_lowest : (List Row → List Row → A) → List Row → List Row → List Row → A
  over_lowest over before [] below = known.none_left
  over_lowest over before (r ∷ rs) below =
      let rest = before ++ rs in
      let above = over rest (r ∷ below) in
      let next = over_lowest over (before ++ (r ∷ [])) rs below in
      known.try (test r rest below) above r next

  -- of a set of n rows, over the rows below it
  abbrev pub over_from : ℕ → List Row → List Row → A
  over_from zero rs below = known.empty
  over_from (suc n) rs below = over_lowest (over_from n) [] rs below

  unfoldable pub over_set : List Row → List Row → A
  over_set rs below = over_from (length rs) rs below

-- ---- the order chosen: that of the set without its lowest row, then that row; the first row that passes as the lowest
-- and leaves a rest that has an order
abbrev pub tried : Bool → Option (List Row) → Row → Option (List Row) → Option (List Row)
tried passes above r next =
    elim passes [ true ↦ elim above [ some os ↦ some (os ++ (r ∷ [])) | none ↦ next ] | false ↦ next ]

abbrev pub the_order : ByLowest (Option (List Row))
the_order = record { empty = some []; none_left = none; try = tried }

module _ (test : Row → List Row → List Row → Bool) where
  -- every row of an order passes, with more rows above the order and below it
  abbrev pub passes_between : List Row → List Row → List Row → Bool
  passes_between above [] below = true
  passes_between above (r ∷ os) below =
      test r above (os ++ below) && passes_between (above ++ (r ∷ [])) os below

  abbrev pub passes : List Row → Bool
  passes os = passes_between [] os []

  abbrev pub lowest_of :
      (List Row → List Row → Option (List Row)) → List Row → List Row → List Row → Option (List Row)
  lowest_of = over_lowest the_order test

  abbrev pub order_from : ℕ → List Row → List Row → Option (List Row)
  order_from = over_from the_order test

  abbrev pub order_over : List Row → List Row → Option (List Row)
  order_over = over_set the_order test

  -- the order chosen for a table
  abbrev pub order_of : List Row → Option (List Row)
  order_of table = order_over table []

  -- the test sees the rows above and below as sets
  abbrev pub BySets : Type 0
  BySets =
      (r : Row) (above above' below below' : List Row) →
      Possible above above' →
      Possible below below' →
      test r above below ≡ test r above' below'

  -- what is claimed of the order chosen
  pub record Chosen (table : List Row) : Type 0 where
    pub none_passes :
        order_of table ≡ none → (os : List Row) → Possible os table → passes os ≡ false
    pub none_only :
        ((os : List Row) → Possible os table → passes os ≡ false) → order_of table ≡ none
    pub is_possible_order : (os : List Row) → order_of table ≡ some os → Possible os table
    pub is_passing : (os : List Row) → order_of table ≡ some os → passes os ≡ true
    pub by_rule :
        (os ps : List Row) →
        order_of table ≡ some os →
        Possible ps table →
        passes ps ≡ true →
        not_after (positions_up (position_in table) os) (positions_up (position_in table) ps) ≡ true
    pub one_only :
        (os ps : List Row) →
        Possible os table →
        Possible ps table →
        not_after (positions_up (position_in table) os) (positions_up (position_in table) ps) ≡ true →
        not_after (positions_up (position_in table) ps) (positions_up (position_in table) os) ≡ true →
        os ≡ ps
