-- What a record of sets knows is known in one way: a byte says one thing, and the rest of a set has one order. So what a
-- search keeps of its record is the fact itself.
use mathlib.Core.Path.{◌≡◌, ap, sym, ◌∙◌, subst}
use mathlib.Core.HLevel.{is_prop→PathP, Π_prop, ×_prop}
use mathlib.Core.Bool.{Bool}
use mathlib.Core.List.{List, [], ◌∷◌, ◌++◌}
use mathlib.Core.List as Lists
use mathlib.Core.Logic.{◌⊎◌, inl, inr, ∥∥₁_elim}
use mathlib.Core.Option as Options
use mathlib.Core.Option.{Option, none, some, some-injective, none-ne-some}
use Prim.Native.Nat.{ℕ, ◌-◌, ◌/◌, ◌%◌, ◌^◌, ◌<◌}
use native.Mathlib.Bridge.{le_prop}
use native.Mathlib.Nat.{ℕ_set}
use native.Mathlib.Omega.{arith}
use lib.ListN.{length, get_or}
use Rattle.rows.specs.Rows.{Row, row_at}
use Rattle.search.specs.inside.Sets as S
use Rattle.search.specs.inside.Sets.{unknown, no_order}

row_set : IsSet Row
row_set = hlevel (ℕ_set, Lists.is_set)

order_set : IsSet (Option (List Row))
order_set = Options.is_set (Lists.is_set row_set)

module _ (test : Row → List Row → List Row → Bool) (table : List Row) where
  abbrev order_at : ℕ → Option (List Row)
  order_at = S.order_at test table

  -- the rest of a set has one order, so in one way is a row the lowest of the set's
  lowest_prop : (m i : ℕ) → IsProp (S.LowestIs test table m i)
  lowest_prop m i x y =
      let e : x.above ≡ y.above = some-injective x.above y.above (sym x.above_is ∙ y.above_is) in
      λ k. record {
        in_table = le_prop x.in_table y.in_table k;
        in_set = ℕ_set (m / 2 ^ i % 2) 1 x.in_set y.in_set k;
        above = e k;
        above_is =
            is_prop→PathP (λ k. order_at (m - 2 ^ i) ≡ some (e k))
            (λ k. order_set (order_at (m - 2 ^ i)) (some (e k))) x.above_is y.above_is k;
        order_is =
            is_prop→PathP (λ k. order_at m ≡ some (e k ++ (row_at table i ∷ [])))
            (λ k. order_set (order_at m) (some (e k ++ (row_at table i ∷ [])))) x.order_is y.order_is k;
      }

  -- a set that has no order has no lowest row
  says_prop : (m v : ℕ) → IsProp (S.Says test table m v)
  says_prop m v (inl x) (inl y) = ap inl (×_prop (ℕ_set v no_order) (order_set (order_at m) none) x y)
  says_prop m v (inl x) (inr y) = absurd (none-ne-some (y.above ++ (row_at table v ∷ [])) (sym x.1 ∙ y.order_is))
  says_prop m v (inr x) (inl y) = absurd (none-ne-some (x.above ++ (row_at table v ∷ [])) (sym y.1 ∙ x.order_is))
  says_prop m v (inr x) (inr y) = ap inr (lowest_prop m v x y)

  module _ (few : length table < unknown) where
    -- the byte of a set that is not known says nothing of it
    unsaid : (m : ℕ) → S.Says test table m unknown → ⊥
    unsaid m (inl x) = let e : ◌≡◌ {A = ℕ} 254 255 = x.0 in omega arith
    unsaid m (inr x) = omega arith

    entry_prop : (m v : ℕ) → IsProp ((v ≡ unknown) ⊎ S.Says test table m v)
    entry_prop m v (inl x) (inl y) = ap inl (ℕ_set v unknown x y)
    entry_prop m v (inl x) (inr y) = absurd (unsaid m (subst (λ (k : ℕ). S.Says test table m k) x y))
    entry_prop m v (inr x) (inl y) = absurd (unsaid m (subst (λ (k : ℕ). S.Says test table m k) y x))
    entry_prop m v (inr x) (inr y) = ap inr (says_prop m v x y)

    recorded_prop : (sets : List ℕ) → IsProp (S.Recorded test table sets)
    recorded_prop sets x y = λ k. record {
      room = le_prop x.room y.room k;
      entries = Π_prop (λ m. Π_prop (λ l. entry_prop m (get_or sets m 0))) x.entries y.entries k;
      closed =
          Π_prop (λ m. Π_prop (λ l. Π_prop (λ low. Π_prop (λ some_row.
          says_prop (m - 2 ^ get_or sets m 0) (get_or sets (m - 2 ^ get_or sets m 0) 0))))) x.closed y.closed k;
    }

    pub recorded_so : (sets : List ℕ) → ∥ S.Recorded test table sets ∥₁ → S.Recorded test table sets
    recorded_so sets r = ∥∥₁_elim r (recorded_prop sets) (λ x. x)
