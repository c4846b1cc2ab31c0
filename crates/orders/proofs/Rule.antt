-- The order chosen for a table with distinct tasks, for every test by sets: positions in the table rise along its rows,
-- so the order is first by document 01's rule, and the rule names one order.
use mathlib.Core.Path.{◌≡◌, refl, ap, ap₂, sym, ◌∙◌, subst}
use mathlib.Core.Bool.{Bool, true, false, ◌&&◌, ◌||◌, not, true≢false, or-true}
use mathlib.Core.List.{List, [], ◌∷◌, ◌++◌}
use mathlib.Core.Option.{none, some}
use mathlib.Core.Logic.{◌⊎◌, inl, inr}
use Prim.Native.Nat.{ℕ, zero, suc}
use native.Mathlib.Decide.{ℕ_discrete}
use native.Mathlib.Omega.{arith}
use borrow.Author.Tests.{eq-eqb, ne_eqb, eqb-true, not-true, ltb-true}
use lib.Dec.{eqb, ltb}
use lib.ListN.{length}
use Rattle.rows.specs.Rows.{has_task, distinct_rows}
use Rattle.rows.specs.Rows.{Row}
use Rattle.basics.proofs.Tests.{test_of, false_of, and_left, and_right}
use Rattle.orders.specs.Orders as O
use Rattle.orders.specs.Orders.{Taken, here, later, Possible, position_in, positions_up, not_after}
use Rattle.orders.proofs.Possible.{taken_length, possible_length, lowest_of_lem}
use Rattle.orders.proofs.Choosing.{some_or_none, Rising, rising_rest, same_some, positions_lowest, compare}
use Rattle.orders.proofs.Choosing.{Sound, sound, First, complete}

-- ---- positions in a table
abbrev position_if : Bool → ℕ → ℕ
position_if b i = elim b [ true ↦ 0 | false ↦ suc i ]

position_here : (x : Row) (rs : List Row) → position_in (x ∷ rs) x ≡ 0
position_here x rs = ap (λ (b : Bool). position_if b (position_in rs x)) (eq-eqb x.task x.task refl)

position_later : (r x : Row) (rs : List Row) → (r.task ≡ x.task → ⊥) → position_in (x ∷ rs) r ≡ suc (position_in rs r)
position_later r x rs n = ap (λ (b : Bool). position_if b (position_in rs r)) (ne_eqb r.task x.task n)

taken_task : {r : Row} {rs rest : List Row} → Taken r rs rest → has_task r.task rs ≡ true
taken_task {r} (here {rs = rs}) = ap (λ (b : Bool). b || has_task r.task rs) (eq-eqb r.task r.task refl)
taken_task {r} (later {x = x} t) =
    ap (λ (b : Bool). eqb r.task x.task || b) (taken_task t) ∙ or-true (eqb r.task x.task)

-- a row further on has another task
pub other_task :
    (x : Row) {r : Row} {rs rest : List Row} →
    distinct_rows (x ∷ rs) ≡ true →
    Taken r rs rest →
    r.task ≡ x.task →
    ⊥
other_task x {rs = rs} d t e =
    let fresh = not-true (has_task x.task rs) (and_left (not (has_task x.task rs)) (distinct_rows rs) d) in
    true≢false (sym (taken_task t) ∙ ap (λ (k : ℕ). has_task k rs) e ∙ fresh)

rising-more :
    (x : Row) (rs more : List Row) →
    ((r : Row) (rest : List Row) → Taken r rs rest → r.task ≡ x.task → ⊥) →
    Rising (position_in more) rs →
    Rising (position_in (x ∷ more)) rs
rising-more x [] more apart up = tt
rising-more x (y ∷ rs) more apart up = (
  (λ r rest t. omega (
    arith,
    position_later y x more (apart y rs here),
    position_later r x more (apart r (y ∷ rest) (later t)),
    up.0 r rest t,
  )),
  rising-more x rs more (λ r rest t. apart r (y ∷ rest) (later t)) up.1,
)

pub rising_table : (rs : List Row) → distinct_rows rs ≡ true → Rising (position_in rs) rs
rising_table [] d = tt
rising_table (x ∷ rs) d =
    let apart : (r : Row) (rest : List Row) → Taken r rs rest → r.task ≡ x.task → ⊥ =
    λ r rest t. other_task x d t in (
      (λ r rest t. omega (arith, position_here x rs, position_later r x rs (apart r rest t))),
      rising-more x rs rs apart (rising_table rs (and_right (not (has_task x.task rs)) (distinct_rows rs) d)),
    )

-- ---- the rule names one order
pub both_ways :
    (x y : ℕ) (xs ys : List ℕ) →
    not_after (x ∷ xs) (y ∷ ys) ≡ true →
    not_after (y ∷ ys) (x ∷ xs) ≡ true →
    (x ≡ y) × (not_after xs ys ≡ true) × (not_after ys xs ≡ true)
both_ways x y xs ys h k = go (ℕ_discrete x y) (test_of (ltb x y)) (test_of (ltb y x))
  where
    go :
        Dec (x ≡ y) →
        (ltb x y ≡ true) ⊎ (ltb x y ≡ false) →
        (ltb y x ≡ true) ⊎ (ltb y x ≡ false) →
        (x ≡ y) × (not_after xs ys ≡ true) × (not_after ys xs ≡ true)
    go (yes e) (inl a) b = absurd (omega (arith, ltb-true x y a))
    go (yes e) (inr a) (inl b) = absurd (omega (arith, ltb-true y x b))
    go (yes e) (inr a) (inr b) = (
      e,
      and_right (eqb x y) (not_after xs ys) (sym (ap (λ (c : Bool). c || (eqb x y && not_after xs ys)) a) ∙ h),
      and_right (eqb y x) (not_after ys xs) (sym (ap (λ (c : Bool). c || (eqb y x && not_after ys xs)) b) ∙ k),
    )
    go (no n) (inl a) (inl b) = absurd (omega (arith, ltb-true x y a, ltb-true y x b))
    go (no n) (inr a) b =
        absurd (n (eqb-true x y (and_left (eqb x y) (not_after xs ys)
        (sym (ap (λ (c : Bool). c || (eqb x y && not_after xs ys)) a) ∙ h))))
    go (no n) (inl a) (inr b) =
        absurd (n (sym (eqb-true y x
        (and_left (eqb y x) (not_after ys xs) (sym (ap (λ (c : Bool). c || (eqb y x && not_after ys xs)) b) ∙ k)))))

no_rows : (os : List Row) → length os ≡ 0 → os ≡ []
no_rows [] e = refl
no_rows (x ∷ os) e = absurd (omega arith)

module _ (position : Row → ℕ) where
  -- rows of a set with one position are one row
  one_position :
      {r q : Row} {rs rest more : List Row} →
      Rising position rs →
      Taken r rs rest →
      Taken q rs more →
      position r ≡ position q →
      (r ≡ q) × (rest ≡ more)
  one_position up here here e = (refl, refl)
  one_position up here (later {rest = more} t) e = absurd (omega (arith, up.0 _ more t))
  one_position up (later {rest = rest} t) here e = absurd (omega (arith, up.0 _ rest t))
  one_position up (later {x = x} t) (later s) e =
      let i = one_position up.1 t s e in
      (i.0, ap (λ (l : List Row). x ∷ l) i.1)

  pub one_order :
      (n : ℕ) (rs os ps : List Row) →
      length rs ≡ n →
      Rising position rs →
      Possible os rs →
      Possible ps rs →
      not_after (positions_up position os) (positions_up position ps) ≡ true →
      not_after (positions_up position ps) (positions_up position os) ≡ true →
      os ≡ ps
  one_order zero rs os ps e up p q h k =
      no_rows os (omega (arith, possible_length p)) ∙ sym (no_rows ps (omega (arith, possible_length q)))
  one_order (suc n) rs os ps e up p q h k =
      let a = lowest_of_lem n os rs e p in
      let b = lowest_of_lem n ps rs e q in
      let pa = ap (positions_up position) a.order_is ∙ positions_lowest position a.above a.lowest in
      let pb = ap (positions_up position) b.order_is ∙ positions_lowest position b.above b.lowest in
      let w = both_ways (position a.lowest) (position b.lowest) (positions_up position a.above)
      (positions_up position b.above) (compare (sym pa) (sym pb) h) (compare (sym pb) (sym pa) k) in
      let s = one_position up a.taken b.taken w.0 in
      let q' = subst (λ (l : List Row). Possible b.above l) (sym s.1) b.possible in
      let ih = one_order n a.rest a.above b.above (omega (arith, taken_length a.taken))
      (rising_rest position a.taken up) a.possible q' w.1 w.2 in
      a.order_is ∙ ap₂ (λ (l : List Row) (r : Row). l ++ (r ∷ [])) ih s.0 ∙ sym b.order_is

-- ---- the order chosen
pub not_some : {os : List Row} → none ≡ some os → ⊥
not_some e = let z : ◌≡◌ {A = ℕ} 0 1 = cc in omega arith

module _ (test : Row → List Row → List Row → Bool) (by_sets : O.BySets test) where
  pub chosen : (table : List Row) → distinct_rows table ≡ true → O.Chosen test table
  unfolding O.over_set
  chosen table d = record {
    none_passes = λ h os p. false_of (O.passes test os) (λ s. not_some (sym h ∙ (first_of os p s).found));
    none_only = λ h. elim (some_or_none (O.order_of test table)) [
      | inl a ↦ absurd (true≢false (sym (good a.0 a.1).passing ∙ h a.0 (good a.0 a.1).possible))
      | inr e ↦ e
    ];
    is_possible_order = λ os h. (good os h).possible;
    is_passing = λ os h. (good os h).passing;
    by_rule = λ os ps h p s.
        ap (λ (l : List Row). not_after (positions_up position l) (positions_up position ps))
        (same_some (sym h ∙ (first_of ps p s).found))
        ∙ (first_of ps p s).comes_first;
    one_only = λ os ps p q h k. one_order position (length table) table os ps refl up p q h k;
  }
    where
      position : Row → ℕ
      position = position_in table

      up : Rising position table
      up = rising_table table d

      good : (os : List Row) → O.order_of test table ≡ some os → Sound test by_sets os table []
      good os h = sound test by_sets (length table) table [] os refl h

      first_of :
          (ps : List Row) →
          Possible ps table →
          O.passes test ps ≡ true →
          First test by_sets position (length table) table [] ps
      first_of ps p h = complete test by_sets position (length table) table [] ps refl up p h
