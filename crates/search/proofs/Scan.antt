-- What is known of a set, found by trying the table's rows one after another: `scan` is what is still to be tried.
-- The laws open it at a row that is not in the set and at one that is; for an order, at a row that goes lowest.
use mathlib.Core.Path.{◌≡◌, refl, ap, ap₂, sym, ◌∙◌}
use mathlib.Core.Bool.{Bool, true, false, ◌&&◌, true≢false, false≢true}
use mathlib.Core.List.{List, [], ◌∷◌, ◌++◌, append-nil}
use mathlib.Core.Option.{Option, none, some}
use Prim.Native.Nat.{ℕ, zero, suc, ◌+◌, ◌-◌, ◌/◌, ◌%◌, ◌^◌, ◌<◌}
use native.Mathlib.Decide.{ℕ_discrete}
use native.Mathlib.Omega.{arith}
use borrow.Author.Tests.{eq-eqb, ne_eqb, eqb-true}
use lib.ListN.{length, take, drop, length-append}
use lib.Seq.{drop-cons, drop-length}
use Rattle.rows.specs.Rows.{no_row, row_at}
use Rattle.rows.specs.Rows.{Row}
use Rattle.basics.proofs.Tests.{and_left, and_right}
use Rattle.orders.specs.Orders as O
use Rattle.orders.specs.Orders.{here, Possible, first, tried, the_order}
use Rattle.search.specs.inside.Sets as S
use Rattle.search.specs.inside.Sets.{keep, members, others, has_bit, is_some}
use Rattle.orders.proofs.Possible.{possible_self}
use Rattle.orders.proofs.Choosing.{tried_lowest}
use Rattle.search.proofs.Sets.{halved_after, less_row, taken_at, before_next, less_row_is, some_member}
use Rattle.search.proofs.Sets.{no_members, all_members, no_others}

-- ---- anything known of a set by its lowest row
module _ {A : Type 0} (known : O.ByLowest A) (test : Row → List Row → List Row → Bool) where
  -- it rests on the sets of one row fewer, and on the test
  lowest_same :
      (f g : List Row → List Row → A) (below below' : List Row) (n : ℕ) →
      ((r : Row) (rest : List Row) → test r rest below ≡ test r rest below') →
      ((r : Row) (rest : List Row) → length rest ≡ n → f rest (r ∷ below) ≡ g rest (r ∷ below')) →
      (before rs : List Row) →
      length before + length rs ≡ suc n →
      O.over_lowest known test f before rs below ≡ O.over_lowest known test g before rs below'
  lowest_same f g below below' n t h before [] e = refl
  lowest_same f g below below' n t h before (r ∷ rs) e =
      let rest = before ++ rs in
      let tried_before = before ++ (r ∷ []) in
      let short : length rest ≡ n = omega (arith, length-append before rs) in
      let next = lowest_same f g below below' n t h tried_before rs (omega (arith, length-append before (r ∷ []))) in
      ap₂ (λ (b : Bool) (x : A). known.try b x r (O.over_lowest known test f tried_before rs below))
      (t r rest) (h r rest short)
      ∙ ap (known.try (test r rest below') (g rest (r ∷ below')) r) next

  over-step :
      (rs below : List Row) (n : ℕ) →
      length rs ≡ suc n →
      O.over_set known test rs below ≡ O.over_lowest known test (O.over_set known test) [] rs below
  unfolding O.over_set
  over-step rs below n e =
      ap (λ (k : ℕ). O.over_from known test k rs below) e
      ∙ lowest_same (O.over_from known test n) (O.over_set known test) below below n (λ r rest. refl)
      (λ r rest q. ap (λ (k : ℕ). O.over_from known test k rest (r ∷ below)) (sym q)) [] rs (omega arith)

  pub over_none : (below : List Row) → O.over_set known test [] below ≡ known.empty
  unfolding O.over_set
  over_none below = refl

  pub at_empty : (table : List Row) → S.at known test table 0 ≡ known.empty
  at_empty table =
      ap (λ (rs : List Row). O.over_set known test rs (others 0 table)) (no_members table) ∙ over_none (others 0 table)

  -- the whole table is a set, with no other rows
  pub at_whole : (table : List Row) → S.at known test table (2 ^ length table - 1) ≡ O.over_set known test table []
  at_whole table = ap₂ (O.over_set known test) (all_members table) (no_others table)

  module _ (by_sets : O.BySets test) where
    over_below' :
        (n : ℕ) (rs below below' : List Row) →
        length rs ≡ n →
        Possible below below' →
        O.over_from known test n rs below ≡ O.over_from known test n rs below'
    over_below' zero rs below below' e p = refl
    over_below' (suc n) rs below below' e p =
        lowest_same (O.over_from known test n) (O.over_from known test n) below below' n
        (λ r rest. by_sets r rest rest below below' (possible_self rest) p)
        (λ r rest q. over_below' n rest (r ∷ below) (r ∷ below') q (first here p))
        [] rs (omega arith)

    -- the sequence of the rows below does not matter
    over_below :
        (rs below below' : List Row) →
        Possible below below' →
        O.over_set known test rs below ≡ O.over_set known test rs below'
    unfolding O.over_set
    over_below rs below below' p = over_below' (length rs) rs below below' refl p

    module _ (table : List Row) (m : ℕ) where
      abbrev over : List Row → List Row → A
      over before rs = O.over_lowest known test (O.over_set known test) before rs (others m table)

      -- with the rows from i on as the lowest
      abbrev pub scan : ℕ → A
      scan i = over (members m (take i table)) (members (m / 2 ^ i) (drop i table))

      pub scan_start : (m ≡ 0 → ⊥) → m < 2 ^ length table → S.at known test table m ≡ scan 0
      scan_start h l =
          let s = some_member table m h l in
          let one : m / 2 ^ 0 ≡ m = omega arith in
          rw one (over-step (members m table) (others m table) s.0 s.1)

      pub scan-end : scan (length table) ≡ known.none_left
      scan-end = rw (drop-length table)

      module _ (i : ℕ) (l : i < length table) where
        to_try :
            members (m / 2 ^ i) (drop i table)
            ≡ keep (has_bit m i) (row_at table i) (members (m / 2 ^ suc i) (drop (suc i) table))
        to_try = rw (drop-cons table i no_row l, halved_after m i)

        -- a row that is not in the set
        pub scan_out : has_bit m i ≡ false → scan i ≡ scan (suc i)
        scan_out h =
            let r = row_at table i in
            let rest = members (m / 2 ^ suc i) (drop (suc i) table) in
            let before = before_next 1 table i m l
            ∙ ap (λ (b : Bool). members m (take i table) ++ keep b r []) h
            ∙ append-nil (members m (take i table)) in
            ap₂ over (sym before) (to_try ∙ ap (λ (b : Bool). keep b r rest) h)

        -- a row of the set is tried under the set without it
        pub scan_in :
            m / 2 ^ i % 2 ≡ 1 →
            scan i
            ≡ known.try (S.fits test table m i) (S.at known test table (m - 2 ^ i)) (row_at table i) (scan (suc i))
        scan_in h =
            let r = row_at table i in
            let rest = members (m / 2 ^ suc i) (drop (suc i) table) in
            let set = members (m - 2 ^ i) table in
            let below = others m table in
            let is_in_lem = eq-eqb (m / 2 ^ i % 2) 1 h in
            let d = less_row i m h in
            let before = before_next 1 table i m l ∙ ap (λ (b : Bool). members m (take i table) ++ keep b r []) is_in_lem in
            let joins : Possible (r ∷ below) (others (m - 2 ^ i) table) =
            first (taken_at 0 table i (m - 2 ^ i) m l d.1) (possible_self below) in
            ap (over (members m (take i table))) (to_try ∙ ap (λ (b : Bool). keep b r rest) is_in_lem)
            ∙ ap₂ (λ (xs ys : List Row). known.try (test r xs below) (O.over_set known test xs (r ∷ below)) r
            (over ys rest))
            (less_row_is table i m (m - 2 ^ i) l d.0) (sym before)
            ∙ ap (λ (x : A). known.try (S.fits test table m i) x r (scan (suc i)))
            (over_below set (r ∷ below) (others (m - 2 ^ i) table) joins)

-- ---- the order of a set
pub some_of : (o : Option (List Row)) → is_some o ≡ true → (os : List Row) × (o ≡ some os)
some_of none h = absurd (false≢true h)
some_of (some os) h = (os, refl)

pub none_of : (o : Option (List Row)) → is_some o ≡ false → o ≡ none
none_of none h = refl
none_of (some os) h = absurd (true≢false h)

skipped :
    (b : Bool) (o : Option (List Row)) (r : Row) (next : Option (List Row)) →
    (b && is_some o) ≡ false →
    tried b o r next ≡ next
skipped false o r next h = refl
skipped true none r next h = refl
skipped true (some os) r next h = absurd (true≢false h)

module _ (test : Row → List Row → List Row → Bool) (by_sets : O.BySets test)
    (table : List Row) (m i : ℕ) (l : i < length table) where
  abbrev next : Option (List Row)
  next = scan the_order test by_sets table m (suc i)

  -- a row that does not go
  pub scan_no : S.goes test table m i ≡ false → scan the_order test by_sets table m i ≡ next
  scan_no h =
      let b = S.fits test table m i in
      let o = S.order_at test table (m - 2 ^ i) in
      elim (ℕ_discrete (m / 2 ^ i % 2) 1) [
        | no n ↦ scan_out the_order test by_sets table m i l (ne_eqb (m / 2 ^ i % 2) 1 n)
        | yes e ↦ scan_in the_order test by_sets table m i l e
            ∙ skipped b o (row_at table i) next
            (sym (ap (λ (a : Bool). a && (b && is_some o)) (eq-eqb (m / 2 ^ i % 2) 1 e)) ∙ h)
      ]

  -- a row that goes lowest, the rows before having been tried
  pub scan_yes :
      S.order_at test table m ≡ scan the_order test by_sets table m i →
      S.goes test table m i ≡ true →
      S.LowestIs test table m i
  scan_yes s h =
      let b = S.fits test table m i in
      let o = S.order_at test table (m - 2 ^ i) in
      let bit = eqb-true (m / 2 ^ i % 2) 1 (and_left (has_bit m i) (b && is_some o) h) in
      let w = and_right (has_bit m i) (b && is_some o) h in
      let a = some_of o (and_right b (is_some o) w) in
      record {
        in_table = l;
        in_set = bit;
        above = a.0;
        above_is = a.1;
        order_is =
            s
            ∙ scan_in the_order test by_sets table m i l bit
            ∙ tried_lowest (row_at table i) next b o a.0 (and_left b (is_some o) w) a.1;
      }
