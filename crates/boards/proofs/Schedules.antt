-- Any schedule: a tick that goes on in a stretch is within its hold; and schedules by the rules go alike, for each tick
-- is decided by those before it.
use mathlib.Core.Path.{◌≡◌, refl, sym, ap₂, ◌∙◌}
use mathlib.Core.Bool.{Bool, true, false, ◌&&◌}
use mathlib.Core.List.{List}
use mathlib.Core.Logic.{inl, inr}
use Prim.Native.Nat.{ℕ, zero, suc, ◌+◌, ◌≤◌, ◌<◌}
use native.Mathlib.Omega.{arith}
use native.Mathlib.Nat.{le_trans}
use lib.Dec.{leb, ltb}
use lib.ListN.{length}
use borrow.Author.Tests.{leb-true, le-leb, ltb-true, lt-ltb}
use Rattle.basics.specs.Basics.{pick, larger}
use Rattle.basics.proofs.Tests.{test_of, and_left, and_right}
use Rattle.basics.proofs.Numbers.{larger_left, larger_right}
use Rattle.rows.specs.Rows.{row_at}
use Rattle.rows.specs.Rows.{Row}
use Rattle.boards.specs.Runs.{ticks_of, Pending, goes_on_after, stretch, ByRank, ByRules}

both_true : (a b : Bool) → (a ≡ true → b ≡ true) → (b ≡ true → a ≡ true) → a ≡ b
both_true true b f g = sym (f refl)
both_true false true f g = g refl
both_true false false f g = refl

abbrev Schedule : Type 0
Schedule = ℕ → ℕ → ℕ → Bool

module _ (order : List Row) (offset : ℕ → ℕ) (need : ℕ → ℕ → ℕ) (keeps : ℕ → Bool) where
  -- ---- the test that a stretch goes on
  module _ (f : Schedule) where
    pub record GoesOnAfter (i k t n : ℕ) : Type 0 where
      pub kept : keeps t ≡ true
      pub begun : 1 ≤ n
      pub shorter : n < (row_at order i).hold
      pub unfinished : ticks_of order offset need keeps f i k t < need i k

    pub goes_on_of : (i k t n : ℕ) → goes_on_after order offset need keeps f i k t n ≡ true → GoesOnAfter i k t n
    goes_on_of i k t n e =
        let x = leb 1 n in
        let y = ltb n (row_at order i).hold in
        let z = ltb (ticks_of order offset need keeps f i k t) (need i k) in
        let e₁ = and_right (keeps t) (x && (y && z)) e in
        let e₂ = and_right x (y && z) e₁ in
        record {
          kept = and_left (keeps t) (x && (y && z)) e;
          begun = leb-true 1 n (and_left x (y && z) e₁);
          shorter = ltb-true n (row_at order i).hold (and_left y z e₂);
          unfinished = ltb-true (ticks_of order offset need keeps f i k t) (need i k) (and_right y z e₂);
        }

    pub of_goes_on : (i k t n : ℕ) → GoesOnAfter i k t n → goes_on_after order offset need keeps f i k t n ≡ true
    of_goes_on i k t n m =
        rw (m.kept, le-leb 1 n m.begun, lt-ltb n (row_at order i).hold m.shorter)
        (lt-ltb (ticks_of order offset need keeps f i k t) (need i k) m.unfinished)

    -- a stretch has at most its hold, or one tick
    pub held_most : (i k t : ℕ) → stretch order offset need keeps f i k t ≤ larger 1 (row_at order i).hold
    held_most i k zero = omega arith
    held_most i k (suc t) =
        let n = stretch order offset need keeps f i k t in
        let hold = (row_at order i).hold in
        elim (test_of (f i k t)) [
          | inl e ↦ elim (test_of (goes_on_after order offset need keeps f i k t n)) [
            | inl m ↦ rw (e, m) (le_trans (goes_on_of i k t n m).shorter (larger_right 1 hold))
            | inr m ↦ rw (e, m) (larger_left 1 hold)
          ]
          | inr e ↦ rw e (omega arith)
        ]

  -- ---- schedules that have gone alike before tick t
  record Alike (f g : Schedule) (t : ℕ) : Type 0 where
    ticks_same :
        (i k : ℕ) → i < length order
        → ticks_of order offset need keeps f i k t ≡ ticks_of order offset need keeps g i k t
    stretch_same :
        (i k : ℕ) → i < length order
        → stretch order offset need keeps f i k t ≡ stretch order offset need keeps g i k t

  turned : (f g : Schedule) (t : ℕ) → Alike f g t → Alike g f t
  turned f g t a =
      record { ticks_same = λ i k l. sym (a.ticks_same i k l); stretch_same = λ i k l. sym (a.stretch_same i k l) }

  abbrev goes_on_in : Schedule → ℕ → ℕ → ℕ → Bool
  goes_on_in f i k t = goes_on_after order offset need keeps f i k t (stretch order offset need keeps f i k t)

  on_alike : (f g : Schedule) (t : ℕ) → Alike f g t → (i k : ℕ) → i < length order → goes_on_in f i k t ≡ goes_on_in g i k t
  on_alike f g t a i k l =
      ap₂ (λ x n. keeps t && (leb 1 n && (ltb n (row_at order i).hold && ltb x (need i k))))
      (a.ticks_same i k l) (a.stretch_same i k l)

  pending_alike : (f g : Schedule) (t : ℕ) → Alike f g t → (i k : ℕ) → i < length order
      → Pending order offset need keeps f i k t → Pending order offset need keeps g i k t
  pending_alike f g t a i k l p = (p.0, omega (arith, p.1, a.ticks_same i k l))

  rank_alike : (f g : Schedule) (t : ℕ) → Alike f g t → (i k : ℕ) → i < length order
      → ByRank order offset need keeps f i k t → ByRank order offset need keeps g i k t
  rank_alike f g t a i k l p =
      let b = turned f g t a in
      record {
        pending = pending_alike f g t a i k l p.pending;
        none_above = λ j m h q. p.none_above j m h (pending_alike g f t b j m (omega (arith, h, l)) q);
        none_older = λ m h q. p.none_older m h (pending_alike g f t b i m l q);
      }

  abbrev Rules : Schedule → Type 0
  Rules f = ByRules order offset need keeps f

  goes_alike : (f g : Schedule) (t : ℕ) → Rules f → Rules g → Alike f g t
      → (i k : ℕ) → i < length order → f i k t ≡ true → g i k t ≡ true
  goes_alike f g t r s a i k l e = (s i k t l).1 (elim ((r i k t l).0 e) [
    | inl o ↦ inl (sym (on_alike f g t a i k l) ∙ o)
    | inr p ↦ inr (λ j m h o. p.0 j m h (on_alike f g t a j m h ∙ o), rank_alike f g t a i k l p.1)
  ])

  goes_same : (f g : Schedule) (t : ℕ) → Rules f → Rules g → Alike f g t
      → (i k : ℕ) → i < length order → f i k t ≡ g i k t
  goes_same f g t r s a i k l =
      both_true (f i k t) (g i k t) (goes_alike f g t r s a i k l) (goes_alike g f t s r (turned f g t a) i k l)

  alike : (f g : Schedule) → Rules f → Rules g → (t : ℕ) → Alike f g t
  alike f g r s zero = record { ticks_same = λ i k l. refl; stretch_same = λ i k l. refl }
  alike f g r s (suc t) =
      let a = alike f g r s t in
      record {
        ticks_same = λ i k l. ap₂ (λ n b. n + pick b 1 0) (a.ticks_same i k l) (goes_same f g t r s a i k l);
        stretch_same = λ i k l.
            let longer = ap₂ (λ b n. suc (pick b n 0)) (on_alike f g t a i k l) (a.stretch_same i k l) in
            ap₂ (λ b n. pick b n 0) (goes_same f g t r s a i k l) longer;
      }

  pub one_schedule : (f g : Schedule) → Rules f → Rules g → (i k t : ℕ) → i < length order → f i k t ≡ g i k t
  one_schedule f g r s i k t l = goes_same f g t r s (alike f g r s t) i k l
