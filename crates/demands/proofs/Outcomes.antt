-- A call's outcome is the text's refusal, or what its table comes to; outcomes differ by what they hold; a plan is
-- written, or is longer than the room.
use mathlib.Core.Path.{◌≡◌, refl, sym, ap, ◌∙◌}
use mathlib.Core.Bool.{true, false}
use mathlib.Core.List.{List}
use mathlib.Core.Logic.{◌⊎◌, inl, inr, ◌↔◌}
use Prim.Native.Nat.{ℕ, zero, suc, ◌≤◌, ◌<◌}
use native.Mathlib.Omega.{arith}
use lib.ListN.{length}
use Rattle.basics.specs.Basics.{is_in}
use Rattle.basics.proofs.Tests.{true_not_false, le-or-lt}
use Rattle.tables.specs.TableLines.{TableRead}
use Rattle.plans.specs.Outcomes.{Outcome, writes, refuses, fitted}
use Rattle.plans.proofs.Outcomes.{fits, fits_not, Numbered}
use Rattle.demands.specs.Calls.{on_table}

-- ---- outcomes differ by what they hold
pub same_refusal : {n m p q : ℕ} → refuses n p ≡ refuses m q → (n ≡ m) × (p ≡ q)
same_refusal e = (cc, cc)

pub not_both : {t : List ℕ} {n p : ℕ} → writes t ≡ refuses n p → ⊥
not_both e = let z : ◌≡◌ {A = ℕ} 0 1 = cc in omega arith

-- ---- a text's refusal, or its table
pub zero_or_more : (n : ℕ) → (n ≡ 0) ⊎ ((m : ℕ) × (n ≡ suc m))
zero_or_more zero = inl refl
zero_or_more (suc m) = inr (m, refl)

pub on_accepted : (a : TableRead) (next : Outcome) → a.refused ≡ 0 → on_table a next ≡ next
unfolding on_table
on_accepted a next e = rw (e, on_table)

pub on_refused :
    (a : TableRead) (next : Outcome) (n : ℕ) →
    a.refused ≡ suc n →
    on_table a next ≡ refuses (suc n) a.line
unfolding on_table
on_refused a next n e =
    let step : ℕ → Outcome = λ m. elim m [ zero ↦ next | suc n ↦ refuses (suc n) a.line ] in
    ap step e

pub on_turned_down : (a : TableRead) (next : Outcome) → (a.refused ≡ 0 → ⊥)
    → on_table a next ≡ refuses a.refused a.line
on_turned_down a next h = elim (zero_or_more a.refused) [
  | inl e ↦ absurd (h e)
  | inr e ↦ on_refused a next e.0 e.1 ∙ ap (λ (n : ℕ). refuses n a.line) (sym e.1)
]

-- ---- a plan in a room
module _ (room : ℕ) (plan : List ℕ) (w : Outcome) (is : w ≡ fitted room plan) where
  pub nine_is : (w ≡ refuses 9 0) ↔ (room < length plan)
  nine_is = (
    λ e. elim (le-or-lt (length plan) room) [
      | inl h ↦ absurd (not_both (sym (is ∙ fits room plan h) ∙ e))
      | inr h ↦ h
    ],
    λ h. is ∙ fits_not room plan h,
  )

  pub written_is : (w ≡ writes plan) ↔ (length plan ≤ room)
  written_is = (
    λ e. elim (le-or-lt (length plan) room) [
      | inl h ↦ h
      | inr h ↦ absurd (not_both (sym e ∙ (is ∙ fits_not room plan h)))
    ],
    λ h. is ∙ fits room plan h,
  )

-- ---- numbers that are listed
-- a refusal whose number is listed is not numbered 0
pub numbered : (w : Outcome) (ns : List ℕ) → is_in 0 ns ≡ false
    → ((n p : ℕ) → w ≡ refuses n p → is_in n ns ≡ true) → Numbered w
numbered w ns h listed p e = true_not_false _ (listed 0 p e) h
