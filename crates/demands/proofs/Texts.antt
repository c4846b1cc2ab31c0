-- A text fails at one line with one condition, or tells one table: what is read. So a call's outcome has one of a text's
-- numbers exactly for that condition.
use mathlib.Core.Path.{◌≡◌, sym, ap, subst, ◌∙◌}
use mathlib.Core.Bool.{Bool, true, false}
use mathlib.Core.List.{List}
use mathlib.Core.Logic.{inl, inr, ◌↔◌}
use Prim.Native.Nat.{ℕ, suc}
use native.Mathlib.Omega.{arith}
use Rattle.basics.specs.Basics.{is_in}
use Rattle.basics.proofs.Tests.{true_not_false}
use Rattle.grammars.proofs.Decision.{refused_some}
use Rattle.rows.specs.Rows.{Row}
use Rattle.tables.specs.TableLines.{TableRead, table_of, turned_down, read_table}
use Rattle.tables.specs.Claims.{Tells, Fails}
use Rattle.tables.proofs.Readings.{read}
use Rattle.tables.proofs.Refusals.{refusals_of, refusal_listed}
use Rattle.plans.specs.Outcomes.{Outcome, refuses}
use Rattle.demands.specs.Calls.{on_table}
use Rattle.demands.proofs.Outcomes.{same_refusal, zero_or_more, on_accepted, on_refused, on_turned_down}

abbrev pub Accepts : Bool → List ℕ → Type 0
Accepts ranked text = (read_table ranked text).refused ≡ 0

module _ (ranked : Bool) (text : List ℕ) where
  abbrev answer : TableRead
  answer = read_table ranked text

  -- ---- what is read is what the text says
  pub failing : (n : ℕ) → answer.refused ≡ suc n → Fails ranked text (suc n) answer.line
  failing n e = (read ranked text).reason n e

  pub refused_listed : (n : ℕ) → answer.refused ≡ suc n → is_in (suc n) (refusals_of ranked) ≡ true
  refused_listed n e = refusal_listed ranked text (suc n) answer.line (failing n e)

  -- and so with no other number
  pub refused_else : (n m : ℕ) → answer.refused ≡ suc n → is_in m (refusals_of ranked) ≡ false → suc n ≡ m → ⊥
  refused_else n m e none same =
      true_not_false (is_in (suc n) (refusals_of ranked)) (refused_listed n e)
      (ap (λ x. is_in x (refusals_of ranked)) same ∙ none)

  pub telling : Accepts ranked text → Tells ranked text answer.board answer.rows answer.order
  telling a = (read ranked text).as_written a

  -- ---- and nothing else
  pub fails_only : (n k : ℕ) → Fails ranked text n k → answer ≡ turned_down n k
  fails_only n k f = (read ranked text).refuses n k f

  pub tells_only : (b : ℕ) (rows : List Row) (tasks : List ℕ) → Tells ranked text b rows tasks
      → answer ≡ table_of b rows tasks
  tells_only b rows tasks t = (read ranked text).accepts b rows tasks t

  -- ---- a call's refusal, where what an accepted text comes to has none of these numbers
  pub refused_exactly : (next : Outcome)
      → (Accepts ranked text → (n k : ℕ) → next ≡ refuses n k → is_in n (refusals_of ranked) ≡ false)
      → (n k : ℕ) → ((on_table answer next ≡ refuses n k) × (is_in n (refusals_of ranked) ≡ true)) ↔ Fails ranked text n k
  refused_exactly next other n k = (
    λ e. elim (zero_or_more answer.refused) [
      | inl a ↦
          absurd (true_not_false (is_in n (refusals_of ranked)) e.1 (other a n k (sym (on_accepted answer next a) ∙ e.0)))
      | inr r ↦ (
          let same = same_refusal (sym (on_refused answer next r.0 r.1) ∙ e.0) in
          subst (λ m. Fails ranked text m k) same.0
          (subst (Fails ranked text (suc r.0)) same.1 (failing r.0 r.1)))
    ],
    λ f. let some = refused_some f.condition in (
      ap (λ (a : TableRead). on_table a next) (fails_only n k f)
          ∙ on_turned_down (turned_down n k) next (λ z. omega (arith, z, some)),
      refusal_listed ranked text n k f,
    ),
  )
