-- The crane's demands, for every text and every room: its pieces are the one cut, the planner's outcomes are the only
-- ones of their single calls, and so the outcome is decided by how many pieces there are and how long the output is.
use mathlib.Core.Path.{◌≡◌, refl, sym, ap, ap₂, subst, ◌∙◌}
use mathlib.Core.Bool.{true}
use mathlib.Core.List.{List, [], ◌∷◌, ◌++◌}
use mathlib.Core.Logic.{inl, inr, ◌↔◌}
use Prim.Native.Nat.{ℕ, ◌≤◌, ◌<◌}
use native.Mathlib.Omega.{arith}
use lib.ListN.{length}
use borrow.Author.Tests.{le-leb, lt-leb}
use Rattle.basics.specs.Basics.{pick, is_in}
use Rattle.basics.proofs.Tests.{le-or-lt}
use Rattle.text.specs.Text.{joined}
use Rattle.plans.specs.Plans.{refusal_text, plan_room}
use Rattle.plans.specs.Outcomes.{Outcome, writes, refuses, fitted, printed}
use Rattle.plans.proofs.Outcomes.{fits, fits_not}
use Rattle.demands.specs.Calls.{planner_prints}
use Rattle.demands.proofs.Outcomes.{same_refusal, not_both}
use Rattle.demands.proofs.Planner as Planner
use Rattle.crane_demands.specs.Pieces.{CutOf, board_key, pieces, max_pieces}
use Rattle.crane_demands.specs.Calls.{answers, crane_text, craned, crane_room, crane_prints}
use Rattle.crane_demands.specs.Demands.{Singles, none, next, printed_all, planned_all, CraneOf, crane_refusals}
use Rattle.crane_demands.specs.Demands.{CraneDemands}
use Rattle.crane_demands.proofs.Pieces as P
use Rattle.crane_demands.proofs.Answers.{answers_short}
use Rattle.crane_demands.proofs.Outputs.{composes}

-- ---- single calls
singles : (ps : List (List ℕ)) → Singles ps (planned_all ps)
singles [] = none
singles (p ∷ ps) = next (Planner.plan_demands p plan_room) (singles ps)

only_singles : {ps : List (List ℕ)} {ws : List Outcome} → Singles ps ws → ws ≡ planned_all ps
only_singles none = refl
only_singles (next {p = p} {w = w} d s) = ap₂ (λ v vs. v ∷ vs) (Planner.decided p plan_room w d) (only_singles s)

all_printed : (ps : List (List ℕ)) → printed_all (planned_all ps) ≡ joined (answers ps)
all_printed [] = refl
all_printed (p ∷ ps) = ap (λ t. planner_prints p ++ t) (all_printed ps)

-- ---- the whole call
module _ (text : List ℕ) where
  pub text_short : length (pieces text) ≤ max_pieces → length (crane_text text) ≤ crane_room
  unfolding crane_text
  text_short h = omega (arith, answers_short (pieces text))

  module _ (room : ℕ) where
    pub ten_is : max_pieces < length (pieces text) → craned text room ≡ refuses 10 0
    unfolding craned
    ten_is h =
        ap (λ b. pick b (fitted room (crane_text text)) (refuses 10 0)) (lt-leb (length (pieces text)) max_pieces h)

    few_is : length (pieces text) ≤ max_pieces → craned text room ≡ fitted room (crane_text text)
    unfolding craned
    few_is h =
        ap (λ b. pick b (fitted room (crane_text text)) (refuses 10 0)) (le-leb (length (pieces text)) max_pieces h)

    pub nine_is : length (pieces text) ≤ max_pieces → room < length (crane_text text) → craned text room ≡ refuses 9 0
    nine_is h r = few_is h ∙ fits_not room (crane_text text) r

    pub written_is : length (pieces text) ≤ max_pieces → length (crane_text text) ≤ room
        → craned text room ≡ writes (crane_text text)
    written_is h r = few_is h ∙ fits room (crane_text text) r

  -- ---- the program
  prints_few : length (pieces text) ≤ max_pieces → crane_prints text ≡ crane_text text
  prints_few h = ap printed (written_is crane_room h (text_short h))

  prints_many : max_pieces < length (pieces text) → crane_prints text ≡ refusal_text 10 0
  prints_many h = ap printed (ten_is crane_room h)

  -- ---- how the outcome comes about
  module _ (room : ℕ) where
    data Cases : Type 0 where
      many : max_pieces < length (pieces text) → craned text room ≡ refuses 10 0 → Cases
      short : length (pieces text) ≤ max_pieces → room < length (crane_text text) → craned text room ≡ refuses 9 0 → Cases
      written : length (pieces text) ≤ max_pieces → length (crane_text text) ≤ room
          → craned text room ≡ writes (crane_text text) → Cases

    cases : Cases
    cases = elim (le-or-lt (length (pieces text)) max_pieces) [
      | inl h ↦
          elim (le-or-lt (length (crane_text text)) room) [
            | inl r ↦ written h r (written_is room h r)
            | inr r ↦ short h r (nine_is room h r)
          ]
      | inr h ↦ many h (ten_is room h)
    ]

    listed : Cases → (n p : ℕ) → craned text room ≡ refuses n p → (is_in n crane_refusals ≡ true) × (p ≡ 0)
    listed (many h is) n p e =
        let same = same_refusal (sym is ∙ e) in
        (subst (λ k. is_in k crane_refusals ≡ true) same.0 refl, sym same.1)
    listed (short h r is) n p e =
        let same = same_refusal (sym is ∙ e) in
        (subst (λ k. is_in k crane_refusals ≡ true) same.0 refl, sym same.1)
    listed (written h r is) n p e = absurd (not_both (sym is ∙ e))

    -- ---- of the pieces and the planner's outcomes, and so of any cut and any outcomes that meet the demands
    abbrev output : List ℕ
    output = printed_all (planned_all (pieces text))

    output_is : crane_text text ≡ output
    unfolding crane_text
    output_is = sym (all_printed (pieces text))

    not_nine : {p q : ℕ} → refuses 10 p ≡ refuses 9 q → ⊥
    not_nine e = omega (arith, (same_refusal e).0)

    ten : Cases → craned text room ≡ refuses 10 0 → max_pieces < length (pieces text)
    ten (many h is) e = h
    ten (short h r is) e = absurd (not_nine (sym e ∙ is))
    ten (written h r is) e = absurd (not_both (sym is ∙ e))

    nine : Cases → craned text room ≡ refuses 9 0 → (length (pieces text) ≤ max_pieces) × (room < length (crane_text text))
    nine (many h is) e = absurd (not_nine (sym is ∙ e))
    nine (short h r is) e = (h, r)
    nine (written h r is) e = absurd (not_both (sym is ∙ e))

    wrote : Cases → craned text room ≡ writes (crane_text text)
        → (length (pieces text) ≤ max_pieces) × (length (crane_text text) ≤ room)
    wrote (many h is) e = absurd (not_both (sym e ∙ is))
    wrote (short h r is) e = absurd (not_both (sym e ∙ is))
    wrote (written h r is) e = (h, r)

    crane_of : CraneOf room (pieces text) (planned_all (pieces text)) (craned text room)
    crane_of = record {
      ten = (ten cases, ten_is room);
      nine = subst (λ t. (craned text room ≡ refuses 9 0) ↔ ((length (pieces text) ≤ max_pieces) × (room < length t)))
          output_is (nine cases, λ h. nine_is room h.0 h.1);
      written =
          subst (λ t. (craned text room ≡ writes t) ↔ ((length (pieces text) ≤ max_pieces) × (length t ≤ room)))
          output_is (wrote cases, λ h. written_is room h.0 h.1);
    }

    only_cut : (ps : List (List ℕ)) → CutOf board_key text ps → ps ≡ pieces text
    only_cut = P.only_cut board_key refl refl text

    outcome : (ps : List (List ℕ)) (ws : List Outcome) → CutOf board_key text ps → Singles ps ws
        → CraneOf room ps ws (craned text room)
    outcome ps ws c s =
        let same = only_cut ps c in
        let all = only_singles s ∙ ap planned_all same in
        rw (same, all) crane_of

    has_room : crane_room ≤ room → (p : ℕ) → craned text room ≡ refuses 9 p → ⊥
    has_room h p e =
        let n = nine cases (e ∙ ap (refuses 9) (listed cases 9 p e).1) in
        omega (arith, n.1, text_short n.0)

    pub crane_demands : CraneDemands text room (craned text room)
    crane_demands = record {
      is_cut = P.is_cut board_key refl refl text;
      only_cut = only_cut;
      singles = singles (pieces text);
      only_singles = λ ws s. only_singles s;
      listed = listed cases;
      outcome = outcome;
      room_short = omega arith;
      has_room = has_room;
      prints_few = prints_few;
      prints_many = prints_many;
      composes = composes;
    }

    -- ---- the demands decide: the outcome that meets them is the call's
    module _ (w : Outcome) (d : CraneDemands text room w) where
      told : CraneOf room (pieces text) (planned_all (pieces text)) w
      told = d.outcome (pieces text) (planned_all (pieces text)) d.is_cut d.singles

      only : Cases → w ≡ craned text room
      only (many h is) = told.ten.1 h ∙ sym is
      only (short h r is) = told.nine.1 (h, rw output_is at r) ∙ sym is
      only (written h r is) = told.written.1 (h, rw output_is at r) ∙ ap writes (sym output_is) ∙ sym is

      pub decided : w ≡ craned text room
      decided = only cases
