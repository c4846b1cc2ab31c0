-- A text's refusal has a number of the list, and without rank lines of the shorter one: no stage of such a text expects
-- a rank.
use mathlib.Core.Path.{◌≡◌, refl, sym, ap, ◌∙◌}
use mathlib.Core.Bool.{Bool, true, false, ◌&&◌, ◌||◌, not}
use mathlib.Core.List.{List, [], ◌∷◌}
use Prim.Native.Nat.{ℕ, suc}
use native.Mathlib.Omega.{arith}
use lib.Dec.{leb, ltb}
use borrow.Author.Tests.{ne_eqb}
use lib.ListN.{length, get_or}
use Rattle.basics.specs.Basics.{pick, is_in}
use Rattle.basics.proofs.Tests.{true_not_false, in_front}
use Rattle.grammars.specs.Forms.{size}
use Rattle.grammars.proofs.Decision.{refused_as}
use Rattle.grammars.proofs.Invariants.{holds}
use Rattle.rows.specs.Rows.{Row, period_at, worst_at, first_point_at, full_cost, has_task}
use Rattle.tables.specs.TableLines.{RowLine, exceeding, repeated, impossible, disorderly, row_line_at}
use Rattle.tables.specs.TableLines.{Stage, at_board, at_tasks, at_switch, at_field, at_rank, at-end, fault, table}
use Rattle.tables.specs.Claims.{Fails, table_refusals, ranked_refusals}
use Rattle.tables.proofs.RowLines.{at_each, each_point}
use Rattle.tables.proofs.Soundness.{Known, sound}

-- ---- the refusals of numbers
-- none, or one of a list
abbrev pub Among : List ℕ → ℕ → Type 0
Among listed n = is_in n (0 ∷ listed) ≡ true

picked : (listed : List ℕ) (b : Bool) (m n : ℕ) → Among listed m → Among listed n → Among listed (pick b m n)
picked listed true m n h l = h
picked listed false m n h l = l

field_listed : (i s : ℕ) (rs : List Row) (vs : List ℕ) (v : ℕ) → Among table_refusals ((row_line_at i).fault s rs vs v)
field_listed =
    let F : RowLine → Type 0 = λ l.
    (s : ℕ) (rs : List Row) (vs : List ℕ) (v : ℕ) → Among table_refusals (l.fault s rs vs v) in
    let none : (s : ℕ) (rs : List Row) (vs : List ℕ) (v : ℕ) → Among table_refusals 0 = λ s rs vs v. refl in
    let past_worst : (s : ℕ) (rs : List Row) (vs : List ℕ) (v : ℕ)
    → Among table_refusals (pick (ltb (get_or vs worst_at 0) v) exceeding 0) =
    λ s rs vs v. picked table_refusals (ltb (get_or vs worst_at 0) v) exceeding 0 refl refl in
    at_each F none (
      λ s rs vs v. picked table_refusals (has_task v rs) repeated 0 refl refl,
      (
        none,
        (
          none,
          (
            λ s rs vs v. picked table_refusals (ltb (get_or vs period_at 0) (full_cost v s)) exceeding 0 refl refl,
            (
              past_worst,
              (
                none,
                (
                  none,
                  (
                    past_worst,
                    (
                      none,
                      (
                        none,
                        (
                          none,
                          each_point F
                              (λ at s rs vs v. picked table_refusals (ltb (get_or vs at 0) v) 0 disorderly refl refl)
                              (λ at s rs vs v. picked table_refusals (leb v (get_or vs (suc at) 0)) 0 disorderly refl refl)
                              first_point_at 7,
                        ),
                      ),
                    ),
                  ),
                ),
              ),
            ),
          ),
        ),
      ),
    )

-- a refusal without rank lines is one with them
ranked_too : (n : ℕ) → Among table_refusals n → Among ranked_refusals n
ranked_too n h = in_front n (0 ∷ table_refusals) (6 ∷ []) h

pub fault_listed : (s : Stage) (v : ℕ) → Among ranked_refusals (fault s v)
fault_listed at_board v = refl
fault_listed (at_tasks b) v = refl
fault_listed (at_switch n b) v = refl
fault_listed (at_field n b s rs vs) v = ranked_too ((row_line_at (length vs)).fault s rs vs v) (field_listed (length vs) s rs vs v)
fault_listed (at_rank n b rs os) v = picked ranked_refusals (has_task v rs && not (is_in v os)) 0 impossible refl refl
fault_listed (at-end b rs os) v = refl

fault_unranked : (s : Stage) (v : ℕ) → Known false s → Among table_refusals (fault s v)
fault_unranked at_board v h = refl
fault_unranked (at_tasks b) v h = refl
fault_unranked (at_switch n b) v h = refl
fault_unranked (at_field n b s rs vs) v h = field_listed (length vs) s rs vs v
fault_unranked (at_rank n b rs os) v h = absurd (true_not_false false h.asked refl)
fault_unranked (at-end b rs os) v h = refl

-- a refusal is not 0
pub one_of : (listed : List ℕ) (n m : ℕ) → n ≡ suc m → Among listed n → is_in (suc m) listed ≡ true
one_of listed n m e h =
    sym (ap (λ b. b || is_in (suc m) listed) (ne_eqb (suc m) 0 (λ z. omega (arith, z))))
    ∙ sym (ap (λ x. is_in x (0 ∷ listed)) e) ∙ h

-- ---- and so of every text
abbrev Listed : List ℕ → ℕ → Type 0
Listed listed n = is_in n listed ≡ true

pub number_listed : (ranked : Bool) (text : List ℕ) (n k : ℕ) → Fails ranked text n k → is_in n ranked_refusals ≡ true
number_listed ranked text n k why =
    refused_as (Listed ranked_refusals) refl refl refl
    (λ z m e. one_of ranked_refusals (fault why.state (size z)) m e (fault_listed why.state (size z)))
    why.condition

pub unranked_listed : (text : List ℕ) (n k : ℕ) → Fails false text n k → is_in n table_refusals ≡ true
unranked_listed text n k why =
    let known = holds (table false) at_board (Known false) (sound false) why.before in
    refused_as (Listed table_refusals) refl refl refl
    (λ z m e. one_of table_refusals (fault why.state (size z)) m e (fault_unranked why.state (size z) known))
    why.condition

-- those of a text, with its rank lines or without
abbrev pub refusals_of : Bool → List ℕ
refusals_of ranked = pick ranked ranked_refusals table_refusals

pub refusal_listed : (ranked : Bool) (text : List ℕ) (n k : ℕ) → Fails ranked text n k
    → is_in n (refusals_of ranked) ≡ true
refusal_listed true text n k why = number_listed true text n k why
refusal_listed false text n k why = unranked_listed text n k why
