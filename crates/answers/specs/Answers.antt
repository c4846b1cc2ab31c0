-- What a call leaves in the buffer for its answer: the number, the place and the length, where there is room for them.
use Rattle.std.specs.Prelude.{◌≡◌, List, ℕ, leb, length, set, Result, Ok, Err}
use Rattle.basics.specs.Basics.{pick}
use Rattle.plans.specs.declared.Refusal.{Refusal}
use Rattle.plans.specs.Outcomes.{number, place}

abbrev pub number_of : Result ℕ Refusal → ℕ
number_of (Ok long) = 0
number_of (Err refusal) = number refusal

abbrev pub place_of : Result ℕ Refusal → ℕ
place_of (Ok long) = 0
place_of (Err refusal) = place refusal

abbrev pub long_of : Result ℕ Refusal → ℕ
long_of (Ok long) = long
long_of (Err refusal) = 0

abbrev pub answered : Result ℕ Refusal → List ℕ → List ℕ
answered r answer =
    pick (leb 3 (length answer)) (set (set (set answer 0 (number_of r)) 1 (place_of r)) 2 (long_of r)) answer

-- the call's own promise holds of a result, and that result is the answer
pub record Answers (Says : Result ℕ Refusal → Type 0) (answer answer' : List ℕ) : Type 0 where
  pub result : Result ℕ Refusal
  pub says : Says result
  pub answer_is : answer' ≡ answered result answer
