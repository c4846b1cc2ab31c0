-- A promise between functions: what a program prints of a call's answer.
use Rattle.std.specs.Prelude.{List, ℕ, take, Result, Ok, Err}
use Rattle.plans.specs.declared.Refusal.{Refusal}
use Rattle.plans.specs.Outcomes.{number, place}
use Rattle.plans.specs.Plans.{refusal_text}

-- the plan that the call left in its buffer, as long as it says (all of a shorter buffer), or the lines of its refusal
abbrev pub to_print : Result ℕ Refusal → List ℕ → List ℕ
to_print (Ok long) buffer = take long buffer
to_print (Err refusal) buffer = refusal_text (number refusal) (place refusal)

-- the longest lines of a refusal
abbrev pub refusal_room : ℕ
refusal_room = 35
