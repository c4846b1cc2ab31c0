-- The three lines of a refusal are put one after another.
use Rattle.std.proofs.Common.{◌≡◌, ℕ, ◌^◌, ◌<◌, ◌≤◌, ◌⊎◌, inl, inr, List, [], ◌∷◌, length, arith}
use Rattle.text.specs.Text.{bytes, decimal, key_line}
use Rattle.text.specs.Buffers.{Wrote}
use Rattle.plans.specs.Plans.{refusal_text}
use Rattle.plans.specs.inside.Prints.{refusal_room}
use Rattle.plans.proofs.Lengths.{refusal_length}
use Rattle.text.proofs.Puts.{Going, begins, fits_first, first, fits_next, ◌▷◌, ends}
use Rattle.plan_lines.proofs.put_refusal.Goals as goal

abbrev texts : ℕ → ℕ → List (List ℕ)
texts number place =
    key_line (bytes "plan=") (decimal 0)
    ∷ key_line (bytes "refusal=") (decimal number)
    ∷ key_line (bytes "line=") (decimal place)
    ∷ []

-- room for the lines of this refusal, or for those of every refusal
abbrev Room : ℕ → ℕ → List ℕ → Type 0
Room number place o = (length (refusal_text number place) ≤ length o) ⊎ (refusal_room ≤ length o)

-- the number and the place as the code holds them
module _ {number place n p : ℕ} {o : List ℕ} (number_is : number ≡ n) (place_is : place ≡ p) where
  start : number < 10 ^ 3 → place < 10 ^ 10 → Room n p o → Going (texts number place) (texts number place) o 0 o
  unfolding refusal_text
  start small low room =
      let room' : Room number place o = rw (number_is, place_is) room in
      begins (texts number place) o (elim room' [
        | inl h ↦ h
        | inr h ↦ omega (arith, h, refusal_length number place small low)
      ])

  whole : {o' : List ℕ} {k : ℕ} → Going (texts number place) [] o k o' → Wrote (refusal_text n p) o o' k
  unfolding refusal_text
  whole g = rw (← number_is, ← place_is) (ends g)

pub put_line-at-requires : goal.put_line-at-requires
put_line-at-requires c =
    fits_first (start c.number-number.ensures c.place-place.ensures (omega arith) (omega arith) c.requires)

pub put_line-at-requires-2 : goal.put_line-at-requires-2
put_line-at-requires-2 c =
    let g = start c.number-number.ensures c.place-place.ensures (omega arith) (omega arith) c.requires in
    fits_next (first g c.put_line-at.ensures)

pub put_line-at-requires-3 : goal.put_line-at-requires-3
put_line-at-requires-3 c =
    let g = start c.number-number.ensures c.place-place.ensures (omega arith) (omega arith) c.requires in
    fits_next (first g c.put_line-at.ensures ▷ c.put_line-at-2.ensures)

pub returns : goal.returns
returns c =
    let g = start c.number-number.ensures c.place-place.ensures (omega arith) (omega arith) c.requires in
    whole c.number-number.ensures c.place-place.ensures
    (first g c.put_line-at.ensures ▷ c.put_line-at-2.ensures ▷ c.put_line-at-3.ensures)
