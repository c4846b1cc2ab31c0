-- The lines before the ranks are put one after another.
use Rattle.std.proofs.Common.{ℕ, ◌≤◌, List, [], ◌∷◌, length}
use Rattle.text.specs.Text.{bytes, decimal, key_line}
use Rattle.text.specs.Buffers.{Wrote}
use Rattle.plans.specs.Plans.{head_text}
use Rattle.text.proofs.Puts.{Going, begins, fits_first, first, fits_next, ◌▷◌, ends}
use Rattle.plan_lines.proofs.put_head.Goals as goal

abbrev texts : ℕ → ℕ → List (List ℕ)
texts board count =
    key_line (bytes "plan=") (decimal 1)
    ∷ key_line (bytes "board=") (decimal board)
    ∷ key_line (bytes "tasks=") (decimal count)
    ∷ []

module _ (board count : ℕ) {o : List ℕ} where
  start : length (head_text board count) ≤ length o → Going (texts board count) (texts board count) o 0 o
  unfolding head_text
  start room = begins (texts board count) o room

  whole : {o' : List ℕ} {n : ℕ} → Going (texts board count) [] o n o' → Wrote (head_text board count) o o' n
  unfolding head_text
  whole g = ends g

pub put_line-at-requires : goal.put_line-at-requires
put_line-at-requires c = fits_first (start _ _ c.requires)

pub put_line-at-requires-2 : goal.put_line-at-requires-2
put_line-at-requires-2 c = fits_next (first (start _ _ c.requires) c.put_line-at.ensures)

pub put_line-at-requires-3 : goal.put_line-at-requires-3
put_line-at-requires-3 c = fits_next (first (start _ _ c.requires) c.put_line-at.ensures ▷ c.put_line-at-2.ensures)

pub returns : goal.returns
returns c =
    whole _ _
    (first (start _ _ c.requires) c.put_line-at.ensures ▷ c.put_line-at-2.ensures ▷ c.put_line-at-3.ensures)
