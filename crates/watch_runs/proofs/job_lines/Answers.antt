-- `job_lines` puts its three lines one after another.
use mathlib.Core.List.{List, [], ◌∷◌}
use Prim.Native.Nat.{ℕ, ◌≤◌}
use lib.ListN.{length}
use Rattle.text.specs.Text.{bytes, decimal, key_line}
use Rattle.text.specs.Buffers.{Wrote}
use Rattle.text.proofs.Puts.{Going, begins, fits_first, first, fits_next, ◌▷◌, ends}
use Rattle.watch_demands.specs.Runs.{job_text}
use Rattle.watch_runs.proofs.job_lines.Goals as goal

abbrev texts : ℕ → ℕ → ℕ → List (List ℕ)
texts task release finish =
    key_line (bytes "task=") (decimal task)
    ∷ key_line (bytes "release=") (decimal release)
    ∷ key_line (bytes "finish=") (decimal finish)
    ∷ []

module _ (task release finish : ℕ) {o : List ℕ} where
  start : length (job_text task release finish) ≤ length o
      → Going (texts task release finish) (texts task release finish) o 0 o
  unfolding job_text
  start room = begins (texts task release finish) o room

  whole : {o' : List ℕ} {n : ℕ} → Going (texts task release finish) [] o n o'
      → Wrote (job_text task release finish) o o' n
  unfolding job_text
  whole g = ends g

pub put_line-at-requires : goal.put_line-at-requires
put_line-at-requires c = fits_first (start _ _ _ c.requires)

pub put_line-at-requires-2 : goal.put_line-at-requires-2
put_line-at-requires-2 c = fits_next (first (start _ _ _ c.requires) c.put_line-at.ensures)

pub put_line-at-requires-3 : goal.put_line-at-requires-3
put_line-at-requires-3 c =
    fits_next (first (start _ _ _ c.requires) c.put_line-at.ensures ▷ c.put_line-at-2.ensures)

pub returns : goal.returns
returns c =
    whole _ _ _
    (first (start _ _ _ c.requires) c.put_line-at.ensures ▷ c.put_line-at-2.ensures ▷ c.put_line-at-3.ensures)
