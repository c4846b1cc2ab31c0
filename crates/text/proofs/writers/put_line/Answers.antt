-- `put_line` puts a key's line: the key, the number and the line feed are put one after another, each where the one
-- before it ends.
use Rattle.std.proofs.Common.{ℕ, ◌≤◌, List, [], ◌∷◌, length}
use Rattle.text.specs.Text.{bytes, key_line}
use Rattle.text.specs.Buffers.{Wrote}
use Rattle.text.proofs.Puts.{Going, begins, fits_first, first, fits_next, ◌▷◌, ends}
use Rattle.text.proofs.writers.put_line.Goals as goal

abbrev texts : List ℕ → List ℕ → List (List ℕ)
texts key value = key ∷ value ∷ bytes "\n" ∷ []

module _ {key value o : List ℕ} where
  start : length (key_line key value) ≤ length o → Going (texts key value) (texts key value) o 0 o
  unfolding key_line
  start room = begins (texts key value) o room

  whole : {o' : List ℕ} {n : ℕ} → Going (texts key value) [] o n o' → Wrote (key_line key value) o o' n
  unfolding key_line
  whole g = ends g

pub put_bytes-at-requires : goal.put_bytes-at-requires
put_bytes-at-requires g c = fits_first (start c.requires)

pub put-at-requires : goal.put-at-requires
put-at-requires g c = fits_next (first (start c.requires) c.put_bytes-at.ensures)

pub put_bytes-at-requires-2 : goal.put_bytes-at-requires-2
put_bytes-at-requires-2 g c = fits_next (first (start c.requires) c.put_bytes-at.ensures ▷ c.put-at.ensures)

pub returns : goal.returns
returns g c =
    whole (first (start c.requires) c.put_bytes-at.ensures ▷ c.put-at.ensures ▷ c.put_bytes-at-2.ensures)
