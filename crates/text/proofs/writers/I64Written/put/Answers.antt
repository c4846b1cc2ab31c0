-- A signed number: from 0 on its size alone; below 0 the sign and then the size, one after the other.
use Rattle.std.proofs.Common.{◌≡◌, ℕ, ℤ, pos, nat_abs, true, false, ◌≤◌, List, [], ◌∷◌, length, sym, ap, ◌∙◌, to_z-of_z}
use lib.Signed.{le_z}
use Rattle.text.specs.Text.{bytes, decimal, signed}
use Rattle.text.specs.Buffers.{Wrote}
use Rattle.text.proofs.Puts.{Going, begins, fits_first, first, fits_next, ◌▷◌, ends}
use Rattle.text.proofs.Spelling.{below_0, from_0}
use Rattle.text.proofs.writers.I64Written.put.Goals as goal

abbrev texts : ℕ → List (List ℕ)
texts size = bytes "-" ∷ decimal size ∷ []

-- y is z as code holds it
module _ {y z : ℤ} (same : y ≡ z) {size : ℕ} (is : size ≡ nat_abs y) where
  alone : le_z (pos 0) y ≡ true → signed z ≡ decimal size
  alone high = ap signed (sym same) ∙ from_0 y high ∙ ap decimal (sym is)

  module _ {o : List ℕ} where
    start : length (signed z) ≤ length o → le_z (pos 0) y ≡ false → Going (texts size) (texts size) o 0 o
    start room low = begins (texts size) o (rw (← same, below_0 y low, ← is) at room)

    whole : {o' : List ℕ} {n : ℕ} → le_z (pos 0) y ≡ false → Going (texts size) [] o n o' → Wrote (signed z) o o' n
    whole low g = rw (← same, below_0 y low, ← is) (ends g)

pub put-requires : goal.put-requires
put-requires c =
    rw (alone (to_z-of_z c.ranges.self) c.unsigned_abs-size.ensures.value c.if-self-ge0.true) at c.requires

pub returns-then-self-ge0 : goal.returns-then-self-ge0
returns-then-self-ge0 c =
    rw (alone (to_z-of_z c.ranges.self) c.unsigned_abs-size.ensures.value c.if-self-ge0.true) c.put.ensures

pub put_bytes-at-requires : goal.put_bytes-at-requires
put_bytes-at-requires c =
    fits_first (start (to_z-of_z c.ranges.self) c.unsigned_abs-size.ensures.value c.requires c.if-self-ge0.false)

pub put-at-requires : goal.put-at-requires
put-at-requires c =
    let g = start (to_z-of_z c.ranges.self) c.unsigned_abs-size.ensures.value c.requires c.if-self-ge0.false in
    fits_next (first g c.put_bytes-at.ensures)

pub returns : goal.returns
returns c =
    let same = to_z-of_z c.ranges.self in
    let size = c.unsigned_abs-size.ensures.value in
    let low = c.if-self-ge0.false in
    whole same size low (first (start same size c.requires low) c.put_bytes-at.ensures ▷ c.put-at.ensures)
