-- The six lines of a rank are put one after another.
use Rattle.std.proofs.Common.{ℕ, ◌≤◌, List, [], ◌∷◌, length, ◌≡◌, rules, to_z, of_z, w64}
use Rattle.text.specs.Text.{bytes, decimal, signed, key_line}
use Rattle.text.specs.Buffers.{Wrote}
use Rattle.plans.specs.declared.Entry.{Entry}
use Rattle.plans.specs.Plans.{rank_text}
use Rattle.text.proofs.Puts.{Going, begins, fits_first, first, fits_next, ◌▷◌, ends}
use Rattle.plan_lines.proofs.put_rank.Goals as goal

abbrev texts : ℕ → Entry → List (List ℕ)
texts rank e =
    key_line (bytes "rank=") (decimal rank)
    ∷ key_line (bytes "task=") (decimal e.task)
    ∷ key_line (bytes "best=") (decimal e.best)
    ∷ key_line (bytes "worst=") (decimal e.worst)
    ∷ key_line (bytes "jitter=") (decimal e.jitter)
    ∷ key_line (bytes "margin=") (signed e.margin)
    ∷ []

module _ (rank : ℕ) (e : Entry) {o : List ℕ} where
  start : length (rank_text rank e) ≤ length o → Going (texts rank e) (texts rank e) o 0 o
  unfolding rank_text
  start room = begins (texts rank e) o room

  whole : {o' : List ℕ} {n : ℕ} → Going (texts rank e) [] o n o' → Wrote (rank_text rank e) o o' n
  unfolding rank_text
  whole g = ends g

pub put_line-at-requires : goal.put_line-at-requires
put_line-at-requires c = fits_first (start _ _ c.requires)

pub put_line-at-requires-2 : goal.put_line-at-requires-2
put_line-at-requires-2 c = fits_next (first (start _ _ c.requires) c.put_line-at.ensures)

pub put_line-at-requires-3 : goal.put_line-at-requires-3
put_line-at-requires-3 c = fits_next (first (start _ _ c.requires) c.put_line-at.ensures ▷ c.put_line-at-2.ensures)

pub put_line-at-requires-4 : goal.put_line-at-requires-4
put_line-at-requires-4 c =
    fits_next (first (start _ _ c.requires) c.put_line-at.ensures ▷ c.put_line-at-2.ensures ▷ c.put_line-at-3.ensures)

pub put_line-at-requires-5 : goal.put_line-at-requires-5
put_line-at-requires-5 c =
    fits_next (first (start _ _ c.requires) c.put_line-at.ensures ▷ c.put_line-at-2.ensures ▷ c.put_line-at-3.ensures
    ▷ c.put_line-at-4.ensures)

-- the margin as the code holds it
pub put_line-at-requires-6 : goal.put_line-at-requires-6
put_line-at-requires-6 c =
    let seen : to_z w64 (of_z w64 c.args.e.margin) ≡ c.args.e.margin = search rules in
    rw seen
    (fits_next (first (start _ _ c.requires) c.put_line-at.ensures ▷ c.put_line-at-2.ensures ▷ c.put_line-at-3.ensures
    ▷ c.put_line-at-4.ensures ▷ c.put_line-at-5.ensures))

pub returns : goal.returns
returns c =
    let seen : to_z w64 (of_z w64 c.args.e.margin) ≡ c.args.e.margin = search rules in
    whole _ _
    (first (start _ _ c.requires) c.put_line-at.ensures ▷ c.put_line-at-2.ensures ▷ c.put_line-at-3.ensures
    ▷ c.put_line-at-4.ensures ▷ c.put_line-at-5.ensures ▷ rw seen at c.put_line-at-6.ensures)
