-- The pieces taken one by one, and their answers put one after another.
use mathlib.Core.Path.{◌≡◌, sym, ap, ap₂, subst, ◌∙◌}
use mathlib.Core.List.{List, [], ◌∷◌, ◌++◌}
use Prim.Native.Nat.{ℕ, suc, ◌+◌, ◌-◌, ◌≤◌, ◌<◌}
use native.Mathlib.Omega.{arith}
use lib.ListN.{length, get_or, take, drop, length-append, length-drop, drop_of_length-le}
use lib.Seq.{drop-cons, drop-drop, take-append_seam, drop-append_seam}
use borrow.Author.Tests.{le-leb}
use Rattle.text.specs.Text.{joined}
use Rattle.text.specs.Buffers.{Wrote}
use Rattle.text.proofs.Puts.{lent, restored, Going, begins, fits_next, ◌▷◌, ends}
use Rattle.demands.specs.Calls.{planner_prints}
use Rattle.crane_demands.specs.Pieces.{board_key, pieces, max_pieces}
use Rattle.crane_demands.specs.Calls.{answers, crane_text, crane_room, craned}
use Rattle.crane_demands.proofs.Pieces.{joins}
use Rattle.crane_demands.proofs.Answers.{answers_short}
use Rattle.plans.specs.Outcomes.{fitted}
use Rattle.cranes.specs.inside.Ends.{ends_from, AreEnds}
use Rattle.cranes.proofs.Ends.{ends_length}

-- i pieces are passed: the next begins at `from`, and the answers of the pieces passed stand before `at`
pub record Printing (text ends out₀ out : List ℕ) (at from i : ℕ) : Type 0 where
  pub from_in : from ≤ length text
  pub text_left : drop from text ≡ joined (drop i (pieces text))
  pub ends_left : drop i ends ≡ ends_from from (drop i (pieces text))
  pub going : Going (answers (pieces text)) (answers (drop i (pieces text))) out₀ at out

pub print_first : (text ends out : List ℕ) → AreEnds text ends → crane_room ≤ length out
    → Printing text ends out out 0 0 0
print_first text ends out e room = record {
  from_in = omega arith;
  text_left = sym (joins board_key text);
  ends_left = e.ends_are;
  going = begins (answers (pieces text)) out (omega (arith, answers_short (pieces text), e.few));
}

pub as_many : {text ends : List ℕ} → AreEnds text ends → length ends ≡ length (pieces text)
as_many {text} e = ap length e.ends_are ∙ ends_length 0 (pieces text)

module _ {text ends out₀ out : List ℕ} {at from i : ℕ} (p : Printing text ends out₀ out at from i)
    (e : AreEnds text ends) (h : i < length ends) where
  abbrev piece : List ℕ
  piece = get_or (pieces text) i []

  abbrev rest : List (List ℕ)
  rest = drop (suc i) (pieces text)

  next_is : drop i (pieces text) ≡ piece ∷ rest
  next_is = drop-cons (pieces text) i [] (omega (arith, as_many e))

  text_is : drop from text ≡ piece ++ joined rest
  text_is = p.text_left ∙ ap joined next_is

  ends_is : (get_or ends i 0 ∷ drop (suc i) ends) ≡ ((from + length piece) ∷ ends_from (from + length piece) rest)
  ends_is = sym (drop-cons ends i 0 h) ∙ p.ends_left ∙ ap (ends_from from) next_is

  pub to_is : get_or ends i 0 ≡ from + length piece
  to_is = let e = ends_is in cc

  rest_ends : drop (suc i) ends ≡ ends_from (from + length piece) rest
  rest_ends = let e = ends_is in cc

  pub to_in : get_or ends i 0 ≤ length text
  to_in =
      omega (arith, to_is, ap length text_is, length-drop from text, length-append piece (joined rest), p.from_in)

  pub part_is : take (get_or ends i 0 - from) (drop from text) ≡ piece
  part_is =
      let long : get_or ends i 0 - from ≡ length piece = omega (arith, to_is) in
      ap₂ take long text_is ∙ take-append_seam piece (joined rest)

  going_next : Going (answers (pieces text)) (planner_prints piece ∷ answers rest) out₀ at out
  going_next = subst (λ ps. Going (answers (pieces text)) (answers ps) out₀ at out) next_is p.going

  pub answer_fits : length (planner_prints piece) ≤ length (lent at out)
  answer_fits = fits_next going_next

  pub print_next : {part : List ℕ} {k : ℕ} → Wrote (planner_prints piece) (lent at out) part k
      → Printing text ends out₀ (restored at out part) (at + k) (get_or ends i 0) (suc i)
  print_next w = record {
    from_in = to_in;
    text_left =
        ap (λ k. drop k text) to_is
        ∙ sym (drop-drop (length piece) from text)
        ∙ ap (drop (length piece)) text_is
        ∙ drop-append_seam piece (joined rest);
    ends_left = rest_ends ∙ ap (λ k. ends_from k rest) (sym to_is);
    going = going_next ▷ w;
  }

pub print_ends : {text ends out₀ out : List ℕ} {at from i : ℕ} → Printing text ends out₀ out at from i
    → AreEnds text ends → length ends ≤ i → Wrote (crane_text text) out₀ out at
unfolding crane_text
print_ends {text} {out₀ = out₀} {out = out} {at = at} {i = i} p e h =
    let none : drop i (pieces text) ≡ [] = drop_of_length-le (pieces text) {i = i} (omega (arith, as_many e)) in
    ends (subst (λ ps. Going (answers (pieces text)) (answers ps) out₀ at out) none p.going)

-- what fits comes of no more than the most pieces
pub fitted_is : (text : List ℕ) (room : ℕ) → length (pieces text) ≤ max_pieces
    → fitted room (crane_text text) ≡ craned text room
unfolding craned
fitted_is text room few = rw (le-leb (length (pieces text)) max_pieces few, craned)
