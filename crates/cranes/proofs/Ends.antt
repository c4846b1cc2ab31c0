-- Where pieces end: the first piece is the front of its text, and the others are the pieces of what is left.
use mathlib.Core.Path.{◌≡◌, refl, sym, ap, ◌∙◌}
use Rattle.std.proofs.Common.{Option, Some, None, MatchOption}
use mathlib.Core.Bool.{Bool, true, false}
use mathlib.Core.List.{List, [], ◌∷◌, ◌++◌, append-nil}
use mathlib.Core.Logic.{inl, inr}
use Prim.Native.Nat.{ℕ, zero, suc, ◌+◌, ◌-◌, ◌≤◌, ◌<◌}
use native.Mathlib.Omega.{arith}
use lib.Dec.{eqb}
use lib.ListN.{length, get_or, set, take, drop, length-append, length-drop, length-set, drop_of_length-le}
use lib.Seq.{length-take-le, drop-cons, drop-drop, append_snoc, take-suc-set}
use Rattle.basics.specs.Basics.{pick}
use Rattle.basics.proofs.Tests.{test_of, true_not_false, and_right}
use Rattle.text.specs.Text.{line_feed}
use Rattle.text.specs.Lines.{begins}
use Rattle.crane_demands.specs.Pieces.{cut_after, before, board_key, pieces, max_pieces}
use Rattle.crane_demands.proofs.Pieces.{some_pieces}
use Rattle.cranes.specs.inside.Ends.{first_long, ends_from, Cuts}

-- ---- the first piece
-- the pieces of what follows it: none where nothing is left
abbrev left : List ℕ → List (List ℕ)
left [] = []
left (b ∷ s) = pieces (b ∷ s)

-- what follows a cut is not empty
left_cut : (b : ℕ) (s : List ℕ) → cut_after board_key b s ≡ true → left s ≡ pieces s
left_cut b [] e = absurd (true_not_false false (and_right (eqb b line_feed) (begins board_key []) e) refl)
left_cut b (c ∷ s) e = refl

pub left_some : (s : List ℕ) → 0 < length s → left s ≡ pieces s
left_some [] h = absurd (omega arith)
left_some (b ∷ s) h = refl

split : (s : List ℕ) → pieces s ≡ take (first_long s) s ∷ left (drop (first_long s) s)
split [] = refl
split (b ∷ s) =
    let ih = split s in
    elim (test_of (cut_after board_key b s)) [
      | inl e ↦ rw e (ap (λ l. (b ∷ []) ∷ l) (sym (left_cut b s e)))
      | inr e ↦ rw e (ap (before false b) ih)
    ]

pub first_fits : (s : List ℕ) → first_long s ≤ length s
first_fits [] = omega arith
first_fits (b ∷ s) =
    let ih = first_fits s in
    elim (test_of (cut_after board_key b s)) [ inl e ↦ rw e (omega arith) | inr e ↦ rw e (omega (arith, ih)) ]

pub first_some : (s : List ℕ) → 0 < length s → 0 < first_long s
first_some [] h = absurd (omega arith)
first_some (b ∷ s) h = elim (test_of (cut_after board_key b s)) [ inl e ↦ rw e (omega arith) | inr e ↦ rw e (omega arith) ]

-- ---- byte by byte
module _ (text : List ℕ) (i : ℕ) (h : i < length text) where
  pub first_cut : cut_after board_key (get_or text i 0) (drop (suc i) text) ≡ true → first_long (drop i text) ≡ 1
  first_cut e =
      ap first_long (drop-cons text i 0 h)
      ∙ ap (λ c. pick c 1 (suc (first_long (drop (suc i) text)))) e

  pub first_on : cut_after board_key (get_or text i 0) (drop (suc i) text) ≡ false
      → first_long (drop i text) ≡ suc (first_long (drop (suc i) text))
  first_on e =
      ap first_long (drop-cons text i 0 h)
      ∙ ap (λ c. pick c 1 (suc (first_long (drop (suc i) text)))) e

-- whether the text is cut after the byte at i
abbrev pub CutAt : List ℕ → Bool → ℕ → Type 0
CutAt text cut i = cut_after board_key (get_or text i 0) (drop (suc i) text) ≡ cut

-- n bytes after which it isn't cut are of the first piece
first_past : (text : List ℕ) (from n : ℕ) → from + n ≤ length text
    → ((i : ℕ) → from ≤ i → i < from + n → CutAt text false i)
    → first_long (drop from text) ≡ n + first_long (drop (from + n) text)
first_past text from zero l none =
    let at : from ≡ from + 0 = omega arith in
    omega (arith, ap (λ k. first_long (drop k text)) at)
first_past text from (suc n) l none =
    let on = first_on text from (omega arith) (none from (omega arith) (omega arith)) in
    let past = first_past text (suc from) n (omega arith) (λ i a b. none i (omega arith) (omega arith)) in
    let at : suc from + n ≡ from + suc n = omega arith in
    omega (arith, on, past, ap (λ k. first_long (drop k text)) at)

-- it ends after the first byte after which the text is cut, or with the text
pub first_ends : (text : List ℕ) (from : ℕ) (r : Option ℕ) → from ≤ length text
    → MatchOption r ((i : ℕ) → from ≤ i → i < length text → CutAt text false i)
    (λ i. (from ≤ i) × (i < length text) × CutAt text true i
    × ((k : ℕ) → from ≤ k → k < i → CutAt text false k))
    → MatchOption r (from + first_long (drop from text) ≡ length text)
    (λ i. from + first_long (drop from text) ≡ suc i)
first_ends text from None l none =
    let n = length text - from in
    let past = first_past text from n (omega arith) (λ i a b. none i a (omega arith)) in
    let end = ap first_long (drop_of_length-le text {i = from + n} (omega arith)) in
    omega (arith, past, end)
first_ends text from (Some i) l (onward, inside, cut, none) =
    let n = i - from in
    let past = first_past text from n (omega arith) (λ k a b. none k a (omega arith)) in
    let at : from + n ≡ i = omega arith in
    let end = ap (λ k. first_long (drop k text)) at ∙ first_cut text i inside cut in
    omega (arith, past, end)

-- ---- piece by piece
pub ends_length : (at : ℕ) (ps : List (List ℕ)) → length (ends_from at ps) ≡ length ps
ends_length at [] = refl
ends_length at (p ∷ ps) = ap suc (ends_length (at + length p) ps)

ends_split : (at : ℕ) (s : List ℕ)
    → ends_from at (pieces s) ≡ (at + first_long s) ∷ ends_from (at + first_long s) (left (drop (first_long s) s))
ends_split at s =
    ap (ends_from at) (split s)
    ∙ ap (λ n. (at + n) ∷ ends_from (at + n) (left (drop (first_long s) s)))
    (length-take-le (first_long s) s (first_fits s))

-- the first i pieces end as noted, and the next begins at `at`
pub record Cutting (text ends : List ℕ) (i at : ℕ) : Type 0 where
  pub room : length ends ≡ max_pieces
  pub at_in : at ≤ length text
  pub are : ends_from 0 (pieces text) ≡ take i ends ++ ends_from at (pieces (drop at text))

module _ {text ends : List ℕ} {i at : ℕ} (c : Cutting text ends i at) where
  -- a further piece, and another where the noted ones are as many as there may be
  pub cut_many : i ≡ max_pieces → Cuts text ends None
  cut_many e =
      let all = ap length c.are ∙ length-append (take i ends) (ends_from at (pieces (drop at text))) in
      omega (
        arith,
        all,
        length-take-le i ends (omega (arith, c.room)),
        ends_length at (pieces (drop at text)),
        ends_length 0 (pieces text),
        some_pieces board_key (drop at text),
      )

  module _ {at' : ℕ} (more : i < max_pieces) (is : at' ≡ at + first_long (drop at text)) where
    h : i < length ends
    h = omega (arith, c.room, more)

    next_in : at' ≤ length text
    next_in = omega (arith, is, first_fits (drop at text), length-drop at text, c.at_in)

    next_are : ends_from 0 (pieces text) ≡ take (suc i) (set ends i at') ++ ends_from at' (left (drop at' text))
    next_are =
        c.are
        ∙ ap (λ l. take i ends ++ l) (ends_split at (drop at text))
        ∙ ap (λ l. take i ends ++ ((at + first_long (drop at text)) ∷ ends_from (at + first_long (drop at text)) (left l)))
        (drop-drop (first_long (drop at text)) at text)
        ∙ ap (λ k. take i ends ++ (k ∷ ends_from k (left (drop k text)))) (sym is)
        ∙ sym (append_snoc (take i ends) at' (ends_from at' (left (drop at' text))))
        ∙ ap (λ l. l ++ ends_from at' (left (drop at' text))) (sym (take-suc-set ends i at' h))

    -- text is left behind the piece
    pub cut_next : at' < length text → Cutting text (set ends i at') (suc i) at'
    cut_next some = record {
      room = omega (arith, length-set ends i at', c.room);
      at_in = next_in;
      are =
          next_are
          ∙ ap (λ l. take (suc i) (set ends i at') ++ ends_from at' l)
          (left_some (drop at' text) (omega (arith, length-drop at' text)));
    }

    -- no text is left behind it
    pub cut_ends : length text ≤ at' → Cuts text (set ends i at') (Some (suc i))
    cut_ends done =
        let none : left (drop at' text) ≡ [] = ap left (drop_of_length-le text {i = at'} done) in
        let are : take (suc i) (set ends i at') ≡ ends_from 0 (pieces text) =
        sym (next_are
        ∙ ap (λ l. take (suc i) (set ends i at') ++ ends_from at' l) none
        ∙ append-nil (take (suc i) (set ends i at'))) in
        let same = length-set ends i at' in
        let front = length-take-le (suc i) (set ends i at') (omega (arith, same, h)) in (
          omega arith,
          omega (arith, same, h),
          record { few = omega (arith, ap length are, front, ends_length 0 (pieces text), more); ends_are = are },
        )
