-- The three lines before the ranks have at most 28 bytes, and a rank at most 79, so that every plan of rows in range has
-- room. A refusal's three lines have at most 35.
use mathlib.Core.Path.{◌≡◌, refl, sym, ap, ◌∙◌}
use mathlib.Core.Bool.{true, false}
use mathlib.Core.Logic.{inl, inr}
use mathlib.Core.List.{List, [], ◌∷◌, ◌++◌, append-nil}
use Prim.Native.Nat.{ℕ, suc, ◌+◌, ◌*◌, ◌^◌, ◌≤◌, ◌<◌}
use native.Mathlib.Omega.{arith}
use lib.IntN.{ℤ, pos, negsuc}
use lib.ListN.{length, get_or, take, drop, length-append}
use lib.Seq.{append_snoc}
use Rattle.basics.proofs.Tests.{and_both, le-or-lt}
use Rattle.text.specs.Text.{decimal, signed, joined}
use Rattle.text.proofs.Decimals.{decimal_short}
use Rattle.text.proofs.Spelling.{line_length}
use Rattle.rows.specs.Rows.{min_ticks, max_ticks, in_range, all_rows, no_row}
use Rattle.rows.specs.Rows.{Row}
use Rattle.rows.proofs.Limits.{head_passes, tail_passes, append_passes}
use Rattle.responses.specs.Figures.{rows_above, rows_below, is_late}
use Rattle.plans.specs.declared.Entry.{Entry}
use Rattle.plans.specs.Entries.{entry, entries_from, entries}
use Rattle.plans.specs.inside.Prints.{refusal_room}
use Rattle.plans.specs.Plans.{rank_text, rank_texts, head_text, plan_text, refusal_text, head_room, rank_room, room_for, most_ranks}
use Rattle.plans.proofs.Entries.{MarginIn, InLimits, entries_length, entry_limits}

-- a margin has twelve digits, or a sign and eleven
margin_length : (z : ℤ) → MarginIn z → length (signed z) ≤ 12
unfolding signed
margin_length (pos v) h = omega (arith, decimal_short v 11 (omega arith))
margin_length (negsuc v) h = omega (arith, decimal_short (suc v) 10 (omega arith))

-- W has seven digits only at the limit of ticks; then E has at most six and so has the jitter, or E is W and there is no
-- jitter
times_length : (e j w : ℕ) → min_ticks ≤ e → e + j ≡ w → w ≤ max_ticks
    → length (decimal e) + length (decimal w) + length (decimal j) ≤ 19
times_length e j w some is most = elim (le-or-lt max_ticks e) [
  | inl h ↦
      omega (
        arith,
        decimal_short e 6 (omega arith),
        decimal_short w 6 (omega arith),
        decimal_short j 0 (omega arith),
      )
  | inr h ↦
      omega (
        arith,
        decimal_short e 5 (omega arith),
        decimal_short w 6 (omega arith),
        decimal_short j 5 (omega arith),
      )
]

pub rank_length : (k : ℕ) (e : Entry) → k ≤ most_ranks → InLimits e → length (rank_text k e) ≤ rank_room
unfolding rank_text
rank_length k e h l =
    simp (length-append, line_length)
    (omega (
      arith,
      decimal_short k 1 (omega arith),
      decimal_short e.task 4 (omega (arith, l.task_in)),
      times_length e.best e.jitter e.worst l.best_in_lem l.jitter_is l.worst_in_lem,
      margin_length e.margin l.margin_in,
    ))

-- the ranks from k on of rows in range, none of which is late
ranks_length : (k : ℕ) (above order : List Row) → k + length order ≤ suc most_ranks
    → all_rows in_range above ≡ true → all_rows in_range order ≡ true
    → ((i : ℕ) → i < length order → is_late (get_or order i no_row) (above ++ take i order) (drop (suc i) order) ≡ false)
    → length (joined (rank_texts k (entries_from above order))) ≤ length order * rank_room
ranks_length k above [] h ha ho l = omega arith
ranks_length k above (r ∷ rs) h ha ho l =
    let hr = head_passes in_range r rs ho in
    let in_time : is_late r above rs ≡ false =
    sym (ap (λ (l : List Row). is_late r l rs) (append-nil above)) ∙ l 0 (omega arith) in
    let more = append_passes in_range above (r ∷ []) ha (and_both (in_range r) true hr refl) in
    let e = entry r above rs in
    let rest = entries_from (above ++ (r ∷ [])) rs in
    omega (
      arith,
      rank_length k e (omega arith) (entry_limits r above rs hr ha in_time),
      ranks_length (suc k) (above ++ (r ∷ [])) rs (omega arith) more (tail_passes in_range r rs ho)
          (λ i m.
          ap (λ (l : List Row). is_late (get_or rs i no_row) l (drop (suc i) rs)) (append_snoc above r (take i rs))
          ∙ l (suc i) (omega arith)),
      length-append (rank_text k e) (joined (rank_texts (suc k) rest)),
    )

pub head_length : (board count : ℕ) → board < 10 ^ 5 → count ≤ most_ranks → length (head_text board count) ≤ head_room
unfolding head_text
head_length board count h n =
    simp (length-append, line_length)
    (omega (
      arith,
      decimal_short 1 0 (omega arith),
      decimal_short board 4 h,
      decimal_short count 1 (omega arith),
    ))

pub plan_fits : (board : ℕ) (order : List Row) → board < 10 ^ 5 → length order ≤ most_ranks
    → all_rows in_range order ≡ true
    → ((i : ℕ) → i < length order → is_late (get_or order i no_row) (rows_above order i) (rows_below order i) ≡ false)
    → length (plan_text board (entries order)) ≤ room_for (length order)
unfolding plan_text
plan_fits board order h n ok l =
    let es = entries order in
    let many = entries_length [] order in
    omega (
      arith,
      head_length board (length es) h (omega (arith, many)),
      ranks_length 1 [] order (omega arith) refl ok l,
      length-append (head_text board (length es)) (joined (rank_texts 1 es)),
    )

pub refusal_length : (number place : ℕ) → number < 10 ^ 3 → place < 10 ^ 10 → length (refusal_text number place) ≤ refusal_room
unfolding refusal_text
refusal_length number place n p =
    simp (length-append, line_length)
    (omega (arith, decimal_short 0 0 (omega arith), decimal_short number 2 n, decimal_short place 9 p))
