-- Laws of a crane's output. One piece is answered as the planner answers it, and two texts as each of them alone. Each
-- answer begins with `plan=` and has no other such line, so the output's cut before these lines is the answers.
use mathlib.Core.Path.{◌≡◌, refl, sym, ap, subst, ◌∙◌}
use mathlib.Core.Bool.{true, false}
use mathlib.Core.List.{List, [], ◌∷◌, ◌++◌, append-nil, append_assoc}
use Prim.Native.Nat.{ℕ, suc, ◌<◌}
use native.Mathlib.Omega.{arith}
use lib.ListN.{length}
use Rattle.basics.specs.Basics.{is_in}
use Rattle.text.specs.Text.{bytes, line_feed, decimal, signed, joined, key_line}
use Rattle.text.specs.Lines.{begins}
use Rattle.text.proofs.Lines.{decimal_no_feed}
use Rattle.plans.specs.declared.Entry.{Entry}
use Rattle.plans.specs.Plans.{rank_text, rank_texts, head_text, plan_text, refusal_text}
use Rattle.demands.specs.Calls.{planner_prints}
use Rattle.crane_demands.specs.Pieces.{cut_before, Uncut, ends_line, Separate, board_key, pieces}
use Rattle.crane_demands.specs.Calls.{answers, crane_text}
use Rattle.crane_demands.specs.Demands.{plan_key, Composes}
use Rattle.crane_demands.proofs.Pieces.{some_pieces, one_piece, cut_together, only_cut}
use Rattle.crane_demands.proofs.Lines.{signed_no_feed, Others, no_others, line_other, Begun, first_line}
use Rattle.crane_demands.proofs.Answers.{by_answer}
use Rattle.crane_demands.proofs.Tables.{tables_cut}

alone : (text : List ℕ) → Uncut board_key text → crane_text text ≡ planner_prints text
unfolding crane_text
alone text w = ap (λ ps. joined (answers ps)) (one_piece board_key text w) ∙ append-nil (planner_prints text)

joined_append : (ss ts : List (List ℕ)) → joined (ss ++ ts) ≡ joined ss ++ joined ts
joined_append [] ts = refl
joined_append (s ∷ ss) ts = ap (λ t. s ++ t) (joined_append ss ts) ∙ sym (append_assoc s (joined ss) (joined ts))

answers_append : (ps qs : List (List ℕ)) → answers (ps ++ qs) ≡ answers ps ++ answers qs
answers_append [] qs = refl
answers_append (p ∷ ps) qs = ap (λ l. planner_prints p ∷ l) (answers_append ps qs)

together : (text more : List ℕ) → ends_line text ≡ true → begins board_key more ≡ true
    → crane_text (text ++ more) ≡ crane_text text ++ crane_text more
unfolding crane_text
together text more e h =
    ap (λ ps. joined (answers ps)) (cut_together board_key refl refl text more e h)
    ∙ ap joined (answers_append (pieces text) (pieces more))
    ∙ joined_append (answers (pieces text)) (answers (pieces more))

-- ---- the lines of a plan and of a refusal
-- before such lines, they are more such lines
record Lines (t : List ℕ) : Type 0 where
  before : (rest : List ℕ) → Others plan_key rest → Others plan_key (t ++ rest)

nothing : Lines []
nothing = record { before = λ rest o. o }

and_then : {s t : List ℕ} → Lines s → Lines t → Lines (s ++ t)
and_then {s} {t} l m = record {
  before = λ rest o. subst (Others plan_key) (sym (append_assoc s t rest)) (l.before (t ++ rest) (m.before rest o));
}

number_line_lem : (k : List ℕ) → is_in line_feed k ≡ false → ((s : List ℕ) → begins plan_key (k ++ s) ≡ false) → (v : ℕ)
    → Lines (key_line k (decimal v))
number_line_lem k in_key differs v = record {
  before = line_other plan_key refl k (decimal v) in_key (decimal_no_feed v) differs;
}

rank_lines : (k : ℕ) (e : Entry) → Lines (rank_text k e)
unfolding rank_text
rank_lines k e =
    let margin : Lines (key_line (bytes "margin=") (signed e.margin)) =
    record { before = line_other plan_key refl _ _ refl (signed_no_feed e.margin) (λ s. refl) } in
    and_then (number_line_lem (bytes "rank=") refl (λ s. refl) k)
    (and_then (number_line_lem (bytes "task=") refl (λ s. refl) e.task)
    (and_then (number_line_lem (bytes "best=") refl (λ s. refl) e.best)
    (and_then (number_line_lem (bytes "worst=") refl (λ s. refl) e.worst)
    (and_then (number_line_lem (bytes "jitter=") refl (λ s. refl) e.jitter) (and_then margin nothing)))))

ranks_lines : (k : ℕ) (es : List Entry) → Lines (joined (rank_texts k es))
ranks_lines k [] = nothing
ranks_lines k (e ∷ es) = and_then (rank_lines k e) (ranks_lines (suc k) es)

-- ---- an answer: its first line, and others
answered : (v : ℕ) {t : List ℕ} → Lines t → Begun plan_key (key_line plan_key (decimal v) ++ t)
answered v {t} l =
    let o = subst (Others plan_key) (append-nil t) (l.before [] (no_others plan_key refl)) in
    first_line plan_key refl refl (decimal v) t (decimal_no_feed v) o

plan_answered : (board : ℕ) (es : List Entry) → Begun plan_key (plan_text board es)
unfolding plan_text head_text
plan_answered board es =
    let first = key_line plan_key (decimal 1) in
    let head = joined (key_line (bytes "board=") (decimal board) ∷ key_line (bytes "tasks=") (decimal (length es)) ∷ []) in
    let ranks = joined (rank_texts 1 es) in
    let lines : Lines (head ++ ranks) = and_then
    (and_then (number_line_lem (bytes "board=") refl (λ s. refl) board)
    (and_then (number_line_lem (bytes "tasks=") refl (λ s. refl) (length es)) nothing))
    (ranks_lines 1 es) in
    subst (Begun plan_key) (sym (append_assoc first head ranks)) (answered 1 lines)

refusal_answered : (number place : ℕ) → Begun plan_key (refusal_text number place)
unfolding refusal_text
refusal_answered number place =
    answered 0
    (and_then (number_line_lem (bytes "refusal=") refl (λ s. refl) number)
    (and_then (number_line_lem (bytes "line=") refl (λ s. refl) place) nothing))

prints_answered : (text : List ℕ) → Begun plan_key (planner_prints text)
prints_answered = by_answer (Begun plan_key) (λ board es h. plan_answered board es) (λ n p h l. refusal_answered n p)

answers_separate : (p : List ℕ) (ps : List (List ℕ)) → Separate plan_key (answers (p ∷ ps))
answers_separate p [] = (prints_answered p).uncut
answers_separate p (q ∷ ps) =
    let a = prints_answered p in
    (a.uncut, a.ends, (prints_answered q).begun, answers_separate q ps)

all_separate : (ps : List (List ℕ)) → 0 < length ps → Separate plan_key (answers ps)
all_separate [] h = absurd (omega arith)
all_separate (p ∷ ps) h = answers_separate p ps

told_apart : (text : List ℕ) → cut_before plan_key (crane_text text) ≡ answers (pieces text)
unfolding crane_text
told_apart text =
    let separate = all_separate (pieces text) (some_pieces board_key text) in
    sym (only_cut plan_key refl refl (crane_text text) (answers (pieces text)) (record { joins = refl; separate = separate }))

pub composes : Composes
composes = record { alone = alone; tables = tables_cut; together = together; told_apart = told_apart }
