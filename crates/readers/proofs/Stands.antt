-- Where the code stands shows the stage of the text's reading: the same line is expected, the same numbers are refused,
-- and each number leads to the stand that shows the next stage.
use mathlib.Core.Path.{◌≡◌, refl, sym, ap, ap₂, ◌∙◌, subst}
use mathlib.Core.Bool.{Bool, true, false}
use mathlib.Core.List.{List, [], ◌∷◌, ◌++◌, append_assoc}
use mathlib.Core.Logic.{inl, inr}
use Prim.Native.Nat.{ℕ, zero, suc, ◌+◌, ◌*◌, ◌≤◌, ◌<◌}
use native.Mathlib.Omega.{arith}
use lib.ListN.{length, get_or, take, drop, length-append, length-drop, drop_of_length-le, get_or-append}
use lib.Seq.{append_snoc, take_at, get_or_at, get_or-take}
use Rattle.basics.specs.Basics.{pick}
use Rattle.basics.proofs.Tests.{test_of}
use Rattle.text.specs.Text.{bytes}
use Rattle.text.specs.Lines.{line_at}
use Rattle.text.specs.Line.{Line}
use Rattle.text.specs.Line as L
use Rattle.text.proofs.Lines.{line_long}
use Rattle.grammars.specs.Grammars.{step}
use Rattle.grammars.specs.inside.Answers.{tested, on_answer}
use Rattle.grammars.proofs.Answers.{tested_number}
use Rattle.grammars.proofs.Naturals.{number_within, no_number_at_end, step_line, step_end}
use Rattle.curves.specs.Curves.{min_points, max_points}
use Rattle.rows.specs.Rows.{min_task, max_task, min_switch, max_switch, min_tasks, max_tasks, points_at, first_point_at, lines_for}
use Rattle.rows.specs.Rows.{row_of}
use Rattle.rows.specs.inside.Numbers.{line_count, switch_at, lines_from, row_from}
use Rattle.readers.specs.declared.progress.Part.{Part}
use Rattle.readers.specs.declared.progress.Part.TheVariants as P
use Rattle.readers.specs.declared.progress.Stand.{Stand}
use Rattle.tables.specs.TableLines.{RowLine, min_board, max_board, new_rank, row_line_at, is_whole}
use Rattle.tables.specs.TableLines.{Stage, at_board, at_tasks, at_switch, at_field, ranks_stage, rows_stage, after, table}
use Rattle.readers.specs.inside.Numbers.{head_count, line_bytes, row_start, board_in, head_switch_at, switch_in, rows_in}
use Rattle.readers.specs.inside.Numbers.{behind}
use Rattle.tables.specs.inside.Partial.{Partial}
use Rattle.readers.specs.inside.Stands.{field_line, line_here, fault_in, stand, ranks_next, rows_next, after_field}
use Rattle.readers.specs.inside.Stands.{stand_after, fewest_lines, most_lines, read_by, Counted, Going}
use Rattle.readers.specs.inside.Stands.{stage_in}
use Rattle.rows.proofs.RowNumbers.{rows_length, between_length, lines_same}
use Rattle.tables.proofs.RowLines.{at_within, each_point, partial_next, whole_few}
use Rattle.readers.proofs.LineNumbers.{board_stays, switch_stays, behind_grows, grows, row_made, rows_front}

-- ---- the step from a stage that is shown
module _ (ranked : Bool) (text : List ℕ) (at k : ℕ) (s : Stand) (ns : List ℕ) where
  abbrev StepOf : Part → Type 0
  StepOf p =
      let st = stage_in p s (take (read_by p s) ns) in
      step (table ranked) text st at k
      ≡ on_answer (table ranked) st k (tested (fault_in p s ns) (line_here p s.position text at k) k)

  rows_of : row_start s.count + s.position ≤ length ns
      → rows_in s.count (take (row_start s.count + s.position) ns) ≡ rows_in s.count ns
  rows_of h = rows_front s.count (row_start s.count + s.position) ns (omega arith) h

  pub step_shown : (p : Part) → read_by p s ≤ length ns → StepOf p
  step_shown P.Board h = step_line (table ranked) text at_board at k (bytes "board=") min_board max_board refl
  step_shown P.Tasks h =
      step_line (table ranked) text (at_tasks (board_in (take 1 ns))) at k (bytes "tasks=") min_tasks max_tasks refl
  step_shown P.Switch h =
      step_line (table ranked) text (at_switch s.left (board_in (take 2 ns))) at k (bytes "switch=") min_switch max_switch
      refl
  step_shown P.Row h =
      let vs = behind s.count s.position ns in
      let st = stage_in P.Row s (take (read_by P.Row s) ns) in
      let l = row_line_at (length vs) in
      let sw = get_or-take (read_by P.Row s) ns head_switch_at 0 (omega arith) in
      step_line (table ranked) text st at k l.key l.low l.high refl
      ∙ ap (λ d. on_answer (table ranked) st k (tested (l.fault d (rows_in s.count (take (read_by P.Row s) ns)) vs)
      (field_line (length vs) text at k) k)) sw
      ∙ ap₂ (λ i rs. on_answer (table ranked) st k
      (tested ((row_line_at i).fault (switch_in ns) rs vs) (field_line i text at k) k))
      (between_length (row_start s.count) ns s.position h) (rows_of h)
  step_shown P.Rank h =
      let os = behind s.count s.position ns in
      let st = stage_in P.Rank s (take (read_by P.Rank s) ns) in
      let l = line_at (bytes "rank=") min_task max_task text at k in
      step_line (table ranked) text st at k (bytes "rank=") min_task max_task refl
      ∙ ap (λ rs. on_answer (table ranked) st k (tested (new_rank rs os) l k)) (rows_of h)
  step_shown P.End h = step_end (table ranked) text (stage_in P.End s (take (read_by P.End s) ns)) at k refl

-- ---- the stand behind a number shows the next stage, with the numbers that stand there then: the last of a row has
-- behind it what stood in the places of the points that the row has not, and then the switch
abbrev pub grown : Bool → ℕ → List ℕ → List ℕ → List ℕ
grown last v gap ws = ws ++ (v ∷ pick last (gap ++ (switch_in ws ∷ [])) [])

-- the numbers left standing fill the row
abbrev pub Fills : Bool → Stand → List ℕ → Type 0
Fills last s gap = last ≡ true → s.position + suc (length gap) ≡ line_count

pub record Follows (ranked : Bool) (st : Stage) (few many read : ℕ) (t : Stand) (xs : List ℕ) : Type 0 where
  pub asked : t.ranked ≡ ranked
  pub shows : stage_in t.part t xs ≡ st
  pub counted : Counted t.part t
  pub going : Going t.part t xs
  pub fewest : fewest_lines t.part t ≤ few
  pub most : many ≤ most_lines t.part t
  pub read_is : read_by t.part t ≡ read

-- the stage and the counts by other names
renamed : {ranked : Bool} {st st' : Stage} {l l' m m' n n' : ℕ} {t : Stand} {xs : List ℕ}
    → Follows ranked st l m n t xs → st ≡ st' → l ≤ l' → m' ≤ m → n ≡ n' → Follows ranked st' l' m' n' t xs
renamed r e f g h = record {
  asked = r.asked;
  shows = r.shows ∙ e;
  counted = r.counted;
  going = r.going;
  fewest = omega (arith, r.fewest, f);
  most = omega (arith, r.most, g);
  read_is = r.read_is ∙ h;
}

-- the lines before the first behind n rows, at least and at most
abbrev fewest : ℕ → ℕ
fewest n = head_count + lines_for min_points * n

abbrev most : ℕ → ℕ
most n = head_count + lines_for max_points * n

module _ (ranked : Bool) (count : ℕ) (few : count ≤ max_tasks) (xs : List ℕ) where
  ranks_follow : (named n : ℕ) → named + n ≤ count
      → Follows ranked (ranks_stage n (board_in xs) (rows_in count xs) (drop (row_start count) xs))
      (fewest count + named) (most count + named) (row_start count + named) (ranks_next ranked count named n) xs
  ranks_follow named zero l = record {
    asked = refl;
    shows = refl;
    counted = (omega arith, few);
    going = tt;
    fewest = omega arith;
    most = omega arith;
    read_is = refl;
  }
  ranks_follow named (suc n) l = record {
    asked = refl;
    shows = refl;
    counted = (l, few);
    going = tt;
    fewest = omega arith;
    most = omega arith;
    read_is = refl;
  }

  rows_follow : (n : ℕ) → count + n ≤ max_tasks → length xs ≡ row_start count
      → Follows ranked (rows_stage ranked n (board_in xs) (switch_in xs) (rows_in count xs)) (fewest count) (most count)
      (row_start count) (rows_next ranked count n) xs
  rows_follow zero l e =
      let none = drop_of_length-le xs {i = row_start count} (omega arith) in
      let as_many = rows_length count (drop head_count xs) in
      renamed (ranks_follow 0 (pick ranked count 0) (at_most_lem ranked))
      (ap₂ (λ m os. ranks_stage (pick ranked m 0) (board_in xs) (rows_in count xs) os) (sym as_many) none) (omega arith)
      (omega arith) (omega arith)
    where
      at_most_lem : (b : Bool) → 0 + pick b count 0 ≤ count
      at_most_lem true = omega arith
      at_most_lem false = omega arith
  rows_follow (suc n) l e =
      let none = drop_of_length-le xs {i = row_start count} (omega arith) in
      record {
        asked = refl;
        shows = ap (at_field n (board_in xs) (switch_in xs) (rows_in count xs)) none;
        counted = (omega arith, l);
        going = rw none (record { few = omega arith; more = omega arith });
        fewest = omega arith;
        most = omega arith;
        read_is = omega arith;
      }

-- what a number has to be, beside what the numbers before it say
abbrev pub Taken : Part → ℕ → ℕ → Type 0
Taken P.Board i v = Unit {0}
Taken P.Tasks i v = v ≤ max_tasks
Taken P.Switch i v = Unit {0}
Taken P.Row i v = i ≡ points_at → v ≤ max_points
Taken P.Rank i v = Unit {0}
Taken P.End i v = ⊥

module _ (ranked : Bool) (count left position : ℕ) (ws : List ℕ) (v : ℕ) where
  -- all the numbers of a row make it, whatever stands behind the last of its points
  module _ (gap : List ℕ) where
    abbrev vs : List ℕ
    vs = drop (row_start count) ws

    abbrev more : List ℕ
    more = vs ++ (v ∷ [])

    abbrev last : List ℕ
    last = v ∷ (gap ++ (switch_in ws ∷ []))

    row_is : length vs ≡ position → position + suc (length gap) ≡ line_count
        → length more ≡ lines_for (get_or more points_at 0) → row_from (vs ++ last) ≡ row_of (switch_in ws) more
    row_is long fills whole =
        let front : vs ++ last ≡ (more ++ gap) ++ (switch_in ws ∷ []) =
        sym (append_snoc vs v (gap ++ (switch_in ws ∷ []))) ∙ sym (append_assoc more gap (switch_in ws ∷ [])) in
        let lines : length (more ++ gap) ≡ line_count =
        length-append more gap ∙ omega (arith, length-append vs (v ∷ []), long, fills) in
        let switch : get_or ((more ++ gap) ++ (switch_in ws ∷ [])) switch_at 0 ≡ switch_in ws =
        get_or_at (more ++ gap) (switch_in ws) [] 0 switch_at lines in
        let own : lines_from ((more ++ gap) ++ (switch_in ws ∷ [])) ≡ more ++ gap =
        take_at (more ++ gap) (switch_in ws ∷ []) line_count lines in
        ap row_from front
        ∙ ap₂ row_of switch own
        ∙ sym (lines_same (switch_in ws) more (more ++ gap) (λ k l.
        sym (get_or-append more gap 0 k (omega (arith, l, whole)))))

  row_follows : (gap : List ℕ) → length ws ≡ row_start count + position
      → position + suc (length gap) ≡ line_count → count + suc left ≤ max_tasks
      → let more = drop (row_start count) ws ++ (v ∷ []) in
      length more ≡ lines_for (get_or more points_at 0)
      → Follows ranked
      (rows_stage ranked left (board_in ws) (switch_in ws) (rows_in count ws ++ (row_of (switch_in ws) more ∷ [])))
      (suc (fewest count + position)) (suc (most count + position)) (length (ws ++ last gap))
      (rows_next ranked (suc count) left) (ws ++ last gap)
  row_follows gap e fills l whole =
      let long : length (vs gap) ≡ position = omega (arith, length-drop (row_start count) ws, e) in
      let ends : length (last gap) ≡ suc (suc (length gap)) =
      ap suc (length-append gap (switch_in ws ∷ []) ∙ omega arith) in
      let all : length (ws ++ last gap) ≡ row_start (suc count) =
      length-append ws (last gap) ∙ omega (arith, ends, e, fills) in
      let rows = row_made ws (last gap) count (omega (arith, e))
      ∙ ap (λ r. rows_in count ws ++ (r ∷ [])) (row_is gap long fills whole) in
      let head = ap₂ (λ b d. rows_stage ranked left b d (rows_in (suc count) (ws ++ last gap)))
      (board_stays ws (last gap) (omega (arith, e))) (switch_stays ws (last gap) (omega (arith, e))) in
      let least : lines_for min_points ≤ suc position = omega (arith, length-append (vs gap) (v ∷ []), long, whole) in
      renamed (rows_follow ranked (suc count) (omega arith) (ws ++ last gap) left (omega arith) all)
      (head ∙ ap (rows_stage ranked left (board_in ws) (switch_in ws)) rows) (omega (arith, least))
      (omega (arith, fills)) (sym all)

  field_follows : (gap : List ℕ) → length ws ≡ row_start count + position → position < line_count
      → count + suc left ≤ max_tasks → Partial (drop (row_start count) ws) → Taken P.Row position v
      → let whole = is_whole (drop (row_start count) ws ++ (v ∷ [])) in
      (whole ≡ true → position + suc (length gap) ≡ line_count)
      → Follows ranked (after ranked (stage_in P.Row (stand P.Row ranked count left position) ws) v)
      (suc (fewest count + position)) (suc (most count + position)) (length (grown whole v gap ws))
      (after_field whole (stand P.Row ranked count left position)) (grown whole v gap ws)
  field_follows gap e h l partial taken fills =
      let xs = drop (row_start count) ws in
      let long : length xs ≡ position = omega (arith, length-drop (row_start count) ws, e) in
      let said : length xs ≡ points_at → v ≤ max_points = λ z. taken (sym long ∙ z) in
      elim (test_of (is_whole (xs ++ (v ∷ [])))) [
        | inl t ↦ rw t (row_follows gap e (fills t) l (whole_few xs v partial said t).1)
        | inr t ↦
            let shows = grows ws (v ∷ []) count (omega (arith, e)) (at_field left) in
            let next = partial_next xs v partial said t in
            let still : suc position < line_count =
            omega (arith, next.more, next.few, length-append xs (v ∷ []), long) in
            rw t
            (record {
              asked = refl;
              shows = shows;
              counted = (still, l);
              going = rw (behind_grows ws (v ∷ []) count (omega (arith, e))) next;
              fewest = omega arith;
              most = omega arith;
              read_is = omega (arith, length-append ws (v ∷ []), e);
            })
      ]

  rank_follows : length ws ≡ row_start count + position → position + suc left ≤ count → count ≤ max_tasks
      → Follows ranked (after ranked (stage_in P.Rank (stand P.Rank ranked count left position) ws) v)
      (suc (fewest count + position)) (suc (most count + position)) (length (ws ++ (v ∷ [])))
      (ranks_next ranked count (suc position) left) (ws ++ (v ∷ []))
  rank_follows e h l =
      renamed (ranks_follow ranked count l (ws ++ (v ∷ [])) (suc position) left (omega arith))
      (grows ws (v ∷ []) count (omega arith) (λ b d. ranks_stage left b)) (omega arith) (omega arith)
      (omega (arith, length-append ws (v ∷ [])))

-- the last number of a row, by the numbers so far
abbrev pub last_in : Part → Stand → List ℕ → ℕ → Bool
last_in P.Board s ws v = false
last_in P.Tasks s ws v = false
last_in P.Switch s ws v = false
last_in P.Row s ws v = is_whole (drop (row_start s.count) ws ++ (v ∷ []))
last_in P.Rank s ws v = false
last_in P.End s ws v = false

pub stand_follows : (p : Part) (ranked : Bool) (count left position : ℕ) (ws gap : List ℕ) (v : ℕ)
    → let s = stand p ranked count left position in
    length ws ≡ read_by p s → Counted p s → Going p s ws → Taken p position v
    → let last = last_in p s ws v in
    Fills last s gap
    → let xs = grown last v gap ws in
    Follows ranked (after ranked (stage_in p s ws) v) (suc (fewest_lines p s)) (suc (most_lines p s)) (length xs)
    (stand_after p last s v) xs
stand_follows P.Board ranked count left position ws gap v e h g w f =
    let none = drop_of_length-le ws {i = 0} (omega arith) in
    record {
      asked = refl;
      shows = ap (λ xs. at_tasks (board_in (xs ++ (v ∷ [])))) none;
      counted = (refl, refl);
      going = tt;
      fewest = omega arith;
      most = omega arith;
      read_is = omega (arith, length-append ws (v ∷ []));
    }
stand_follows P.Tasks ranked count left position ws gap v e h g w f = record {
  asked = refl;
  shows = ap (at_switch v) (board_stays ws (v ∷ []) (omega arith));
  counted = (refl, refl, w);
  going = tt;
  fewest = omega arith;
  most = omega arith;
  read_is = omega (arith, length-append ws (v ∷ []));
}
stand_follows P.Switch ranked count left position ws gap v e h g w f =
    let long : length (ws ++ (v ∷ [])) ≡ row_start 0 = length-append ws (v ∷ []) ∙ omega arith in
    renamed (rows_follow ranked 0 (omega arith) (ws ++ (v ∷ [])) left (omega (arith, h.2)) long)
    (ap₂ (λ b d. rows_stage ranked left b d []) (board_stays ws (v ∷ []) (omega arith)) (get_or_at ws v [] 0 head_switch_at e))
    (omega arith) (omega arith) (sym long)
stand_follows P.Row ranked count left position ws gap v e h g w f =
    field_follows ranked count left position ws v gap e h.0 h.1 g w f
stand_follows P.Rank ranked count left position ws gap v e h g w f =
    rank_follows ranked count left position ws v e h.0 h.1
stand_follows P.End ranked count left position ws gap v e h g w f = absurd w

-- a number that a line answers is such, and its line has so many bytes of the text at least
key_long : (i : ℕ) → i < line_count → line_bytes ≤ suc (suc (length (row_line_at i).key))
key_long =
    let F : RowLine → Type 0 = λ l. line_bytes ≤ suc (suc (length l.key)) in
    at_within F (
      omega arith,
      (
        omega arith,
        (
          omega arith,
          (
            omega arith,
            (
              omega arith,
              (
                omega arith,
                (
                  omega arith,
                  (
                    omega arith,
                    (
                      omega arith,
                      (omega arith, (omega arith, each_point F (λ at. omega arith) (λ at. omega arith) first_point_at 7)),
                    ),
                  ),
                ),
              ),
            ),
          ),
        ),
      ),
    )

pub record LineTaken (p : Part) (text : List ℕ) (at i v next : ℕ) : Type 0 where
  pub taken : Taken p i v
  pub past : at + line_bytes ≤ next
  pub inside : next ≤ length text

module _ (fault : ℕ → ℕ) (text : List ℕ) (at k v next : ℕ) where
  by_key : (p : Part) (i : ℕ) (key : List ℕ) (low high : ℕ) → Taken p i v → line_bytes ≤ suc (suc (length key))
      → tested fault (line_at key low high text at k) k ≡ L.Number v next → LineTaken p text at i v next
  by_key p i key low high t h e =
      let (long, inside) = line_long key low high text at k v next (tested_number fault _ k v next e) in
      record { taken = t; past = omega arith; inside = inside }

  pub answer_taken : (p : Part) (s : Stand) → Counted p s
      → tested fault (line_here p s.position text at k) k ≡ L.Number v next → LineTaken p text at s.position v next
  answer_taken P.Board s h e = by_key P.Board s.position (bytes "board=") min_board max_board tt (omega arith) e
  answer_taken P.Tasks s h e =
      let few = (number_within fault (bytes "tasks=") min_tasks max_tasks text at k v next e).le_high in
      by_key P.Tasks s.position (bytes "tasks=") min_tasks max_tasks few (omega arith) e
  answer_taken P.Switch s h e = by_key P.Switch s.position (bytes "switch=") min_switch max_switch tt (omega arith) e
  answer_taken P.Row s h e =
      let l = row_line_at s.position in
      let high = (number_within fault l.key l.low l.high text at k v next e).le_high in
      by_key P.Row s.position l.key l.low l.high (λ is. subst (λ i. v ≤ (row_line_at i).high) is high)
      (key_long s.position h.0) e
  answer_taken P.Rank s h e = by_key P.Rank s.position (bytes "rank=") min_task max_task tt (omega arith) e
  answer_taken P.End s h e = absurd (no_number_at_end fault text at k v next e)
