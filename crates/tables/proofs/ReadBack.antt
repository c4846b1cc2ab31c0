-- A table in its limits is read from its own text: each number passes where it stands, by its limits, and a task or a
-- rank is new there since none stands twice. The rows or ranks that have been written stand before those that are left.
use mathlib.Core.Path.{◌≡◌, refl, sym, ap, ap₂, ◌∙◌, subst}
use mathlib.Core.Bool.{Bool, true, false, ◌&&◌}
use mathlib.Core.List.{List, [], ◌∷◌, ◌++◌, append_assoc, append-nil}
use Prim.Native.Nat.{ℕ, zero, suc, ◌+◌, ◌*◌, ◌^◌, ◌≤◌, ◌<◌}
use native.Mathlib.Omega.{arith}
use lib.Dec.{eqb, leb, ltb}
use lib.IntN.{pos}
use lib.ListN.{length, get_or, length-append, get_or-append}
use borrow.Author.Tests.{eqb-true, eq-eqb, ne_eqb, le-ltb}
use Rattle.basics.specs.Basics.{pick, within, distinct}
use Rattle.basics.proofs.Tests.{and_left, and_right, distinct_before, Within, within_true}
use Rattle.text.specs.Text.{decimal, signed, key_line}
use Rattle.text.specs.Lines.{max_digits}
use Rattle.grammars.specs.Forms.{natural}
use Rattle.grammars.specs.Grammars.{a_line}
use Rattle.grammars.specs.Claims.{Writes, done, then}
use Rattle.grammars.proofs.Naturals.{in_range_passes}
use Rattle.grammars.proofs.RoundTrip as RoundTrip
use Rattle.curves.specs.Curves.{Point, no_point, max_points, min_delay, max_delay, min_allow, max_allow, well_formed}
use Rattle.curves.specs.Curves.{numbers_of}
use Rattle.curves.proofs.Lines.{few_of}
use Rattle.curves.proofs.PointNumbers.{point_in, points_again, numbers_length, numbers_last, numbers_at}
use Rattle.curves.proofs.Growing.{Grown, takes_next, well_at}
use Rattle.rows.specs.Rows.{first_point_at, lines_for, row_of, with_switch, with_curve, row_at, OneSwitch, in_range, all_rows}
use Rattle.rows.specs.Rows.{min_switch, max_switch, full_cost, cost}
use Rattle.rows.specs.Rows.{tasks_of, has_task, all_tasks}
use Rattle.rows.specs.Rows.{Row}
use Rattle.rows.proofs.Limits.{Limits, limits, head_passes, tail_passes, at_passes}
use Rattle.rows.proofs.Tasks.{tasks_last, has_within}
use Rattle.tables.specs.TableLines.{RowLine, exceeding, repeated, disorderly, at_most, new_rank}
use Rattle.tables.specs.TableLines.{next_delay, next_allow, row_line_at, is_whole}
use Rattle.tables.specs.TableLines.{Stage, at_board, at_field, at-end, ranks_stage, rows_stage}
use Rattle.tables.specs.TableLines.{expected, fault, after, table, table_of, on_verdict, read_table}
use Rattle.tables.specs.Claims.{Accepted, line_of, points_text, row_text, rows_text, ranks_text, table_text, ReadsBack}
use Rattle.tables.proofs.Keys.{table_plain}
use Rattle.tables.proofs.RowLines.{delay_at, allow_at}

allowed : (limit v : ℕ) → v ≤ limit → at_most limit v ≡ 0
allowed limit v h = ap (λ x. pick x exceeding 0) (le-ltb limit v h)

module _ (ranked : Bool) where
  -- a line whose number is in its range and not refused, before what follows it
  put : {st : Stage} {key : List ℕ} {low high v : ℕ} {rest : List ℕ} {t : Stage}
      → expected st ≡ a_line key (natural low high) → ltb high (10 ^ max_digits) ≡ true → Within low high v
      → fault st v ≡ 0 → Writes (table ranked) (after ranked st v) rest t
      → Writes (table ranked) st (key_line key (decimal v) ++ rest) t
  unfolding signed
  put {key = key} {low = low} {high = high} {v = v} x short range none w =
      then key (pos v) (in_range_passes low high v x short range.low_le range.le_high none) w

  module _ (b s : ℕ) where
    module _ (n : ℕ) (ds : List Row) where
      -- the stage that some numbers of a row lead to
      abbrev reached : List ℕ → Stage
      reached vs = pick (is_whole vs) (rows_stage ranked n b s (ds ++ (row_of s vs ∷ []))) (at_field n b s ds vs)

      -- the points of a row's curve that are left, behind those that have been written
      module _ (r : Row) (l : Limits r) (same : r.switch ≡ s) {rest : List ℕ} {t : Stage}
          (w : Writes (table ranked) (rows_stage ranked n b s (ds ++ (r ∷ []))) rest t) where
        abbrev fixed : List ℕ
        fixed =
            r.task ∷ r.period ∷ r.deadline ∷ r.worst ∷ r.best ∷ r.alpha ∷ r.beta ∷ r.hold ∷ length r.curve ∷ []

        long : (c : List Point) → length (fixed ++ numbers_of c) ≡ lines_for (length c)
        long c = length-append fixed (numbers_of c) ∙ omega (arith, numbers_length c)

        -- the next point's lines, the first or behind another
        module _ (front : List Point) (p : Point) (grown : Grown front p) where
          abbrev vs : List ℕ
          vs = fixed ++ numbers_of front

          abbrev with_delay : List ℕ
          with_delay = vs ++ (p.delay ∷ [])

          ranged : (Within min_delay max_delay p.delay) × (Within min_allow max_allow p.allow)
          ranged =
              let d = within min_delay max_delay p.delay in
              let a = within min_allow max_allow p.allow in (
                within_true min_delay max_delay p.delay (and_left d a grown.limits),
                within_true min_allow max_allow p.allow (and_right d a grown.limits),
              )

          -- a line at a position, by its shape
          put_at : {v : ℕ} {text : List ℕ} (us : List ℕ) (line : RowLine) → row_line_at (length us) ≡ line
              → ltb line.high (10 ^ max_digits) ≡ true → Within line.low line.high v → line.fault s ds us v ≡ 0
              → Writes (table ranked) (after ranked (at_field n b s ds us) v) text t
              → Writes (table ranked) (at_field n b s ds us) (key_line line.key (decimal v) ++ text) t
          put_at {v = v} us line is short range none =
              put (ap (λ (x : RowLine). a_line x.key (natural x.low x.high)) is) short range
              (ap (λ (x : RowLine). x.fault s ds us v) is ∙ none)

          -- what stands behind the nine numbers that are no point's
          behind : (m : ℕ) → get_or vs (first_point_at + m) 0 ≡ get_or (numbers_of front) m 0
          behind m =
              let there : first_point_at + m ≡ suc (suc (suc (suc (suc (suc (suc (suc (suc m)))))))) = omega arith in
              ap (λ k. get_or vs k 0) there

          module _ (j : ℕ) (many : length front ≡ suc j) where
            abbrev later : Bool
            later = ltb (get_or front j no_point).delay p.delay

            abbrev lower : Bool
            lower = leb p.allow (get_or front j no_point).allow

            follows_prior : (later && lower) ≡ true
            follows_prior = sym (takes_next front p j many) ∙ grown.taken

            numbers_are : get_or front j no_point ≡ point_in j (numbers_of front)
            numbers_are = numbers_at front j (omega (arith, many))

            delay_before : get_or vs (first_point_at + 2 * j) 0 ≡ (get_or front j no_point).delay
            delay_before = behind (2 * j) ∙ sym (ap (λ (q : Point). q.delay) numbers_are)

            allow_before : get_or with_delay (suc (first_point_at + 2 * j)) 0 ≡ (get_or front j no_point).allow
            allow_before =
                let inside : suc (first_point_at + 2 * j) < length vs = omega (arith, long front, many) in
                get_or-append vs (p.delay ∷ []) 0 (suc (first_point_at + 2 * j)) inside
                ∙ ap (λ k. get_or vs k 0) (add_suc_is j) ∙ behind (suc (2 * j))
                ∙ sym (ap (λ (q : Point). q.allow) numbers_are)
              where
                add_suc_is : (j : ℕ) → suc (first_point_at + 2 * j) ≡ first_point_at + suc (2 * j)
                add_suc_is j = omega arith

          delay_put : {text : List ℕ} → Writes (table ranked) (after ranked (at_field n b s ds vs) p.delay) text t
              → Writes (table ranked) (at_field n b s ds vs) (line_of "delay=" p.delay text) t
          delay_put = go front refl
            where
              go : (c : List Point) → front ≡ c → {text : List ℕ}
                  → Writes (table ranked) (after ranked (at_field n b s ds vs) p.delay) text t
                  → Writes (table ranked) (at_field n b s ds vs) (line_of "delay=" p.delay text) t
              go [] e =
                  let first : length vs ≡ first_point_at = omega (arith, long front, ap length e) in
                  put_at vs (row_line_at first_point_at) (ap row_line_at first) refl ranged.0 refl
              go (q ∷ qs) e =
                  let j = length qs in
                  let many : length front ≡ suc j = ap length e in
                  let test : ltb (get_or vs (first_point_at + 2 * j) 0) p.delay ≡ true =
                  ap (λ x. ltb x p.delay) (delay_before j many)
                  ∙ and_left (later j many) (lower j many) (follows_prior j many) in
                  put_at vs (next_delay (first_point_at + 2 * j))
                  (delay_at (length vs) j (omega (arith, long front, many)) (omega (arith, many, grown.room))) refl
                  ranged.0 (ap (λ x. pick x 0 disorderly) test)

          allow_put : {text : List ℕ}
              → Writes (table ranked) (after ranked (at_field n b s ds with_delay) p.allow) text t
              → Writes (table ranked) (at_field n b s ds with_delay) (line_of "allow=" p.allow text) t
          allow_put = go front refl
            where
              longer : length with_delay ≡ suc (lines_for (length front))
              longer = length-append vs (p.delay ∷ []) ∙ omega (arith, long front)

              go : (c : List Point) → front ≡ c → {text : List ℕ}
                  → Writes (table ranked) (after ranked (at_field n b s ds with_delay) p.allow) text t
                  → Writes (table ranked) (at_field n b s ds with_delay) (line_of "allow=" p.allow text) t
              go [] e =
                  let first : length with_delay ≡ suc first_point_at = omega (arith, longer, ap length e) in
                  put_at with_delay (row_line_at (suc first_point_at)) (ap row_line_at first) refl ranged.1 refl
              go (q ∷ qs) e =
                  let j = length qs in
                  let many : length front ≡ suc j = ap length e in
                  let test : leb p.allow (get_or with_delay (suc (first_point_at + 2 * j)) 0) ≡ true =
                  ap (leb p.allow) (allow_before j many)
                  ∙ and_right (later j many) (lower j many) (follows_prior j many) in
                  put_at with_delay (next_allow (first_point_at + 2 * j))
                  (allow_at (length with_delay) j (omega (arith, longer, many)) (omega (arith, many, grown.room))) refl
                  ranged.1 (ap (λ x. pick x 0 disorderly) test)

        points_written : (front left : List Point) → front ++ left ≡ r.curve
            → Writes (table ranked) (reached (fixed ++ numbers_of front)) (points_text left rest) t
        points_written front [] all =
            let whole : front ≡ r.curve = sym (append-nil front) ∙ all in
            let is : is_whole (fixed ++ numbers_of r.curve) ≡ true =
            eq-eqb (length (fixed ++ numbers_of r.curve)) (lines_for (length r.curve)) (long r.curve) in
            let row_is : row_of s (fixed ++ numbers_of r.curve) ≡ r =
            ap₂ (λ c x. with_curve c (with_switch x r)) (points_again r.curve) (sym same) in
            rw (whole, is, row_is) w
        points_written front (p ∷ ps) all =
            let vs = fixed ++ numbers_of front in
            let grown = well_at front p ps (ap well_formed all ∙ l.curve) in
            let many : length front < length r.curve =
            omega (arith, sym (ap length all), length-append front (p ∷ ps)) in
            let on : is_whole vs ≡ false =
            ne_eqb (length vs) (lines_for (length r.curve)) (λ e. omega (arith, e, long front, many)) in
            let on_delay : is_whole (vs ++ (p.delay ∷ [])) ≡ false =
            ne_eqb (length (vs ++ (p.delay ∷ []))) (lines_for (length r.curve))
            (λ e. omega (arith, e, long front, length-append vs (p.delay ∷ []))) in
            let next : (vs ++ (p.delay ∷ [])) ++ (p.allow ∷ []) ≡ fixed ++ numbers_of (front ++ (p ∷ [])) =
            append_assoc vs (p.delay ∷ []) (p.allow ∷ [])
            ∙ append_assoc fixed (numbers_of front) (p.delay ∷ p.allow ∷ [])
            ∙ ap (λ xs. fixed ++ xs) (sym (numbers_last front p)) in
            rw on
            (delay_put front p grown
            (rw on_delay
            (allow_put front p grown
            (subst (λ xs. Writes (table ranked) (reached xs) (points_text ps rest) t) (sym next)
            (points_written (front ++ (p ∷ [])) ps (append_assoc front (p ∷ []) ps ∙ all))))))

      row_written : (r : Row) {rest : List ℕ} {t : Stage} → Limits r → r.switch ≡ s → has_task r.task ds ≡ false
          → Writes (table ranked) (rows_stage ranked n b s (ds ++ (r ∷ []))) rest t
          → Writes (table ranked) (at_field n b s ds []) (row_text r rest) t
      unfolding cost
      row_written r l same new w =
          let most : length r.curve ≤ max_points = few_of r.curve l.curve in
          put refl refl l.task (ap (λ x. pick x repeated 0) new)
          (put refl refl l.period refl
          (put refl refl l.deadline refl
          (put refl refl l.worst (allowed r.period (full_cost r.worst s) (omega (arith, l.cost_period, same)))
          (put refl refl l.best (allowed r.worst r.best l.best_worst)
          (put refl refl l.alpha refl
          (put refl refl l.beta refl
          (put refl refl l.hold (allowed r.worst r.hold l.hold_worst)
          (put refl refl (record { low_le = omega arith; le_high = most }) refl
          (points_written r l same w [] r.curve refl)))))))))

    rows_written : (ds rs : List Row) {rest : List ℕ} {t : Stage} → all_rows in_range rs ≡ true → OneSwitch s rs
        → distinct (tasks_of ds ++ tasks_of rs) ≡ true
        → Writes (table ranked) (rows_stage ranked zero b s (ds ++ rs)) rest t
        → Writes (table ranked) (rows_stage ranked (length rs) b s ds) (rows_text rs rest) t
    rows_written ds [] {rest} {t} ok same once w =
        subst (λ x. Writes (table ranked) (rows_stage ranked zero b s x) rest t) (append-nil ds) w
    rows_written ds (r ∷ rs) {rest} {t} ok same once w =
        let tasks = ap (λ ts. ts ++ tasks_of rs) (tasks_last ds r)
        ∙ append_assoc (tasks_of ds) (r.task ∷ []) (tasks_of rs) in
        let all = sym (append_assoc ds (r ∷ []) rs) in
        row_written (length rs) ds r (limits r (head_passes in_range r rs ok)) (same 0 (omega arith))
        (distinct_before (tasks_of ds) r.task (tasks_of rs) once)
        (rows_written (ds ++ (r ∷ [])) rs (tail_passes in_range r rs ok) (λ i l. same (suc i) (omega arith))
        (ap distinct tasks ∙ once)
        (subst (λ x. Writes (table ranked) (rows_stage ranked zero b s x) rest t) all w))

  ranks_written : (b : ℕ) (rs : List Row) (os ts : List ℕ) → all_rows in_range rs ≡ true → distinct (os ++ ts) ≡ true
      → all_tasks ts rs ≡ true
      → Writes (table ranked) (ranks_stage (length ts) b rs os) (ranks_text ts) (at-end b rs (os ++ ts))
  ranks_written b rs os [] ok once there =
      subst (λ x. Writes (table ranked) (at-end b rs os) [] (at-end b rs x)) (sym (append-nil os)) (done refl)
  ranks_written b rs os (t ∷ ts) ok once there =
      let more = os ++ (t ∷ []) in
      let has = and_left (has_task t rs) (all_tasks ts rs) there in
      let none : new_rank rs os t ≡ 0 = rw (has, distinct_before os t ts once) refl in
      let all = append_assoc os (t ∷ []) ts in
      put refl refl (has_within t rs has ok) none
      (subst (λ x. Writes (table ranked) (ranks_stage (length ts) b rs more) (ranks_text ts) (at-end b rs x)) all
      (ranks_written b rs more ts ok (ap distinct all ∙ once) (and_right (has_task t rs) (all_tasks ts rs) there)))

-- as many ranks as rows where they are expected, and none elsewhere
order_written : (ranked : Bool) (b s : ℕ) (rs : List Row) (os : List ℕ) → Accepted ranked (table_of b rs os)
    → Writes (table ranked) (rows_stage ranked zero b s rs) (ranks_text os) (at-end b rs os)
order_written true b s rs os h =
    let same = eqb (length os) (length rs) in
    let possible = h.ranks_possible refl in
    let both = and_left (same && distinct os) (all_tasks os rs) possible in
    subst (λ n. Writes (table true) (ranks_stage n b rs []) (ranks_text os) (at-end b rs os))
    (eqb-true (length os) (length rs) (and_left same (distinct os) both))
    (ranks_written true b rs [] os h.rows_in_range (and_right same (distinct os) both)
    (and_right (same && distinct os) (all_tasks os rs) possible))
order_written false b s rs os h =
    subst (λ x. Writes (table false) (at-end b rs []) (ranks_text x) (at-end b rs x)) (sym (h.no_ranks refl))
    (done refl)

-- the head, whose switch is that of the first row, and all the rows
pub reads_back : (ranked : Bool) → ReadsBack ranked
unfolding read_table
reads_back ranked b s rs os h same =
    let first = limits (row_at rs 0) (at_passes in_range rs 0 h.rows_in_range h.some_rows) in
    ap on_verdict
    (RoundTrip.reads_back (table ranked) at_board (table_text b s rs os) (table_plain ranked) (at-end b rs os)
    (put ranked refl refl (record { low_le = h.board_low; le_high = h.board_high }) refl
    (put ranked refl refl (record { low_le = h.some_rows; le_high = h.few_rows }) refl
    (put ranked refl refl (subst (Within min_switch max_switch) (same 0 h.some_rows) first.switch) refl
    (rows_written ranked b s [] rs h.rows_in_range same h.rows_distinct (order_written ranked b s rs os h))))))
