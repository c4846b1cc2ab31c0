-- The stages of a text to watch behind its table: what the lines of each lead to, and what the whole comes to.
use mathlib.Core.Path.{◌≡◌, refl, sym, ap, ap₂, ◌∙◌}
use mathlib.Core.List.{List, [], ◌∷◌, ◌++◌}
use Prim.Native.Nat.{ℕ, zero, suc, ◌+◌, ◌≤◌, ◌<◌}
use native.Mathlib.Omega.{arith}
use native.Mathlib.Numerals.{add-one}
use lib.IntN.{ℤ, pos}
use lib.ListN.{length, get_or, take, replicate}
use borrow.Author.Tests.{eq-eqb, ne_eqb}
use Rattle.std.specs.Prelude.{Ok, Err}
use Rattle.text.specs.Text.{bytes}
use Rattle.text.specs.Lines.{fault_number, line_at, end_at, told, told_end}
use Rattle.text.specs.Lines as Lines
use Rattle.text.specs.declared.LineRefusal.{LineRefusal}
use Rattle.text.specs.declared.Number.{Number}
use Rattle.text.specs.Line.{Line}
use Rattle.text.specs.Line as L
use Rattle.grammars.specs.Forms.{natural}
use Rattle.grammars.specs.Grammars.{a_line, accepted, refused, on_step, read_from, read}
use Rattle.grammars.specs.inside.Answers.{on_answer}
use Rattle.grammars.proofs.Answers.{no_test}
use Rattle.grammars.proofs.Naturals.{step_end, number_within}
use Rattle.grammars.proofs.Steps.{read_steps}
use Rattle.rows.specs.Rows.{min_ticks, max_ticks, row_at, cost}
use Rattle.rows.specs.Rows.{Row}
use Rattle.plans.specs.declared.Refusal.TheVariants as R
use Rattle.plans.specs.Outcomes.{Written}
use Rattle.plans.proofs.Outcomes.{refused as stays}
use Rattle.watch_demands.specs.WatchLines.{min_release, max_release, min_lengths, max_lengths, at_release, at_ticks}
use Rattle.watch_demands.specs.WatchLines.{at_lengths, at_length, run_end, releases_stage, lengths_stage}
use Rattle.watch_demands.specs.WatchLines.{WatchStage, watch_text, watch_start}
use Rattle.watch_demands.specs.Jobs.{rank_with}
use Rattle.watch_demands.specs.Calls.{run_in_time, watched}
use Rattle.watch_demands.proofs.Demands.{watched_is}
use Rattle.watch_runs.specs.inside.Owners.{Mergeable, Owns, Owned}
use Rattle.watches.specs.declared.lines.Range.{Range}
use Rattle.watches.specs.declared.ranking.Ranking.{Ranking}
use Rattle.watches.specs.inside.Lines.{low_of, high_of, Told, Stopped, Readable}
use Rattle.watches.specs.inside.Stages.{rows_of, behind, Resumes, AtReleases, LaidBy, AtTicks, AtLengths}
use Rattle.watches.proofs.Numbers.{line_number, line_refused, told_within, told_resumes, stopped_refused}
use Rattle.watches.proofs.Laid.{order, offset, period_max, few_ranks, some_ranks, rank_of, released}

-- ---- a refused text is the call's refusal
pub refused_text : (text o : List ℕ) (e : LineRefusal) → read watch_text watch_start text ≡ refused (fault_number e.fault) e.line
    → Written (watched text (length o)) o o (Err (R.Line e))
refused_text text o e is = stays (watched_is text (length o) (refused (fault_number e.fault) e.line) is) (refl, refl)

-- ---- first releases
pub zeros : (n k m : ℕ) → get_or {A = ℕ} (take n (replicate k 0)) m 0 ≡ 0
zeros zero k m = refl
zeros (suc n) zero m = refl
zeros (suc n) (suc k) zero = refl
zeros (suc n) (suc k) (suc m) = zeros n k m

-- every number has the one range
module _ (text : List ℕ) (at k : ℕ) (ns : List ℕ) (n : ℕ) (a : AtReleases text at k ns n) (ranges : List Range)
    (owners : List ℕ)
    (low_is : (m : ℕ) → low_of ranges owners m ≡ min_release) (high_is : (m : ℕ) → high_of ranges owners m ≡ max_release)
  where
    abbrev low : ℕ → ℕ
    low = low_of ranges owners

    abbrev high : ℕ → ℕ
    high = high_of ranges owners

    abbrev total : ℕ
    total = length (rows_of a.front)

    abbrev key : List ℕ
    key = bytes "release="

    still : (vs : List ℕ) → length vs < total → releases_stage total vs ≡ at_release vs
    still vs l = rw (ne_eqb (length vs) total (λ e. omega arith))

    expects : (vs : List ℕ) → length vs < total
        → watch_text.expected (behind a.front (releases_stage total vs)) ≡ a_line key
        (natural (low (length vs)) (high (length vs)))
    expects vs l = rw (still vs l, low_is (length vs), high_is (length vs))

    lets : (vs : List ℕ) → length vs < total → (z : ℤ)
        → watch_text.fault (behind a.front (releases_stage total vs)) z ≡ 0
    lets vs l z = refl

    goes : (vs : List ℕ) → length vs < total → (v : ℕ)
        → watch_text.after (behind a.front (releases_stage total vs)) (pos v)
        ≡ behind a.front (releases_stage total (vs ++ (v ∷ [])))
    goes vs l v = rw (still vs l)

    pub releases_refused : (e : LineRefusal) {m : ℕ} → m ≡ n → Stopped text key low high at k m (Lines.refused e)
        → read watch_text watch_start text ≡ refused (fault_number e.fault) e.line
    releases_refused e same r =
        a.resumes
        ∙ stopped_refused text key low high watch_text (λ xs. behind a.front (releases_stage total xs)) total expects lets
        goes e (omega (arith, same, a.held.count_is)) r

    module _ (vs : List ℕ) (many : length vs ≡ n) (next : ℕ) (told : Told text key low high at k vs next) where
      pub releases_small : (i : ℕ) → i < length vs → get_or vs i 0 ≤ max_release
      releases_small i l = let w = told_within text key low high told i l in omega (arith, w.le_high, high_is i)

      pub releases_then : Resumes text (behind a.front (at_ticks vs)) next (k + n)
      releases_then =
          let all : releases_stage total vs ≡ at_ticks vs = rw (eq-eqb (length vs) total (many ∙ a.held.count_is)) in
          a.resumes
          ∙ (told_resumes text key low high watch_text (λ xs. behind a.front (releases_stage total xs)) total expects lets
          goes told (omega (arith, many, a.held.count_is))
          ∙ ap₂ (λ s j. read_from watch_text text (behind a.front s) next j) all (ap (λ m. k + m) many))

-- ---- the ticks, and how many lengths
module _ {text : List ℕ} {at k : ℕ} {x : Ranking} (a : AtTicks text at k x) where
  pub ticks_refused : (e : LineRefusal) → told (Err e) ≡ line_at (bytes "ticks=") min_ticks max_ticks text at k
      → read watch_text watch_start text ≡ refused (fault_number e.fault) e.line
  ticks_refused e is =
      a.resumes
      ∙ line_refused watch_text text (behind a.front (at_ticks a.releases)) at k (bytes "ticks=") min_ticks
      max_ticks refl (λ z. refl) e (sym is)

  module _ (ticks : Number) (e : told (Ok ticks) ≡ line_at (bytes "ticks=") min_ticks max_ticks text at k) where
    at_count : Resumes text (behind a.front (at_lengths a.releases ticks.value)) ticks.next (k + 1)
    at_count =
        a.resumes
        ∙ (line_number watch_text text (behind a.front (at_ticks a.releases)) at k (bytes "ticks=") min_ticks
        max_ticks refl (λ z. refl) ticks.value ticks.next (sym e)
        ∙ ap (read_from watch_text text (behind a.front (at_lengths a.releases ticks.value)) ticks.next)
        (sym (add-one k)))

    few_ticks : ticks.value ≤ max_ticks
    few_ticks =
        let said = sym (no_test _ _) ∙ sym e in
        (number_within (λ x. 0) (bytes "ticks=") min_ticks max_ticks text at k ticks.value ticks.next said).le_high

    pub count_refused : (e : LineRefusal)
        → told (Err e) ≡ line_at (bytes "lengths=") min_lengths max_lengths text ticks.next (k + 1)
        → read watch_text watch_start text ≡ refused (fault_number e.fault) e.line
    count_refused e is =
        at_count
        ∙ line_refused watch_text text (behind a.front (at_lengths a.releases ticks.value)) ticks.next (k + 1)
        (bytes "lengths=") min_lengths max_lengths refl (λ z. refl) e (sym is)

    module _ (count : Number)
        (c : told (Ok count) ≡ line_at (bytes "lengths=") min_lengths max_lengths text ticks.next (k + 1)) where
      pub count_small : count.value ≤ max_lengths
      count_small =
          let said = sym (no_test _ _) ∙ sym c in
          (number_within (λ x. 0) (bytes "lengths=") min_lengths max_lengths text ticks.next (k + 1) count.value count.next
          said).le_high

      pub at_lengths_then : AtLengths text count.next (k + 2) x ticks.value count.value
      at_lengths_then = record {
        front = a.front;
        releases = a.releases;
        laid = a.laid;
        resumes =
            at_count
            ∙ (line_number watch_text text (behind a.front (at_lengths a.releases ticks.value)) ticks.next (k + 1)
            (bytes "lengths=") min_lengths max_lengths refl (λ z. refl) count.value count.next (sym c)
            ∙ ap (read_from watch_text text (behind a.front (lengths_stage count.value a.releases ticks.value [])) count.next)
            next_line);
        soon = omega (arith, a.soon);
        few_ticks = few_ticks;
        few = count_small;
      } where
        next_line : suc (k + 1) ≡ k + 2
        next_line = omega arith

-- ---- the lengths
module _ {text : List ℕ} {at k : ℕ} {x : Ranking} {ticks count : ℕ} (a : AtLengths text at k x ticks count) where
  abbrev laid : LaidBy a.front a.releases x
  laid = a.laid

  pub mergeable : {owners : List ℕ} → length owners ≡ count → Mergeable owners x.ranks.now
  mergeable many = record {
    some = some_ranks laid;
    few = omega (arith, many, a.few);
    few_ranks = few_ranks laid;
    offset_max = λ j h. laid.offset_max j (omega (arith, laid.ranks_many));
    period_max = period_max laid;
  }

  module _ {owners : List ℕ} (owns : Owns owners x.ranks.now) (many_owners : length owners ≡ count) where
    pub owned : Owned (order laid) (offset laid) owners
    owned = owns.owned (order laid) (offset laid) (released laid)

    pub readable : {lengths : List ℕ} → length lengths ≡ count → Readable k x.ranges.now owners lengths
    readable many = record {
      soon = omega (arith, a.soon, a.few, many);
      as_many = many_owners ∙ sym many;
      owned = λ m l. omega (arith, owns.within m l, laid.ranks_many, laid.ranges_many);
    }

    abbrev best : ℕ → ℕ
    best = low_of x.ranges.now owners

    abbrev most : ℕ → ℕ
    most = high_of x.ranges.now owners

    abbrev stage : List ℕ → WatchStage
    stage vs = behind a.front (lengths_stage count a.releases ticks vs)

    open_still : (vs : List ℕ) → length vs < count
        → lengths_stage count a.releases ticks vs ≡ at_length count a.releases ticks vs
    open_still vs l = rw (ne_eqb (length vs) count (λ e. omega arith))

    -- the range of a length is that of its own job's row
    is_in_range : (m : ℕ) → m < count
        → let r = row_at (order laid) (rank_with (order laid) (offset laid) m) in
        (best m ≡ r.best) × (most m ≡ cost r)
    is_in_range m l =
        let here : m < length owners = omega (arith, many_owners) in
        let rank = rank_of laid (get_or owners m 0) (owns.within m here) in
        let row = ap (row_at (order laid)) (owned m here) in
        (rank.low_is ∙ ap (λ (r : Row). r.best) row, rank.high_is ∙ ap cost row)

    expects_length : (vs : List ℕ) → length vs < count
        → watch_text.expected (stage vs)
        ≡ a_line (bytes "length=") (natural (best (length vs)) (most (length vs)))
    expects_length vs l =
        let w = is_in_range (length vs) l in
        ap (λ s. watch_text.expected (behind a.front s)) (open_still vs l)
        ∙ ap₂ (λ x y. a_line (bytes "length=") (natural x y)) (sym w.0) (sym w.1)

    goes_length : (vs : List ℕ) → length vs < count → (v : ℕ)
        → watch_text.after (stage vs) (pos v) ≡ stage (vs ++ (v ∷ []))
    goes_length vs l v = ap (λ s. watch_text.after (behind a.front s) (pos v)) (open_still vs l)

    pub lengths_refused : (e : LineRefusal) → {n : ℕ} → n ≡ count
        → Stopped text (bytes "length=") best most at k n (Lines.refused e)
        → read watch_text watch_start text ≡ refused (fault_number e.fault) e.line
    lengths_refused e same r =
        a.resumes
        ∙ stopped_refused text (bytes "length=") best most watch_text stage
        count expects_length (λ xs l z. refl) goes_length e (omega (arith, same)) r

    module _ {vs : List ℕ} (many : length vs ≡ count) {next : ℕ}
        (said : Told text (bytes "length=") best most at k vs next) where
      abbrev last : WatchStage
      last = behind a.front (run_end a.releases ticks vs)

      at_last : Resumes text last next (k + length vs)
      at_last =
          let all : lengths_stage count a.releases ticks vs ≡ run_end a.releases ticks vs =
          rw (eq-eqb (length vs) count many) in
          a.resumes
          ∙ (told_resumes text (bytes "length=") best most watch_text stage
          count expects_length (λ xs l z. refl) goes_length said (omega (arith, many))
          ∙ ap (λ s. read_from watch_text text (behind a.front s) next (k + length vs)) all)

      by_end : (l : Line) → l ≡ end_at text next (k + length vs)
          → read watch_text watch_start text
          ≡ on_step (on_answer watch_text last (k + length vs) l) (read_from watch_text text)
      by_end l e =
          at_last
          ∙ (read_steps watch_text text last next (k + length vs)
          ∙ ap (λ y. on_step y (read_from watch_text text))
          (step_end watch_text text last next (k + length vs) refl
          ∙ ap (on_answer watch_text last (k + length vs)) (sym (no_test _ _) ∙ sym e)))

      pub end_refused : (e : LineRefusal) → told_end (Err e) ≡ end_at text next (k + length vs)
          → read watch_text watch_start text ≡ refused (fault_number e.fault) e.line
      end_refused e is = by_end (told_end (Err e)) is

      pub whole : {u : Unit {0}} → told_end (Ok u) ≡ end_at text next (k + length vs) → (room : ℕ)
          → watched text room ≡ run_in_time room (order laid) (offset laid) vs ticks
      whole is room = watched_is text room (accepted last) (by_end L.End is)
