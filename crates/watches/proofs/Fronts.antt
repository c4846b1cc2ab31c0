-- The table at the front of a text, line by line: a line that the table's reader takes is the text's own step, where a
-- hold has been seen to be 0; and behind its last line stands a table that the reviewer takes.
use mathlib.Core.Path.{◌≡◌, refl, sym, ap, ap₂, subst, ◌∙◌}
use mathlib.Core.Bool.{Bool, true, false}
use mathlib.Core.List.{List, []}
use mathlib.Core.Logic.{inl, inr}
use Prim.Native.Nat.{ℕ, zero, suc, ◌+◌, ◌≤◌, ◌<◌}
use native.Mathlib.Omega.{arith}
use lib.Dec.{eqb}
use lib.IntN.{ℤ, pos}
use lib.ListN.{length, take, drop, length-drop}
use lib.Seq.{length-take-le}
use borrow.Author.Tests.{eqb-true, eq-eqb}
use Rattle.basics.specs.Basics.{within, is_in}
use Rattle.basics.proofs.Tests.{test_of, true_not_false, within_true, true_within}
use Rattle.text.specs.Text.{bytes, line_feed}
use Rattle.text.specs.Lines.{fault_number, line_at}
use Rattle.text.proofs.Lines as T
use Rattle.std.specs.Prelude.{Result, Ok, Err, MatchResult}
use Rattle.text.specs.Line.{Line}
use Rattle.text.specs.Line as L
use Rattle.text.specs.Lines.{told}
use Rattle.text.specs.declared.LineRefusal.{LineRefusal}
use Rattle.text.specs.declared.Number.{Number}
use Rattle.grammars.specs.Forms.{Form, natural, Told, number, no_number, plainly, form_at}
use Rattle.grammars.specs.Grammars.{a_line, refused, Step}
use Rattle.grammars.specs.Grammars.{stops, on_fault, on_told, on_expected, step}
use Rattle.grammars.specs.Grammars.{read, read_from}
use Rattle.grammars.specs.Reasons.{Reaches, begin}
use Rattle.grammars.specs.Sequences.{first, second, onward}
use Rattle.grammars.specs.inside.Readers.{Takes, Refuses}
use Rattle.grammars.proofs.Steps.{not_both}
use Rattle.grammars.specs.inside.Answers.{tested, on_answer}
use Rattle.grammars.proofs.Naturals.{step_line}
use Rattle.grammars.proofs.Loops as Loops
use Rattle.rows.specs.Rows.{min_hold, max_hold, hold_at, row_at}
use Rattle.tables.specs.TableLines.{Stage, at-end, expected, table, row_line_at}
use Rattle.tables.specs.TableLines.{TableRead}
use Rattle.readers.specs.declared.progress.Part.{Part}
use Rattle.readers.specs.declared.progress.Part.TheVariants as P
use Rattle.readers.specs.declared.progress.Stand.{Stand}
use Rattle.readers.specs.declared.progress.Progress.{Progress}
use Rattle.readers.specs.inside.Numbers.{Room, row_start}
use Rattle.readers.specs.inside.Stands.{is_end, begun, read_by, stage_in, stage_of, reader, On, TakesLine}
use Rattle.tables.proofs.Readings as Tables
use Rattle.readers.proofs.Tables.{end_in, shown_end, in_numbers, few, ranks_held, ranks_small}
use Rattle.readers.proofs.Turns as Turns
use Rattle.readers.proofs.Steps.{line_small}
use Rattle.watch_demands.specs.WatchLines.{no_hold, unheld_line, unheld, releases_stage, run_begins}
use Rattle.watch_demands.specs.WatchLines.{WatchStage, watch_text, watch_start}
use Rattle.watch_demands.proofs.Texts.{watch_plain, table_front, tells_table, no_holds}
use Rattle.watches.specs.inside.Stages.{AtReleases}
use Rattle.watches.specs.inside.Fronts.{at_hold, front, OnFront, TakesUnheld}
use Rattle.grammars.proofs.Reached.{step_reaches}

-- ---- a line of the table, and the text's
-- where both answer the same, what the table's reader makes of it is what the text's reader does
module _ (text : List ℕ) (s : Stage) (at k : ℕ) (x : Progress × List ℕ) where
  abbrev Theirs : Type 0
  Theirs = Takes reader (On true text) (step (table true) text s at k) x

  abbrev Mine : Type 0
  Mine = Takes front (OnFront text) (step watch_text text (first s) at k) x

  module _ (reached : Reaches watch_text watch_start text k (first s) (drop at text)) where
    by_fault : (z : ℤ) (next n : ℕ) → step watch_text text (first s) at k ≡ on_fault watch_text (first s) z next k n
        → Takes reader (On true text) (on_fault (table true) s z next k n) x
        → Takes front (OnFront text) (on_fault watch_text (first s) z next k n) x
    by_fault z next zero e w =
        let t = onward unheld run_begins (unheld.after s z) in
        let there = step_reaches watch_text watch_plain watch_start text (first s) at k reached t next (suc k) e in
        let shows = ap (onward unheld run_begins) w.shows in
        record {
          shows = shows;
          stands = (w.stands, rw (w.line, w.offset, shows) there);
          line = w.line;
          offset = w.offset;
        }
    by_fault z next (suc n) e t = t

    by_told : (a : Told) → step watch_text text (first s) at k ≡ on_told watch_text (first s) k a
        → Takes reader (On true text) (on_told (table true) s k a) x
        → Takes front (OnFront text) (on_told watch_text (first s) k a) x
    by_told (number z next) e t = by_fault z next ((table true).fault s z) e t
    by_told (no_number n) e t = t

    pub takes_alike : (a : Told) → step watch_text text (first s) at k ≡ on_told watch_text (first s) k a
        → step (table true) text s at k ≡ on_told (table true) s k a → Theirs → Mine
    takes_alike a mine theirs t =
        subst (λ y. Takes front (OnFront text) y x) (sym mine)
        (by_told a mine (subst (λ y. Takes reader (On true text) y x) theirs t))

-- and what is refused there is refused here
module _ (text : List ℕ) (s : Stage) (at k : ℕ) (e : LineRefusal) where
  stopped_by : (z : ℤ) (next n : ℕ) → Refuses (on_fault (table true) s z next k n) e
      → Refuses (on_fault watch_text (first s) z next k n) e
  stopped_by z next zero is = not_both (sym is)
  stopped_by z next (suc n) is =
      let number_is : suc n ≡ fault_number e.fault = cc in
      let line_is : k ≡ e.line = cc in
      ap₂ (λ m j. stops (refused m j)) number_is line_is

  stopped_at : (a : Told) → Refuses (on_told (table true) s k a) e → Refuses (on_told watch_text (first s) k a) e
  stopped_at (number z next) is = stopped_by z next ((table true).fault s z) is
  stopped_at (no_number n) is =
      let number_is : n ≡ fault_number e.fault = cc in
      let line_is : k ≡ e.line = cc in
      ap₂ (λ m j. stops (refused m j)) number_is line_is

  pub refuses_alike : (a : Told) → step watch_text text (first s) at k ≡ on_told watch_text (first s) k a
      → step (table true) text s at k ≡ on_told (table true) s k a
      → Refuses (step (table true) text s at k) e → Refuses (step watch_text text (first s) at k) e
  refuses_alike a mine theirs is = mine ∙ stopped_at a (sym theirs ∙ is)

-- ---- a number from 0 to 0 is one of every wider range
other : {A : Type 0} {n k v next : ℕ} → L.Refused n k ≡ L.Number v next → A
other e = let z : ◌≡◌ {A = ℕ} 0 1 = cc in absurd (omega arith)

module _ (key : List ℕ) (plain : is_in line_feed key ≡ false) (high : ℕ) (text : List ℕ) (at k v next : ℕ) where
  pub line_wider : line_at key 0 0 text at k ≡ L.Number v next → line_at key 0 high text at k ≡ L.Number v next
  line_wider e =
      elim (T.says key plain (drop at text)) [
        | T.nothing none ↦ other (sym (T.line_missing key plain 0 0 text at k none) ∙ e)
        | T.no_number value rest is h none ↦
            other (sym (T.line_malformed key plain 0 0 text at k value rest is h none) ∙ e)
        | T.number u rest is short ↦ elim (test_of (within 0 0 u)) [
          | inl t ↦ (
              let w = within_true 0 0 u t in
              let wide = true_within 0 high u (omega arith) (omega (arith, w.le_high)) in
              T.line_number key plain 0 high text at k u rest is short wide
              ∙ (sym (T.line_number key plain 0 0 text at k u rest is short t) ∙ e))
          | inr t ↦ other (sym (T.line_outside key plain 0 0 text at k u rest is short t) ∙ e)
        ]
      ]

-- ---- the line that is expected where the code stands
-- the table's own; or a hold, which is to be 0
pub data Line-here (s : Stage) : Bool → Type 0 where
  own : (key : List ℕ) (form : Form) → unheld_line s ≡ a_line key form → expected s ≡ a_line key form → Line-here s false
  a_hold : unheld_line s ≡ a_line (bytes "hold=") (natural no_hold no_hold)
      → expected s ≡ a_line (bytes "hold=") (natural min_hold max_hold)
      → Line-here s true

line_in_lem : (p : Part) (s : Stand) (ns : List ℕ) → read_by p s ≤ length ns → is_end p ≡ false
    → Line-here (stage_in p s (take (read_by p s) ns)) (at_hold p s.position)
line_in_lem P.Board s ns long unended = own _ _ refl refl
line_in_lem P.Tasks s ns long unended = own _ _ refl refl
line_in_lem P.Switch s ns long unended = own _ _ refl refl
line_in_lem P.Rank s ns long unended = own _ _ refl refl
line_in_lem P.End s ns long unended = absurd (true_not_false true refl unended)
line_in_lem P.Row s ns long unended =
    let ws = take (row_start s.count + s.position) ns in
    let vs = drop (row_start s.count) ws in
    let many : length vs ≡ s.position =
    omega (arith, length-drop (row_start s.count) ws, length-take-le (row_start s.count + s.position) ns long) in
    let table_line = ap (λ (i : ℕ). let l = row_line_at i in a_line l.key (natural l.low l.high)) in
    elim (test_of (eqb s.position hold_at)) [
      | inl e ↦ (
          let at : length vs ≡ hold_at = many ∙ eqb-true s.position hold_at e in
          subst (Line-here _) (sym e) (a_hold (rw (eq-eqb (length vs) hold_at at)) (table_line at)))
      | inr e ↦ subst (Line-here _) (sym e) (own _ _ (rw (ap (λ (i : ℕ). eqb i hold_at) many ∙ e)) refl)
    ]

-- ---- a line that is taken
module _ (text : List ℕ) (p : Progress) (ns : List ℕ) (on : OnFront text (p, ns))
    (unended : is_end p.stand.part ≡ false)
  where
    abbrev stage : Stage
    stage = stage_of p.stand ns

    pub line_here : Line-here stage (at_hold p.stand.part p.stand.position)
    line_here = line_in_lem p.stand.part p.stand ns on.0.1.long unended

    -- behind no line stands the run yet
    first_still : {b : Bool} → Line-here stage b → front.shows (p, ns) ≡ first stage
    first_still (own key form mine theirs) = rw mine
    first_still (a_hold mine theirs) = rw mine

    at_first : {b : Bool} → Line-here stage b
        → Reaches watch_text watch_start text p.line (first stage) (drop p.offset text)
    at_first l =
        subst (λ w. Reaches watch_text watch_start text p.line w (drop p.offset text)) (first_still l) on.1

    abbrev theirs_here : Step Stage
    theirs_here = step (table true) text stage p.offset p.line

    abbrev mine_here : Step WatchStage
    mine_here = step watch_text text (first stage) p.offset p.line

    -- what comes of the line by the table's reader, and by the text's
    abbrev Theirs-of : Result Progress LineRefusal → List ℕ → Type 0
    Theirs-of r ms = MatchResult r (λ q. Takes reader (On true text) theirs_here (q, ms)) (Refuses theirs_here)

    abbrev Mine-of : Result Progress LineRefusal → List ℕ → Type 0
    Mine-of r ms = MatchResult r (λ q. Takes front (OnFront text) mine_here (q, ms)) (Refuses mine_here)

    to_mine : {b : Bool} → Line-here stage b → (r : Result Progress LineRefusal) (ms : List ℕ) → Mine-of r ms
        → TakesUnheld p text ns r ms
    to_mine l (Ok q) ms t =
        subst (λ w. Takes front (OnFront text) (step watch_text text w p.offset p.line) (q, ms)) (sym (first_still l)) t
    to_mine l (Err e) ms t =
        subst (λ w. Refuses (step watch_text text w p.offset p.line) e) (sym (first_still l)) t

    theirs_is : (r : Result Progress LineRefusal) (ms : List ℕ) → TakesLine p text ns r ms → Theirs-of r ms
    theirs_is (Ok q) ms t =
        subst (λ b. Takes reader (On b text) (step (table b) text stage p.offset p.line) (q, ms)) on.0.0 t
    theirs_is (Err e) ms t = subst (λ b. Refuses (step (table b) text stage p.offset p.line) e) on.0.0 t

    alike : {b : Bool} → Line-here stage b → (a : Told) → mine_here ≡ on_told watch_text (first stage) p.line a
        → theirs_here ≡ on_told (table true) stage p.line a
        → (r : Result Progress LineRefusal) (ms : List ℕ) → Theirs-of r ms → Mine-of r ms
    alike l a mine theirs (Ok q) ms t =
        takes_alike text stage p.offset p.line (q, ms) (at_first l) a mine theirs t
    alike l a mine theirs (Err e) ms t = refuses_alike text stage p.offset p.line e a mine theirs t

    module _ (r : Result Progress LineRefusal) (ms : List ℕ) (t : TakesLine p text ns r ms) where
      -- where it is the table's own line
      pub takes_own : at_hold p.stand.part p.stand.position ≡ false → TakesUnheld p text ns r ms
      takes_own none = go (subst (Line-here stage) none line_here)
        where
          go : Line-here stage false → TakesUnheld p text ns r ms
          go (own key form mine theirs) =
              let here = own key form mine theirs in
              to_mine here r ms
              (alike here (form_at key form text p.offset p.line)
              (ap (on_expected watch_text text (first stage) p.offset p.line) mine)
              (ap (on_expected (table true) text stage p.offset p.line) theirs) r ms (theirs_is r ms t))

      -- where it is a hold, and that is 0
      pub takes_no_hold : at_hold p.stand.part p.stand.position ≡ true → (n : Number)
          → told (Ok n) ≡ line_at (bytes "hold=") no_hold no_hold text p.offset p.line → TakesUnheld p text ns r ms
      unfolding form_at
      takes_no_hold at n e = go (subst (Line-here stage) at line_here)
        where
          go : Line-here stage true → TakesUnheld p text ns r ms
          go (a_hold mine theirs) =
              let here = a_hold mine theirs in
              let a = number (pos n.value) n.next in
              let wide = line_wider (bytes "hold=") refl max_hold text p.offset p.line n.value n.next (sym e) in
              to_mine here r ms
              (alike here a
              (ap (on_expected watch_text text (first stage) p.offset p.line) mine
              ∙ ap (λ l. on_told watch_text (first stage) p.line (plainly l)) (sym e))
              (ap (on_expected (table true) text stage p.offset p.line) theirs
              ∙ ap (λ l. on_told (table true) stage p.line (plainly l)) wide) r ms (theirs_is r ms t))

    -- where it is refused
    abbrev fault_here : ℕ → ℕ
    fault_here v = watch_text.fault (first stage) (pos v)

    pub refuses_hold : at_hold p.stand.part p.stand.position ≡ true → (e : LineRefusal)
        → told (Err e) ≡ line_at (bytes "hold=") no_hold no_hold text p.offset p.line
        → TakesUnheld p text ns (Err e) ns
    refuses_hold at e is = go (subst (Line-here stage) at line_here)
      where
        go : Line-here stage true → TakesUnheld p text ns (Err e) ns
        go (a_hold mine theirs) =
            to_mine (a_hold mine theirs) (Err e) ns
            (step_line watch_text text (first stage) p.offset p.line (bytes "hold=") no_hold no_hold mine
            ∙ ap (λ l. on_answer watch_text (first stage) p.line (tested fault_here l p.line)) (sym is))

-- ---- the loop
module _ (text : List ℕ) where
  abbrev pub Standing : Progress → List ℕ → Type 0
  Standing p ns = Loops.Going front (OnFront text) watch_text watch_start text (p, ns)

  abbrev pub left_of : Progress → List ℕ → ℕ
  left_of p ns = Loops.left_at front text (p, ns)

  pub front_begins : (ns : List ℕ) → Room text ns → Standing (begun true) ns
  front_begins ns room = record { stands = ((Turns.begins true text ns room).stands, begin); same = refl }

  module _ {p : Progress} {ns : List ℕ} (here : Standing p ns) where
    pub front_turn : (q : Progress) (ms : List ℕ) → TakesUnheld p text ns (Ok q) ms
        → Standing q ms × (left_of q ms < left_of p ns)
    front_turn q ms t = Loops.turn here (q, ms) t

    pub front_stop : (e : LineRefusal) (ms : List ℕ) → TakesUnheld p text ns (Err e) ms
        → read watch_text watch_start text ≡ refused (fault_number e.fault) e.line
    front_stop e ms t = Loops.refused_at here e t

    -- ---- behind its last line
    at_end_shows : (s : Stand) (ns : List ℕ) → s.part ≡ P.End → read_by s.part s ≤ length ns
        → (stage_of s ns ≡ end_in s ns) × (row_start s.count + s.position ≤ length ns)
    at_end_shows s ns e long = shown_end s.part s ns long (rw e)

    pub front_read : p.stand.part ≡ P.End → AtReleases text p.offset p.line ns p.stand.count
    front_read e =
        let s = p.stand in
        let on = here.stands.0.1 in
        let shown = at_end_shows s ns e on.long in
        let shows : front.shows (p, ns) ≡ second (end_in s ns) (run_begins (end_in s ns)) =
        ap (onward unheld run_begins) shown.0 in
        let reached = subst (λ w. Reaches watch_text watch_start text p.line w (drop p.offset text)) shows
        here.stands.1 in
        let front_text = (table_front reached).front in
        let is = (Tables.read true front_text).accepts _ _ _ (tells_table reached) in
        let small = line_small text p.offset s p.line ns on in
        let held = in_numbers true front_text s ns shown.1 is in
        record {
          front = front_text;
          table = record {
            ok = rw is;
            none_holds =
                subst (λ (a : TableRead). (i : ℕ) → i < length a.rows → (row_at a.rows i).hold ≡ 0) (sym is) (no_holds reached);
          };
          held = held;
          few = few held;
          ranks_held = ranks_held held;
          ranks_small = ranks_small held;
          resumes =
              here.same
              ∙ ap (λ w. read_from watch_text text w p.offset p.line)
              (shows ∙ sym (ap (λ (a : TableRead). second (at-end a.board a.rows a.order)
              (releases_stage (length a.rows) [])) is));
          soon = omega (arith, small);
        }
