-- The lines behind a table, as they are read: what they make known of the first releases, the ticks and the lengths,
-- and
-- that they are the text of these numbers.
use mathlib.Core.Path.{◌≡◌, refl, sym, ap, subst, ◌∙◌}
use mathlib.Core.List.{List, [], ◌∷◌, ◌++◌, append_assoc, append-nil}
use mathlib.Core.Logic.{inl, inr}
use Prim.Native.Nat.{ℕ, ◌^◌, ◌≤◌, ◌<◌}
use native.Mathlib.Omega.{arith}
use lib.Dec.{eqb}
use lib.IntN.{ℤ, pos}
use lib.ListN.{length, get_or, length-append, get_or-append}
use lib.Seq.{get_or_at}
use borrow.Author.Tests.{eqb-true, eqb-false, eq-eqb, ne_eqb, lt-ltb}
use Rattle.basics.proofs.Tests.{test_of, le-or-lt, Within}
use Rattle.text.specs.Text.{bytes, decimal, signed, key_line}
use Rattle.text.specs.Lines.{max_digits}
use Rattle.grammars.specs.Forms.{natural, size}
use Rattle.grammars.specs.Grammars.{a_line, Plain}
use Rattle.grammars.specs.Claims.{Writes, done, then}
use Rattle.grammars.specs.Reasons.{Passes, Reaches, begin, line}
use Rattle.grammars.proofs.Naturals.{natural_passes, natural_written, in_range_passes}
use Rattle.grammars.proofs.Steps.{no_line}
use Rattle.rows.specs.Rows.{min_ticks, max_ticks, row_at, rows_for, cost}
use Rattle.rows.specs.Rows.{Row}
use Rattle.tables.specs.Claims.{line_of}
use Rattle.watch_demands.specs.Jobs.{rank_with}
use Rattle.watch_demands.specs.WatchLines.{min_release, max_release, min_lengths, max_lengths, RunStage}
use Rattle.watch_demands.specs.WatchLines.{at_release, at_ticks, at_lengths, at_length, run_end}
use Rattle.watch_demands.specs.WatchLines.{releases_stage, lengths_stage, offset_of, next_row, run_line, run_after}
use Rattle.watch_demands.specs.WatchLines.{run}
use Rattle.watch_demands.specs.Demands.{lengths_text, releases_text, run_lines, AllUpTo, RunLimits}

-- ---- numbers in their limits, one more
up_to_more : (most : ℕ) (vs : List ℕ) (v : ℕ) → AllUpTo most vs → v ≤ most → AllUpTo most (vs ++ (v ∷ []))
up_to_more most vs v all h i l = elim (le-or-lt (length vs) i) [
  | inl b ↦ rw (get_or_at vs v [] 0 i (omega (arith, length-append vs (v ∷ [])))) h
  | inr b ↦ rw (get_or-append vs (v ∷ []) 0 i b) (all i b)
]

-- ---- texts, one line more
releases_join : (vs rest : List ℕ) → releases_text vs rest ≡ releases_text vs [] ++ rest
releases_join [] rest = refl
releases_join (v ∷ vs) rest =
    let this = key_line (bytes "release=") (decimal v) in
    ap (λ x. this ++ x) (releases_join vs rest) ∙ sym (append_assoc this (releases_text vs []) rest)

releases_more : (vs : List ℕ) (v : ℕ)
    → releases_text (vs ++ (v ∷ [])) [] ≡ releases_text vs [] ++ key_line (bytes "release=") (decimal v)
releases_more [] v = append-nil (key_line (bytes "release=") (decimal v))
releases_more (u ∷ vs) v =
    let this = key_line (bytes "release=") (decimal u) in
    ap (λ x. this ++ x) (releases_more vs v)
    ∙ sym (append_assoc this (releases_text vs []) (key_line (bytes "release=") (decimal v)))

lengths_more : (vs : List ℕ) (v : ℕ)
    → lengths_text (vs ++ (v ∷ [])) ≡ lengths_text vs ++ key_line (bytes "length=") (decimal v)
lengths_more [] v = append-nil (key_line (bytes "length=") (decimal v))
lengths_more (u ∷ vs) v =
    let this = key_line (bytes "length=") (decimal u) in
    ap (λ x. this ++ x) (lengths_more vs v)
    ∙ sym (append_assoc this (lengths_text vs) (key_line (bytes "length=") (decimal v)))

-- ---- the text up to a stage
abbrev ticks_line : ℕ → List ℕ
ticks_line t = key_line (bytes "ticks=") (decimal t)

abbrev count_line : ℕ → List ℕ
count_line n = key_line (bytes "lengths=") (decimal n)

abbrev head_of : List ℕ → ℕ → List ℕ
head_of rels t = releases_text rels [] ++ ticks_line t

abbrev so_far : RunStage → List ℕ
so_far (at_release rels) = releases_text rels []
so_far (at_ticks rels) = releases_text rels []
so_far (at_lengths rels t) = head_of rels t
so_far (at_length n rels t ls) = (head_of rels t ++ count_line n) ++ lengths_text ls
so_far (run_end rels t ls) = (head_of rels t ++ count_line (length ls)) ++ lengths_text ls

whole_text : (rels : List ℕ) (t : ℕ) (ls : List ℕ) → so_far (run_end rels t ls) ≡ run_lines rels t ls
whole_text rels t ls =
    let c = count_line (length ls) in
    let l = lengths_text ls in
    append_assoc (head_of rels t) c l
    ∙ (append_assoc (releases_text rels []) (ticks_line t) (c ++ l)
    ∙ sym (releases_join rels (ticks_line t ++ (c ++ l))))

module _ (rows : List Row) (tasks : List ℕ) where
  -- ---- what is known at each stage
  abbrev LengthsIn : List ℕ → List ℕ → Type 0
  LengthsIn rels ls =
      (m : ℕ) → m < length ls
      → let order = rows_for tasks rows in
      let r = row_at order (rank_with order (offset_of rows tasks rels) m) in
      (r.best ≤ get_or ls m 0) × (get_or ls m 0 ≤ cost r)

  pub record Released (rels : List ℕ) : Type 0 where
    pub one_each : length rels ≡ length rows
    pub in_limits_lem : AllUpTo max_release rels

  pub record Ran (rels : List ℕ) (t : ℕ) (ls : List ℕ) : Type 0 where
    pub released : Released rels
    pub ticks : Within min_ticks max_ticks t
    pub few : length ls ≤ max_lengths
    pub lengths_in : LengthsIn rels ls

  abbrev pub Known : RunStage → Type 0
  Known (at_release rels) = (length rels < length rows) × AllUpTo max_release rels
  Known (at_ticks rels) = Released rels
  Known (at_lengths rels t) = Released rels × Within min_ticks max_ticks t
  Known (at_length n rels t ls) = Ran rels t ls × (length ls < n) × (n ≤ max_lengths)
  Known (run_end rels t ls) = Ran rels t ls

  releases_known : (rels : List ℕ) → length rels ≤ length rows → AllUpTo max_release rels
      → Known (releases_stage (length rows) rels) × (so_far (releases_stage (length rows) rels) ≡ releases_text rels [])
  releases_known rels few all = elim (test_of (eqb (length rels) (length rows))) [
    | inl e ↦ rw e (record { one_each = eqb-true (length rels) (length rows) e; in_limits_lem = all }, refl)
    | inr e ↦ rw e ((omega (arith, eqb-false (length rels) (length rows) e), all), refl)
  ]

  lengths_known : (n : ℕ) (rels : List ℕ) (t : ℕ) (ls : List ℕ) → Ran rels t ls → length ls ≤ n → n ≤ max_lengths
      → Known (lengths_stage n rels t ls)
      × (so_far (lengths_stage n rels t ls) ≡ (head_of rels t ++ count_line n) ++ lengths_text ls)
  lengths_known n rels t ls ran few most = elim (test_of (eqb (length ls) n)) [
    | inl e ↦ (
        let is = eqb-true (length ls) n e in
        rw e (ran, ap (λ (m : ℕ). (head_of rels t ++ count_line m) ++ lengths_text ls) is))
    | inr e ↦ rw e ((ran, omega (arith, eqb-false (length ls) n e), most), refl)
  ]

  length_more : (rels ls : List ℕ) (v : ℕ) → LengthsIn rels ls
      → let r = next_row rows tasks rels ls in r.best ≤ v → v ≤ cost r
      → LengthsIn rels (ls ++ (v ∷ []))
  length_more rels ls v all low high m l = elim (le-or-lt (length ls) m) [
    | inl b ↦ (
        let at : length ls ≡ m = omega (arith, length-append ls (v ∷ [])) in
        rw (get_or_at ls v [] 0 m at, sym at) (low, high))
    | inr b ↦ rw (get_or-append ls (v ∷ []) 0 m b) (all m b)
  ]

  -- ---- every number that passes keeps it, and adds its line
  abbrev Adds : RunStage → List ℕ → ℤ → Type 0
  Adds t key z =
      Known (run_after rows tasks t (size z))
      × (so_far (run_after rows tasks t (size z)) ≡ so_far t ++ key_line key (signed z))

  adds : (t : RunStage) (key : List ℕ) (z : ℤ) → Known t → Passes (run rows tasks) t key z → Adds t key z
  adds (at_release rels) key z h p =
      let in_limits_lem = natural_passes p (bytes "release=") min_release max_release refl in
      let written = natural_written p (bytes "release=") min_release max_release refl in
      let more = rels ++ (size z ∷ []) in
      let x = releases_known more (omega (arith, length-append rels (size z ∷ []), h.0))
      (up_to_more max_release rels (size z) h.1 in_limits_lem.le_high) in
      (x.0, x.1 ∙ (releases_more rels (size z) ∙ ap (λ y. releases_text rels [] ++ y) (sym written)))
  adds (at_ticks rels) key z h p =
      let in_limits_lem = natural_passes p (bytes "ticks=") min_ticks max_ticks refl in
      let written = natural_written p (bytes "ticks=") min_ticks max_ticks refl in
      ((h, in_limits_lem), ap (λ y. releases_text rels [] ++ y) (sym written))
  adds (at_lengths rels t) key z h p =
      let in_limits_lem = natural_passes p (bytes "lengths=") min_lengths max_lengths refl in
      let written = natural_written p (bytes "lengths=") min_lengths max_lengths refl in
      let none : Ran rels t [] =
      record { released = h.0; ticks = h.1; few = omega arith; lengths_in = λ m l. absurd (omega arith) } in
      let x = lengths_known (size z) rels t [] none (omega arith) in_limits_lem.le_high in (
        x.0,
        x.1 ∙ (append-nil (head_of rels t ++ count_line (size z)) ∙ ap (λ y. head_of rels t ++ y) (sym written)),
      )
  adds (at_length n rels t ls) key z h p =
      let r = next_row rows tasks rels ls in
      let in_limits_lem = natural_passes p (bytes "length=") r.best (cost r) refl in
      let written = natural_written p (bytes "length=") r.best (cost r) refl in
      let more = ls ++ (size z ∷ []) in
      let long = length-append ls (size z ∷ []) in
      let ran : Ran rels t more = record {
        released = h.0.released;
        ticks = h.0.ticks;
        few = omega (arith, long, h.1, h.2);
        lengths_in = length_more rels ls (size z) h.0.lengths_in in_limits_lem.low_le in_limits_lem.le_high;
      } in
      let x = lengths_known n rels t more ran (omega (arith, long, h.1)) h.2 in
      let front = head_of rels t ++ count_line n in (
        x.0,
        x.1
            ∙ (ap (λ y. front ++ y) (lengths_more ls (size z))
            ∙ (sym (append_assoc front (lengths_text ls) (key_line (bytes "length=") (decimal (size z))))
            ∙ ap (λ y. (front ++ lengths_text ls) ++ y) (sym written))),
      )
  adds (run_end rels t ls) key z h p = no_line (sym p.is_expected)

  pub start_known : Known (releases_stage (length rows) [])
  start_known = (releases_known [] (omega arith) (λ i l. absurd (omega arith))).0

  -- ---- so along the lines of a text
  along : {text : List ℕ} {k : ℕ} {t : RunStage} {here : List ℕ}
      → Reaches (run rows tasks) (releases_stage (length rows) []) text k t here
      → Known t × (text ≡ so_far t ++ here)
  along {text} begin =
      let x = releases_known [] (omega arith) (λ i l. absurd (omega arith)) in
      (x.0, sym (ap (λ y. y ++ text) x.1))
  along (line {s = t} key z rest r p is) =
      let x = along r in
      let y = adds t key z x.0 p in (
        y.0,
        x.1
            ∙ (ap (λ w. so_far t ++ w) is
            ∙ (sym (append_assoc (so_far t) (key_line key (signed z)) rest) ∙ ap (λ w. w ++ rest) (sym y.1))),
      )

  pub run_told : {text : List ℕ} {k : ℕ} {rels : List ℕ} {t : ℕ} {ls : List ℕ}
      → Reaches (run rows tasks) (releases_stage (length rows) []) text k (run_end rels t ls) []
      → RunLimits rows tasks rels t ls × (text ≡ run_lines rels t ls)
  run_told {rels = rels} {t = t} {ls = ls} r =
      let x = along r in
      let ran = x.0 in (
        record {
          as_many = ran.released.one_each;
          releases_in = ran.released.in_limits_lem;
          some_ticks = ran.ticks.low_le;
          few_ticks = ran.ticks.le_high;
          few_lengths = ran.few;
          lengths_in = ran.lengths_in;
        },
        x.1 ∙ (append-nil (so_far (run_end rels t ls)) ∙ whole_text rels t ls),
      )

  -- ---- and each run in its limits is written so: a number passes where it stands
  put : {st : RunStage} {key : List ℕ} {low high v : ℕ} {rest : List ℕ} {u : RunStage}
      → run_line rows tasks st ≡ a_line key (natural low high) → high < 10 ^ max_digits → low ≤ v → v ≤ high
      → Writes (run rows tasks) (run_after rows tasks st v) rest u
      → Writes (run rows tasks) st (key_line key (decimal v) ++ rest) u
  unfolding signed
  put {key = key} {low = low} {high = high} {v = v} x short l h w =
      then key (pos v) (in_range_passes low high v x (lt-ltb high (10 ^ max_digits) short) l h refl) w

  module _ (rels : List ℕ) (t : ℕ) (ls : List ℕ) (ok : RunLimits rows tasks rels t ls)
      (small : (i : ℕ) → cost (row_at (rows_for tasks rows) i) ≤ max_ticks) where
    abbrev end : RunStage
    end = run_end rels t ls

    lengths_written : (before after : List ℕ) → before ++ after ≡ ls
        → Writes (run rows tasks) (lengths_stage (length ls) rels t before) (lengths_text after) end
    lengths_written before [] e =
        let all : before ≡ ls = sym (append-nil before) ∙ e in
        subst (λ x. Writes (run rows tasks) (lengths_stage (length ls) rels t x) [] end) (sym all)
        (rw (eq-eqb (length ls) (length ls) refl) (done refl))
    lengths_written before (v ∷ after) e =
        let long = length-append before (v ∷ after) in
        let few : length before < length ls = omega (arith, ap length e) in
        let here : lengths_stage (length ls) rels t before ≡ at_length (length ls) rels t before =
        rw (ne_eqb (length before) (length ls) (λ x. omega arith)) in
        let is : get_or ls (length before) 0 ≡ v =
        ap (λ (vs : List ℕ). get_or vs (length before) 0) (sym e) ∙ get_or_at before v after 0 (length before) refl in
        let limit = ok.lengths_in (length before) few in
        let next = lengths_written (before ++ (v ∷ [])) after (append_assoc before (v ∷ []) after ∙ e) in
        subst (λ x. Writes (run rows tasks) x (lengths_text (v ∷ after)) end) (sym here)
        (put refl (omega (arith, small (rank_with (rows_for tasks rows) (offset_of rows tasks rels) (length before))))
        (omega (arith, limit.0, is)) (omega (arith, limit.1, is)) next)

    releases_written : (before after : List ℕ) → before ++ after ≡ rels
        → Writes (run rows tasks) (releases_stage (length rows) before)
        (releases_text after (line_of "ticks=" t (line_of "lengths=" (length ls) (lengths_text ls)))) end
    releases_written before [] e =
        let all : before ≡ rels = sym (append-nil before) ∙ e in
        let rest = line_of "ticks=" t (line_of "lengths=" (length ls) (lengths_text ls)) in
        subst (λ x. Writes (run rows tasks) (releases_stage (length rows) x) rest end) (sym all)
        (rw (eq-eqb (length rels) (length rows) ok.as_many)
        (put refl (omega arith) ok.some_ticks ok.few_ticks
        (put refl (omega arith) (omega arith) ok.few_lengths (lengths_written [] ls refl))))
    releases_written before (v ∷ after) e =
        let rest = line_of "ticks=" t (line_of "lengths=" (length ls) (lengths_text ls)) in
        let long = length-append before (v ∷ after) in
        let few : length before < length rels = omega (arith, ap length e) in
        let here : releases_stage (length rows) before ≡ at_release before =
        rw (ne_eqb (length before) (length rows) (λ x. omega (arith, ok.as_many))) in
        let is : get_or rels (length before) 0 ≡ v =
        ap (λ (vs : List ℕ). get_or vs (length before) 0) (sym e) ∙ get_or_at before v after 0 (length before) refl in
        let next = releases_written (before ++ (v ∷ [])) after (append_assoc before (v ∷ []) after ∙ e) in
        subst (λ x. Writes (run rows tasks) x (releases_text (v ∷ after) rest) end) (sym here)
        (put refl (omega arith) (omega arith) (omega (arith, ok.releases_in (length before) few, is)) next)

    pub run_written : Writes (run rows tasks) (releases_stage (length rows) []) (run_lines rels t ls) end
    run_written = releases_written [] rels refl

  pub run_plain : Plain (run rows tasks)
  run_plain (at_release rels) = refl
  run_plain (at_ticks rels) = refl
  run_plain (at_lengths rels t) = refl
  run_plain (at_length n rels t ls) = refl
  run_plain (run_end rels t ls) = refl
