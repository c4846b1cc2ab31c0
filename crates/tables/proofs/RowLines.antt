-- What each line of a row has, has the line at a position in it; and the line at any position, if an empty line past
-- them has it too: whatever the lines are.
use mathlib.Core.Path.{◌≡◌, sym, ap, ◌∙◌}
use mathlib.Core.Bool.{true, false}
use mathlib.Core.List.{List, [], ◌∷◌, ◌++◌}
use mathlib.Core.Logic.{inl, inr}
use Prim.Native.Nat.{ℕ, zero, suc, ◌+◌, ◌-◌, ◌*◌, ◌/◌, ◌%◌, ◌≤◌, ◌<◌}
use native.Mathlib.Omega.{arith}
use lib.Dec.{eqb}
use lib.ListN.{length, get_or, length-append, get_or-append, get_or-eq_default}
use lib.Seq.{get_or_at}
use borrow.Author.Tests.{eqb-true, eqb-false, eq-eqb, ne_eqb}
use Rattle.basics.proofs.Tests.{test_of, le-or-lt}
use Rattle.curves.specs.Curves.{max_points}
use Rattle.rows.specs.Rows.{points_at, first_point_at, lines_for}
use Rattle.rows.specs.inside.Numbers.{line_count}
use Rattle.tables.specs.TableLines.{RowLine, row_line, any_number, next_delay, next_allow, next_points, row_lines}
use Rattle.tables.specs.TableLines.{row_line_at, is_whole}
use Rattle.tables.specs.inside.Partial.{Partial}

abbrev pub Each : (RowLine → Type 0) → List RowLine → Type 0
Each F [] = Unit {0}
Each F (l ∷ ls) = F l × Each F ls

-- the lines of points behind others
pub each_point : (F : RowLine → Type 0) → ((at : ℕ) → F (next_delay at)) → ((at : ℕ) → F (next_allow at)) → (at n : ℕ)
    → Each F (next_points at n)
each_point F d a at zero = tt
each_point F d a at (suc n) = (d at, (a at, each_point F d a (suc (suc at)) n))

module _ (F : RowLine → Type 0) (past : F (row_line [] 0 0 (λ s rs vs. any_number))) where
  among : (ls : List RowLine) → Each F ls → (i : ℕ) → F (get_or ls i (row_line [] 0 0 (λ s rs vs. any_number)))
  among [] h i = past
  among (l ∷ ls) h zero = h.0
  among (l ∷ ls) h (suc i) = among ls h.1 i

  pub at_each : Each F row_lines → (i : ℕ) → F (row_line_at i)
  at_each h i = among row_lines h i

module _ (F : RowLine → Type 0) where
  within : (ls : List RowLine) → Each F ls → (i : ℕ) → i < length ls
      → F (get_or ls i (row_line [] 0 0 (λ s rs vs. any_number)))
  within [] h i l = absurd (omega arith)
  within (r ∷ ls) h zero l = h.0
  within (r ∷ ls) h (suc i) l = within ls h.1 i (omega arith)

  pub at_within : Each F row_lines → (i : ℕ) → i < line_count → F (row_line_at i)
  at_within h i l = within row_lines h i l

-- ---- the line of a point that is not the first
module _ (none : RowLine) where
  delay_among : (at n j : ℕ) → j < n → get_or (next_points at n) (2 * j) none ≡ next_delay (at + 2 * j)
  delay_among at zero j h = absurd (omega arith)
  delay_among at (suc n) zero h = ap next_delay (omega arith)
  delay_among at (suc n) (suc j) h =
      let there : 2 * suc j ≡ suc (suc (2 * j)) = omega arith in
      let same : suc (suc at) + 2 * j ≡ at + 2 * suc j = omega arith in
      ap (λ k. get_or (next_points at (suc n)) k none) there
      ∙ delay_among (suc (suc at)) n j (omega arith) ∙ ap next_delay same

  allow_among : (at n j : ℕ) → j < n → get_or (next_points at n) (suc (2 * j)) none ≡ next_allow (at + 2 * j)
  allow_among at zero j h = absurd (omega arith)
  allow_among at (suc n) zero h = ap next_allow (omega arith)
  allow_among at (suc n) (suc j) h =
      let there : suc (2 * suc j) ≡ suc (suc (suc (2 * j))) = omega arith in
      let same : suc (suc at) + 2 * j ≡ at + 2 * suc j = omega arith in
      ap (λ k. get_or (next_points at (suc n)) k none) there
      ∙ allow_among (suc (suc at)) n j (omega arith) ∙ ap next_allow same

-- the (j + 2)nd point's delay, and its allow
pub delay_at : (i j : ℕ) → i ≡ first_point_at + 2 + 2 * j → j < 7 → row_line_at i ≡ next_delay (first_point_at + 2 * j)
delay_at i j is h =
    ap row_line_at (is ∙ shape) ∙ delay_among (row_line [] 0 0 (λ s rs vs. any_number)) first_point_at 7 j h
  where
    shape : first_point_at + 2 + 2 * j ≡ suc (suc (suc (suc (suc (suc (suc (suc (suc (suc (suc (2 * j)))))))))))
    shape = omega arith

pub allow_at : (i j : ℕ) → i ≡ first_point_at + 3 + 2 * j → j < 7 → row_line_at i ≡ next_allow (first_point_at + 2 * j)
allow_at i j is h =
    ap row_line_at (is ∙ shape) ∙ allow_among (row_line [] 0 0 (λ s rs vs. any_number)) first_point_at 7 j h
  where
    shape : first_point_at + 3 + 2 * j ≡ suc (suc (suc (suc (suc (suc (suc (suc (suc (suc (suc (suc (2 * j))))))))))))
    shape = omega arith

-- ---- one number more of a row's lines: how many points they say
module _ (vs : List ℕ) (v : ℕ) where
  abbrev more : List ℕ
  more = vs ++ (v ∷ [])

  long : length more ≡ suc (length vs)
  long = length-append vs (v ∷ []) ∙ omega arith

  -- none before the line that says it, then what that line says
  points_none : length vs < points_at → get_or more points_at 0 ≡ 0
  points_none h = get_or-eq_default more 0 (omega (arith, long))

  points_said : length vs ≡ points_at → get_or more points_at 0 ≡ v
  points_said h = get_or_at vs v [] 0 points_at h

  points_stay : points_at < length vs → get_or more points_at 0 ≡ get_or vs points_at 0
  points_stay h = get_or-append vs (v ∷ []) 0 points_at h

  pub partial_next : Partial vs → (length vs ≡ points_at → v ≤ max_points) → is_whole more ≡ false → Partial more
  partial_next h few on =
      let differs = eqb-false (length more) (lines_for (get_or more points_at 0)) on in
      elim (le-or-lt points_at (length vs)) [
        | inl l ↦ elim (le-or-lt (length vs) points_at) [
          | inl m ↦
              let here : length vs ≡ points_at = omega arith in
              let said = points_said here in
              record { few = omega (arith, said, few here); more = omega (arith, said, long, differs, here) }
          | inr m ↦
              let stays = points_stay m in
              record { few = omega (arith, stays, h.few); more = omega (arith, stays, long, differs, h.more) }
        ]
        | inr l ↦
            let none = points_none l in
            record { few = omega (arith, none); more = omega (arith, none, long) }
      ]

  pub whole_few : Partial vs → (length vs ≡ points_at → v ≤ max_points) → is_whole more ≡ true
      → (get_or more points_at 0 ≤ max_points) × (length more ≡ lines_for (get_or more points_at 0))
  whole_few h few on =
      let same = eqb-true (length more) (lines_for (get_or more points_at 0)) on in
      elim (le-or-lt points_at (length vs)) [
        | inl l ↦ elim (le-or-lt (length vs) points_at) [
          | inl m ↦ let here : length vs ≡ points_at = omega arith in (omega (arith, points_said here, few here), same)
          | inr m ↦ (omega (arith, points_stay m, h.few), same)
        ]
        | inr l ↦ (omega (arith, points_none l), same)
      ]

  -- ---- whether it is the last
  pub last_before : length vs < points_at → is_whole more ≡ false
  last_before h =
      ne_eqb (length more) (lines_for (get_or more points_at 0)) (λ e. omega (arith, e, long, points_none h, h))

  pub last_points : length vs ≡ points_at → is_whole more ≡ eqb v 0
  last_points h =
      let said = points_said h in
      elim (test_of (eqb v 0)) [
        | inl z ↦
            eq-eqb (length more) (lines_for (get_or more points_at 0)) (omega (arith, long, said, eqb-true v 0 z, h)) ∙ sym z
        | inr z ↦
            ne_eqb (length more) (lines_for (get_or more points_at 0))
            (λ e. omega (arith, e, long, said, eqb-false v 0 z, h)) ∙ sym z
      ]

  pub last_odd : points_at < length vs → (length vs - points_at) % 2 ≡ 1 → is_whole more ≡ false
  last_odd h odd =
      ne_eqb (length more) (lines_for (get_or more points_at 0)) (λ e. omega (arith, e, long, odd, h))

  pub last_even : points_at < length vs → ((length vs - points_at) % 2 ≡ 1 → ⊥)
      → is_whole more ≡ eqb (get_or vs points_at 0) ((length vs - points_at) / 2)
  last_even h even =
      let said = points_stay h in
      elim (test_of (eqb (get_or vs points_at 0) ((length vs - points_at) / 2))) [
        | inl z ↦
            let same = eqb-true (get_or vs points_at 0) ((length vs - points_at) / 2) z in
            eq-eqb (length more) (lines_for (get_or more points_at 0)) (omega (arith, long, said, same, even, h))
            ∙ sym z
        | inr z ↦
            let differ = eqb-false (get_or vs points_at 0) ((length vs - points_at) / 2) z in
            ne_eqb (length more) (lines_for (get_or more points_at 0))
            (λ e. omega (arith, e, long, said, differ, even, h)) ∙ sym z
      ]
