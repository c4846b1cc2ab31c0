-- Rows put among numbers: a row that is put is there and the others stay, so rows put one after another are all there.
use mathlib.Core.Path.{◌≡◌, refl, sym, ap, ap₂, subst, ◌∙◌}
use mathlib.Core.List.{List, [], ◌∷◌, ◌++◌}
use mathlib.Core.Logic.{inl, inr}
use Prim.Native.Nat.{ℕ, ◌+◌, ◌-◌, ◌*◌, ◌≤◌, ◌<◌}
use native.Mathlib.Decide.{ℕ_discrete}
use native.Mathlib.Omega.{arith}
use lib.ListN.{length, get_or, take, drop, replicate, length-append, length-map, get_or-map}
use Rattle.std.proofs.lemmas.List.{get_or_default}
use borrow.Author.Rules.{rules}
use borrow.Rule.Slice.PartMut.{put_mid}
use Rattle.std.proofs.lemmas.List.{places}
use Rattle.std.proofs.lemmas.Slice.{drop-put_mid}
use lib.Seq.{get_or-drop, get_or-append_seam, take-append_seam, drop-append_seam}
use Rattle.basics.proofs.Tests.{le-or-lt}
use Rattle.curves.specs.Curves.{max_points}
use Rattle.rows.specs.declared.Row.{Row as Record}
use Rattle.rows.specs.Rows.{Row, max_tasks, first_point_at, no_row, row_of, row_at}
use Rattle.rows.specs.inside.Numbers.{switch_at, field_count, lines_from, row_from, row_in}
use Rattle.rows.specs.inside.Records.{as_row, as_rows, record_numbers, numbers_room, FewPoints, RowPut, RowsPut}
use Rattle.rows.proofs.RowNumbers.{row_same, rows_are}

-- ---- numbers of a row put together, in an array that is filled with its switch
module _ (ls cs : List ℕ) (s : ℕ) (h : first_point_at ≡ length ls) where
  abbrev filled : List ℕ
  filled = replicate (field_count - first_point_at) s

  pub put_together : put_mid first_point_at (2 * max_points) (ls ++ filled) cs ≡ ls ++ (cs ++ (s ∷ []))
  put_together =
      ap₂ (λ front back. front ++ (cs ++ drop (2 * max_points) back))
      (ap (λ k. take k (ls ++ filled)) h ∙ take-append_seam ls filled)
      (ap (λ k. drop k (ls ++ filled)) h ∙ drop-append_seam ls filled)

-- ---- the numbers of a record make its row
module _ (r : Record) (long : length (record_numbers r) ≡ field_count) where
  abbrev lines : List ℕ
  lines = r.task ∷ r.period ∷ r.deadline ∷ r.worst ∷ r.best ∷ r.alpha ∷ r.beta ∷ r.hold ∷ r.points ∷ []

  many : 2 * max_points ≡ length r.curve
  many = omega (arith, long, length-append r.curve (r.switch ∷ []))

  switch_is : get_or (record_numbers r) switch_at 0 ≡ r.switch
  switch_is =
      ap (λ k. get_or (r.curve ++ (r.switch ∷ [])) k 0) many ∙ get_or-append_seam r.curve r.switch [] 0

  lines_are : lines_from (record_numbers r) ≡ lines ++ r.curve
  lines_are =
      ap (λ k. lines ++ take k (r.curve ++ (r.switch ∷ []))) many
      ∙ ap (λ vs. lines ++ vs) (take-append_seam r.curve (r.switch ∷ []))

  pub numbers_make : row_from (record_numbers r) ≡ as_row r
  numbers_make = ap₂ row_of switch_is lines_are

-- ---- a row put: its numbers stand from the first of its room on
module _ (ns : List ℕ) (i k : ℕ) (now : List ℕ) (fits : field_count * i + field_count ≤ length ns)
    (e : k ≡ field_count) (long : length now ≡ field_count) where
  abbrev pub put : List ℕ
  put = put_mid (field_count * i) k ns now

  here : (d : ℕ) → d < field_count → get_or (drop (field_count * i) put) d 0 ≡ get_or now d 0
  here d l = get_or-drop (field_count * i) put d 0 ∙ search (rules, places)

  before : (j : ℕ) → j < field_count * i → get_or put j 0 ≡ get_or ns j 0
  before j l = search (rules, places)

  others : (j : ℕ) → (j ≡ i → ⊥) → row_in put j ≡ row_in ns j
  others j ne = elim (le-or-lt i j) [
    | inl past ↦
        ap row_from (drop-put_mid (field_count * i) k ns now (field_count * j) (omega (arith, ne)) (omega arith) (omega arith))
    | inr less ↦ row_same (drop (field_count * j) put) (drop (field_count * j) ns) (λ d l.
        get_or-drop (field_count * j) put d 0 ∙ before (field_count * j + d) (omega arith)
        ∙ sym (get_or-drop (field_count * j) ns d 0))
  ]

  all_long : length put ≡ length ns
  all_long = search (rules, places)

  pub row_put : (r : Record) → now ≡ record_numbers r → RowPut ns i (as_row r) put
  row_put r is = record {
    there = λ room h few.
        row_same (drop (field_count * i) put) now here
        ∙ ap row_from is ∙ numbers_make r (omega (arith, ap length is));
    others = others;
    long = all_long;
  }

-- a row for which there is no room
pub row_left : (ns : List ℕ) (i : ℕ) (r : Row) → max_tasks ≤ i → RowPut ns i r ns
row_left ns i r h = record { there = λ room l few. absurd (omega arith); others = λ k ne. refl; long = refl }

-- one row more is put after the others
pub put_next : (ns zs : List ℕ) (rows : List Row) (i : ℕ) → numbers_room ≤ length ns
    → ((k : ℕ) → k < i → k < max_tasks → row_in ns k ≡ row_at rows k)
    → RowPut ns i (row_at rows i) zs → length (row_at rows i).curve ≤ max_points
    → (k : ℕ) → k < i + 1 → k < max_tasks → row_in zs k ≡ row_at rows k
put_next ns zs rows i room each put points k h few = elim (ℕ_discrete k i) [
  | yes e ↦ rw e (put.there room (omega arith) points)
  | no ne ↦ put.others k ne ∙ each k (omega (arith, h, ne)) few
]

-- ---- rows put one after another: those before the index that have room are there
pub record Passed (rows : List Row) (ns₀ : List ℕ) (i : ℕ) (ns : List ℕ) : Type 0 where
  pub long : length ns ≡ length ns₀
  pub there : numbers_room ≤ length ns₀ → FewPoints rows → (k : ℕ) → k < i → k < max_tasks
      → row_in ns k ≡ row_at rows k

pub next_passed : (rs : List Record) (ns₀ : List ℕ) (i : ℕ) (ns zs : List ℕ) (d : Record) → i < length rs
    → Passed (as_rows rs) ns₀ i ns → RowPut ns i (as_row (get_or rs i d)) zs → Passed (as_rows rs) ns₀ (i + 1) zs
next_passed rs ns₀ i ns zs d l p put =
    let same : as_row (get_or rs i d) ≡ row_at (as_rows rs) i =
    sym (get_or-map as_row rs i d) ∙ get_or_default (as_rows rs) i (as_row d) no_row (omega (arith, l, length-map rs as_row)) in record {
      long = put.long ∙ p.long;
      there = λ room few. put_next ns zs (as_rows rs) i (omega (arith, room, p.long)) (p.there room few)
          (subst (λ t. RowPut ns i t zs) same put) (few i (omega (arith, l, length-map rs as_row)));
    }

pub all_passed : (rows : List Row) (ns₀ : List ℕ) (i : ℕ) (ns : List ℕ) → length rows ≤ i → Passed rows ns₀ i ns
    → RowsPut rows ns₀ ns
all_passed rows ns₀ i ns h p = record {
  there = λ room many few. rows_are ns rows (λ k l.
      p.there room few k (omega (arith, h, l)) (omega (arith, many, l)));
  long = p.long;
}
