-- The rows of a set gathered, one row of the table after another: after j rows the loads of the set's rows among them
-- stand at the front.
use mathlib.Core.Path.{◌≡◌, refl, sym, ap, ◌∙◌}
use mathlib.Core.Bool.{Bool, true}
use mathlib.Core.List.{List, [], ◌∷◌, ◌++◌, map, append-nil}
use Prim.Native.Nat.{ℕ, zero, suc, ◌+◌, ◌/◌, ◌%◌, ◌^◌, ◌≤◌, ◌<◌}
use native.Mathlib.Decide.{ℕ_discrete}
use native.Mathlib.Nat.{add-zero}
use native.Mathlib.Numerals.{add-one}
use native.Mathlib.Omega.{arith}
use borrow.Author.Tests.{eq-eqb, ne_eqb}
use lib.Dec.{eqb}
use lib.ListN.{length, take, set, length-append}
use lib.Seq.{take_all, take-set-le, take-suc-set}
use Rattle.basics.proofs.Tests.{and_both}
use Rattle.rows.specs.Rows.{Row, all_rows, row_at}
use Rattle.rows.proofs.Limits.{head_passes, tail_passes}
use Rattle.responses.specs.declared.Load.{Load}
use Rattle.responses.specs.Figures.{worst_load, best_load}
use Rattle.search.specs.inside.Sets.{keep, with_bit, members}
use Rattle.search.specs.inside.Search.{Gathered}
use Rattle.search.proofs.Sets.{halved_after, before_next}

-- ---- the members of a set, and the others
pub some_pass : (f : Row → Bool) (b m : ℕ) (rs : List Row) → all_rows f rs ≡ true → all_rows f (with_bit b m rs) ≡ true
some_pass f b m [] h = refl
some_pass f b m (r ∷ rs) h =
    let ih = some_pass f b (m / 2) rs (tail_passes f r rs h) in
    elim (ℕ_discrete (m % 2) b) [
      | yes e ↦ rw (eq-eqb (m % 2) b e) (and_both (f r) (all_rows f (with_bit b (m / 2) rs)) (head_passes f r rs h) ih)
      | no n ↦ rw (ne_eqb (m % 2) b n) ih
    ]

-- ---- a load that is put behind those at the front: it is the last where it counts, and else changes nothing
loads_last : (f : Row → Load) (rs : List Row) (r : Row) → map f (rs ++ (r ∷ [])) ≡ map f rs ++ (f r ∷ [])
loads_last f [] r = refl
loads_last f (q ∷ rs) r = ap (λ ls. f q ∷ ls) (loads_last f rs r)

module _ (f : Row → Load) (rows : List Row) (r : Row) (places : List Load) (count : ℕ) (x : Load) (is : x ≡ f r)
    (here : take count places ≡ map f rows) (room : count < length places) where
  put_over : take count (set places count x) ≡ map f rows
  put_over = take-set-le count places count x (omega arith) ∙ here

  put_last : take (suc count) (set places count x) ≡ map f (rows ++ (r ∷ []))
  put_last =
      take-suc-set places count x room
      ∙ ap (λ ls. ls ++ (x ∷ [])) here
      ∙ ap (λ l. map f rows ++ (l ∷ [])) is
      ∙ sym (loads_last f rows r)

  -- it counts if its bit b is set
  pub put_one : (b : ℕ) → b < 2 → take (count + b) (set places count x) ≡ map f (rows ++ keep (eqb b 1) r [])
  put_one zero h = rw (add-zero count, append-nil rows) put_over
  put_one (suc zero) h = rw (add-one count) put_last
  put_one (suc (suc b)) h = absurd (omega arith)

keep_long : (r : Row) (b : ℕ) → b < 2 → length (keep (eqb b 1) r []) ≡ b
keep_long r zero h = refl
keep_long r (suc zero) h = refl
keep_long r (suc (suc b)) h = absurd (omega arith)

-- ---- how far the gathering has come
pub record Gathering (table : List Row) (m : ℕ) (worst best : List Load) (count rest j : ℕ) : Type 0 where
  pub few : count ≤ j
  pub passed : j ≤ length table
  pub rest-is : rest ≡ m / 2 ^ j
  pub counted : length (members m (take j table)) ≡ count
  pub worst_is : take count worst ≡ map worst_load (members m (take j table))
  pub best_is : take count best ≡ map best_load (members m (take j table))

pub gathering_none : (table : List Row) (m : ℕ) (worst best : List Load) → Gathering table m worst best 0 m 0
gathering_none table m worst best = record {
  few = omega arith;
  passed = omega arith;
  rest-is = omega arith;
  counted = refl;
  worst_is = refl;
  best_is = refl;
}

module _ {table : List Row} {m : ℕ} {worst best : List Load} {count rest j : ℕ}
    (g : Gathering table m worst best count rest j) where
  -- row j is put behind the others: it counts if its bit is set
  pub gathering_next : (w b : Load) → j < length table → count < length worst → count < length best
      → w ≡ worst_load (row_at table j) → b ≡ best_load (row_at table j)
      → Gathering table m (set worst count w) (set best count b) (count + rest % 2) (rest / 2) (suc j)
  gathering_next w b more in_worst in_best w_is b_is =
      let bit : rest % 2 < 2 = omega arith in
      let before = members m (take j table) in
      let row = row_at table j in
      let rows : members m (take (suc j) table) ≡ before ++ keep (eqb (rest % 2) 1) row [] =
      before_next 1 table j m (omega arith)
      ∙ sym (ap (λ (k : ℕ). before ++ keep (eqb (k % 2) 1) row []) g.rest-is) in
      record {
        few = omega (arith, g.few, bit);
        passed = more;
        rest-is = ap (λ (k : ℕ). k / 2) g.rest-is ∙ sym (halved_after m j);
        counted =
            ap length rows
            ∙ omega (arith, g.counted, length-append before (keep (eqb (rest % 2) 1) row []), keep_long row (rest % 2) bit);
        worst_is =
            put_one worst_load before row worst count w w_is g.worst_is in_worst (rest % 2) bit
            ∙ ap (map worst_load) (sym rows);
        best_is =
            put_one best_load before row best count b b_is g.best_is in_best (rest % 2) bit
            ∙ ap (map best_load) (sym rows);
      }

  -- all rows are passed
  pub gathered : length table ≤ j → Gathered table m worst best count
  gathered done =
      let all : take j table ≡ table = take_all j table (omega arith) in
      record {
        few = omega (arith, g.few, g.passed);
        counted = ap (λ (rs : List Row). length (members m rs)) (sym all) ∙ g.counted;
        filled = record {
          worst_is = g.worst_is ∙ ap (λ rs. map worst_load (members m rs)) all;
          best_is = g.best_is ∙ ap (λ rs. map best_load (members m rs)) all;
        };
      }
