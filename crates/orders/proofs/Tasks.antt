-- Orders as task numbers: a list with each task of the table once and nothing else is a possible order of its rows,
-- and a possible order's rows are found again by their tasks.
use mathlib.Core.Path.{◌≡◌, refl, ap, ap₂, sym, ◌∙◌, subst}
use mathlib.Core.Bool.{Bool, true, false, ◌&&◌, ◌||◌, not, or-true, true≢false, false≢true}
use mathlib.Core.List.{List, [], ◌∷◌}
use Prim.Native.Nat.{ℕ}
use native.Mathlib.Decide.{ℕ_discrete}
use native.Mathlib.Omega.{arith}
use borrow.Author.Tests.{eq-eqb, ne_eqb, eqb-true, not-true}
use lib.Dec.{eqb}
use lib.ListN.{length}
use Rattle.basics.specs.Basics.{is_in, distinct}
use Rattle.basics.proofs.Tests.{and_left, and_right, and_both, or_right}
use Rattle.rows.specs.Rows.{tasks_of, has_task, distinct_rows, row_for, rows_for, all_tasks, is_possible}
use Rattle.rows.specs.Rows.{Row}
use Rattle.orders.specs.Orders.{Taken, here, later, Possible, nothing, first}
use Rattle.orders.proofs.Possible.{swapped, taken_length}
use Rattle.orders.proofs.Rule.{other_task}

-- ---- the row of a task
abbrev for_if : Bool → Row → Row → Row
for_if b r x = elim b [ true ↦ r | false ↦ x ]

for_here : (t : ℕ) (r : Row) (rs : List Row) → t ≡ r.task → row_for t (r ∷ rs) ≡ r
for_here t r rs e = ap (λ (b : Bool). for_if b r (row_for t rs)) (eq-eqb t r.task e)

for_later : (t : ℕ) (r : Row) (rs : List Row) → (t ≡ r.task → ⊥) → row_for t (r ∷ rs) ≡ row_for t rs
for_later t r rs n = ap (λ (b : Bool). for_if b r (row_for t rs)) (ne_eqb t r.task n)

has_later : (t : ℕ) (r : Row) (rs : List Row) → (t ≡ r.task → ⊥) → has_task t (r ∷ rs) ≡ has_task t rs
has_later t r rs n = ap (λ (b : Bool). b || has_task t rs) (ne_eqb t r.task n)

row_for_lem : {r : Row} {rs rest : List Row} → distinct_rows rs ≡ true → Taken r rs rest → row_for r.task rs ≡ r
row_for_lem {r} d (here {rs = rs}) = for_here r.task r rs refl
row_for_lem {r} d (later {x = x} {rs = rs} t) =
    for_later r.task x rs (other_task x d t)
    ∙ row_for_lem (and_right (not (has_task x.task rs)) (distinct_rows rs) d) t

rows_found :
    {os rs : List Row} (table : List Row) →
    ((r : Row) (rest : List Row) → Taken r rs rest → row_for r.task table ≡ r) →
    Possible os rs →
    rows_for (tasks_of os) table ≡ os
rows_found table h nothing = refl
rows_found table h (first {r = r} {rest = rest} t p) =
    ap₂ (λ (x : Row) (l : List Row). x ∷ l) (h r rest t)
    (rows_found table (λ x more s. h x (swapped t s).between (swapped t s).second) p)

-- the rows of an order's tasks are the order's rows
pub rows_for_lem : {os table : List Row} → distinct_rows table ≡ true → Possible os table → rows_for (tasks_of os) table ≡ os
rows_for_lem {table = table} d p = rows_found table (λ r rest t. row_for_lem d t) p

-- ---- a list of task numbers
record Once (ts : List ℕ) (rs : List Row) : Type 0 where
  as_many : length ts ≡ length rs
  distinct_tasks : distinct ts ≡ true
  there : (x : ℕ) → is_in x ts ≡ true → has_task x rs ≡ true

record Found (t : ℕ) (rs : List Row) : Type 0 where
  rest : List Row
  taken : Taken (row_for t rs) rs rest
  task_is : (row_for t rs).task ≡ t

found_of : (t : ℕ) (rs : List Row) → has_task t rs ≡ true → Found t rs
found_of t [] h = absurd (false≢true h)
found_of t (r ∷ rs) h =
    let ih = found_of t rs in
    elim (ℕ_discrete t r.task) [
      | yes e ↦ (
          let is = for_here t r rs e in
          record {
            rest = rs;
            taken = subst (λ (x : Row). Taken x (r ∷ rs) rs) (sym is) here;
            task_is =
                ap (λ (x : Row). x.task) is ∙ sym e;
          })
      | no n ↦ (
          let f = ih (sym (has_later t r rs n) ∙ h) in
          let is = for_later t r rs n in
          record {
            rest = r ∷ f.rest;
            taken = subst (λ (x : Row). Taken x (r ∷ rs) (r ∷ f.rest)) (sym is) (later f.taken);
            task_is = ap (λ (x : Row). x.task) is ∙ f.task_is;
          })
    ]

-- another task stays, with its row
stays :
    {r : Row} {rs rest : List Row} (t : ℕ) →
    (t ≡ r.task → ⊥) →
    Taken r rs rest →
    (has_task t rs ≡ has_task t rest) × (row_for t rs ≡ row_for t rest)
stays {r} t n (here {rs = rs}) = (has_later t r rs n, for_later t r rs n)
stays {r} t n (later {x = x} {rs = rs} {rest = rest} s) =
    let ih = stays t n s in
    (ap (λ (b : Bool). eqb t x.task || b) ih.0, ap (λ (y : Row). for_if (eqb t x.task) x y) ih.1)

in_later : (x y : ℕ) (ts : List ℕ) → is_in x ts ≡ true → is_in x (y ∷ ts) ≡ true
in_later x y ts h = ap (λ (b : Bool). eqb x y || b) h ∙ or-true (eqb x y)

rows_stay :
    {r : Row} {rs rest : List Row} (ts : List ℕ) →
    ((x : ℕ) → is_in x ts ≡ true → x ≡ r.task → ⊥) →
    Taken r rs rest →
    rows_for ts rs ≡ rows_for ts rest
rows_stay [] n t = refl
rows_stay (x ∷ ts) n t =
    let in_here : is_in x (x ∷ ts) ≡ true = ap (λ (b : Bool). b || is_in x ts) (eq-eqb x x refl) in
    ap₂ (λ (r : Row) (l : List Row). r ∷ l) (stays x (n x in_here) t).1
    (rows_stay ts (λ y h. n y (in_later y x ts h)) t)

once_possible :
    (ts : List ℕ) (rs : List Row) →
    Once ts rs →
    Possible (rows_for ts rs) rs × (tasks_of (rows_for ts rs) ≡ ts)
once_possible [] [] o = (nothing, refl)
once_possible [] (r ∷ rs) o = absurd (omega (arith, o.as_many))
once_possible (t ∷ ts) rs o =
    let in_here : is_in t (t ∷ ts) ≡ true = ap (λ (b : Bool). b || is_in t ts) (eq-eqb t t refl) in
    let f = found_of t rs (o.there t in_here) in
    let fresh = not-true (is_in t ts) (and_left (not (is_in t ts)) (distinct ts) o.distinct_tasks) in
    let other : (x : ℕ) → is_in x ts ≡ true → x ≡ (row_for t rs).task → ⊥ =
    λ x h e. true≢false (sym h ∙ ap (λ (k : ℕ). is_in k ts) (e ∙ f.task_is) ∙ fresh) in
    let ih = once_possible ts f.rest (record {
      as_many = omega (arith, o.as_many, taken_length f.taken);
      distinct_tasks = and_right (not (is_in t ts)) (distinct ts) o.distinct_tasks;
      there = λ x h. sym (stays x (other x h) f.taken).0 ∙ o.there x (in_later x t ts h);
    }) in
    let same = rows_stay ts other f.taken in (
      first f.taken (subst (λ (l : List Row). Possible l f.rest) (sym same) ih.0),
      ap₂ (λ (x : ℕ) (l : List ℕ). x ∷ l) f.task_is (ap tasks_of same ∙ ih.1),
    )

all_there : (ts : List ℕ) (rs : List Row) → all_tasks ts rs ≡ true → (x : ℕ) → is_in x ts ≡ true → has_task x rs ≡ true
all_there [] rs a x h = absurd (false≢true h)
all_there (y ∷ ts) rs a x h =
    let ih = all_there ts rs (and_right (has_task y rs) (all_tasks ts rs) a) x in
    elim (ℕ_discrete x y) [
      | yes e ↦ ap (λ (k : ℕ). has_task k rs) e ∙ and_left (has_task y rs) (all_tasks ts rs) a
      | no n ↦ ih (sym (ap (λ (b : Bool). b || is_in x ts) (ne_eqb x y n)) ∙ h)
    ]

-- each task once and nothing else
pub possible_tasks :
    (ts : List ℕ) (table : List Row) →
    is_possible ts table ≡ true →
    Possible (rows_for ts table) table × (tasks_of (rows_for ts table) ≡ ts)
possible_tasks ts table h =
    let a = eqb (length ts) (length table) in
    let q = and_left (a && distinct ts) (all_tasks ts table) h in
    once_possible ts table (record {
      as_many = eqb-true (length ts) (length table) (and_left a (distinct ts) q);
      distinct_tasks = and_right a (distinct ts) q;
      there = all_there ts table (and_right (a && distinct ts) (all_tasks ts table) h);
    })

-- ---- each task of a possible order is one of the table's
taken_has : {r : Row} {rs rest : List Row} → Taken r rs rest → has_task r.task rs ≡ true
taken_has {r} (here {rs = rs}) = ap (λ (b : Bool). b || has_task r.task rs) (eq-eqb r.task r.task refl)
taken_has {r} (later {x = x} {rs = rs} t) =
    or_right (eqb r.task x.task) (has_task r.task rs) (taken_has t)

all_have :
    {os rs : List Row} (table : List Row) →
    ((r : Row) (rest : List Row) → Taken r rs rest → has_task r.task table ≡ true) →
    Possible os rs →
    all_tasks (tasks_of os) table ≡ true
all_have table h nothing = refl
all_have table h (first {r = r} {os = os} {rest = rest} t p) =
    and_both (has_task r.task table) (all_tasks (tasks_of os) table) (h r rest t)
    (all_have table (λ x more s. h x (swapped t s).between (swapped t s).second) p)

pub possible_all : {os table : List Row} → Possible os table → all_tasks (tasks_of os) table ≡ true
possible_all {table = table} p = all_have table (λ r rest t. taken_has t) p
