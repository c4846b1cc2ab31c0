-- What a board has finished before a tick are the jobs that finish by then, in order of finish: each tick finishes one
-- job at most, at the tick after it. And two lists of the same jobs in that order are one.
use mathlib.Core.Path.{◌≡◌, refl, sym, ap, subst, ◌∙◌}
use mathlib.Core.Bool.{Bool, true, false, ◌&&◌, ◌||◌}
use mathlib.Core.List.{List, [], ◌∷◌, ◌++◌, append-nil, append_assoc}
use mathlib.Core.Logic.{◌⊎◌, inl, inr}
use Prim.Native.Nat.{ℕ, zero, suc, ◌+◌, ◌-◌, ◌≤◌, ◌<◌}
use native.Mathlib.Omega.{arith}
use native.Mathlib.Nat.{le_refl, zero-add}
use lib.Dec.{eqb}
use borrow.Author.Tests.{eqb-true, eq-eqb}
use Rattle.basics.specs.Basics.{pick}
use Rattle.basics.proofs.Tests.{true_not_false, and_left, and_right}
use Rattle.text.specs.Text.{bytes, decimal, key_line}
use Rattle.rows.specs.Rows.{row_at}
use Rattle.rows.specs.Rows.{Row}
use Rattle.tables.specs.Claims.{line_of}
use Rattle.boards.specs.Boards.{Job, Done, Board, is_done, with_releases, queue_at, ends, finishing, highest, goes_on}
use Rattle.boards.specs.Boards.{after_ticks}
use Rattle.boards.specs.Claims.{Finishes}
use Rattle.boards.proofs.Queues.{done_append, ends_tick}
use Rattle.watch_demands.specs.Runs.{job_text, finished_text, Rising, FinishedWithin}

-- ---- lists of finished jobs
or_cases : (a b : Bool) → (a || b) ≡ true → (a ≡ true) ⊎ (b ≡ true)
or_cases true b e = inl refl
or_cases false b e = inr e

or_left : (a b : Bool) → a ≡ true → (a || b) ≡ true
or_left a b e = rw e

or_right : (a b : Bool) → b ≡ true → (a || b) ≡ true
or_right true b e = refl
or_right false b e = e

abbrev is_this : ℕ → ℕ → ℕ → Done → Bool
is_this i r f d = eqb i d.rank && (eqb r d.release && eqb f d.finish)

this_is : (i r f : ℕ) (d : Done) → is_this i r f d ≡ true → (i ≡ d.rank) × (r ≡ d.release) × (f ≡ d.finish)
this_is i r f d e =
    let rest = eqb r d.release && eqb f d.finish in
    let both = and_right (eqb i d.rank) rest e in (
      eqb-true i d.rank (and_left (eqb i d.rank) rest e),
      eqb-true r d.release (and_left (eqb r d.release) (eqb f d.finish) both),
      eqb-true f d.finish (and_right (eqb r d.release) (eqb f d.finish) both),
    )

this_one : (d : Done) → is_this d.rank d.release d.finish d ≡ true
this_one d =
    let same : (n : ℕ) → eqb n n ≡ true = λ n. eq-eqb n n refl in
    rw (same d.rank, same d.release, same d.finish)

-- ---- lists in order
-- from a tick to a tick
abbrev Up : ℕ → List Done → ℕ → Type 0
Up from [] to = from ≤ to
Up from (d ∷ ds) to = (from < d.finish) × Up d.finish ds to

up_longer : (from : ℕ) (ds : List Done) (to later : ℕ) → to ≤ later → Up from ds to → Up from ds later
up_longer from [] to later h u = omega arith
up_longer from (d ∷ ds) to later h u = (u.0, up_longer d.finish ds to later h u.1)

up_one : (from : ℕ) (ds : List Done) (to : ℕ) (d : Done) → to < d.finish → Up from ds to
    → Up from (ds ++ (d ∷ [])) d.finish
up_one from [] to d h u = (omega arith, le_refl d.finish)
up_one from (x ∷ ds) to d h u = (u.0, up_one x.finish ds to d h u.1)

up_rises : (from : ℕ) (ds : List Done) (to : ℕ) → Up from ds to → Rising from ds
up_rises from [] to u = tt
up_rises from (d ∷ ds) to u = (u.0, up_rises d.finish ds to u.1)

rising_past : (from : ℕ) (ds : List Done) (i r f : ℕ) → Rising from ds → is_done i r f ds ≡ true → from < f
rising_past from [] i r f u e = absurd (true_not_false false e refl)
rising_past from (d ∷ ds) i r f u e = elim (or_cases (is_this i r f d) (is_done i r f ds) e) [
  | inl h ↦ omega (arith, (this_is i r f d h).2, u.0)
  | inr h ↦ omega (arith, rising_past d.finish ds i r f u.1 h, u.0)
]

abbrev Same : List Done → List Done → Type 0
Same xs ys = (i r f : ℕ) → is_done i r f xs ≡ true → is_done i r f ys ≡ true

-- the first of one list is not after the first of another that has it
first_not_after : (from : ℕ) (x y : Done) (xs ys : List Done) → Rising from (y ∷ ys) → Same (x ∷ xs) (y ∷ ys)
    → y.finish ≤ x.finish
first_not_after from x y xs ys u s =
    elim (or_cases (is_this x.rank x.release x.finish y) (is_done x.rank x.release x.finish ys)
    (s x.rank x.release x.finish (or_left _ (is_done x.rank x.release x.finish xs) (this_one x)))) [
      | inl h ↦ omega (arith, (this_is x.rank x.release x.finish y h).2)
      | inr h ↦ omega (arith, rising_past y.finish ys x.rank x.release x.finish u.1 h)
    ]

-- so it is the same where each has the other's
first-same : (from : ℕ) (x y : Done) (xs ys : List Done) → Rising from (x ∷ xs) → Rising from (y ∷ ys)
    → Same (x ∷ xs) (y ∷ ys) → Same (y ∷ ys) (x ∷ xs) → x ≡ y
first-same from x y xs ys u v s t =
    elim (or_cases (is_this x.rank x.release x.finish y) (is_done x.rank x.release x.finish ys)
    (s x.rank x.release x.finish (or_left _ (is_done x.rank x.release x.finish xs) (this_one x)))) [
      | inl h ↦ (
          let e = this_is x.rank x.release x.finish y h in
          subst (λ (d : Done). x ≡ d) refl (fields e.0 e.1 e.2))
      | inr h ↦ (
          let past = rising_past y.finish ys x.rank x.release x.finish v.1 h in
          absurd (omega (arith, past, first_not_after from y x ys xs u t)))
    ]
  where
    fields : x.rank ≡ y.rank → x.release ≡ y.release → x.finish ≡ y.finish → x ≡ y
    fields a b c =
        ap (λ (n : ℕ). record { rank = n; release = x.release; finish = x.finish }) a
        ∙ ap (λ (n : ℕ). record { rank = y.rank; release = n; finish = x.finish }) b
        ∙ ap (λ (n : ℕ). record { rank = y.rank; release = y.release; finish = n }) c

-- what follows the first has what follows the other's
rest_has : (from : ℕ) (x : Done) (xs ys : List Done) → Rising from (x ∷ xs) → Same (x ∷ xs) (x ∷ ys) → Same xs ys
rest_has from x xs ys u s i r f e =
    elim (or_cases (is_this i r f x) (is_done i r f ys) (s i r f (or_right (is_this i r f x) (is_done i r f xs) e))) [
      | inl h ↦ absurd (omega (arith, rising_past x.finish xs i r f u.1 e, (this_is i r f x h).2))
      | inr h ↦ h
    ]

not_none : {A : Type 0} (x : Done) (xs : List Done) → Same (x ∷ xs) [] → A
not_none x xs s =
    absurd (true_not_false false
    (s x.rank x.release x.finish (or_left _ (is_done x.rank x.release x.finish xs) (this_one x))) refl)

same_list : (from : ℕ) (xs ys : List Done) → Rising from xs → Rising from ys → Same xs ys → Same ys xs → xs ≡ ys
same_list from [] [] u v s t = refl
same_list from [] (y ∷ ys) u v s t = not_none y ys t
same_list from (x ∷ xs) [] u v s t = not_none x xs s
same_list from (x ∷ xs) (y ∷ ys) u v s t =
    let e = first-same from x y xs ys u v s t in
    let v' : Rising from (x ∷ ys) = subst (λ d. Rising from (d ∷ ys)) (sym e) v in
    let s' : Same (x ∷ xs) (x ∷ ys) = subst (λ d. Same (x ∷ xs) (d ∷ ys)) (sym e) s in
    let t' : Same (x ∷ ys) (x ∷ xs) = subst (λ d. Same (d ∷ ys) (x ∷ xs)) (sym e) t in
    let rest = same_list x.finish xs ys u.1 v'.1 (rest_has from x xs ys u s') (rest_has from x ys xs v' t') in
    ap (λ (ds : List Done). x ∷ ds) rest ∙ ap (λ (d : Done). d ∷ ys) e

-- ---- a board's
module _ (order : List Row) (offset : ℕ → ℕ) (need : ℕ → ℕ → ℕ) (keeps : ℕ → Bool) where
  abbrev before : ℕ → Board
  before t = after_ticks order offset need keeps t

  abbrev by : ℕ → List Done
  by t = (before t).finished

  abbrev queues : ℕ → List (List Job)
  queues t = with_releases 0 t order offset need (before t).pending

  -- the rank of a tick, and what the tick finishes
  abbrev whose : ℕ → ℕ
  whose t = pick (goes_on keeps t (before t)) (before t).holder (highest (queues t))

  abbrev last : ℕ → List Done
  last t = finishing (whose t) t (queue_at (queues t) (whose t))

  up_tick : (t m : ℕ) (q : List Job) (ds : List Done) → Up 0 ds t → Up 0 (ds ++ finishing m t q) (suc t)
  up_tick t m [] ds u = rw (append-nil ds) (up_longer 0 ds t (suc t) (omega arith) u)
  up_tick t m (j ∷ q) ds u = go (ends (j ∷ q))
    where
      one : Done
      one = record { rank = m; release = j.release; finish = suc t }

      go : (b : Bool) → Up 0 (ds ++ pick b (record { rank = m; release = j.release; finish = suc t } ∷ []) []) (suc t)
      go true = up_one 0 ds t (record { rank = m; release = j.release; finish = suc t }) (omega arith) u
      go false = rw (append-nil ds) (up_longer 0 ds t (suc t) (omega arith) u)

  up_by : (t : ℕ) → Up 0 (by t) t
  up_by zero = omega arith
  up_by (suc t) = up_tick t (whose t) (queue_at (queues t) (whose t)) (by t) (up_by t)

  -- what is finished stays so
  stays : (i r f t : ℕ) → is_done i r f (by t) ≡ true → is_done i r f (by (suc t)) ≡ true
  stays i r f t e =
      done_append i r f (by t) (last t) ∙ or_left (is_done i r f (by t)) (is_done i r f (last t)) e

  stays_by : (i r f n : ℕ) → is_done i r f (by f) ≡ true → is_done i r f (by (n + f)) ≡ true
  stays_by i r f zero e = rw zero-add e
  stays_by i r f (suc n) e =
      let s : suc n + f ≡ suc (n + f) = omega arith in rw s (stays i r f (n + f) (stays_by i r f n e))

  -- and is so by its finish
  by_finish : (i r f t : ℕ) → is_done i r f (by t) ≡ true → Finishes order offset need keeps i r f × (f ≤ t)
  by_finish i r f zero e = absurd (true_not_false false e refl)
  by_finish i r f (suc t) e =
      elim (or_cases (is_done i r f (by t)) (is_done i r f (last t)) (sym (done_append i r f (by t) (last t)) ∙ e)) [
        | inl h ↦ (let x = by_finish i r f t h in (x.0, omega (arith, x.1)))
        | inr h ↦ (
            let now = (ends_tick (queues t) (whose t) i r f t h).0.finish_is in
            (subst (λ u. is_done i r f (by u) ≡ true) (sym now) e, omega (arith, now)))
      ]

  pub finished_within : (t : ℕ) → FinishedWithin order offset need keeps t (by t)
  finished_within t = record {
    these = λ i r f. (
      by_finish i r f t,
      λ x. (let s : t - f + f ≡ t = omega (arith, x.1) in rw s at (stays_by i r f (t - f) x.0)),
    );
    in_order = up_rises 0 (by t) t (up_by t);
  }

  pub finished_only : (t : ℕ) (ds : List Done) → FinishedWithin order offset need keeps t ds → ds ≡ by t
  finished_only t ds w =
      let own = finished_within t in
      same_list 0 ds (by t) w.in_order own.in_order
      (λ i r f e. (own.these i r f).1 ((w.these i r f).0 e)) (λ i r f e. (w.these i r f).1 ((own.these i r f).0 e))

-- ---- a job's lines
pub job_lines : (order : List Row) (d : Done) (ds : List Done)
    → finished_text order (d ∷ ds)
    ≡ line_of "task=" (row_at order d.rank).task (line_of "release=" d.release
    (line_of "finish=" d.finish (finished_text order ds)))
unfolding job_text
job_lines order d ds =
    let task = key_line (bytes "task=") (decimal (row_at order d.rank).task) in
    let release = key_line (bytes "release=") (decimal d.release) in
    let finish = key_line (bytes "finish=") (decimal d.finish) in
    let rest = finished_text order ds in
    append_assoc task (release ++ (finish ++ [])) rest
    ∙ ap (λ (x : List ℕ). task ++ x)
    (append_assoc release (finish ++ []) rest
    ∙ ap (λ (x : List ℕ). release ++ x) (append_assoc finish [] rest))
