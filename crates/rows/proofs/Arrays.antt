-- Lists at the front of arrays: the list is found again, one more is put after it, and an order's tasks are its own.
use mathlib.Core.Path.{◌≡◌, sym, ap, ap₂, ◌∙◌}
use mathlib.Core.List.{List, [], ◌∷◌, ◌++◌}
use Prim.Native.Nat.{ℕ, zero, suc, ◌-◌, ◌<◌}
use native.Mathlib.Nat.{sub-zero, zero-sub, suc-sub-suc}
use lib.ListN.{length, get_or, take, drop, set, replicate}
use lib.Seq.{drop-cons, append_snoc, take-append_seam, set-append_seam}
use Rattle.rows.specs.Rows.{max_tasks}
use Rattle.rows.specs.inside.Arrays.{padded, ranking, ranked}

pub padded_front : {A : Type 0} (d : A) (xs : List A) → take (length xs) (padded d xs) ≡ xs
padded_front d xs = take-append_seam xs (replicate (max_tasks - length xs) d)

-- what is left of an array with nothing in it
pub blank_left : {A : Type 0} (d : A) (n k : ℕ) → drop n (replicate k d) ≡ replicate (k - n) d
blank_left d zero k = rw (sub-zero k)
blank_left d (suc n) zero = rw (zero-sub (suc n))
blank_left d (suc n) (suc k) = blank_left d n k ∙ ap (λ m. replicate m d) (sym (suc-sub-suc k n))

pub ranked_are : (tasks : List ℕ) → ranked (ranking tasks) ≡ tasks
ranked_are tasks = padded_front 0 tasks

-- one more written after those at the front of any array
pub front_next : {A : Type 0} (d : A) (xs ys : List A) (k : ℕ) (x : A) → length xs ≡ k → k < length ys
    → set (xs ++ drop k ys) k x ≡ (xs ++ (x ∷ [])) ++ drop (suc k) ys
front_next d xs ys k x many h =
    ap₂ (λ l i. set (xs ++ l) i x) (drop-cons ys k d h) (sym many)
    ∙ set-append_seam xs (get_or ys k d) (drop (suc k) ys) x
    ∙ sym (append_snoc xs x (drop (suc k) ys))
