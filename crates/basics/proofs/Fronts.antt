-- The first n of a list, taken one by one: what is left at i is the ith and what is left after it.
use mathlib.Core.Path.{◌≡◌, ap, ◌∙◌}
use mathlib.Core.List.{List, ◌∷◌}
use Prim.Native.Nat.{ℕ, suc, ◌≤◌, ◌<◌}
use native.Mathlib.Omega.{arith}
use lib.ListN.{length, get_or, take, drop}
use lib.Seq.{drop-cons, get_or-take, length-take-le}

module _ {A : Type 0} (xs : List A) (n i : ℕ) (d : A) (h : i < n) (l : n ≤ length xs) where
  pub left_next : drop i (take n xs) ≡ get_or xs i d ∷ drop (suc i) (take n xs)
  left_next =
      drop-cons (take n xs) i d (omega (arith, length-take-le n xs l))
      ∙ ap (λ (x : A). x ∷ drop (suc i) (take n xs)) (get_or-take n xs i d h)
