-- `rows::numbers::is_among` meets its contract.
use mathlib.Core.Path.{◌≡◌, refl, ap₂, ◌∙◌}
use mathlib.Core.Bool.{◌||◌}
use mathlib.Core.List.{List, [], ◌∷◌}
use Prim.Native.Nat.{ℕ}
use native.Mathlib.Omega.{arith}
use Rattle.std.proofs.lemmas.Bool.Decides.{nat_tests}
use lib.Dec.{eqb}
use Rattle.std.specs.List.{list_any}
use Rattle.basics.specs.Basics.{is_in}
use Rattle.rows.proofs.numbers.is_among.Goals as goal

found : (x : ℕ) (ys : List ℕ) → list_any (λ y. eqb y x) ys ≡ is_in x ys
found x [] = refl
found x (y ∷ ys) = ap₂ ◌||◌ (grind (arith, nat_tests)) (found x ys)

pub returns : goal.returns
returns c = c.contains.ensures.value ∙ found c.args.value c.args.numbers.now
