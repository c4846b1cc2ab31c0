-- Stability sees the rows above and the rows below as sets, since the figures are the same in any sequence of them: so
-- the order chosen by stability is as `Chosen` says.
use mathlib.Core.Path.{◌≡◌, sym, ap, ◌∙◌}
use mathlib.Core.Bool.{true}
use mathlib.Core.List.Perm
use mathlib.Core.List.{List, [], ◌∷◌, ◌++◌, append-nil, Perm}
use Prim.Native.Nat.{ℕ, zero, suc, ◌<◌}
use native.Mathlib.Omega.{arith}
use lib.ListN.{length}
use lib.Seq.{append_snoc}
use Rattle.basics.proofs.Tests.{and_left, and_right}
use Rattle.rows.specs.Rows.{distinct_rows, row_at}
use Rattle.rows.specs.Rows.{Row}
use Rattle.responses.specs.Figures.{rows_above, rows_below, is_stable}
use Rattle.responses.proofs.Sequences.{by_set}
use Rattle.orders.specs.Orders.{Taken, here, later, Possible, nothing, first, BySets, passes_between, Chosen}
use Rattle.orders.specs.Stability.{stable, order_stable}
use Rattle.orders.proofs.Rule as Rule

-- ---- a possible order of a set has the rows of the set
taken_perm : {r : Row} {rs rest : List Row} → Taken r rs rest → Perm (r ∷ rest) rs
taken_perm {r} (here {rs = rs}) = Perm.refl (r ∷ rs)
taken_perm {r} (later {x = x} {rest = rest} t) = Perm.trans (Perm.swap x r rest) (Perm.cons x (taken_perm t))

possible_perm : {os rs : List Row} → Possible os rs → Perm os rs
possible_perm nothing = Perm.refl []
possible_perm (first {r = r} t p) = Perm.trans (Perm.cons r (possible_perm p)) (taken_perm t)

pub by_sets : BySets stable
by_sets r above above' below below' p q =
    (by_set r above above' below below' (possible_perm p) (possible_perm q)).stable_same

-- ---- every rank of a stable order is stable between the rows above it and those below it
stable_between : (above order below : List Row) (i : ℕ) → passes_between stable above order below ≡ true
    → i < length order
    → is_stable (row_at order i) (above ++ rows_above order i) (rows_below order i ++ below) ≡ true
stable_between above [] below i h l = absurd (omega arith)
stable_between above (r ∷ rs) below zero h l =
    ap (λ (rows : List Row). is_stable r rows (rs ++ below)) (append-nil above)
    ∙ and_left (is_stable r above (rs ++ below)) (passes_between stable (above ++ (r ∷ [])) rs below) h
stable_between above (r ∷ rs) below (suc i) h l =
    ap (λ (rows : List Row). is_stable (row_at rs i) rows (rows_below rs i ++ below))
    (sym (append_snoc above r (rows_above rs i)))
    ∙ stable_between (above ++ (r ∷ [])) rs below i
    (and_right (is_stable r above (rs ++ below)) (passes_between stable (above ++ (r ∷ [])) rs below) h) (omega arith)

pub stable_at : (order : List Row) → order_stable order ≡ true → (i : ℕ) → i < length order
    → is_stable (row_at order i) (rows_above order i) (rows_below order i) ≡ true
stable_at order h i l =
    ap (is_stable (row_at order i) (rows_above order i)) (sym (append-nil (rows_below order i)))
    ∙ stable_between [] order [] i h l

pub chosen : (table : List Row) → distinct_rows table ≡ true → Chosen stable table
chosen = Rule.chosen stable by_sets
