use Rattle.std.proofs.Common.{◌≡◌, ◌++◌, ◌<◌, ℕ, suc, List, [], ◌∷◌, length, take, drop, set, length-set, sym, ap, ◌∙◌, add-one, arith}
use lib.ListN.{get_or}
use Rattle.std.specs.Option.{unwrap_or}
use lib.Seq.{take-suc, length-take-le}
use Rattle.rows.specs.Rows.{Row, tasks_of, position_of}
use Rattle.rows.specs.inside.Numbers.{positions_for}
use Rattle.rows.specs.inside.Lent.{table_of}
use Rattle.rows.proofs.Arrays.{front_next}
use Rattle.rows.proofs.Tasks.{positions_last, positions_length}
use Rattle.rows.proofs.LentRows.{found_is}
use Rattle.rows.proofs.lent.positions_for.Goals as goal

-- one task more
next : (ts : List ℕ) (rs : List Row) (ps qs : List ℕ) (k p : ℕ) → k < length ts → k < length ps
    → p ≡ position_of (get_or ts k 0) (tasks_of rs)
    → qs ≡ positions_for (take k ts) rs ++ drop k ps
    → set qs k p ≡ positions_for (take (suc k) ts) rs ++ drop (suc k) ps
next ts rs ps qs k p l m is e =
    let front = positions_for (take k ts) rs in
    let many = positions_length (take k ts) rs ∙ length-take-le k ts (omega arith) in
    ap (λ zs. set zs k p) e
    ∙ front_next 0 front ps k p many m
    ∙ ap (λ x. (front ++ (x ∷ [])) ++ drop (suc k) ps) is
    ∙ ap (λ zs. zs ++ drop (suc k) ps) (sym (ap (λ zs. positions_for zs rs) (take-suc ts k 0 l)
    ∙ positions_last (take k ts) (get_or ts k 0) rs))

pub loop-k-preserved : goal.loop-k-preserved
loop-k-preserved c =
    let a = c.args in
    let x = c.loop-k in
    let rows = a.rows.now in
    rw (add-one x.k) (
      length-set x.positions x.k c.unwrap_or.result ∙ x.invariant.0,
      next a.tasks.now (table_of rows) a.positions.now x.positions x.k c.unwrap_or.result (omega arith) (omega arith)
          (c.unwrap_or.ensures
          ∙ ap (λ o. unwrap_or o (length rows)) c.position_of.ensures
          ∙ found_is (get_or a.tasks.now x.k 0) rows) x.invariant.1,
    )
