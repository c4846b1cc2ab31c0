-- No key of a table has a line feed, whatever the lines of a row are.
use mathlib.Core.Path.{◌≡◌, refl}
use mathlib.Core.Bool.{Bool, false}
use Prim.Native.Nat.{ℕ}
use lib.ListN.{length}
use Rattle.basics.specs.Basics.{is_in}
use Rattle.text.specs.Text.{line_feed}
use Rattle.grammars.specs.Grammars.{Plain}
use Rattle.rows.specs.Rows.{first_point_at}
use Rattle.tables.specs.TableLines.{RowLine, row_line_at, at_board, at_tasks, at_switch, at_field, at_rank, at-end, table}
use Rattle.tables.proofs.RowLines.{at_each, each_point}

key_plain : (i : ℕ) → is_in line_feed (row_line_at i).key ≡ false
key_plain i =
    let F : RowLine → Type 0 = λ l. is_in line_feed l.key ≡ false in
    at_each F refl (
      refl,
      (
        refl,
        (
          refl,
          (
            refl,
            (
              refl,
              (
                refl,
                (
                  refl,
                  (
                    refl,
                    (
                      refl,
                      (
                        refl,
                        (
                          refl,
                          each_point F (λ at. refl) (λ at. refl) first_point_at 7,
                        ),
                      ),
                    ),
                  ),
                ),
              ),
            ),
          ),
        ),
      ),
    ) i

pub table_plain : (ranked : Bool) → Plain (table ranked)
table_plain ranked at_board = refl
table_plain ranked (at_tasks b) = refl
table_plain ranked (at_switch n b) = refl
table_plain ranked (at_field n b s rs vs) = key_plain (length vs)
table_plain ranked (at_rank n b rs os) = refl
table_plain ranked (at-end b rs os) = refl
