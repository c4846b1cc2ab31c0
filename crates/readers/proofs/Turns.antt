-- The reader's loop, as of every reader that takes a line a turn.
use mathlib.Core.Path.{◌≡◌, refl, subst}
use mathlib.Core.Bool.{Bool}
use mathlib.Core.List.{List}
use Prim.Native.Nat.{ℕ, ◌<◌}
use native.Mathlib.Omega.{arith}
use Rattle.std.specs.Prelude.{Ok, Err}
use Rattle.grammars.specs.Grammars.{refused, step, read}
use Rattle.grammars.specs.inside.Readers.{Takes, Refuses}
use Rattle.grammars.proofs.Loops as Loops
use Rattle.text.specs.Lines.{fault_number}
use Rattle.text.specs.declared.LineRefusal.{LineRefusal}
use Rattle.readers.specs.declared.progress.Progress.{Progress}
use Rattle.tables.specs.TableLines.{at_board, table}
use Rattle.readers.specs.inside.Numbers.{Room}
use Rattle.readers.specs.inside.Stands.{start, Stands, begun, stage_of, reader, On, TakesLine}

module _ (ranked : Bool) (text : List ℕ) where
  -- where the loop is, and its measure
  abbrev pub Standing : Progress → List ℕ → Type 0
  Standing p ns = Loops.Going reader (On ranked text) (table ranked) at_board text (p, ns)

  abbrev pub left_of : Progress → List ℕ → ℕ
  left_of p ns = Loops.left_at reader text (p, ns)

  -- before the first line
  pub begins : (ns : List ℕ) → Room text ns → Standing (begun ranked) ns
  begins ns room =
      let here : Stands text 0 (start ranked) 1 ns =
      record {
        room = room;
        bytes = omega arith;
        long = omega arith;
        fewest = omega arith;
        most = omega arith;
        counted = (refl, refl);
        going = tt;
      } in
      record { stands = (refl, here); same = refl }

  module _ {p : Progress} {ns : List ℕ} (here : Standing p ns) where
    -- a turn: the loop stands again, and less is left
    pub turn : (q : Progress) (ms : List ℕ) → TakesLine p text ns (Ok q) ms
        → Standing q ms × (left_of q ms < left_of p ns)
    turn q ms t = Loops.turn here (q, ms)
        (subst (λ b. Takes reader (On b text) (step (table b) text (stage_of p.stand ns) p.offset p.line) (q, ms))
        here.stands.0 t)

    -- or the text is refused
    pub stop : (e : LineRefusal) (ms : List ℕ) → TakesLine p text ns (Err e) ms
        → read (table ranked) at_board text ≡ refused (fault_number e.fault) e.line
    stop e ms t = Loops.refused_at here e
        (subst (λ b. Refuses (step (table b) text (stage_of p.stand ns) p.offset p.line) e) here.stands.0 t)
