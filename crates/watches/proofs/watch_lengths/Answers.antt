-- The ranks of the lengths are found, the lengths are read, and what follows is the end of the text; then it is run.
use mathlib.Core.Path.{refl, sym, subst, ◌∙◌}
use lib.ListN.{length}
use lib.Seq.{length-take-le}
use Rattle.std.proofs.lemmas.Result.{err_from_is_err_and}
use Rattle.plans.specs.Outcomes.{Outcome, Written}
use Rattle.watches.proofs.Stages.{refused_text, mergeable, owned, readable, lengths_refused, end_refused, whole}
use Rattle.watches.proofs.watch_lengths.Goals as goal

pub fill_owners-requires : goal.fill_owners-requires
fill_owners-requires c = mergeable c.requires (length-take-le _ _ c.requires.few)

pub read_numbers-requires : goal.read_numbers-requires
read_numbers-requires c =
    let few = c.requires.few in
    let f = c.fill_owners in
    record {
      key_value = refl;
      readable = readable c.requires f.ensures (f.auto.owners ∙ length-take-le _ _ few) (length-take-le _ _ few);
    }

pub returns-in_err-end : goal.returns-in_err-end
returns-in_err-end c =
    let few = c.requires.few in
    let f = c.fill_owners in
    let p = err_from_is_err_and c.from_residual.result c.from_residual.ensures.1 in
    rw (p.1, p.2)
    (refused_text c.args.from.text.now c.args.out.now _
    (lengths_refused c.requires f.ensures (f.auto.owners ∙ length-take-le _ _ few) _
    (c.read_numbers.auto.numbers ∙ length-take-le _ _ few) c.in_err-end.ensures))

pub returns-in_err-end_at : goal.returns-in_err-end_at
returns-in_err-end_at c =
    let few = c.requires.few in
    let f = c.fill_owners in
    let many = c.read_numbers.auto.numbers ∙ length-take-le _ _ few in
    let p = err_from_is_err_and c.from_residual-in_err-end_at.result c.from_residual-in_err-end_at.ensures.1 in
    rw (p.1, p.2)
    (refused_text c.args.from.text.now c.args.out.now _
    (end_refused c.requires f.ensures (f.auto.owners ∙ length-take-le _ _ few) many c.in_ok-end.ensures
    _ (rw (sym many) at c.in_err-end_at.ensures)))

pub returns : goal.returns
returns c =
    let few = c.requires.few in
    let f = c.fill_owners in
    let w = c.watch_run in
    let many = c.read_numbers.auto.numbers ∙ length-take-le _ _ few in
    let many_owners = f.auto.owners ∙ length-take-le _ _ few in
    let is = whole c.requires f.ensures many_owners many c.in_ok-end.ensures
    (rw (sym many) at c.in_ok-end_at.ensures) (length c.args.out.now) in
    subst (λ (x : Outcome). Written x c.args.out.now w.new.out w.result) (sym is)
    (w.ensures _ _ c.requires.laid (owned c.requires f.ensures many_owners) (many_owners ∙ sym many))
