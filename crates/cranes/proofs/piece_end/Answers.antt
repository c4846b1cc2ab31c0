-- The first byte after which the text is cut ends the piece; where there is none, the text does.
use Rattle.std.proofs.Common.{rules, true, false}
use Rattle.std.proofs.lemmas.Iterator.{first_from_Range}
use Rattle.cranes.proofs.Ends.{CutAt, first_ends}
use Rattle.cranes.proofs.piece_end.Goals as goal

pub returns : goal.returns
returns c =
    let text = c.args.text.now in
    let first =
    first_from_Range _ _ _ _ (CutAt text true) (CutAt text false) c.find.ensures.ran (λ i q k. search rules)
    (λ i q k. (search rules, search rules)) in
    let ends = first_ends text c.args.from _ c.requires first in
    search (rules, ends)
