-- `text::line_at` meets its contract: each return is a law of `line_at`, from the tests that led there.
use Rattle.std.proofs.Common.{[], length, sym, refl, ◌∙◌, arith, drop_of_length-le}
use Rattle.text.proofs.Behind.{from_is, unread_so, zero_says, low_unread, number_says, many_say}
use Rattle.text.proofs.Fronts.{digits_begin}
use Rattle.text.proofs.Lines.{key_fits, other_missing, short_missing, unended_missing}
use Rattle.text.proofs.line_at.Goals as goal

-- past the end of the text there is no line
pub returns-then-at : goal.returns-then-at
returns-then-at c =
    let a = c.args in
    sym (unended_missing a.key.now c.requires a.low a.high a.at.text.now a.at.offset a.at.line
    [] (sym (drop_of_length-le a.at.text.now {i = a.at.offset} (omega arith))) [] []
    (sym (drop_of_length-le [] {i = length a.key.now} (omega arith))) refl (omega arith))

-- nor one with its key and its end, where what is left is as short as the key
pub returns-then-rest-key : goal.returns-then-rest-key
returns-then-rest-key c =
    let a = c.args in
    sym (short_missing a.key.now c.requires a.low a.high a.at.text.now a.at.offset a.at.line
    _ (from_is a.at.text.now a.at.offset) c.if-rest-key.true)

pub returns-then-not-starts_with : goal.returns-then-not-starts_with
returns-then-not-starts_with c =
    let a = c.args in
    sym (other_missing a.key.now c.requires a.low a.high a.at.text.now a.at.offset a.at.line
    _ (from_is a.at.text.now a.at.offset) (sym c.starts_with.ensures ∙ c.if-not-starts_with.true))

pub slice_bounds-tail-count : goal.slice_bounds-tail-count
slice_bounds-tail-count c = key_fits _ _ (sym c.starts_with.ensures ∙ c.if-not-starts_with.false)

pub slice_bounds-tail-start : goal.slice_bounds-tail-start
slice_bounds-tail-start c = key_fits _ _ (sym c.starts_with.ensures ∙ c.if-not-starts_with.false)

-- behind the key, a lone 0, or nothing else that begins so low
pub returns-then-not-is_zero : goal.returns-then-not-is_zero
returns-then-not-is_zero c =
    let a = c.args in
    c.goes_on.ensures
    ∙ sym (low_unread a.key.now a.at.text.now a.at.offset c.requires (sym c.starts_with.ensures ∙ c.if-not-starts_with.false)
    (omega arith) a.low a.high a.at.line c.if-tail-le48.true (sym c.is_zero.ensures ∙ c.if-not-is_zero.true))

pub returns-then-tail-le48 : goal.returns-then-tail-le48
returns-then-tail-le48 c =
    let a = c.args in
    c.ranged.ensures
    ∙ sym (zero_says a.key.now a.at.text.now a.at.offset c.requires (sym c.starts_with.ensures ∙ c.if-not-starts_with.false)
    (omega arith) a.low a.high a.at.line (sym c.is_zero.ensures ∙ c.if-not-is_zero.false))

-- or its digits and a feed behind them
pub returns-then-not-feed_at : goal.returns-then-not-feed_at
returns-then-not-feed_at c =
    let a = c.args in
    c.goes_on-then-not-feed_at.ensures
    ∙ sym (unread_so a.key.now a.at.text.now a.at.offset c.requires (sym c.starts_with.ensures ∙ c.if-not-starts_with.false)
    (digits_begin c.digits_at-front.ensures) a.low a.high a.at.line (sym c.feed_at.ensures ∙ c.if-not-feed_at.true))

pub returns-then-front-gt-MAX_DIGITS : goal.returns-then-front-gt-MAX_DIGITS
returns-then-front-gt-MAX_DIGITS c =
    let a = c.args in
    sym (many_say a.key.now a.at.text.now a.at.offset c.requires (sym c.starts_with.ensures ∙ c.if-not-starts_with.false)
    c.digits_at-front.ensures (omega arith) (sym c.feed_at.ensures ∙ c.if-not-feed_at.false) (omega arith)
    a.low a.high a.at.line)

pub returns : goal.returns
returns c =
    let a = c.args in
    c.ranged-2.ensures
    ∙ sym (number_says a.key.now a.at.text.now a.at.offset c.requires (sym c.starts_with.ensures ∙ c.if-not-starts_with.false)
    c.digits_at-front.ensures (omega arith) (sym c.feed_at.ensures ∙ c.if-not-feed_at.false) (omega arith)
    a.low a.high a.at.line)
