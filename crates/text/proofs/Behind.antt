-- Behind a line's key: what the digits there, and a feed behind them, say of the line.
use Rattle.std.proofs.Common.{◌≡◌, ℕ, suc, ◌+◌, ◌-◌, ◌<◌, ◌≤◌, Bool, true, false, ◌&&◌, eqb, ltb, List, length, get_or, take, drop, refl, ◌∙◌, ap, inl, inr, arith, length-drop, take_all, ltb-true, lt-ltb, eq-eqb, eqb-true, le-ltb}
use Rattle.std.specs.Prelude.{Option, Some, None}
use Rattle.basics.specs.Basics.{is_in}
use Rattle.basics.proofs.Tests.{true_not_false, and_left, and_right, and_both, le-or-lt}
use Rattle.text.specs.Text.{line_feed, digit_zero}
use Rattle.text.specs.declared.Front.{Front}
use Rattle.text.specs.Line as L
use Rattle.text.specs.Lines.{max_digits, line_of, begins, number_of, malformed, ranged, line_at}
use Rattle.text.specs.inside.Fronts.{Fronts, unread}
use Rattle.text.proofs.Fronts.{Begins, begins_low, zero_begins, zero_number, digits_begin, is_number, too_long}
use Rattle.text.proofs.Lines.{unended_missing, ended_ranged}
use Rattle.text.proofs.Scans.{feed_ends}

-- what stands in a text from an offset on, as code takes it
abbrev pub from : List ℕ → ℕ → List ℕ
from s n = take (length s - n) (drop n s)

pub from_is : (s : List ℕ) (n : ℕ) → from s n ≡ drop n s
from_is s n = take_all (length s - n) (drop n s) (omega (arith, length-drop n s))

abbrev has_feed : List ℕ → ℕ → Bool
has_feed s i = ltb i (length s) && eqb (get_or s i 0) line_feed

-- a line that begins with its key
module _
    (key text : List ℕ) (at : ℕ) (no_feed : is_in line_feed key ≡ false) (begun : begins key (from text at) ≡ true)
  where
    abbrev tail : List ℕ
    tail = from (from text at) (length key)

    -- an ended line says what stands up to its feed
    says : (low high k : ℕ) → length (line_of tail) < length tail → (d : Option ℕ) → number_of (line_of tail) ≡ d
        → line_at key low high text at k ≡ ranged d low high k (at + suc (length key + length (line_of tail)))
    says low high k =
        ended_ranged key no_feed low high text at k (from text at) (from_is text at) tail _
        (from_is (from text at) (length key)) refl begun

    -- one that has no number where it ends has none, or no end
    pub unread_line : (length (line_of tail) < length tail → number_of (line_of tail) ≡ None) → (low high k : ℕ)
        → line_at key low high text at k ≡ unread tail k
    unread_line no_number low high k = rw feed_ends (
        elim (le-or-lt (length tail) (length (line_of tail))) [
          | inl long ↦
              rw (le-ltb (length (line_of tail)) (length tail) long)
              (unended_missing key no_feed low high text at k (from text at) (from_is text at) tail _
              (from_is (from text at) (length key)) refl long)
          | inr ended ↦
              rw (lt-ltb (length (line_of tail)) (length tail) ended)
              (says low high k ended None (no_number ended))
        ])

    -- behind the key stand so many bytes that may be its number
    module _ {size : ℕ} (front : Begins tail size) where
      -- with a feed behind them these are the line
      module _ (found : has_feed tail size ≡ true) where
        inside : size < length tail
        inside = ltb-true _ _ (and_left (ltb size (length tail)) _ found)

        feed : get_or tail size 0 ≡ line_feed
        feed = eqb-true _ line_feed (and_right (ltb size (length tail)) _ found)

        pub digits_only : length (line_of tail) ≡ size
        digits_only = front.ends_there inside feed

        pub next_inside : at + length key + size + 1 ≤ length text
        next_inside =
            let rest = from text at in
            omega (
              arith,
              inside,
              ap length (from_is text at),
              length-drop at text,
              ap length (from_is rest (length key)),
              length-drop (length key) rest,
            )

        pub digits_say : (low high k next : ℕ) → next ≡ at + length key + size + 1
            → (d : Option ℕ) → number_of (line_of tail) ≡ d → line_at key low high text at k ≡ ranged d low high k next
        digits_say low high k next is d e =
            let so : at + suc (length key + length (line_of tail)) ≡ next = omega (arith, digits_only, is) in
            says low high k (omega (arith, inside, digits_only)) d e ∙ ap (ranged d low high k) so

      -- with none it has no number, or no end
      pub unread_so : (low high k : ℕ) → has_feed tail size ≡ false → line_at key low high text at k ≡ unread tail k
      unread_so low high k none =
          unread_line
          (front.no_feed_there
          (λ h e. true_not_false _ (and_both _ _ (lt-ltb size (length tail) h) (eq-eqb _ line_feed e)) none))
          low high k

    -- a lone 0 is its number, and nothing else that begins so low has one
    module _ (some : 0 < length tail) (low high k : ℕ) where
      abbrev lone_zero : Bool
      lone_zero = eqb (get_or tail 0 0) digit_zero && has_feed tail 1

      pub zero_says : lone_zero ≡ true → line_at key low high text at k ≡ ranged (Some 0) low high k (at + length key + 2)
      zero_says e =
          let zero = eqb-true _ digit_zero (and_left (eqb (get_or tail 0 0) digit_zero) _ e) in
          let found = and_right (eqb (get_or tail 0 0) digit_zero) _ e in
          let front = zero_begins tail some zero in
          digits_say front found low high k (at + length key + 2) (omega arith) (Some 0)
          (zero_number tail some zero (inside front found) (feed front found))

      pub low_unread : get_or tail 0 0 ≤ digit_zero → lone_zero ≡ false → line_at key low high text at k ≡ unread tail k
      low_unread h e = elim (le-or-lt digit_zero (get_or tail 0 0)) [
        | inl above ↦
            let zero : get_or tail 0 0 ≡ digit_zero = omega (arith, h, above) in
            unread_so (zero_begins tail some zero) low high k (rw (eq-eqb _ digit_zero zero) at e)
        | inr below ↦ unread_line (λ _. begins_low tail some below) low high k
      ]

    -- digits are, of which the first is above 0, as long as they are not too many
    module _ {r : Front} (f : Fronts tail r) (above : digit_zero < get_or tail 0 0) (found : has_feed tail r.size ≡ true)
      where
        pub number_says : r.size ≤ max_digits → (low high k : ℕ)
            → line_at key low high text at k ≡ ranged (Some r.value) low high k (at + length key + r.size + 1)
        number_says few low high k =
            let front = digits_begin f in
            digits_say front found low high k _ refl (Some r.value)
            (is_number f (digits_only front found) above (inside front found) (feed front found) few)

        pub many_say : max_digits < r.size → (low high k : ℕ)
            → line_at key low high text at k ≡ L.Refused malformed k
        many_say many low high k =
            let front = digits_begin f in
            digits_say front found low high k _ refl None (too_long f (digits_only front found) many)
