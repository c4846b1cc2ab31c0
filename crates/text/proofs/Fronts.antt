-- The digits at the front of a text: they have no line feed, so the first line begins with them; and it is a number
-- only where it is nothing else.
use Rattle.std.proofs.Common.{◌≡◌, ℕ, zero, suc, ◌+◌, ◌-◌, ◌*◌, ◌%◌, ◌^◌, ◌<◌, ◌≤◌, Bool, true, false, List, [], ◌∷◌, ◌++◌, length, get_or, take, drop, sym, refl, ap, ◌∙◌, inl, inr, append-nil, arith, length-append, length-take-le, get_or-take, take-suc, ne_eqb, le-leb, eqb, eqb-true}
use Rattle.std.proofs.lemmas.Bool.{eqb-false}
use Rattle.std.proofs.lemmas.List.{nil_from_length}
use native.Mathlib.Nat.{pow-le-pow_right}
use borrow.Author.Tests.{lt-leb}
use Rattle.basics.specs.Basics.{pick, within}
use Rattle.basics.proofs.Tests.{test_of, within_true, true_within, le-or-lt}
use Rattle.text.specs.Text.{line_feed, digit_zero, digit_nine}
use Rattle.std.specs.Prelude.{Option, Some, None}
use Rattle.text.specs.declared.Front.{Front}
use Rattle.text.specs.Lines.{max_digits, line_of, digits_from, well_formed, number_of}
use Rattle.text.specs.inside.Fronts.{Passed, Fronts}
use Rattle.text.proofs.Scans.{line_ends, line_goes_on, number_empty, number_long, number_leads, number_starts}

no_number : {A : Type 0} {w : ℕ} → None ≡ Some w → A
no_number e = absurd (let z : ◌≡◌ {A = ℕ} 0 1 = cc in omega arith)

malformed : (s : List ℕ) → digits_from 0 s ≡ None → number_of s ≡ None
unfolding number_of
malformed s e = ap (λ (d : Option ℕ). pick (well_formed s) d None) e ∙ either (well_formed s)
  where
    either : (b : Bool) → pick {A = Option ℕ} b None None ≡ None
    either true = refl
    either false = refl

-- ---- digits and what follows them
pub digits_append : (v w : ℕ) (xs ys : List ℕ) → digits_from v xs ≡ Some w → digits_from v (xs ++ ys) ≡ digits_from w ys
digits_append v w [] ys e = let is : v ≡ w = cc in ap (λ (u : ℕ). digits_from u ys) is
digits_append v w (x ∷ xs) ys e = elim (test_of (within digit_zero digit_nine x)) [
  | inl t ↦ rw (t, digits_from) (digits_append (10 * v + (x - digit_zero)) w xs ys (rw (t, digits_from) at e))
  | inr t ↦ no_number (rw (t, digits_from) at e)
]

pub digits_line : (k v w : ℕ) (s : List ℕ) → digits_from v (take k s) ≡ Some w
    → line_of s ≡ take k s ++ line_of (drop k s)
digits_line zero v w s e = refl
digits_line (suc k) v w [] e = refl
digits_line (suc k) v w (b ∷ s) e = elim (test_of (within digit_zero digit_nine b)) [
  | inl t ↦ (let l = within_true digit_zero digit_nine b t in
      let other : b ≡ line_feed → ⊥ = λ f. omega (arith, f, l.low_le) in
      rw (ne_eqb b line_feed other, line_of)
      (ap (λ (r : List ℕ). b ∷ r) (digits_line k (10 * v + (b - digit_zero)) w s (rw (t, digits_from) at e))))
  | inr t ↦ no_number (rw (t, digits_from) at e)
]

-- no digit
not_low : (b : ℕ) → b < digit_zero → within digit_zero digit_nine b ≡ false
not_low b h = simp (lt-leb digit_zero b h)

not_high : (b : ℕ) → digit_nine < b → within digit_zero digit_nine b ≡ false
not_high b h = simp (le-leb digit_zero b (omega arith), lt-leb b digit_nine h)

-- so a byte less the digit zero, modulo 2^64, is above 9
pub no_digit : (b d : ℕ) → (d + digit_zero) % 2 ^ 64 ≡ b → 9 < d → d < 2 ^ 64 → within digit_zero digit_nine b ≡ false
no_digit b d e h l = elim (le-or-lt (2 ^ 64 - digit_zero) d) [
  | inl low ↦ not_low b (omega arith)
  | inr high ↦ not_high b (omega arith)
]

-- one digit more
pub digits-next : (s : List ℕ) (i w d : ℕ) → i < length s → digits_from 0 (take i s) ≡ Some w
    → get_or s i 0 ≡ digit_zero + d → d ≤ 9 → digits_from 0 (take (suc i) s) ≡ Some (10 * w + d)
digits-next s i w d h e is l =
    ap (digits_from 0) (take-suc s i 0 h)
    ∙ digits_append 0 w (take i s) (get_or s i 0 ∷ []) e
    ∙ rw (is, true_within digit_zero digit_nine (digit_zero + d) (omega arith) (omega arith), digits_from)
    (ap Some (omega arith))

-- so the number behind it is held, as long as there are no more digits than a number has
pub passed_next : {s : List ℕ} {i v : ℕ} (p : Passed s i v) (d w : ℕ) → i < length s → get_or s i 0 ≡ digit_zero + d
    → d ≤ 9 → (10 * v + d < 2 ^ 64 → w ≡ 10 * v + d) → Passed s (suc i) w
passed_next {s = s} {i = i} {v = v} p d w h is l e = record {
  written = 10 * p.written + d;
  there = omega arith;
  digits = digits-next s i p.written d h p.digits is l;
  small = omega (arith, p.small, l);
  held = λ few.
      let fewer : i ≤ max_digits = omega arith in
      let most : 10 ^ i ≤ 10 ^ max_digits = pow-le-pow_right (omega arith) fewer in
      let held = p.held fewer in
      let room : 10 * v + d < 2 ^ 64 = omega (arith, held, p.small, most, l) in
      e room ∙ ap (λ (n : ℕ). 10 * n + d) held;
}

-- ---- what begins a line and may be its number: a feed behind it ends the line, and without one the line is no number
pub record Begins (s : List ℕ) (size : ℕ) : Type 0 where
  pub ends_there : size < length s → get_or s size 0 ≡ line_feed → length (line_of s) ≡ size
  pub no_feed_there : (size < length s → get_or s size 0 ≡ line_feed → ⊥) → length (line_of s) < length s
      → number_of (line_of s) ≡ None

-- what begins below the digits is none
pub begins_low : (s : List ℕ) → 0 < length s → get_or s 0 0 < digit_zero → number_of (line_of s) ≡ None
begins_low s some low = elim (test_of (eqb (get_or s 0 0) line_feed)) [
  | inl e ↦ number_empty (line_of s) (omega (arith, ap length (line_ends s 0 some (eqb-true _ line_feed e))))
  | inr n ↦
      malformed (line_of s)
      (ap (digits_from 0) (line_goes_on s 0 some (eqb-false _ line_feed n))
      ∙ rw (not_low (get_or s 0 0) low, digits_from) refl)
]

-- a lone 0 is the number; more that begins with it is none
leads : (l : List ℕ) → get_or l 0 0 ≡ digit_zero → 1 < length l → number_of l ≡ None
leads l e h = elim (le-or-lt (length l) max_digits) [
  | inl few ↦ number_leads l (omega arith) few e h
  | inr many ↦ number_long l many
]

zero_is : number_of (digit_zero ∷ []) ≡ Some 0
unfolding number_of
zero_is = refl

module _ (s : List ℕ) (some : 0 < length s) (zero_there : get_or s 0 0 ≡ digit_zero) where
  zero_line : line_of s ≡ get_or s 0 0 ∷ line_of (drop 1 s)
  zero_line = line_goes_on s 0 some (λ f. omega (arith, f, zero_there))

  pub zero_begins : Begins s 1
  zero_begins = record {
    ends_there = λ h e. omega (arith, ap length zero_line, ap length (line_ends s 1 h e));
    no_feed_there = λ n ended.
        let inside : 1 < length s = omega (arith, ap length zero_line, ended) in
        leads (line_of s) (ap (λ l. get_or l 0 0) zero_line ∙ zero_there)
        (omega (arith, ap length zero_line, ap length (line_goes_on s 1 inside (n inside))));
  }

  pub zero_number : 1 < length s → get_or s 1 0 ≡ line_feed → number_of (line_of s) ≡ Some 0
  zero_number h e = ap number_of (zero_line ∙ rw (zero_there, line_ends s 1 h e) refl) ∙ zero_is

-- ---- the first line as a number
module _ {s : List ℕ} {r : Front} (f : Fronts s r) where
  pub front_line : line_of s ≡ take r.size s ++ line_of (drop r.size s)
  front_line = digits_line r.size 0 f.passed.written s f.passed.digits

  long : length (take r.size s) ≡ r.size
  long = length-take-le r.size s f.passed.there

  line_long : length (line_of s) ≡ r.size + length (line_of (drop r.size s))
  line_long =
      ap length front_line
      ∙ length-append (take r.size s) (line_of (drop r.size s))
      ∙ ap (λ (n : ℕ). n + length (line_of (drop r.size s))) long

  -- a feed behind the digits ends the line, and a line that goes on behind them is no number
  pub digits_begin : Begins s r.size
  digits_begin = record {
    ends_there = λ h e. omega (arith, line_long, ap length (line_ends s r.size h e));
    no_feed_there = λ n h.
        let k = r.size in
        let inside : k < length s = omega (arith, line_long) in
        let next = line_goes_on s k inside (n inside) in
        let w = f.passed.written in
        malformed (line_of s)
        (ap (digits_from 0) front_line
        ∙ digits_append 0 w (take k s) (line_of (drop k s)) f.passed.digits
        ∙ ap (digits_from w) next
        ∙ rw (f.stopped inside, digits_from));
  }

  module _ (whole : length (line_of s) ≡ r.size) where
    pub too_long : max_digits < r.size → number_of (line_of s) ≡ None
    too_long h = number_long (line_of s) (omega (arith, whole))

    line_is : line_of s ≡ take r.size s
    line_is =
        let none : line_of (drop r.size s) ≡ [] =
        nil_from_length (line_of (drop r.size s)) (omega (arith, whole, line_long)) in
        front_line ∙ ap (λ (l : List ℕ). take r.size s ++ l) none ∙ append-nil (take r.size s)

    first-is : 1 ≤ r.size → get_or (line_of s) 0 0 ≡ get_or s 0 0
    first-is h = ap (λ (l : List ℕ). get_or l 0 0) line_is ∙ get_or-take r.size s 0 0 (omega arith)

    -- of one that begins with a digit above 0, they are its number
    pub is_number : digit_zero < get_or s 0 0 → r.size < length s → get_or s r.size 0 ≡ line_feed → r.size ≤ max_digits
        → number_of (line_of s) ≡ Some r.value
    is_number above h e few =
        let none : r.size ≡ 0 → ⊥ = λ z. omega (arith, above, e, ap (λ (i : ℕ). get_or s i 0) z) in
        let some : 1 ≤ r.size = omega (arith, none) in
        number_starts (line_of s) (omega (arith, whole)) (omega (arith, whole))
        (λ z. omega (arith, above, first-is some, z))
        ∙ ap (digits_from 0) line_is ∙ f.passed.digits ∙ ap Some (sym (f.passed.held few))
