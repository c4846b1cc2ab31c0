-- The line at an offset, by the text from there on: the line is there exactly where the text is what `key_line` writes
-- and a rest. So the text alone decides the answer, and says one of three: no such line, no number in it, or a number.
-- Where the key has no line feed, the line can be read by its parts: the key, and then the line behind the key.
use Rattle.std.proofs.Common.{◌≡◌, ℕ, suc, ◌+◌, ◌/◌, ◌%◌, ◌^◌, ◌<◌, ◌≤◌, Bool, true, false, ◌&&◌, eqb, ltb, List, [], ◌∷◌, ◌++◌, length, drop, sym, refl, ap, ◌∙◌, ap₂, inl, inr, append_assoc, append-nil, arith, length-append, length-drop, drop-drop, ltb-true, lt-ltb, eq-eqb, ne_eqb, eqb-true}
use lib.Seq.{drop-append_seam}
use Rattle.basics.specs.Basics.{pick, within, is_in}
use Rattle.basics.proofs.Tests.{test_of, true_not_false, false_of, and_left, and_right, and_both, or_neither}
use Rattle.basics.proofs.Tests.{never, eqb_swap, in_append}
use Rattle.std.specs.Prelude.{Option, Some, None}
use Rattle.text.specs.Line.{Line}
use Rattle.text.specs.Line as L
use Rattle.text.specs.Text.{line_feed, digit_zero, decimal, key_line}
use Rattle.text.specs.Lines.{max_digits, line_of, begins, number_of, ranged, line_at}
use Rattle.text.proofs.Decimals.{last, decimal_one, decimal_more, by_digits, decimal_number, number_decimal}

-- ---- line feeds
pub decimal_no_feed : (v : ℕ) → is_in line_feed (decimal v) ≡ false
decimal_no_feed = by_digits (λ v. is_in line_feed (decimal v) ≡ false)
    (λ v h. rw (decimal_one v h) (digit v))
    (λ v h ih. rw (decimal_more v h, in_append line_feed (decimal (v / 10)) (last v), ih) (digit v))
  where
    digit : (v : ℕ) → is_in line_feed (last v) ≡ false
    digit v = rw (ne_eqb line_feed (digit_zero + v % 10) (λ e. omega arith))

-- bytes with no line feed stand in one line
line_passes : (l s : List ℕ) → is_in line_feed l ≡ false → line_of (l ++ s) ≡ l ++ line_of s
line_passes [] s h = refl
line_passes (b ∷ l) s h =
    let o = or_neither (eqb line_feed b) (is_in line_feed l) h in
    rw (eqb_swap line_feed b o.0, line_of) (ap (λ x. b ∷ x) (line_passes l s o.1))

line_no_feed : (s : List ℕ) → is_in line_feed (line_of s) ≡ false
line_no_feed [] = refl
line_no_feed (b ∷ s) =
    elim (test_of (eqb b line_feed)) [
      | inl e ↦ rw (e, line_of)
      | inr e ↦ rw (e, line_of) (rw (eqb_swap b line_feed e) (line_no_feed s))
    ]

-- a line feed ends its line
line_ended : (l s : List ℕ) → length (line_of (l ++ (line_feed ∷ s))) < length (l ++ (line_feed ∷ s))
line_ended [] s = omega arith
line_ended (b ∷ l) s =
    elim (test_of (eqb b line_feed)) [
      | inl e ↦ rw (e, line_of) (omega arith)
      | inr e ↦ rw (e, line_of) (omega (arith, line_ended l s))
    ]

line_splits : (s : List ℕ) → length (line_of s) < length s
    → s ≡ line_of s ++ (line_feed ∷ drop (suc (length (line_of s))) s)
line_splits [] h = absurd (omega arith)
line_splits (b ∷ s) h =
    elim (test_of (eqb b line_feed)) [
      | inl e ↦ rw (e, line_of) (ap (λ x. x ∷ s) (eqb-true b line_feed e))
      | inr e ↦
          let fewer : suc (length (line_of s)) < suc (length s) = rw (e, line_of) at h in
          rw (e, line_of) (ap (λ x. b ∷ x) (line_splits s (omega arith)))
    ]

-- ---- keys
key_begins : (key s : List ℕ) → begins key (key ++ s) ≡ true
key_begins [] s = refl
key_begins (x ∷ key) s = rw (eq-eqb x x refl) (key_begins key s)

key_splits : (key l : List ℕ) → begins key l ≡ true → l ≡ key ++ drop (length key) l
key_splits [] l e = refl
key_splits (x ∷ key) [] e = never e
key_splits (x ∷ key) (y ∷ l) e =
    let same : x ≡ y = eqb-true x y (and_left (eqb x y) (begins key l) e) in
    rw same (ap (λ s. y ∷ s) (key_splits key l (and_right (eqb x y) (begins key l) e)))

pub key_fits : (key l : List ℕ) → begins key l ≡ true → length key ≤ length l
key_fits key l e =
    omega (arith, ap length (key_splits key l e), length-append key (drop (length key) l))

key_line_is : (key value rest : List ℕ) → key_line key value ++ rest ≡ key ++ (value ++ (line_feed ∷ rest))
unfolding key_line
key_line_is key value rest = simp append_assoc

pub key_line_length : (key value : List ℕ) → length (key_line key value) ≡ suc (length (key ++ value))
unfolding key_line
key_line_length key value = simp length-append (omega arith)

-- ---- the line at an offset
pub line_rest : (text : List ℕ) (at : ℕ) (l rest : List ℕ) → drop at text ≡ l ++ rest → drop (at + length l) text ≡ rest
line_rest text at l rest is = sym (drop-drop (length l) at text) ∙ ap (drop (length l)) is ∙ drop-append_seam l rest

-- the line is ended and begins with its key
abbrev keyed : List ℕ → List ℕ → Bool
keyed key s = ltb (length (line_of s)) (length s) && begins key (line_of s)

abbrev value_in : List ℕ → List ℕ → List ℕ
value_in key s = drop (length key) (line_of s)

abbrev rest_after : List ℕ → List ℕ
rest_after s = drop (suc (length (line_of s))) s

keyed_splits : (key s : List ℕ) → keyed key s ≡ true → s ≡ key_line key (value_in key s) ++ rest_after s
keyed_splits key s e =
    let ended = and_left (ltb (length (line_of s)) (length s)) (begins key (line_of s)) e in
    let starts = and_right (ltb (length (line_of s)) (length s)) (begins key (line_of s)) e in
    line_splits s (ltb-true _ _ ended)
    ∙ ap (λ l. l ++ (line_feed ∷ rest_after s)) (key_splits key (line_of s) starts)
    ∙ append_assoc key (value_in key s) (line_feed ∷ rest_after s)
    ∙ sym (key_line_is key (value_in key s) (rest_after s))

value_no_feed : (key s : List ℕ) → keyed key s ≡ true → is_in line_feed (value_in key s) ≡ false
value_no_feed key s e =
    let starts = and_right (ltb (length (line_of s)) (length s)) (begins key (line_of s)) e in
    let whole = ap (is_in line_feed) (sym (key_splits key (line_of s) starts)) ∙ line_no_feed s in
    let parts = sym (in_append line_feed key (value_in key s)) ∙ whole in
    (or_neither (is_in line_feed key) (is_in line_feed (value_in key s)) parts).1

-- what a text says of the line with a key: it has none, a value that is no number, or a number
pub data Says (key s : List ℕ) : Type 0 where
  nothing : ((value rest : List ℕ) → s ≡ key_line key value ++ rest → ⊥) → Says key s
  no_number : (value rest : List ℕ) → s ≡ key_line key value ++ rest → is_in line_feed value ≡ false
      → ((v : ℕ) → v < 10 ^ max_digits → value ≡ decimal v → ⊥)
      → Says key s
  number : (v : ℕ) (rest : List ℕ) → s ≡ key_line key (decimal v) ++ rest → v < 10 ^ max_digits → Says key s

module _ (key : List ℕ) (no_feed : is_in line_feed key ≡ false) where
  keyed_line : (value rest : List ℕ) → keyed key (key_line key value ++ rest) ≡ true
  keyed_line value rest =
      let s = value ++ (line_feed ∷ rest) in
      let fewer = line_ended value rest in
      rw (key_line_is key value rest, line_passes key s no_feed, key_begins key (line_of s))
      (rw (length-append key (line_of s), length-append key s)
      (and_both _ true (lt-ltb (length key + length (line_of s)) (length key + length s) (omega arith)) refl))

  line_is : (value rest : List ℕ) → is_in line_feed value ≡ false → line_of (key_line key value ++ rest) ≡ key ++ value
  line_is value rest h =
      rw (key_line_is key value rest, line_passes key (value ++ (line_feed ∷ rest)) no_feed)
      (rw (line_passes value (line_feed ∷ rest) h, append-nil value))

  pub says : (s : List ℕ) → Says key s
  says s =
      elim (test_of (keyed key s)) [
        | inl e ↦ told (number_of (value_in key s)) refl (keyed_splits key s e) (value_no_feed key s e)
        | inr e ↦ nothing (λ value rest is. true_not_false (keyed key s) (ap (keyed key) is ∙ keyed_line value rest) e)
      ]
    where
      told : (d : Option ℕ) → number_of (value_in key s) ≡ d → s ≡ key_line key (value_in key s) ++ rest_after s
          → is_in line_feed (value_in key s) ≡ false → Says key s
      told (Some v) d is h =
          let n = number_decimal (value_in key s) v d in
          number v (rest_after s) (is ∙ ap (λ x. key_line key x ++ rest_after s) n.0) n.1
      told None d is h =
          no_number (value_in key s) (rest_after s) is h
          (λ v b e. let z : ◌≡◌ {A = ℕ} 0 1 = cc (decimal_number v b) in omega arith)

  -- ---- and so its line answers
  module _ (low high : ℕ) (text : List ℕ) (at k : ℕ) where
    pub line_missing : ((value rest : List ℕ) → drop at text ≡ key_line key value ++ rest → ⊥)
        → line_at key low high text at k ≡ L.Refused 1 k
    unfolding line_at
    line_missing h =
        let s = drop at text in
        rw (false_of (keyed key s) (λ e. h (value_in key s) (rest_after s) (keyed_splits key s e)))

    module _ (value rest : List ℕ) (is : drop at text ≡ key_line key value ++ rest) where
      line_holds : is_in line_feed value ≡ false
          → line_at key low high text at k ≡ ranged (number_of value) low high k (at + length (key_line key value))
      unfolding line_at
      line_holds h =
          ap₂ (λ b l. pick b (ranged (number_of (drop (length key) l)) low high k (at + suc (length l))) (L.Refused 1 k))
          (ap (keyed key) is ∙ keyed_line value rest)
          (ap line_of is ∙ line_is value rest h)
          ∙ ap₂ (λ d n. ranged (number_of d) low high k (at + n))
          (drop-append_seam key value)
          (sym (key_line_length key value))

      pub line_malformed : is_in line_feed value ≡ false → ((v : ℕ) → v < 10 ^ max_digits → value ≡ decimal v → ⊥)
          → line_at key low high text at k ≡ L.Refused 2 k
      line_malformed h none =
          line_holds h
          ∙ ap (λ d. ranged d low high k (at + length (key_line key value))) (unread (number_of value) refl)
        where
          unread : (d : Option ℕ) → number_of value ≡ d → number_of value ≡ None
          unread (Some v) e = let n = number_decimal value v e in absurd (none v n.1 n.0)
          unread None e = e

    module _ (v : ℕ) (rest : List ℕ) (is : drop at text ≡ key_line key (decimal v) ++ rest)
        (few : v < 10 ^ max_digits) where
      abbrev next : ℕ
      next = at + length (key_line key (decimal v))

      line_reads : line_at key low high text at k ≡ pick (within low high v) (L.Number v next) (L.Refused 3 k)
      line_reads =
          line_holds (decimal v) rest is (decimal_no_feed v)
          ∙ ap (λ d. ranged d low high k next) (decimal_number v few)

      pub line_outside : within low high v ≡ false → line_at key low high text at k ≡ L.Refused 3 k
      line_outside e = line_reads ∙ ap (λ b. pick b (L.Number v next) (L.Refused 3 k)) e

      pub line_number : within low high v ≡ true → line_at key low high text at k ≡ L.Number v next
      line_number e = line_reads ∙ ap (λ b. pick b (L.Number v next) (L.Refused 3 k)) e

    -- ---- and so it can be read by its parts: the key, and then what stands up to the first feed behind it
    module _ (rest : List ℕ) (r : rest ≡ drop at text) where
      pub other_missing : begins key rest ≡ false → line_at key low high text at k ≡ L.Refused 1 k
      other_missing b =
          line_missing (λ value after is.
          let whole = r ∙ is ∙ key_line_is key value after in
          let keyed_so = ap (begins key) whole ∙ key_begins key (value ++ (line_feed ∷ after)) in
          true_not_false (begins key rest) keyed_so b)

      pub short_missing : length rest ≤ length key → line_at key low high text at k ≡ L.Refused 1 k
      short_missing h =
          line_missing (λ value after is.
          let long = ap length (r ∙ is ∙ key_line_is key value after) in
          omega (
            arith,
            h,
            long,
            length-append key (value ++ (line_feed ∷ after)),
            length-append value (line_feed ∷ after),
          ))

      module _ (tail value : List ℕ) (t : tail ≡ drop (length key) rest) (l : value ≡ line_of tail) where
        pub unended_missing : length tail ≤ length value → line_at key low high text at k ≡ L.Refused 1 k
        unended_missing h =
            line_missing (λ other after is.
            let s = other ++ (line_feed ∷ after) in
            let whole = r ∙ is ∙ key_line_is key other after in
            let tail_is : tail ≡ s = t ∙ ap (drop (length key)) whole ∙ drop-append_seam key s in
            let value-is : value ≡ line_of s = l ∙ ap line_of tail_is in
            omega (arith, line_ended other after, ap length tail_is, ap length value-is))

        pub ended_ranged : begins key rest ≡ true → length value < length tail → (d : Option ℕ) → number_of value ≡ d
            → line_at key low high text at k ≡ ranged d low high k (at + suc (length key + length value))
        ended_ranged b h d n =
            let after = rest_after tail in
            let split : tail ≡ line_of tail ++ (line_feed ∷ after) = line_splits tail (omega (arith, ap length l)) in
            let behind : drop (length key) rest ≡ value ++ (line_feed ∷ after) =
            sym t ∙ split ∙ ap (λ x. x ++ (line_feed ∷ after)) (sym l) in
            let whole = key_splits key rest b ∙ ap (λ x. key ++ x) behind ∙ sym (key_line_is key value after) in
            let long = key_line_length key value ∙ ap suc (length-append key value) in
            line_holds value after (sym r ∙ whole) (ap (is_in line_feed) l ∙ line_no_feed tail)
            ∙ ap₂ (λ x m. ranged x low high k (at + m)) n long

-- ---- a line's answer is a number in its range with the offset after it, past the line's first byte and in the text,
-- or a refusal of that line
pub data Answers (low high : ℕ) (text : List ℕ) (at k : ℕ) : Line → Type 0 where
  tells : (v next : ℕ) → within low high v ≡ true → at < next → next ≤ length text
      → Answers low high text at k (L.Number v next)
  refuses : (n : ℕ) → Answers low high text at k (L.Refused (suc n) k)

pub line_answers : (key : List ℕ) (low high : ℕ) (text : List ℕ) (at k : ℕ)
    → Answers low high text at k (line_at key low high text at k)
unfolding line_at
line_answers key low high text at k =
    let s = drop at text in
    let l = line_of s in
    elim (test_of (ltb (length l) (length s) && begins key l)) [
      | inl e ↦
          let shorter = ltb-true (length l) (length s) (and_left (ltb (length l) (length s)) (begins key l) e) in
          let inside : at + suc (length l) ≤ length text = omega (arith, length-drop at text) in
          rw e (ranged_answers (number_of (drop (length key) l)) (at + suc (length l)) (omega arith) inside)
      | inr e ↦ rw e (refuses 0)
    ]
  where
    ranged_answers : (d : Option ℕ) (next : ℕ) → at < next → next ≤ length text
        → Answers low high text at k (ranged d low high k next)
    ranged_answers None next h l = refuses 1
    ranged_answers (Some v) next h l =
        elim (test_of (within low high v)) [ inl e ↦ rw e (tells v next e h l) | inr e ↦ rw e (refuses 2) ]

-- ---- a line that answers a number has its key, a digit and a line feed at least, and they stand in the text
numeral_some : (s : List ℕ) (v : ℕ) → number_of s ≡ Some v → 1 ≤ length s
unfolding number_of
numeral_some [] v e = let z : ◌≡◌ {A = ℕ} 0 1 = cc in absurd (omega arith)
numeral_some (b ∷ s) v e = omega arith

module _ (key : List ℕ) (low high : ℕ) (text : List ℕ) (at k v next : ℕ) where
  abbrev here : List ℕ
  here = line_of (drop at text)

  abbrev value : List ℕ
  value = drop (length key) here

  pub line_long : line_at key low high text at k ≡ L.Number v next
      → (at + suc (suc (length key)) ≤ next) × (next ≤ length text)
  unfolding line_at
  line_long e =
      let s = drop at text in
      elim (test_of (ltb (length here) (length s) && begins key here)) [
        | inl t ↦
            let told : ranged (number_of value) low high k (at + suc (length here)) ≡ L.Number v next =
            rw t at e in
            let ended = and_left (ltb (length here) (length s)) (begins key here) t in
            let inside = ltb-true (length here) (length s) ended in
            let starts = and_right (ltb (length here) (length s)) (begins key here) t in
            let is = told_next (number_of value) refl told in
            let long = ap length (key_splits key here starts) ∙ length-append key value in
            (omega (arith, is.0, is.1, long), omega (arith, is.0, inside, length-drop at text))
        | inr t ↦
            let none : L.Refused 1 k ≡ L.Number v next = rw t at e in
            let z : ◌≡◌ {A = ℕ} 0 1 = cc in
            absurd (omega arith)
      ]
    where
      told_next : (d : Option ℕ) → number_of value ≡ d
          → ranged d low high k (at + suc (length here)) ≡ L.Number v next
          → (at + suc (length here) ≡ next) × (1 ≤ length value)
      told_next None n h = let z : ◌≡◌ {A = ℕ} 0 1 = cc in absurd (omega arith)
      told_next (Some u) n h =
          let some = numeral_some value u n in
          elim (test_of (within low high u)) [
            | inl w ↦
                let same : L.Number u (at + suc (length here)) ≡ L.Number v next = rw w at h in
                (cc, some)
            | inr w ↦
                let none : L.Refused 3 k ≡ L.Number v next = rw w at h in
                let z : ◌≡◌ {A = ℕ} 0 1 = cc in
                absurd (omega arith)
          ]
