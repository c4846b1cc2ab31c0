-- What a text says of the line with a key and a number of a form: it has no such line, a value that is no such number,
-- or a number. And so the line answers. A range is the text crate's own; a sign is the end of another key.
use mathlib.Core.Path.{◌≡◌, refl, sym, ap, ◌∙◌, subst}
use mathlib.Core.Bool.{Bool, true, false}
use mathlib.Core.List.{List, ◌++◌, append_assoc}
use mathlib.Core.Logic.{inl, inr}
use Prim.Native.Nat.{ℕ, zero, suc, ◌+◌, ◌^◌, ◌≤◌, ◌<◌}
use native.Mathlib.Omega.{arith}
use lib.Dec.{ltb}
use lib.IntN.{ℤ, pos, negsuc}
use lib.ListN.{length, drop}
use borrow.Author.Tests.{ltb-true, lt-ltb}
use Rattle.basics.specs.Basics.{pick, within, is_in}
use Rattle.basics.proofs.Tests.{test_of, true_not_false, never, true_within}
use Rattle.text.specs.Text.{line_feed, decimal, signed, key_line}
use Rattle.text.specs.Lines.{max_digits, begins, line_at}
use Rattle.text.proofs.Decimals.{decimal_number, numeral_or_not}
use Rattle.text.proofs.Lines as T
use Rattle.grammars.specs.Forms.{Form, natural, integer, size, fits, in_form, Told, number, no_number}
use Rattle.grammars.specs.Forms.{plainly, negated, minus, highest, form_at}
use Rattle.grammars.proofs.Signs.{signed_key, signed_key_plain, signed_begins, signed_value, unsigned_begins}
use Rattle.grammars.proofs.Signs.{decimal_unsigned}

pub data Says (key : List ℕ) (form : Form) (here : List ℕ) : Type 0 where
  nothing : ((value rest : List ℕ) → here ≡ key_line key value ++ rest → ⊥) → Says key form here
  no_numeral : (value rest : List ℕ) → here ≡ key_line key value ++ rest → is_in line_feed value ≡ false
      → ((z : ℤ) → fits form z ≡ true → value ≡ signed z → ⊥)
      → Says key form here
  numeral : (z : ℤ) (rest : List ℕ) → here ≡ key_line key (signed z) ++ rest → fits form z ≡ true
      → Says key form here

few : (v : ℕ) → ltb v (10 ^ max_digits) ≡ true → v < 10 ^ max_digits
few v e = ltb-true v (10 ^ max_digits) e

fewer : (v : ℕ) → v < 10 ^ max_digits → ltb v (10 ^ max_digits) ≡ true
fewer v h = lt-ltb v (10 ^ max_digits) h

decimal_one_way : (u v : ℕ) → u < 10 ^ max_digits → v < 10 ^ max_digits → decimal u ≡ decimal v → u ≡ v
decimal_one_way u v hu hv e = let a = decimal_number u hu in let b = decimal_number v hv in cc

module _ (key : List ℕ) (plain : is_in line_feed key ≡ false) where
  abbrev locked : List ℕ
  locked = key ++ minus

  locked_plain : is_in line_feed locked ≡ false
  locked_plain = signed_key_plain key plain

  -- ---- what a text says
  says_natural : (low high : ℕ) (here : List ℕ) → Says key (natural low high) here
  unfolding signed
  says_natural low high here =
      elim (T.says key plain here) [
        | T.nothing none ↦ nothing none
        | T.no_number value rest is h none ↦ no_numeral value rest is h (unwritten value none)
        | T.number v rest is short ↦ numeral (pos v) rest is (fewer v short)
      ]
    where
      unwritten : (value : List ℕ) → ((v : ℕ) → v < 10 ^ max_digits → value ≡ decimal v → ⊥)
          → (z : ℤ) → fits (natural low high) z ≡ true → value ≡ signed z → ⊥
      unwritten value none (pos v) f e = none v (few v f) e
      unwritten value none (negsuc n) f e = never f

  -- behind a sign stands no number above 0
  unsigned : (tail : List ℕ) → ((n : ℕ) → suc n < 10 ^ max_digits → tail ≡ decimal (suc n) → ⊥)
      → (z : ℤ) → fits integer z ≡ true → minus ++ tail ≡ signed z → ⊥
  unfolding signed
  unsigned tail none (pos v) f e = decimal_unsigned v tail (sym e)
  unsigned tail none (negsuc n) f e = none n (few (suc n) f) (cc)

  says_integer : (here : List ℕ) → Says key integer here
  unfolding signed
  says_integer here =
      elim (test_of (begins locked here)) [
        | inl s ↦ elim (T.says locked locked_plain here) [
          | T.nothing none ↦ nothing (λ value rest is.
              let (tail, v) = signed_value key value rest (ap (begins locked) (sym is) ∙ s) in
              none tail rest (is ∙ ap (λ x. key_line key x ++ rest) v ∙ signed_key key tail rest))
          | T.no_number tail rest is h none ↦
              no_numeral (minus ++ tail) rest (is ∙ sym (signed_key key tail rest)) h
              (unsigned tail (λ n short e. none (suc n) short e))
          | T.number v rest is short ↦ below v rest is short
        ]
        | inr s ↦ elim (T.says key plain here) [
          | T.nothing none ↦ nothing none
          | T.no_number value rest is h none ↦ no_numeral value rest is h (unwritten value rest is s none)
          | T.number v rest is short ↦ numeral (pos v) rest is (fewer v short)
        ]
      ]
    where
      below : (v : ℕ) (rest : List ℕ) → here ≡ key_line locked (decimal v) ++ rest → v < 10 ^ max_digits
          → Says key integer here
      below zero rest is short =
          no_numeral (minus ++ decimal 0) rest (is ∙ sym (signed_key key (decimal 0) rest)) (T.decimal_no_feed 0)
          (unsigned (decimal 0) (λ n h e. let z = decimal_one_way 0 (suc n) short h e in omega arith))
      below (suc n) rest is short =
          numeral (negsuc n) rest (is ∙ sym (signed_key key (decimal (suc n)) rest)) (fewer (suc n) short)

      unwritten : (value rest : List ℕ) → here ≡ key_line key value ++ rest → begins locked here ≡ false
          → ((v : ℕ) → v < 10 ^ max_digits → value ≡ decimal v → ⊥)
          → (z : ℤ) → fits integer z ≡ true → value ≡ signed z → ⊥
      unwritten value rest is s none (pos v) f e = none v (few v f) e
      unwritten value rest is s none (negsuc n) f e =
          true_not_false (begins locked here)
          (ap (begins locked) (is ∙ ap (λ x. key_line key x ++ rest) e) ∙ signed_begins key (decimal (suc n)) rest)
          s

  pub says : (form : Form) (here : List ℕ) → Says key form here
  says (natural low high) here = says_natural low high here
  says integer here = says_integer here

  -- ---- and so its line answers
  module _ (text : List ℕ) (at k : ℕ) where
    abbrev here : List ℕ
    here = drop at text

    abbrev choose : Bool → Told
    choose b =
        pick b (negated (line_at locked 0 highest text at k)) (plainly (line_at key 0 highest text at k))

    pub form_missing : (form : Form) → ((value rest : List ℕ) → here ≡ key_line key value ++ rest → ⊥)
        → form_at key form text at k ≡ no_number 1
    unfolding form_at
    form_missing (natural low high) none = ap plainly (T.line_missing key plain low high text at k none)
    form_missing integer none =
        elim (test_of (begins locked here)) [
          | inl s ↦
              ap choose s
              ∙ ap negated (T.line_missing locked locked_plain 0 highest text at k
              (λ value rest is. none (minus ++ value) rest (is ∙ sym (signed_key key value rest))))
          | inr s ↦ ap choose s ∙ ap plainly (T.line_missing key plain 0 highest text at k none)
        ]

    negative_malformed : (tail rest : List ℕ) → here ≡ key_line locked tail ++ rest → is_in line_feed tail ≡ false
        → ((n : ℕ) → suc n < 10 ^ max_digits → tail ≡ decimal (suc n) → ⊥)
        → negated (line_at locked 0 highest text at k) ≡ no_number 2
    negative_malformed tail rest is h none =
        elim (numeral_or_not tail) [
          | inl n ↦ zeroed n.0 n.1 n.2
          | inr not ↦ ap negated (T.line_malformed locked locked_plain 0 highest text at k tail rest is h not)
        ]
      where
        zeroed : (u : ℕ) → tail ≡ decimal u → u < 10 ^ max_digits
            → negated (line_at locked 0 highest text at k) ≡ no_number 2
        zeroed zero e short =
            ap negated (T.line_number locked locked_plain 0 highest text at k 0 rest
            (is ∙ ap (λ x. key_line locked x ++ rest) e) short refl)
        zeroed (suc n) e short = absurd (none n short e)

    pub form_malformed : (form : Form) (value rest : List ℕ) → here ≡ key_line key value ++ rest
        → is_in line_feed value ≡ false
        → ((z : ℤ) → fits form z ≡ true → value ≡ signed z → ⊥)
        → form_at key form text at k ≡ no_number 2
    unfolding form_at signed
    form_malformed (natural low high) value rest is h none =
        ap plainly (T.line_malformed key plain low high text at k value rest is h
        (λ v short e. none (pos v) (fewer v short) e))
    form_malformed integer value rest is h none =
        elim (test_of (begins locked here)) [
          | inl s ↦
              let (tail, v) = signed_value key value rest (ap (begins locked) (sym is) ∙ s) in
              let here_is = is ∙ ap (λ x. key_line key x ++ rest) v ∙ signed_key key tail rest in
              let tail_plain : is_in line_feed tail ≡ false = ap (is_in line_feed) (sym v) ∙ h in
              ap choose s
              ∙ negative_malformed tail rest here_is tail_plain
              (λ n short e. none (negsuc n) (fewer (suc n) short) (v ∙ ap (λ x. minus ++ x) e))
          | inr s ↦
              ap choose s
              ∙ ap plainly (T.line_malformed key plain 0 highest text at k value rest is h
              (λ v short e. none (pos v) (fewer v short) e))
        ]

    same_length : (value : List ℕ) → length (key_line locked value) ≡ length (key_line key (minus ++ value))
    same_length value =
        T.key_line_length locked value
        ∙ ap (λ x. suc (length x)) (append_assoc key minus value)
        ∙ sym (T.key_line_length key (minus ++ value))

    module _ (z : ℤ) (rest : List ℕ) (is : here ≡ key_line key (signed z) ++ rest) where
      pub form_outside : (form : Form) → fits form z ≡ true → in_form form z ≡ false
          → form_at key form text at k ≡ no_number 3
      unfolding form_at signed
      form_outside integer f w = never (sym w)
      form_outside (natural low high) f w = go z is f w
        where
          go : (y : ℤ) → here ≡ key_line key (signed y) ++ rest → fits (natural low high) y ≡ true
              → within low high (size y) ≡ false → form_at key (natural low high) text at k ≡ no_number 3
          go (pos v) e g o = ap plainly (T.line_outside key plain low high text at k v rest e (few v g) o)
          go (negsuc n) e g o = never g

      pub form_number : (form : Form) → fits form z ≡ true → in_form form z ≡ true
          → form_at key form text at k ≡ number z (at + length (key_line key (signed z)))
      unfolding form_at signed
      form_number form f w = go form z is f w
        where
          go : (x : Form) (y : ℤ) → here ≡ key_line key (signed y) ++ rest → fits x y ≡ true → in_form x y ≡ true
              → form_at key x text at k ≡ number y (at + length (key_line key (signed y)))
          go (natural low high) (pos v) e g o =
              ap plainly (T.line_number key plain low high text at k v rest e (few v g) o)
          go (natural low high) (negsuc n) e g o = never g
          go integer (pos v) e g o =
              let short = few v g in
              let low = true_within 0 highest v (omega arith) (omega arith) in
              ap choose (ap (begins locked) e ∙ unsigned_begins key v rest)
              ∙ ap plainly (T.line_number key plain 0 highest text at k v rest e short low)
          go integer (negsuc n) e g o =
              let short = few (suc n) g in
              let low = true_within 0 highest (suc n) (omega arith) (omega arith) in
              let d = decimal (suc n) in
              let so = e ∙ signed_key key d rest in
              ap choose (ap (begins locked) e ∙ signed_begins key d rest)
              ∙ ap negated (T.line_number locked locked_plain 0 highest text at k (suc n) rest so short low)
              ∙ ap (λ l. number (negsuc n) (at + l)) (same_length d)

-- ---- a number that a line tells is one of its form, in its range
pub told_fits : (key : List ℕ) → is_in line_feed key ≡ false → (form : Form) (text : List ℕ) (at k : ℕ) (z : ℤ) (next : ℕ)
    → form_at key form text at k ≡ number z next
    → (fits form z ≡ true) × (in_form form z ≡ true)
told_fits key plain form text at k z next e =
    elim (says key plain form (drop at text)) [
      | nothing none ↦ other (form_missing key plain text at k form none)
      | no_numeral value rest is h none ↦ other (form_malformed key plain text at k form value rest is h none)
      | numeral y rest is f ↦ elim (test_of (in_form form y)) [
        | inl w ↦
            let told = form_number key plain text at k y rest is form f w in
            let same : y ≡ z = cc in
            (subst (λ x. fits form x ≡ true) same f, subst (λ x. in_form form x ≡ true) same w)
        | inr w ↦ other (form_outside key plain text at k y rest is form f w)
      ]
    ]
  where
    other : {n : ℕ} → form_at key form text at k ≡ no_number n → (fits form z ≡ true) × (in_form form z ≡ true)
    other f = let no : ◌≡◌ {A = ℕ} 0 1 = cc in absurd (omega arith)

-- ---- and no number is a refusal with a number
pub told_some : (key : List ℕ) → is_in line_feed key ≡ false → (form : Form) (text : List ℕ) (at k n : ℕ)
    → form_at key form text at k ≡ no_number n → 1 ≤ n
told_some key plain form text at k n e =
    elim (says key plain form (drop at text)) [
      | nothing none ↦ some (form_missing key plain text at k form none)
      | no_numeral value rest is h none ↦ some (form_malformed key plain text at k form value rest is h none)
      | numeral y rest is f ↦ elim (test_of (in_form form y)) [
        | inl w ↦
            let told = form_number key plain text at k y rest is form f w in
            let no : ◌≡◌ {A = ℕ} 0 1 = cc in
            absurd (omega arith)
        | inr w ↦ some (form_outside key plain text at k y rest is form f w)
      ]
    ]
  where
    some : {m : ℕ} → form_at key form text at k ≡ no_number (suc m) → 1 ≤ n
    some {m} f = let is : n ≡ suc m = cc in omega arith
