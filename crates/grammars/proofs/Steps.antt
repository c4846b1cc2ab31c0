-- One line of a reading: it moves on past a byte at least, so the fuel never decides, and what is read from a line on
-- is what is read after it.
use mathlib.Core.Path.{◌≡◌, refl, ap, ◌∙◌}
use mathlib.Core.List.{List, ◌++◌}
use mathlib.Core.Logic.{inl, inr}
use Prim.Native.Nat.{ℕ, zero, suc, ◌-◌, ◌≤◌, ◌<◌}
use native.Mathlib.Omega.{arith}
use lib.IntN.{ℤ}
use lib.ListN.{length, drop}
use Rattle.basics.proofs.Tests.{test_of}
use Rattle.text.specs.Lines.{begins, line_at}
use Rattle.text.specs.Line.{Line}
use Rattle.text.specs.Line as L
use Rattle.text.proofs.Lines.{Answers, tells, refuses, line_answers}
use Rattle.grammars.specs.Forms.{Form, natural, integer, Told, number, no_number}
use Rattle.grammars.specs.Forms.{plainly, negated, minus, highest, form_at}
use Rattle.grammars.specs.Grammars.{Grammar, Expected, the_end, a_line, Verdict}
use Rattle.grammars.specs.Grammars.{Step, goes_on, stops, on_fault, on_told, on_expected, on_step}
use Rattle.grammars.specs.Grammars.{step, read_for, read_from}

-- ---- a line that is read ends past its first byte, in the text
pub record Onward (text : List ℕ) (at next : ℕ) : Type 0 where
  pub further : at < next
  pub inside : next ≤ length text

line_onward : (low high : ℕ) (text : List ℕ) (at k : ℕ) (l : Line) → Answers low high text at k l
    → (v next : ℕ) → l ≡ L.Number v next → Onward text at next
line_onward low high text at k l (tells u past w h i) v next e =
    let is : past ≡ next = cc in
    record { further = omega arith; inside = omega arith }
line_onward low high text at k l (refuses n) v next e = let z : ◌≡◌ {A = ℕ} 0 1 = cc in absurd (omega arith)

-- a told number is a line's
no_answer : {A : Type 0} {n : ℕ} {z : ℤ} {next : ℕ} → no_number n ≡ number z next → A
no_answer e = let z : ◌≡◌ {A = ℕ} 0 1 = cc in absurd (omega arith)

module _ (z : ℤ) (next : ℕ) where
  abbrev IsNumber : Line → Type 0
  IsNumber l = (v : ℕ) × (l ≡ L.Number v next)

  plainly_number : (l : Line) → plainly l ≡ number z next → IsNumber l
  plainly_number (L.Number v to) e = (v, ap (L.Number v) (cc))
  plainly_number L.End e = no_answer e
  plainly_number (L.Refused n i) e = no_answer e

  negated_number : (l : Line) → negated l ≡ number z next → IsNumber l
  negated_number (L.Number zero to) e = no_answer e
  negated_number (L.Number (suc n) to) e = (suc n, ap (L.Number (suc n)) (cc))
  negated_number L.End e = no_answer e
  negated_number (L.Refused n i) e = no_answer e

  pub form_onward : (key : List ℕ) (form : Form) (text : List ℕ) (at k : ℕ)
      → form_at key form text at k ≡ number z next → Onward text at next
  unfolding form_at
  form_onward key (natural low high) text at k e =
      let (v, is) = plainly_number (line_at key low high text at k) e in
      line_onward low high text at k _ (line_answers key low high text at k) v next is
  form_onward key integer text at k e =
      elim (test_of (begins (key ++ minus) (drop at text))) [
        | inl s ↦
            let l = line_at (key ++ minus) 0 highest text at k in
            let h : negated l ≡ number z next = rw s at e in
            let (v, is) = negated_number l h in
            line_onward 0 highest text at k _ (line_answers (key ++ minus) 0 highest text at k) v next is
        | inr s ↦
            let l = line_at key 0 highest text at k in
            let h : plainly l ≡ number z next = rw s at e in
            let (v, is) = plainly_number l h in
            line_onward 0 highest text at k _ (line_answers key 0 highest text at k) v next is
      ]

-- ---- a step goes on, or stops
pub data Stepped {S : Type 0} (x : Step S) : Type 0 where
  went : (t : S) (next j : ℕ) → x ≡ goes_on t next j → Stepped x
  stopped : (o : Verdict S) → x ≡ stops o → Stepped x

pub stepped : {S : Type 0} (x : Step S) → Stepped x
stepped (goes_on t next j) = went t next j refl
stepped (stops o) = stopped o refl

-- what is expected is a line or the end, and a step goes on or stops
pub no_line : {A : Type 0} {key : List ℕ} {form : Form} → a_line key form ≡ the_end → A
no_line e = let z : ◌≡◌ {A = ℕ} 0 1 = cc in absurd (omega arith)

pub not_both : {S A : Type 0} {o : Verdict S} {t : S} {next j : ℕ} → stops o ≡ goes_on t next j → A
not_both e = let z : ◌≡◌ {A = ℕ} 0 1 = cc in absurd (omega arith)

-- and it goes on past its line
module _ {S : Type 0} (g : Grammar S) (text : List ℕ) (s : S) (at k : ℕ) (t : S) (next j : ℕ) where
  pub step_onward : step g text s at k ≡ goes_on t next j → Onward text at next × (j ≡ suc k)
  step_onward e = by_expected (g.expected s) e
    where
      by_fault : (key : List ℕ) (form : Form) (z : ℤ) (to n : ℕ) → form_at key form text at k ≡ number z to
          → on_fault g s z to k n ≡ goes_on t next j → Onward text at next × (j ≡ suc k)
      by_fault key form z to zero f h =
          let is : to ≡ next = cc in
          (form_onward z next key form text at k (f ∙ ap (number z) is), cc)
      by_fault key form z to (suc n) f h = not_both h

      by_told : (key : List ℕ) (form : Form) (a : Told) → form_at key form text at k ≡ a
          → on_told g s k a ≡ goes_on t next j → Onward text at next × (j ≡ suc k)
      by_told key form (number z to) f h = by_fault key form z to (g.fault s z) f h
      by_told key form (no_number n) f h = not_both h

      by_expected : (x : Expected) → on_expected g text s at k x ≡ goes_on t next j
          → Onward text at next × (j ≡ suc k)
      by_expected the_end h = not_both h
      by_expected (a_line key form) h = by_told key form (form_at key form text at k) refl h

-- ---- any fuel above the bytes that are left is enough
module _ {S : Type 0} (g : Grammar S) (text : List ℕ) where
  enough : (m n : ℕ) (s : S) (at k : ℕ) → length text - at < m → length text - at < n
      → read_for m g text s at k ≡ read_for n g text s at k
  unfolding read_for
  enough zero n s at k hm hn = absurd (omega arith)
  enough (suc m) zero s at k hm hn = absurd (omega arith)
  enough (suc m) (suc n) s at k hm hn =
      elim (stepped (step g text s at k)) [
        | went t next j e ↦
            let w = (step_onward g text s at k t next j e).0 in
            rw e (enough m n t next j (omega arith) (omega arith))
        | stopped o e ↦ rw e
      ]

  -- what is read from a line on is what is read after it
  pub read_steps : (s : S) (at k : ℕ) → read_from g text s at k ≡ on_step (step g text s at k) (read_from g text)
  unfolding read_for
  read_steps s at k =
      elim (stepped (step g text s at k)) [
        | went t next j e ↦
            let w = (step_onward g text s at k t next j e).0 in
            rw e (enough (length text - at) (suc (length text - next)) t next j (omega arith) (omega arith))
        | stopped o e ↦ rw e
      ]

  -- ---- by what is expected, and by what its line answers
  module _ (s : S) (at k : ℕ) where
    pub by_expected : (x : Expected) → g.expected s ≡ x
        → read_from g text s at k ≡ on_step (on_expected g text s at k x) (read_from g text)
    by_expected x e = read_steps s at k ∙ ap (λ y. on_step (on_expected g text s at k y) (read_from g text)) e

    module _ (key : List ℕ) (form : Form) (x : g.expected s ≡ a_line key form) where
      pub by_told : (a : Told) → form_at key form text at k ≡ a
          → read_from g text s at k ≡ on_step (on_told g s k a) (read_from g text)
      by_told a e = by_expected (a_line key form) x ∙ ap (λ y. on_step (on_told g s k y) (read_from g text)) e

      pub by_fault : (z : ℤ) (next : ℕ) → form_at key form text at k ≡ number z next → (n : ℕ) → g.fault s z ≡ n
          → read_from g text s at k ≡ on_step (on_fault g s z next k n) (read_from g text)
      by_fault z next e n f =
          by_told (number z next) e ∙ ap (λ y. on_step (on_fault g s z next k y) (read_from g text)) f
