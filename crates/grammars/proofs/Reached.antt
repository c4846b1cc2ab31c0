-- A step that goes on has passed a line: the text's lines lead to the state after it.
use mathlib.Core.Path.{◌≡◌, refl, sym, ap, subst, ◌∙◌}
use mathlib.Core.Bool.{true, false}
use mathlib.Core.List.{List, ◌++◌}
use mathlib.Core.Logic.{inl, inr}
use Prim.Native.Nat.{ℕ, zero, suc, ◌+◌}
use lib.IntN.{ℤ}
use lib.ListN.{length, drop}
use Rattle.basics.specs.Basics.{is_in}
use Rattle.basics.proofs.Tests.{test_of}
use Rattle.text.specs.Text.{line_feed, signed, key_line}
use Rattle.text.proofs.Lines.{line_rest}
use Rattle.grammars.specs.Forms.{Form, fits, in_form, no_number, form_at}
use Rattle.grammars.specs.Grammars.{Grammar, Expected, the_end, a_line, key_in, Plain}
use Rattle.grammars.specs.Grammars.{goes_on, on_fault, on_told, on_expected, step}
use Rattle.grammars.specs.Reasons.{Passes, Reaches, line}
use Rattle.grammars.proofs.Forms.{nothing, no_numeral, numeral, says}
use Rattle.grammars.proofs.Forms.{form_missing, form_malformed, form_outside, form_number}
use Rattle.grammars.proofs.Steps.{not_both}

module _ {S : Type 0} (g : Grammar S) (plain : Plain g) (start : S) (text : List ℕ) (s : S) (at k : ℕ)
    (reached : Reaches g start text k s (drop at text)) (t : S) (next j : ℕ) where
  abbrev Goal : Type 0
  Goal = Reaches g start text j t (drop next text)

  by_fault : (key : List ℕ) (form : Form) → g.expected s ≡ a_line key form → (z : ℤ) (rest : List ℕ)
      → drop at text ≡ key_line key (signed z) ++ rest → fits form z ≡ true → in_form form z ≡ true
      → (n : ℕ) → g.fault s z ≡ n
      → on_fault g s z (at + length (key_line key (signed z))) k n ≡ goes_on t next j → Goal
  by_fault key form x z rest is f w zero none e =
      let passes : Passes g s key z =
      record { form = form; is_expected = x; is_number = f; is_in_range = w; no_fault = none } in
      let past : at + length (key_line key (signed z)) ≡ next = cc in
      let state : g.after s z ≡ t = cc in
      let lines : suc k ≡ j = cc in
      let follows : rest ≡ drop next text =
      sym (line_rest text at (key_line key (signed z)) rest is) ∙ ap (λ (n : ℕ). drop n text) past in
      subst (λ n. Reaches g start text n t (drop next text)) lines
      (subst (λ u. Reaches g start text (suc k) u (drop next text)) state
      (subst (Reaches g start text (suc k) (g.after s z)) follows (line key z rest reached passes is)))
  by_fault key form x z rest is f w (suc n) none e = not_both e

  by_line : (key : List ℕ) (form : Form) → g.expected s ≡ a_line key form
      → on_told g s k (form_at key form text at k) ≡ goes_on t next j → Goal
  by_line key form x e =
      elim (says key no_feed form (drop at text)) [
        | nothing none ↦ other (form_missing key no_feed text at k form none)
        | no_numeral value rest is h none ↦ other (form_malformed key no_feed text at k form value rest is h none)
        | numeral z rest is f ↦ elim (test_of (in_form form z)) [
          | inl w ↦
              by_fault key form x z rest is f w (g.fault s z) refl
              (sym (ap (on_told g s k) (form_number key no_feed text at k z rest is form f w)) ∙ e)
          | inr w ↦ other (form_outside key no_feed text at k z rest is form f w)
        ]
      ]
    where
      no_feed : is_in line_feed key ≡ false
      no_feed = ap (λ y. is_in line_feed (key_in y)) (sym x) ∙ plain s

      other : {n : ℕ} → form_at key form text at k ≡ no_number n → Goal
      other f = not_both (sym (ap (on_told g s k) f) ∙ e)

  pub step_reaches : step g text s at k ≡ goes_on t next j → Goal
  step_reaches e = go (g.expected s) refl e
    where
      go : (x : Expected) → g.expected s ≡ x → on_expected g text s at k x ≡ goes_on t next j → Goal
      go the_end x h = not_both h
      go (a_line key form) x h = by_line key form x h
