-- The lines that have been read stand before the rest of a text, and are read alike whatever the rest is; and numbers
-- that pass by a narrower grammar pass by the wider one.
use mathlib.Core.Path.{◌≡◌, refl, sym, ap, subst, ◌∙◌}
use mathlib.Core.List.{List, [], ◌++◌, append_assoc}
use Prim.Native.Nat.{ℕ, suc}
use lib.IntN.{ℤ}
use Rattle.text.specs.Text.{signed, key_line}
use Rattle.grammars.specs.Grammars.{Grammar}
use Rattle.grammars.specs.Reasons.{Passes, Reaches, begin, line}
use Rattle.grammars.specs.Reasons.{Refused, trailing, missing, malformed, out_of_range, faulty}

-- a number that passes in a state passes in any that expects the same and refuses the same
pub passes_as : {S T : Type 0} {g : Grammar S} {h : Grammar T} {s : S} {t : T} → h.expected t ≡ g.expected s
    → ((z : ℤ) → h.fault t z ≡ g.fault s z) → {key : List ℕ} {z : ℤ} → Passes g s key z → Passes h t key z
passes_as same faults {z = z} p = record {
  form = p.form;
  is_expected = same ∙ p.is_expected;
  is_number = p.is_number;
  is_in_range = p.is_in_range;
  no_fault = faults z ∙ p.no_fault;
}

-- and what is refused in it is refused there
pub refused_as : {S T : Type 0} {g : Grammar S} {h : Grammar T} {s : S} {t : T} → h.expected t ≡ g.expected s
    → ((z : ℤ) → h.fault t z ≡ g.fault s z) → {here : List ℕ} {n : ℕ} → Refused g s here n → Refused h t here n
refused_as same faults (trailing x some) = trailing (same ∙ x) some
refused_as same faults (missing key form x none) = missing key form (same ∙ x) none
refused_as same faults (malformed key form x value rest is h none) = malformed key form (same ∙ x) value rest is h none
refused_as same faults (out_of_range key form x z rest is f out) = out_of_range key form (same ∙ x) z rest is f out
refused_as same faults (faulty key form x z rest is f w m e) = faulty key form (same ∙ x) z rest is f w m (faults z ∙ e)

-- the lines before line k, apart from what follows them
pub record Front {S : Type 0} (g : Grammar S) (start : S) (text : List ℕ) (k : ℕ) (s : S) (here : List ℕ) : Type 0 where
  pub front : List ℕ
  pub joins : text ≡ front ++ here
  pub before : (more : List ℕ) → Reaches g start (front ++ more) k s more

pub in_front : {S : Type 0} {g : Grammar S} {start : S} {text : List ℕ} {k : ℕ} {s : S} {here : List ℕ}
    → Reaches g start text k s here → Front g start text k s here
in_front begin = record { front = []; joins = refl; before = λ more. begin }
in_front {g = g} {start = start} (line {k = k} {s = s} key z rest r p is) =
    let f = in_front r in
    let this = key_line key (signed z) in
    record {
      front = f.front ++ this;
      joins = f.joins ∙ ap (λ x. f.front ++ x) is ∙ sym (append_assoc f.front this rest);
      before = λ more.
          subst (λ x. Reaches g start x (suc k) (g.after s z) more) (sym (append_assoc f.front this more))
          (line key z more (f.before (this ++ more)) p refl);
    }

-- two grammars with the same states after a number, the one's lines narrower
pub widens : {S : Type 0} (g h : Grammar S) → ((s : S) (z : ℤ) → g.after s z ≡ h.after s z)
    → ((s : S) (key : List ℕ) (z : ℤ) → Passes g s key z → Passes h s key z)
    → {start : S} {text : List ℕ} {k : ℕ} {s : S} {here : List ℕ}
    → Reaches g start text k s here → Reaches h start text k s here
widens g h same passes begin = begin
widens g h same passes {start} {text} (line {k = k} {s = s} key z rest r p is) =
    subst (λ x. Reaches h start text (suc k) x rest) (sym (same s z))
    (line key z rest (widens g h same passes r) (passes s key z p) is)
