-- Two grammars whose states stay related read every text alike.
use mathlib.Core.Path.{◌≡◌, refl, sym, ap, ◌∙◌, subst}
use mathlib.Core.Bool.{true}
use mathlib.Core.List.{List}
use mathlib.Core.Logic.{inl, inr}
use Prim.Native.Nat.{ℕ, zero, suc, ◌-◌}
use lib.Dec.{ltb}
use lib.IntN.{ℤ}
use lib.ListN.{length}
use Rattle.basics.specs.Basics.{is_in}
use Rattle.basics.proofs.Tests.{test_of}
use Rattle.text.specs.Text.{line_feed}
use Rattle.grammars.specs.Forms.{Form, fits, in_form, Told, number, no_number, form_at}
use Rattle.grammars.specs.Grammars.{Grammar, Expected, the_end, a_line, key_in, Plain, Verdict, accepted, refused}
use Rattle.grammars.specs.Grammars.{on_fault, on_told, on_expected, on_step, read_for, read_from}
use Rattle.grammars.specs.Reasons.{Passes}
use Rattle.grammars.proofs.Forms.{told_fits}

-- two grammars that go side by side, as code's and a document's: where states are related, they expect the same line,
-- refuse the same numbers, and go to related states
pub record Simulates {C S : Type 0} (h : Grammar C) (g : Grammar S) (R : C → S → Type 0) : Type 0 where
  pub same_line : (c : C) (s : S) → R c s → h.expected c ≡ g.expected s
  pub same_fault : (c : C) (s : S) (key : List ℕ) (form : Form) (z : ℤ) → R c s → g.expected s ≡ a_line key form
      → fits form z ≡ true
      → in_form form z ≡ true
      → h.fault c z ≡ g.fault s z
  pub same_state : (c : C) (s : S) (key : List ℕ) (z : ℤ) → R c s → Passes g s key z → R (h.after c z) (g.after s z)

pub data Alike {C S : Type 0} (R : C → S → Type 0) : Verdict C → Verdict S → Type 0 where
  both_accept : (c : C) (s : S) → R c s → Alike R (accepted c) (accepted s)
  both_refuse : (n k : ℕ) → Alike R (refused n k) (refused n k)

module _ {C S : Type 0} (h : Grammar C) (g : Grammar S) (R : C → S → Type 0) (same : Simulates h g R) (plain : Plain g)
    (text : List ℕ) where
  -- ---- one line, where what follows is alike
  module _ (F : C → ℕ → ℕ → Verdict C) (G : S → ℕ → ℕ → Verdict S)
      (ih : (d : C) (t : S) (next j : ℕ) → R d t → Alike R (F d next j) (G t next j))
      (c : C) (s : S) (at k : ℕ) (r : R c s) where
    by_fault : (key : List ℕ) (form : Form) → g.expected s ≡ a_line key form → (z : ℤ) (next : ℕ)
        → fits form z ≡ true → in_form form z ≡ true → (n : ℕ) → g.fault s z ≡ n
        → Alike R (on_step (on_fault h c z next k n) F) (on_step (on_fault g s z next k n) G)
    by_fault key form x z next f w zero e =
        ih (h.after c z) (g.after s z) next (suc k)
        (same.same_state c s key z r
        (record { form = form; is_expected = x; is_number = f; is_in_range = w; no_fault = e }))
    by_fault key form x z next f w (suc n) e = both_refuse (suc n) k

    by_told : (key : List ℕ) (form : Form) → g.expected s ≡ a_line key form
        → (a : Told) → form_at key form text at k ≡ a
        → Alike R (on_step (on_told h c k a) F) (on_step (on_told g s k a) G)
    by_told key form x (number z next) e =
        let no_feed = ap (λ y. is_in line_feed (key_in y)) (sym x) ∙ plain s in
        let (f, w) = told_fits key no_feed form text at k z next e in
        subst (λ n. Alike R (on_step (on_fault h c z next k n) F) (on_step (on_fault g s z next k (g.fault s z)) G))
        (sym (same.same_fault c s key form z r x f w))
        (by_fault key form x z next f w (g.fault s z) refl)
    by_told key form x (no_number n) e = both_refuse n k

    by_expected : (x : Expected) → g.expected s ≡ x
        → Alike R (on_step (on_expected h text c at k x) F) (on_step (on_expected g text s at k x) G)
    by_expected the_end x =
        elim (test_of (ltb at (length text))) [
          | inl e ↦ rw e (both_refuse 1 k)
          | inr e ↦ rw e (both_accept c s r)
        ]
    by_expected (a_line key form) x = by_told key form x (form_at key form text at k) refl

  -- ---- and so line by line
  alike_for : (fuel : ℕ) (c : C) (s : S) (at k : ℕ) → R c s
      → Alike R (read_for fuel h text c at k) (read_for fuel g text s at k)
  unfolding read_for
  alike_for zero c s at k r = both_refuse 1 k
  alike_for (suc fuel) c s at k r =
      let F : C → ℕ → ℕ → Verdict C = λ t next j. read_for fuel h text t next j in
      let G : S → ℕ → ℕ → Verdict S = λ t next j. read_for fuel g text t next j in
      subst (λ x. Alike R (on_step (on_expected h text c at k x) F) (on_step (on_expected g text s at k (g.expected s)) G))
      (sym (same.same_line c s r))
      (by_expected F G (λ d t next j q. alike_for fuel d t next j q) c s at k r (g.expected s) refl)

  pub alike : (c : C) (s : S) (at k : ℕ) → R c s → Alike R (read_from h text c at k) (read_from g text s at k)
  alike c s at k r = alike_for (suc (length text - at)) c s at k r
