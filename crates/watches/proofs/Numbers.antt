-- Lines with one key one after another: the numbers so far, one more, and what a grammar that expects such lines makes
-- of them.
use mathlib.Core.Path.{◌≡◌, refl, sym, ap, subst, ◌∙◌}
use mathlib.Core.List.{List, [], ◌∷◌, ◌++◌}
use mathlib.Core.Logic.{inl, inr}
use Prim.Native.Nat.{ℕ, suc, ◌+◌, ◌≤◌, ◌<◌}
use native.Mathlib.Omega.{arith}
use native.Mathlib.Nat.{add-zero}
use native.Mathlib.Numerals.{add-one}
use lib.IntN.{ℤ, pos}
use lib.ListN.{length, get_or, take, set, length-append, length-set, get_or-append}
use lib.Seq.{take-suc-set, take_all, length-take-le, get_or_at}
use Rattle.basics.proofs.Tests.{le-or-lt, Within}
use Rattle.std.specs.Prelude.{Ok, Err}
use Rattle.text.specs.Lines.{fault_number, line_at, told}
use Rattle.text.specs.Lines as Lines
use Rattle.text.specs.Line.{Line}
use Rattle.text.specs.Line as L
use Rattle.text.specs.declared.LineRefusal.{LineRefusal}
use Rattle.text.specs.declared.Number.{Number}
use Rattle.grammars.specs.Forms.{natural}
use Rattle.grammars.specs.Grammars.{Grammar, a_line, refused, on_step, read_from}
use Rattle.grammars.specs.inside.Answers.{tested, on_answer}
use Rattle.grammars.proofs.Answers.{no_test}
use Rattle.grammars.proofs.Steps.{read_steps}
use Rattle.grammars.proofs.Naturals.{step_line, number_within}
use Rattle.watches.specs.inside.Lines.{number_line, Told, none, more, Stopped, ReadsNumbers}

-- ---- a grammar's line by what it answers, where no number in its range is refused
module _ {S : Type 0} (g : Grammar S) (text : List ℕ) (s : S) (at k : ℕ) (key : List ℕ) (low high : ℕ)
    (expects : g.expected s ≡ a_line key (natural low high)) (lets : (z : ℤ) → g.fault s z ≡ 0) where
  abbrev answer : Line
  answer = line_at key low high text at k

  by_answer : read_from g text s at k ≡ on_step (on_answer g s k answer) (read_from g text)
  by_answer =
      read_steps g text s at k
      ∙ ap (λ x. on_step x (read_from g text))
      (step_line g text s at k key low high expects ∙ ap (on_answer g s k) (untested answer))
    where
      untested : (l : Line) → tested (λ v. g.fault s (pos v)) l k ≡ l
      untested (L.Number v next) = rw (lets (pos v))
      untested L.End = refl
      untested (L.Refused n j) = refl

  pub line_number : (v next : ℕ) → answer ≡ L.Number v next
      → read_from g text s at k ≡ read_from g text (g.after s (pos v)) next (suc k)
  line_number v next e = by_answer ∙ ap (λ l. on_step (on_answer g s k l) (read_from g text)) e

  pub line_refused : (e : LineRefusal) → answer ≡ Lines.refused e → read_from g text s at k ≡ refused (fault_number e.fault) e.line
  line_refused e is = by_answer ∙ ap (λ l. on_step (on_answer g s k l) (read_from g text)) is

-- ---- lines of one key
module _ (text key : List ℕ) (low high : ℕ → ℕ) where
  -- each number is in its range
  pub told_within : {at k : ℕ} {vs : List ℕ} {next : ℕ} → Told text key low high at k vs next
      → (m : ℕ) → m < length vs → Within (low m) (high m) (get_or vs m 0)
  told_within none m l = absurd (omega arith)
  told_within (more {vs = vs} v next t e) m l = elim (le-or-lt (length vs) m) [
    | inl b ↦ (
        let at : length vs ≡ m = omega (arith, length-append vs (v ∷ [])) in
        subst (λ x. Within (low x) (high x) (get_or (vs ++ (v ∷ [])) x 0)) at
        (subst (Within (low (length vs)) (high (length vs))) (sym (get_or_at vs v [] 0 (length vs) refl))
        (number_within (λ x. 0) key (low (length vs)) (high (length vs)) text _ _ v next (sym (no_test _ _) ∙ e))))
    | inr b ↦
        subst (Within (low m) (high m)) (sym (get_or-append vs (v ∷ []) 0 m b)) (told_within t m b)
  ]

  -- by a grammar that expects n of them
  module _ {S : Type 0} (g : Grammar S) (stage : List ℕ → S) (n : ℕ)
      (expects : (vs : List ℕ) → length vs < n
      → g.expected (stage vs) ≡ a_line key (natural (low (length vs)) (high (length vs))))
      (lets : (vs : List ℕ) → length vs < n → (z : ℤ) → g.fault (stage vs) z ≡ 0)
      (goes : (vs : List ℕ) → length vs < n → (v : ℕ) → g.after (stage vs) (pos v) ≡ stage (vs ++ (v ∷ []))) where
    pub told_resumes : {at k : ℕ} {vs : List ℕ} {next : ℕ} → Told text key low high at k vs next → length vs ≤ n
        → read_from g text (stage []) at k ≡ read_from g text (stage vs) next (k + length vs)
    told_resumes {k = k} none l = rw (add-zero k)
    told_resumes {k = k} (more {vs = vs} {past = past} v next t e) l =
        let long = length-append vs (v ∷ []) in
        let short : length vs < n = omega arith in
        let line : k + length (vs ++ (v ∷ [])) ≡ suc (k + length vs) = omega arith in
        told_resumes t (omega arith)
        ∙ (line_number g text (stage vs) past (k + length vs) key (low (length vs)) (high (length vs))
        (expects vs short) (lets vs short) v next e
        ∙ (ap (λ s. read_from g text s next (suc (k + length vs))) (goes vs short v)
        ∙ ap (read_from g text (stage (vs ++ (v ∷ []))) next) (sym line)))

    pub stopped_refused : {at k m : ℕ} (e : LineRefusal) → m ≤ n → Stopped text key low high at k m (Lines.refused e)
        → read_from g text (stage []) at k ≡ refused (fault_number e.fault) e.line
    stopped_refused {k = k} e few s =
        let vs = s.numbers in
        let short : length vs < n = omega (arith, s.fewer) in
        told_resumes s.told (omega arith)
        ∙ line_refused g text (stage vs) s.past (k + length vs) key (low (length vs)) (high (length vs))
        (expects vs short) (lets vs short) e s.stopped

-- ---- the reader of such lines on its way
module _ (text key : List ℕ) (low high : ℕ → ℕ) (at₀ k₀ : ℕ) where
  pub record Reading (ns : List ℕ) (at m : ℕ) : Type 0 where
    pub reached : m ≤ length ns
    pub told : Told text key low high at₀ k₀ (take m ns) at

  pub reading_starts : (ns : List ℕ) → Reading ns at₀ 0
  reading_starts ns = record { reached = omega arith; told = none }

  module _ {ns : List ℕ} {at m : ℕ} (g : Reading ns at m) (l : m < length ns) where
    so_many : length (take m ns) ≡ m
    so_many = length-take-le m ns g.reached

    -- the line that is tried is the next of them
    line_here : (x : Line) → x ≡ line_at key (low m) (high m) text at (k₀ + m)
        → number_line text key low high (length (take m ns)) at (k₀ + length (take m ns)) ≡ x
    line_here x e = ap (λ (i : ℕ). number_line text key low high i at (k₀ + i)) so_many ∙ sym e

    pub reading_on : (n : Number) → told (Ok n) ≡ line_at key (low m) (high m) text at (k₀ + m)
        → Reading (set ns m n.value) n.next (m + 1)
    reading_on n e = rw (add-one m) record {
      reached = omega (arith, length-set ns m n.value);
      told =
          subst (λ vs. Told text key low high at₀ k₀ vs n.next) (sym (take-suc-set ns m n.value l))
          (more n.value n.next g.told (line_here (told (Ok n)) e));
    }

    pub reading_stops : (e : LineRefusal) → told (Err e) ≡ line_at key (low m) (high m) text at (k₀ + m)
        → (n : ℕ) → m < n → Stopped text key low high at₀ k₀ n (told (Err e))
    reading_stops e is n few = record {
      numbers = take m ns;
      past = at;
      told = g.told;
      fewer = omega (arith, so_many);
      stopped = line_here (told (Err e)) is;
    }

  pub reading_ends : {ns : List ℕ} {at m : ℕ} → Reading ns at m → length ns ≤ m
      → ReadsNumbers text key low high at₀ k₀ ns (Ok at)
  reading_ends {ns} {at} {m} g h =
      subst (λ vs. Told text key low high at₀ k₀ vs at) (take_all m ns h) g.told
