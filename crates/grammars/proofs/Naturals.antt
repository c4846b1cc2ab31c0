-- Lines with a number in a range: which numbers pass there, and what a step comes to for code that reads such a line.
-- And where any number is expected, those pass that can be written.
use mathlib.Core.Path.{◌≡◌, refl, sym, ap, ap₂, ◌∙◌, subst}
use mathlib.Core.Bool.{Bool, true, false}
use mathlib.Core.List.{List}
use mathlib.Core.Logic.{inl, inr}
use Prim.Native.Nat.{ℕ, zero, suc, ◌^◌, ◌≤◌, ◌<◌}
use native.Mathlib.Omega.{arith}
use lib.Dec.{ltb}
use lib.IntN.{ℤ, pos, negsuc}
use lib.ListN.{length}
use borrow.Author.Tests.{ltb-true, lt-ltb}
use Rattle.basics.specs.Basics.{pick, within}
use Rattle.basics.proofs.Tests.{test_of, never, Within, within_true, true_within}
use Rattle.text.specs.Text.{decimal, signed, key_line}
use Rattle.text.specs.Lines.{max_digits, line_at, end_at}
use Rattle.text.specs.Line.{Line}
use Rattle.text.specs.Line as L
use Rattle.text.proofs.Lines.{Answers, tells, refuses, line_answers}
use Rattle.grammars.specs.Forms.{natural, integer, size, fits, in_form, plainly, form_at}
use Rattle.grammars.specs.Grammars.{Grammar, the_end, a_line, on_fault, on_told, on_expected, step}
use Rattle.grammars.specs.inside.Answers.{unless, tested, on_answer}
use Rattle.grammars.specs.Reasons.{Passes}

-- ---- a number that passes where a range is expected is in it
pub natural_passes : {S : Type 0} {g : Grammar S} {s : S} {key : List ℕ} {z : ℤ} → Passes g s key z
    → (lock : List ℕ) (low high : ℕ) → g.expected s ≡ a_line lock (natural low high) → Within low high (size z)
natural_passes {key = key} {z = z} p lock low high x =
    let same : a_line key p.form ≡ a_line lock (natural low high) = sym p.is_expected ∙ x in
    let is : p.form ≡ natural low high = cc in
    within_true low high (size z) (subst (λ f. in_form f z ≡ true) is p.is_in_range)

-- and it is written without a sign
unsigned : (low high : ℕ) (z : ℤ) → fits (natural low high) z ≡ true → signed z ≡ decimal (size z)
unfolding signed
unsigned low high (pos v) h = refl
unsigned low high (negsuc n) h = never h

pub natural_written : {S : Type 0} {g : Grammar S} {s : S} {key : List ℕ} {z : ℤ} → Passes g s key z
    → (lock : List ℕ) (low high : ℕ) → g.expected s ≡ a_line lock (natural low high)
    → key_line key (signed z) ≡ key_line lock (decimal (size z))
natural_written {key = key} {z = z} p lock low high x =
    let same : a_line key p.form ≡ a_line lock (natural low high) = sym p.is_expected ∙ x in
    let is : p.form ≡ natural low high = cc in
    let named : key ≡ lock = cc in
    ap₂ key_line named (unsigned low high z (subst (λ f. fits f z ≡ true) is p.is_number))

-- ---- and which numbers pass: those in the range, where the range itself can be written, which computes
module _ {S : Type 0} {g : Grammar S} {s : S} {key : List ℕ} where
  pub in_range_passes : (low high v : ℕ) → g.expected s ≡ a_line key (natural low high)
      → ltb high (10 ^ max_digits) ≡ true → low ≤ v → v ≤ high → g.fault s (pos v) ≡ 0 → Passes g s key (pos v)
  in_range_passes low high v x short l h f =
      let few = ltb-true high (10 ^ max_digits) short in
      record {
        form = natural low high;
        is_expected = x;
        is_number = lt-ltb v (10 ^ max_digits) (omega arith);
        is_in_range = true_within low high v l h;
        no_fault = f;
      }

  -- where any number is expected, those that can be written, and no other
  pub integer_passes : (z : ℤ) → g.expected s ≡ a_line key integer → size z < 10 ^ max_digits → g.fault s z ≡ 0
      → Passes g s key z
  integer_passes z x few f = record {
    form = integer;
    is_expected = x;
    is_number = lt-ltb (size z) (10 ^ max_digits) few;
    is_in_range = refl;
    no_fault = f;
  }

  pub passed_integer : {z : ℤ} → Passes g s key z → (lock : List ℕ) → g.expected s ≡ a_line lock integer
      → size z < 10 ^ max_digits
  passed_integer {z} p lock x =
      let same : a_line key p.form ≡ a_line lock integer = sym p.is_expected ∙ x in
      let is : p.form ≡ integer = cc in
      ltb-true (size z) (10 ^ max_digits) (subst (λ f. fits f z ≡ true) is p.is_number)

-- ---- a line answers code a number in its range or a refusal, whatever the test of its number is
pub data Settled (low high : ℕ) : Line → Type 0 where
  a_number : (v next : ℕ) → within low high v ≡ true → Settled low high (L.Number v next)
  a_refusal : (n k : ℕ) → Settled low high (L.Refused (suc n) k)

pub settled : (fault : ℕ → ℕ) (key : List ℕ) (low high : ℕ) (text : List ℕ) (at k : ℕ)
    → Settled low high (tested fault (line_at key low high text at k) k)
settled fault key low high text at k = by_answer _ (line_answers key low high text at k)
  where
    by_fault : (v next : ℕ) → within low high v ≡ true → (n : ℕ) → Settled low high (unless n (L.Number v next) k)
    by_fault v next w zero = a_number v next w
    by_fault v next w (suc n) = a_refusal n k

    by_answer : (l : Line) → Answers low high text at k l → Settled low high (tested fault l k)
    by_answer l (tells v next w h i) = by_fault v next w (fault v)
    by_answer l (refuses n) = a_refusal n k

-- so a number that code is told is in its range; at the end it is told none
number_settled : {low high v next : ℕ} → Settled low high (L.Number v next) → Within low high v
number_settled {low} {high} (a_number v next w) = within_true low high v w

pub number_within : (fault : ℕ → ℕ) (key : List ℕ) (low high : ℕ) (text : List ℕ) (at k v next : ℕ)
    → tested fault (line_at key low high text at k) k ≡ L.Number v next → Within low high v
number_within fault key low high text at k v next e =
    number_settled (subst (Settled low high) e (settled fault key low high text at k))

pub no_number_at_end : (fault : ℕ → ℕ) (text : List ℕ) (at k v next : ℕ)
    → tested fault (end_at text at k) k ≡ L.Number v next → ⊥
no_number_at_end fault text at k v next e = go (ltb at (length text)) e
  where
    go : (b : Bool) → tested fault (pick b (L.Refused 1 k) L.End) k ≡ L.Number v next → ⊥
    go true h = let z : ◌≡◌ {A = ℕ} 0 1 = cc in omega arith
    go false h = let z : ◌≡◌ {A = ℕ} 0 1 = cc in omega arith

-- ---- a step by what its line answers to code
module _ {S : Type 0} (g : Grammar S) (text : List ℕ) (s : S) (at k : ℕ) where
  abbrev fault_of : ℕ → ℕ
  fault_of v = g.fault s (pos v)

  by_fault : (v next n : ℕ) → fault_of v ≡ n
      → on_fault g s (pos v) next k n ≡ on_answer g s k (tested fault_of (L.Number v next) k)
  by_fault v next n e = refused_by n ∙ sym (ap (λ m. on_answer g s k (unless m (L.Number v next) k)) e)
    where
      refused_by : (m : ℕ) → on_fault g s (pos v) next k m ≡ on_answer g s k (unless m (L.Number v next) k)
      refused_by zero = refl
      refused_by (suc m) = refl

  by_answer : (low high : ℕ) (l : Line) → Answers low high text at k l
      → on_told g s k (plainly l) ≡ on_answer g s k (tested fault_of l k)
  by_answer low high l (tells v next w h i) = by_fault v next (fault_of v) refl
  by_answer low high l (refuses n) = refl

  -- where a number in a range is expected
  pub step_line : (key : List ℕ) (low high : ℕ) → g.expected s ≡ a_line key (natural low high)
      → step g text s at k ≡ on_answer g s k (tested fault_of (line_at key low high text at k) k)
  unfolding form_at
  step_line key low high x =
      ap (on_expected g text s at k) x ∙ by_answer low high _ (line_answers key low high text at k)

  -- where nothing is
  pub step_end : g.expected s ≡ the_end → step g text s at k ≡ on_answer g s k (tested fault_of (end_at text at k) k)
  step_end x =
      ap (on_expected g text s at k) x
      ∙ elim (test_of (ltb at (length text))) [ inl h ↦ rw h | inr h ↦ rw h ]
