-- A text that fits its buffer is written, and any other is refusal 9. What a program prints goes by what the call
-- returned: the text's length, or a refusal.
use mathlib.Core.Path.{◌≡◌, refl, ap, ap₂, subst, ◌∙◌}
use mathlib.Core.List.{List, [], ◌∷◌, ◌++◌}
use Prim.Native.Nat.{ℕ, zero, suc, ◌≤◌, ◌<◌}
use native.Mathlib.Omega.{arith}
use lib.ListN.{length, take, drop}
use lib.Seq.{take-append_seam, drop-append_seam}
use borrow.Author.Tests.{le-leb, lt-leb}
use Rattle.text.specs.Buffers.{Wrote}
use Rattle.rows.specs.Rows.{Row}
use Rattle.std.specs.Prelude.{Result, Ok, Err}
use Rattle.plans.specs.declared.Refusal.{Refusal}
use Rattle.plans.specs.Entries.{first_late}
use Rattle.plans.specs.Plans.{refusal_text}
use Rattle.plans.specs.Outcomes.{Outcome, writes, refuses, fitted, plan_of, if_in_time, Returns, Written, printed}
use Rattle.plans.specs.inside.Prints.{to_print}

pub fits : (room : ℕ) (t : List ℕ) → length t ≤ room → fitted room t ≡ writes t
unfolding fitted
fits room t h = rw (le-leb (length t) room h, fitted)

pub fits_not : (room : ℕ) (t : List ℕ) → room < length t → fitted room t ≡ refuses 9 0
unfolding fitted
fits_not room t h = rw (lt-leb (length t) room h, fitted)

-- ---- by the first late rank
pub late_outcome : (room board : ℕ) (order : List Row) (k : ℕ) → first_late order ≡ k → (k ≡ 0 → ⊥)
    → if_in_time room board order ≡ refuses 7 k
unfolding if_in_time
late_outcome room board order zero e h = absurd (h (omega arith))
late_outcome room board order (suc k) e h = rw (e, if_in_time)

pub timely_outcome : (room board : ℕ) (order : List Row) → first_late order ≡ 0
    → if_in_time room board order ≡ plan_of room board order
unfolding if_in_time
timely_outcome room board order e = rw (e, if_in_time)

-- a refusal leaves the buffer as it was
pub refused : {w : Outcome} {o : List ℕ} {r : Result ℕ Refusal} {n p : ℕ} → w ≡ refuses n p
    → Returns (refuses n p) r → Written w o o r
refused e is = rw e record { returns = is; holds = refl }

-- a refusal's number is never 0
abbrev pub Numbered : Outcome → Type 0
Numbered w = (place : ℕ) → w ≡ refuses 0 place → ⊥

-- ---- what is printed
front_over : (n : ℕ) (o : List ℕ) → o ≡ take n o ++ drop (length (take n o)) o
front_over zero o = refl
front_over (suc n) [] = refl
front_over (suc n) (b ∷ o) = ap (λ l. b ∷ l) (front_over n o)

-- of any answer and buffer: as much of the buffer as the answer says
pub print_front : (long : ℕ) (o : List ℕ) (end : ℕ) → end ≡ length (take long o)
    → Wrote (to_print (Ok long) o) o o end
print_front long o end h = record { long_is = h; holds = front_over long o }

-- the text to print is the outcome's
to_print_lem : (w : Outcome) {o o' : List ℕ} (r : Result ℕ Refusal) → Written w o o' r → to_print r o' ≡ printed w
to_print_lem (writes t) {o = o} (Ok long) w =
    ap₂ take w.returns w.holds ∙ take-append_seam t (drop (length t) o)
to_print_lem (writes t) (Err e) w = absurd w.returns
to_print_lem (refuses n p) (Ok long) w = absurd w.returns
to_print_lem (refuses n p) (Err e) w = ap₂ refusal_text w.returns.0 w.returns.1

-- put over a buffer in which it, or nothing, was put, it is put over the buffer that was lent
over_again : (w : Outcome) {o o' : List ℕ} {r : Result ℕ Refusal} → Written w o o' r
    → printed w ++ drop (length (printed w)) o' ≡ printed w ++ drop (length (printed w)) o
over_again (writes t) {o = o} w =
    ap (λ l. t ++ l) (ap (drop (length t)) w.holds ∙ drop-append_seam t (drop (length t) o))
over_again (refuses m p) w = ap (λ l. refusal_text m p ++ drop (length (refusal_text m p)) l) w.holds

pub prints : (w : Outcome) {o o' o'' : List ℕ} {r : Result ℕ Refusal} {long : ℕ} → Written w o o' r
    → Wrote (to_print r o') o' o'' long → Wrote (printed w) o o'' long
prints w {o' = o'} {o'' = o''} {r = r} {long = long} p q =
    let s = subst (λ t. Wrote t o' o'' long) (to_print_lem w r p) q in
    record { long_is = s.long_is; holds = s.holds ∙ over_again w p }

-- a call that answers how much it wrote has written what its program prints
pub written_prints : (w : Outcome) {o o' : List ℕ} {long : ℕ} → Written w o o' (Ok long) → Wrote (printed w) o o' long
written_prints (writes t) p = record { long_is = p.returns; holds = p.holds }
written_prints (refuses n k) p = absurd p.returns
