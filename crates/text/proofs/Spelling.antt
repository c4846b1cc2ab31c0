-- What the writers spell is what the definitions say: digits put from the last to the first are a number's decimal, and
-- a number below 0 is a sign and its size. How long a line is.
use Rattle.std.proofs.Common.{◌≡◌, ℕ, suc, ◌+◌, ◌-◌, ◌/◌, ◌%◌, ◌<◌, ◌≤◌, true, false, List, [], ◌∷◌, ◌++◌, length, drop, set, ℤ, pos, negsuc, nat_abs, sym, refl, ap, ◌∙◌, arith, append-nil, length-append, inl, inr, leb-false}
use lib.Signed.{le_z}
use Rattle.basics.proofs.Tests.{le-or-lt}
use Rattle.text.specs.Text.{digit_zero, bytes, decimal, signed, joined, key_line}
use Rattle.text.proofs.Decimals.{decimal_one, decimal_more, decimal_longer, decimal_below}
use Rattle.text.proofs.Puts.{set_next}

-- ---- digits: a byte is set where a number's last digit belongs
-- a buffer with a number's digits at its front
abbrev spelt : ℕ → List ℕ → List ℕ
spelt v o = decimal v ++ drop (length (decimal v)) o

module _ (v : ℕ) (o : List ℕ) {i x : ℕ} (is : suc i ≡ length (decimal v)) (room : i < length o) where
  -- once the digits before it are put, all are
  put_last : 10 ≤ v → x ≡ digit_zero + v % 10 → spelt (v / 10) (set o i x) ≡ spelt v o
  put_last h e =
      set_next (decimal (v / 10)) o i x (omega (arith, decimal_longer v h)) room
      ∙ ap (λ t. t ++ drop (length t) o) (ap (λ d. decimal (v / 10) ++ (d ∷ [])) e ∙ sym (decimal_more v h))

  -- and a lone digit is all
  put_only : v < 10 → x ≡ digit_zero + v → set o i x ≡ spelt v o
  put_only h e =
      let one : (x ∷ []) ≡ decimal v = ap (λ d. d ∷ []) (omega arith) ∙ sym (decimal_one v h) in
      set_next [] o i x (omega (arith, ap length one)) room ∙ ap (λ t. t ++ drop (length t) o) one

-- from the last digit to the first: with the digits of what is left all are put, and the last of them belongs before i
pub record Putting (n rest i : ℕ) (o out : List ℕ) : Type 0 where
  pub same : spelt rest out ≡ spelt n o
  pub ends : i ≡ length (decimal rest)

module _ {n rest i : ℕ} {o out : List ℕ} (p : Putting n rest i o out) where
  pub putting_next : {x : ℕ} → 1 < i → i ≤ length out → x ≡ digit_zero + rest % 10
      → Putting n (rest / 10) (i - 1) o (set out (i - 1) x)
  putting_next h room e =
      let high : 10 ≤ rest = elim (le-or-lt 10 rest) [
        | inl l ↦ l
        | inr l ↦ absurd (omega (arith, p.ends, ap length (decimal_one rest l)))
      ] in
      let long = decimal_longer rest high in
      record {
        same = put_last rest out (omega (arith, p.ends)) (omega (arith, p.ends)) high e ∙ p.same;
        ends = omega (arith, p.ends);
      }

  -- at the first place what is left is a digit
  pub one_left : i ≤ 1 → rest < 10
  one_left h = decimal_below rest 1 (omega (arith, p.ends))

  pub putting_ends : {x : ℕ} → i ≤ 1 → 0 < length out → x ≡ digit_zero + rest → set out 0 x ≡ spelt n o
  putting_ends h room e =
      let low = one_left h in
      put_only rest out (omega (arith, ap length (decimal_one rest low))) room low e ∙ p.same

-- ---- signed numbers
pub below_0 : (z : ℤ) → le_z (pos 0) z ≡ false → signed z ≡ joined (bytes "-" ∷ decimal (nat_abs z) ∷ [])
unfolding signed
below_0 (pos v) e = absurd (omega (arith, leb-false 0 v e))
below_0 (negsuc v) e = ap (λ t. bytes "-" ++ t) (sym (append-nil (decimal (suc v))))

pub from_0 : (z : ℤ) → le_z (pos 0) z ≡ true → signed z ≡ decimal (nat_abs z)
unfolding signed
from_0 (pos v) e = refl
from_0 (negsuc v) e = let o : ◌≡◌ {A = ℕ} 0 1 = cc in absurd (omega arith)

-- ---- lines
pub line_length : (key value : List ℕ) → length (key_line key value) ≡ length key + (length value + 1)
unfolding key_line
line_length key value = simp length-append
