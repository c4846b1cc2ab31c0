-- A number in decimal is the number without its last digit, then that digit. So it reads back as its number, has no
-- more digits than its size calls for, and is the only text that is read as it.
use Rattle.std.proofs.Common.{◌≡◌, ℕ, zero, suc, ◌+◌, ◌-◌, ◌*◌, ◌/◌, ◌%◌, ◌^◌, ◌<◌, ◌≤◌, true, false, not, ◌&&◌, eqb, ltb, max, ◌⊎◌, List, [], ◌∷◌, ◌++◌, length, get_or, sym, refl, ap, ◌∙◌, ap₂, inl, inr, append_assoc, append-nil, arith, length-append, ltb-false, ltb-true, le-ltb, lt-ltb, ne_eqb, eqb-true, le-leb}
use mathlib.Core.Bool.{and-false}
use Rattle.std.proofs.lemmas.List.{nil_from_length}
use native.Mathlib.Nat.{pow-succ', one-le-pow}
use lib.ListN.{get_or-append}
use borrow.Author.Tests.{eqb-false, not-true}
use Rattle.basics.specs.Basics.{pick, within}
use Rattle.basics.proofs.Tests.{test_of, le-or-lt, and_left, and_right, within_true, true_within}
use Rattle.std.specs.Prelude.{Option, Some, None}
use Rattle.text.specs.Text.{digit_zero, digit_nine, digits, decimal}
use Rattle.text.specs.Lines.{max_digits, digits_from, well_formed, number_of}
use Rattle.text.specs.Claims.{Numerals}

-- a number's last digit
abbrev pub last : ℕ → List ℕ
last v = (digit_zero + v % 10) ∷ []

-- ---- the digits do not depend on the fuel
fuel_free : (f g v : ℕ) → v < f → v < g → digits f v ≡ digits g v
unfolding digits
fuel_free zero g v hf hg = absurd (omega arith)
fuel_free (suc f) zero v hf hg = absurd (omega arith)
fuel_free (suc f) (suc g) v hf hg =
    elim (test_of (ltb v 10)) [
      | inl e ↦ rw e
      | inr e ↦
          let l = ltb-false v 10 e in
          rw e (ap (λ xs. xs ++ last v) (fuel_free f g (v / 10) (omega arith) (omega arith)))
    ]

pub decimal_one : (v : ℕ) → v < 10 → decimal v ≡ last v
unfolding decimal digits
decimal_one v h = rw (lt-ltb v 10 h)

pub decimal_more : (v : ℕ) → 10 ≤ v → decimal v ≡ decimal (v / 10) ++ last v
unfolding decimal digits
decimal_more v h =
    rw (le-ltb v 10 h)
    (ap (λ xs. xs ++ last v) (fuel_free v (suc (v / 10)) (v / 10) (omega arith) (omega arith)))

-- ---- induction on a number's digits
module _ (P : ℕ → Type 0) (one : (v : ℕ) → v < 10 → P v) (more : (v : ℕ) → 10 ≤ v → P (v / 10) → P v) where
  below : (f v : ℕ) → v < f → P v
  below zero v h = absurd (omega arith)
  below (suc f) v h =
      elim (test_of (ltb v 10)) [
        | inl e ↦ one v (ltb-true v 10 e)
        | inr e ↦ let l = ltb-false v 10 e in more v l (below f (v / 10) (omega arith))
      ]

  pub by_digits : (v : ℕ) → P v
  by_digits v = below (suc v) v (omega arith)

-- ---- how long it is
pub decimal_longer : (v : ℕ) → 10 ≤ v → length (decimal v) ≡ suc (length (decimal (v / 10)))
decimal_longer v h = rw (decimal_more v h) (simp length-append (omega arith))

pub decimal_some : (v : ℕ) → 1 ≤ length (decimal v)
decimal_some v =
    elim (test_of (ltb v 10)) [
      | inl e ↦ rw (decimal_one v (ltb-true v 10 e)) (omega arith)
      | inr e ↦ omega (arith, decimal_longer v (ltb-false v 10 e))
    ]

pub decimal_short : (v k : ℕ) → v < 10 ^ suc k → length (decimal v) ≤ suc k
decimal_short = by_digits (λ v. (k : ℕ) → v < 10 ^ suc k → length (decimal v) ≤ suc k)
    (λ v h k b. rw (decimal_one v h) (omega arith))
    longer
  where
    longer :
        (v : ℕ) → 10 ≤ v → ((k : ℕ) → v / 10 < 10 ^ suc k → length (decimal (v / 10)) ≤ suc k)
        → (k : ℕ) → v < 10 ^ suc k → length (decimal v) ≤ suc k
    longer v h ih zero b = absurd (omega arith)
    longer v h ih (suc k) b =
        omega (arith, decimal_longer v h, ih k (omega (arith, pow-succ' 10 (suc k))))

-- ---- it reads back
read_on : (v : ℕ) (s : List ℕ) (n d : ℕ) → d < 10 → digits_from v s ≡ Some n
    → digits_from v (s ++ ((digit_zero + d) ∷ [])) ≡ Some (10 * n + d)
read_on v [] n d h e =
    let same : v ≡ n = cc in
    rw (true_within digit_zero digit_nine (digit_zero + d) (omega arith) (omega arith), digits_from)
    (ap Some (omega arith))
read_on v (b ∷ s) n d h e =
    elim (test_of (within digit_zero digit_nine b)) [
      | inl t ↦ rw (t, digits_from) (read_on (10 * v + (b - digit_zero)) s n d h (rw (t, digits_from) at e))
      | inr t ↦
          let z : None ≡ Some n = rw (t, digits_from) at e in
          let o : ◌≡◌ {A = ℕ} 0 1 = cc in
          absurd (omega arith)
    ]

pub decimal_reads : (v : ℕ) → digits_from 0 (decimal v) ≡ Some v
decimal_reads = by_digits (λ v. digits_from 0 (decimal v) ≡ Some v)
    (λ v h. rw (decimal_one v h) (read_on 0 [] 0 (v % 10) (omega arith) refl ∙ ap Some (omega arith)))
    (λ v h ih.
    rw (decimal_more v h)
    (read_on 0 (decimal (v / 10)) (v / 10) (v % 10) (omega arith) ih ∙ ap Some (omega arith)))

-- ---- no leading zero
pub decimal_leads : (v : ℕ) → 1 ≤ v → get_or (decimal v) 0 0 ≡ digit_zero → ⊥
decimal_leads = by_digits (λ v. 1 ≤ v → get_or (decimal v) 0 0 ≡ digit_zero → ⊥)
    (λ v h l. rw (decimal_one v h) (omega arith))
    (λ v h ih l.
    rw (decimal_more v h, get_or-append (decimal (v / 10)) (last v) 0 0 (decimal_some (v / 10)))
    (ih (omega arith)))

decimal_formed : (v : ℕ) → v < 10 ^ max_digits → well_formed (decimal v) ≡ true
decimal_formed v h =
    elim (test_of (ltb v 10)) [
      | inl e ↦ let l = ltb-true v 10 e in rw (decimal_one v l, and-false (eqb (digit_zero + v % 10) digit_zero))
      | inr e ↦ let l = ltb-false v 10 e in
          rw (
            le-leb 1 (length (decimal v)) (decimal_some v),
            le-leb (length (decimal v)) 12 (decimal_short v 11 h),
            ne_eqb (get_or (decimal v) 0 0) digit_zero (decimal_leads v (omega arith)),
          )
    ]

pub decimal_number : (v : ℕ) → v < 10 ^ max_digits → number_of (decimal v) ≡ Some v
unfolding number_of
decimal_number v h = ap (λ b. pick b (digits_from 0 (decimal v)) None) (decimal_formed v h) ∙ decimal_reads v

-- ---- nothing else is read as a number
-- one digit more
decimal_next : (v d : ℕ) → 1 ≤ v → d < 10 → decimal (10 * v + d) ≡ decimal v ++ ((digit_zero + d) ∷ [])
decimal_next v d h l =
    let x = 10 * v + d in
    let tens : x / 10 ≡ v = omega arith in
    let ones : x % 10 ≡ d = omega arith in
    decimal_more x (omega arith) ∙ ap₂ (λ n k. decimal n ++ ((digit_zero + k) ∷ [])) tens ones

-- digits after those of v
read_digits : (s : List ℕ) (v n : ℕ) → 1 ≤ v → digits_from v s ≡ Some n → decimal n ≡ decimal v ++ s
read_digits [] v n h e = let same : v ≡ n = cc in ap decimal (sym same) ∙ sym (append-nil (decimal v))
read_digits (b ∷ s) v n h e =
    elim (test_of (within digit_zero digit_nine b)) [
      | inl t ↦
          let w = within_true digit_zero digit_nine b t in
          let d = b - digit_zero in
          let low = w.low_le in
          let high = w.le_high in
          let ih = read_digits s (10 * v + d) n (omega arith) (rw (t, digits_from) at e) in
          let byte : digit_zero + d ≡ b = omega arith in
          ih
          ∙ ap (λ l. l ++ s) (decimal_next v d h (omega arith))
          ∙ append_assoc (decimal v) ((digit_zero + d) ∷ []) s
          ∙ ap (λ x. decimal v ++ (x ∷ s)) byte
      | inr t ↦
          let z : None ≡ Some n = rw (t, digits_from) at e in
          let o : ◌≡◌ {A = ℕ} 0 1 = cc in
          absurd (omega arith)
    ]

-- a number of at most k digits is below 10 to the power k
pub decimal_below : (v k : ℕ) → length (decimal v) ≤ k → v < 10 ^ k
decimal_below = by_digits (λ v. (k : ℕ) → length (decimal v) ≤ k → v < 10 ^ k)
    one
    more
  where
    one : (v : ℕ) → v < 10 → (k : ℕ) → length (decimal v) ≤ k → v < 10 ^ k
    one v h zero b = absurd (omega (arith, decimal_some v))
    one v h (suc k) b = omega (arith, pow-succ' 10 k, one-le-pow k 10 (omega arith))

    more :
        (v : ℕ) → 10 ≤ v → ((k : ℕ) → length (decimal (v / 10)) ≤ k → v / 10 < 10 ^ k)
        → (k : ℕ) → length (decimal v) ≤ k → v < 10 ^ k
    more v h ih zero b = absurd (omega (arith, decimal_some v))
    more v h ih (suc k) b =
        let long = decimal_longer v h in
        omega (arith, ih k (omega arith), pow-succ' 10 k)

-- so its digits are one more than the power of 10 that it reaches
pub decimal_places : (v k : ℕ) → 10 ^ k ≤ max v 1 → max v 1 < 10 * 10 ^ k → k + 1 ≡ length (decimal v)
decimal_places v k low high =
    let short = decimal_short v k (omega (arith, pow-succ' 10 k)) in
    elim (le-or-lt (length (decimal v)) k) [
      | inl few ↦ absurd (none k few low)
      | inr many ↦ omega (arith, many)
    ]
  where
    none : (j : ℕ) → length (decimal v) ≤ j → 10 ^ j ≤ max v 1 → ⊥
    none zero few l = omega (arith, decimal_some v)
    none (suc j) few l = omega (arith, decimal_below v (suc j) few, pow-succ' 10 j, one-le-pow j 10 (omega arith))

-- digits with no leading zero, or 0 itself
spelled : (s : List ℕ) (v : ℕ) → well_formed s ≡ true → digits_from 0 s ≡ Some v → s ≡ decimal v
spelled [] v f e = absurd (let z : false ≡ true = f in let o : ◌≡◌ {A = ℕ} 0 1 = cc in omega arith)
spelled (b ∷ s) v f e =
    elim (test_of (within digit_zero digit_nine b)) [
      | inl t ↦
          let w = within_true digit_zero digit_nine b t in
          let low = w.low_le in
          let high = w.le_high in
          let d = b - digit_zero in
          let on : digits_from (10 * 0 + d) s ≡ Some v = rw (t, digits_from) at e in
          elim (test_of (eqb b digit_zero)) [
            | inl z ↦ (
                let zero_byte = eqb-true b digit_zero z in
                let alone : length s ≡ 0 = lone z in
                zero_alone zero_byte (nil_from_length s alone) on)
            | inr n ↦ (
                let some = eqb-false b digit_zero n in
                let one : decimal (10 * 0 + d) ≡ b ∷ [] =
                decimal_one (10 * 0 + d) (omega arith) ∙ ap (λ x. x ∷ []) (omega arith) in
                sym (read_digits s (10 * 0 + d) v (omega arith) on ∙ ap (λ l. l ++ s) one))
          ]
      | inr t ↦
          let z : None ≡ Some v = rw (t, digits_from) at e in
          let o : ◌≡◌ {A = ℕ} 0 1 = cc in
          absurd (omega arith)
    ]
  where
    lone : eqb b digit_zero ≡ true → length s ≡ 0
    lone z =
        let leads = eqb b digit_zero && ltb 1 (suc (length s)) in
        let no_lead : leads ≡ false = not-true leads (and_right (within 1 max_digits (suc (length s))) (not leads) f) in
        let short : ltb 1 (suc (length s)) ≡ false = rw z at no_lead in
        omega (arith, ltb-false 1 (suc (length s)) short)

    zero_alone : b ≡ digit_zero → s ≡ [] → digits_from (10 * 0 + (b - digit_zero)) s ≡ Some v → b ∷ s ≡ decimal v
    zero_alone z n on =
        let same : Some (10 * 0 + (b - digit_zero)) ≡ Some v = rw n at on in
        let v_is : 10 * 0 + (b - digit_zero) ≡ v = cc in
        let v_zero : v ≡ 0 = omega arith in
        rw (z, n, v_zero) (sym (decimal_one 0 (omega arith)))

pub number_decimal : (s : List ℕ) (v : ℕ) → number_of s ≡ Some v → (s ≡ decimal v) × (v < 10 ^ max_digits)
unfolding number_of
number_decimal s v e =
    elim (test_of (well_formed s)) [
      | inl f ↦
          let reads : digits_from 0 s ≡ Some v = sym (ap (λ b. pick b (digits_from 0 s) None) f) ∙ e in
          let is = spelled s v f reads in
          let few = within_true 1 max_digits (length s) (and_left (within 1 max_digits (length s)) _ f) in
          let long : length (decimal v) ≡ length s = ap length (sym is) in
          (is, decimal_below v max_digits (omega (arith, few.le_high)))
      | inr f ↦
          let z : None ≡ Some v = sym (ap (λ b. pick b (digits_from 0 s) None) f) ∙ e in
          let o : ◌≡◌ {A = ℕ} 0 1 = cc in
          absurd (omega arith)
    ]

pub numerals : Numerals
numerals = record { reads_back = decimal_number; one_way = number_decimal }

-- what is written is the numeral of a number, or of none
pub numeral_or_not : (s : List ℕ)
    → ((v : ℕ) × (s ≡ decimal v) × (v < 10 ^ max_digits)) ⊎ ((v : ℕ) → v < 10 ^ max_digits → s ≡ decimal v → ⊥)
numeral_or_not s = go (number_of s) refl
  where
    go : (d : Option ℕ) → number_of s ≡ d
        → ((v : ℕ) × (s ≡ decimal v) × (v < 10 ^ max_digits)) ⊎ ((v : ℕ) → v < 10 ^ max_digits → s ≡ decimal v → ⊥)
    go (Some v) e = let n = number_decimal s v e in inl (v, n.0, n.1)
    go None e = inr (λ v few is. let z : ◌≡◌ {A = ℕ} 0 1 = cc (decimal_number v few) in omega arith)
