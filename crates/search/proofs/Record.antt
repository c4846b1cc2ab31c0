-- The record of sets, read and written; and when a row goes lowest.
use mathlib.Core.Path.{◌≡◌, refl, ap, ap₂, sym, ◌∙◌, subst}
use mathlib.Core.Bool.{Bool, true, false, ◌&&◌, not, and-false}
use mathlib.Core.List.{List}
use mathlib.Core.Option as Maths
use mathlib.Core.Option.{none}
use mathlib.Core.Logic.{inl, inr, ⊎_elim}
use Prim.Native.Nat.{ℕ, ◌-◌, ◌/◌, ◌%◌, ◌^◌, ◌<◌}
use native.Mathlib.Decide.{ℕ_discrete}
use native.Mathlib.Omega.{arith}
use Rattle.std.specs.Prelude as Code
use Rattle.std.specs.Prelude.{Option, Some, None, unwrap_or}
use borrow.Author.Tests.{eq-eqb, ne_eqb}
use lib.Dec.{eqb}
use lib.ListN.{get_or, set, length, length-set}
use lib.Seq.{get_or-set_same, get_or-set_other}
use Rattle.rows.specs.Rows.{Row}
use Rattle.orders.specs.Orders.{the_order}
use Rattle.search.specs.inside.Sets as S
use Rattle.search.specs.inside.Sets.{has_bit, is_some, unknown, no_order}
use Rattle.search.proofs.Scan.{at_empty}

module _ (test : Row → List Row → List Row → Bool) (table : List Row) where
  abbrev order_at : ℕ → Maths.Option (List Row)
  order_at = S.order_at test table

  -- ---- when a row goes lowest
  module _ (m i : ℕ) where
    pub goes_out : (m / 2 ^ i % 2 ≡ 1 → ⊥) → false ≡ S.goes test table m i
    goes_out h = rw (ne_eqb (m / 2 ^ i % 2) 1 h)

    pub goes_unfit : S.fits test table m i ≡ false → false ≡ S.goes test table m i
    goes_unfit h = rw (h, and-false (has_bit m i))

    pub goes_none : order_at (m - 2 ^ i) ≡ none → false ≡ S.goes test table m i
    goes_none h =
        let b = S.fits test table m i in
        sym (ap (λ (o : Maths.Option (List Row)). has_bit m i && (b && is_some o)) h
        ∙ ap (λ (c : Bool). has_bit m i && c) (and-false b) ∙ and-false (has_bit m i))

    pub goes_then :
        m / 2 ^ i % 2 ≡ 1 →
        S.fits test table m i ≡ true →
        is_some (order_at (m - 2 ^ i)) ≡ S.goes test table m i
    goes_then h f = sym (ap₂ (λ (a b : Bool). a && (b && is_some (order_at (m - 2 ^ i)))) (eq-eqb (m / 2 ^ i % 2) 1 h) f)

  -- ---- what a byte says
  module _ (few : length table < unknown) where
    pub says_found : (m v : ℕ) → S.Says test table m v → not (eqb v no_order) ≡ is_some (order_at m)
    says_found m v (inl s) = rw (eq-eqb v no_order s.0, s.1)
    says_found m v (inr s) =
        let other : v ≡ no_order → ⊥ = λ e. omega (arith, s.in_table) in
        rw (ne_eqb v no_order other, s.order_is)

    pub says_none : (m : ℕ) → S.Says test table m no_order → order_at m ≡ none
    says_none m (inl s) = s.1
    says_none m (inr s) = absurd (omega (arith, s.in_table))

    pub says_lowest : (m v : ℕ) → S.Says test table m v → is_some (order_at m) ≡ true → S.LowestIs test table m v
    says_lowest m v (inl s) h = absurd (no_order_lem (sym (ap is_some s.1) ∙ h))
      where
        no_order_lem : false ≡ true → ⊥
        no_order_lem e = let z : ◌≡◌ {A = ℕ} 0 1 = cc in omega arith
    says_lowest m v (inr s) h = s

    -- ---- the record read and written
    module _ (sets : List ℕ) (rec : S.Recorded test table sets) where
      pub known : (m : ℕ) → m < 2 ^ length table → (get_or sets m 0 ≡ unknown → ⊥) → S.Says test table m (get_or sets m 0)
      known m l h = ⊎_elim (λ e. absurd (h e)) (λ s. s) (rec.entries m l)

      pub known_none : (m : ℕ) → m < 2 ^ length table → get_or sets m 0 ≡ no_order → order_at m ≡ none
      known_none m l e =
          says_none m (subst (λ (v : ℕ). S.Says test table m v) e (known m l (λ q. omega arith)))

      -- byte v written for set m: the sets that the record has stay
      module _ (m v : ℕ) (l : m < 2 ^ length table) (s : S.Says test table m v) where
        stays : (k : ℕ) → S.Known test table sets k → S.Known test table (set sets m v) k
        stays k h z = elim (ℕ_discrete k m) [
          | yes e ↦ rw (e, get_or-set_same sets m v 0 (omega (arith, rec.room))) s
          | no n ↦ rw (get_or-set_other sets m k v 0 n) (h z)
        ]

        module _ (rest : S.LowestIs test table m v → S.Known test table sets (m - 2 ^ v)) where
          pub put : S.Recorded test table (set sets m v)
          put = record {
            room = omega (arith, rec.room, length-set sets m v);
            entries = λ k h. elim (ℕ_discrete k m) [
              | yes e ↦ inr (rw (e, get_or-set_same sets m v 0 (omega (arith, rec.room))) s)
              | no n ↦ rw (get_or-set_other sets m k v 0 n) (rec.entries k h)
            ];
            closed = λ k h. elim (ℕ_discrete k m) [
              | yes e ↦ rw (e, get_or-set_same sets m v 0 (omega (arith, rec.room)))
                  (λ low. stays (m - 2 ^ v) (rest low))
              | no n ↦ rw (get_or-set_other sets m k v 0 n)
                  (λ low. stays (k - 2 ^ get_or sets k 0) (rec.closed k h low))
            ];
          }

          written : (found : Bool) → found ≡ is_some (order_at m) → S.Settled test table m (set sets m v) found
          written found is = record {
            recorded = put;
            there = λ h. rw (get_or-set_same sets m v 0 (omega (arith, rec.room))) s;
            found_is = is;
          }

      -- what was found of set m, written for it
      pub settled_new : (m : ℕ) (found : Option ℕ) → m < 2 ^ length table → S.LowestFound test table m sets found
          → S.Settled test table m (set sets m (unwrap_or found no_order)) (Code.is_some found)
      settled_new m None l h =
          written m no_order l (inl (refl, h)) (λ low. absurd (omega (arith, low.in_table))) false (sym (ap is_some h))
      settled_new m (Some i) l h = written m i l (inr h.0) (λ low. h.1) true (sym (ap is_some h.0.order_is))

      pub settled_old :
          (m : ℕ) →
          m < 2 ^ length table →
          (get_or sets m 0 ≡ unknown → ⊥) →
          S.Settled test table m sets (not (eqb (get_or sets m 0) no_order))
      settled_old m l h =
          let s = known m l h in
          record { recorded = rec; there = λ z. s; found_is = says_found m (get_or sets m 0) s }

      pub settled_empty : S.Settled test table 0 sets true
      settled_empty = record {
        recorded = rec;
        there = λ z. absurd (z refl);
        found_is = sym (ap is_some (at_empty the_order test table));
      }
