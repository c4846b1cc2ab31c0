-- The set-by-set choice: what it finds is a possible order that passes, and it finds one where there is one,
-- which is then first by any position that rises along the set. Each by induction on the number of rows.
use mathlib.Core.Path.{◌≡◌, refl, ap, ap₂, sym, ◌∙◌, subst}
use mathlib.Core.Bool.{Bool, true, false, ◌&&◌, ◌||◌, or-true, and-true, and_assoc}
use mathlib.Core.List.{List, [], ◌∷◌, ◌++◌, append-nil}
use mathlib.Core.Option.{Option, none, some}
use mathlib.Core.Logic.{◌⊎◌, inl, inr, ⊎_elim}
use Prim.Native.Nat.{ℕ, zero, suc, ◌<◌}
use native.Mathlib.Omega.{arith}
use borrow.Author.Tests.{eq-eqb, lt-ltb}
use lib.Dec.{eqb, ltb}
use lib.ListN.{length}
use lib.Seq.{append_snoc}
use Rattle.rows.specs.Rows.{Row}
use Rattle.basics.proofs.Tests.{test_of, and_left, and_right, and_both}
use Rattle.orders.specs.Orders as O
use Rattle.orders.specs.Orders.{Taken, here, later, Possible, nothing, positions_up, not_after, tried}
use Rattle.orders.proofs.Possible.{swapped, taken_length, possible_self, with_lowest, Lowest, lowest_of_lem}

pub some_or_none : (o : Option (List Row)) → ((os : List Row) × (o ≡ some os)) ⊎ (o ≡ none)
some_or_none none = inr refl
some_or_none (some os) = inl (os, refl)

-- ---- one row tried
module _ (r : Row) (next : Option (List Row)) where
  pub tried_lowest :
      (b : Bool) (above : Option (List Row)) (os : List Row) →
      b ≡ true →
      above ≡ some os →
      tried b above r next ≡ some (os ++ (r ∷ []))
  tried_lowest b above os p q = rw (p, q)

  pub tried_fails : (b : Bool) (above : Option (List Row)) → b ≡ false → tried b above r next ≡ next
  tried_fails b above p = rw p

  pub tried_none : (b : Bool) (above : Option (List Row)) → above ≡ none → tried b above r next ≡ next
  tried_none true above p = rw p
  tried_none false above p = refl

pub same_some : {xs ys : List Row} → some xs ≡ some ys → xs ≡ ys
same_some e = cc

-- the lowest row's position comes first
pub positions_lowest :
    (position : Row → ℕ) (os : List Row) (r : Row) →
    positions_up position (os ++ (r ∷ [])) ≡ position r ∷ positions_up position os
positions_lowest position [] r = refl
positions_lowest position (x ∷ os) r = ap (λ (l : List ℕ). l ++ (position x ∷ [])) (positions_lowest position os r)

pub earlier_first : (x y : ℕ) (xs ys : List ℕ) → x < y → not_after (x ∷ xs) (y ∷ ys) ≡ true
earlier_first x y xs ys l = ap (λ (b : Bool). b || (eqb x y && not_after xs ys)) (lt-ltb x y l)

pub same_first : (x : ℕ) (xs ys : List ℕ) → not_after xs ys ≡ true → not_after (x ∷ xs) (x ∷ ys) ≡ true
same_first x xs ys h = ap₂ (λ (a b : Bool). ltb x x || (a && b)) (eq-eqb x x refl) h ∙ or-true (ltb x x)

pub compare : {xs ys xs' ys' : List ℕ} → xs ≡ xs' → ys ≡ ys' → not_after xs' ys' ≡ true → not_after xs ys ≡ true
compare p q h = ap₂ not_after p q ∙ h

-- positions rise strictly along a set
abbrev pub Rising : (Row → ℕ) → List Row → Type 0
Rising position [] = Unit {0}
Rising position (x ∷ rs) =
    ((r : Row) (rest : List Row) → Taken r rs rest → position x < position r) × Rising position rs

pub rising_rest :
    (position : Row → ℕ) {r : Row} {rs rest : List Row} →
    Taken r rs rest →
    Rising position rs →
    Rising position rest
rising_rest position here up = up.1
rising_rest position (later t) up =
    ((λ y more s. up.0 y (swapped t s).between (swapped t s).second), rising_rest position t up.1)

module _ (test : Row → List Row → List Row → Bool) where
  abbrev passes_between : List Row → List Row → List Row → Bool
  passes_between = O.passes_between test

  -- ---- the choice of the lowest row
  module _ (order : List Row → List Row → Option (List Row)) (below : List Row) where
    -- row r goes lowest: it passes under the rest, whose order is os
    pub record Goes (r : Row) (rest os : List Row) : Type 0 where
      pub fits : test r rest below ≡ true
      pub above : order rest (r ∷ below) ≡ some os

    pub record Picked (before rs os : List Row) : Type 0 where
      pub lowest : Row
      pub rest : List Row
      pub above : List Row
      pub taken : Taken lowest rs rest
      pub goes : Goes lowest (before ++ rest) above
      pub order_is : os ≡ above ++ (lowest ∷ [])

    pub picked_of : (before rs os : List Row) → O.lowest_of test order before rs below ≡ some os → Picked before rs os
    picked_of before [] os h = let z : ◌≡◌ {A = ℕ} 0 1 = cc in absurd (omega arith)
    picked_of before (r ∷ rs) os h =
        let rest = before ++ rs in
        let b = test r rest below in
        let up = order rest (r ∷ below) in
        let next = O.lowest_of test order (before ++ (r ∷ [])) rs below in
        let pass : tried b up r next ≡ next → Picked before (r ∷ rs) os =
        λ e. pass_on r rs (picked_of (before ++ (r ∷ [])) rs os (sym e ∙ h)) in
        elim (test_of b) [
          | inl p ↦ elim (some_or_none up) [
            | inl a ↦ record {
              lowest = r;
              rest = rs;
              above = a.0;
              taken = here;
              goes = record { fits = p; above = a.1 };
              order_is = same_some (sym h ∙ tried_lowest r next b up a.0 p a.1);
            }
            | inr q ↦ pass (tried_none r next b up q)
          ]
          | inr p ↦ pass (tried_fails r next b up p)
        ]
      where
        pass_on : (r : Row) (rs : List Row) → Picked (before ++ (r ∷ [])) rs os → Picked before (r ∷ rs) os
        pass_on r rs p = record {
          lowest = p.lowest;
          rest = r ∷ p.rest;
          above = p.above;
          taken = later p.taken;
          goes = subst (λ (l : List Row). Goes p.lowest l p.above) (append_snoc before r p.rest) p.goes;
          order_is = p.order_is;
        }

    -- a row that goes lowest: the one chosen is it, or stands earlier
    module _ (position : Row → ℕ) where
      pub record Earlier (before rs : List Row) (r : Row) : Type 0 where
        pub lowest : Row
        pub above : List Row
        pub found : O.lowest_of test order before rs below ≡ some (above ++ (lowest ∷ []))
        pub earlier : position lowest < position r

      pub picked_first :
          {r : Row} {rs rest : List Row} (before os : List Row) →
          Rising position rs →
          Taken r rs rest →
          Goes r (before ++ rest) os →
          (O.lowest_of test order before rs below ≡ some (os ++ (r ∷ []))) ⊎ Earlier before rs r
      picked_first {r} {rest = rs} before os up here g =
          inl (tried_lowest r (O.lowest_of test order (before ++ (r ∷ [])) rs below) (test r (before ++ rs) below)
          (order (before ++ rs) (r ∷ below)) os g.fits g.above)
      picked_first {r} before os up (later {x = x} {rs = rs} {rest = rest} t) g =
          let b = test x (before ++ rs) below in
          let o = order (before ++ rs) (x ∷ below) in
          let next = O.lowest_of test order (before ++ (x ∷ [])) rs below in
          let g' = subst (λ (l : List Row). Goes r l os) (sym (append_snoc before x rest)) g in
          let ih = picked_first (before ++ (x ∷ [])) os up.1 t g' in
          let pass : tried b o x next ≡ next → (tried b o x next ≡ some (os ++ (r ∷ []))) ⊎ Earlier before (x ∷ rs) r =
          λ e. ⊎_elim
          (λ f. inl (e ∙ f))
          (λ f. inr (record { lowest = f.lowest; above = f.above; found = e ∙ f.found; earlier = f.earlier }))
          ih in
          elim (test_of b) [
            | inl p ↦ elim (some_or_none o) [
              | inl a ↦ inr (record {
                lowest = x;
                above = a.0;
                found =
                    tried_lowest x next b o a.0 p a.1;
                earlier = up.0 r rest t;
              })
              | inr q ↦ pass (tried_none x next b o q)
            ]
            | inr p ↦ pass (tried_fails x next b o p)
          ]

  -- ---- an order with a row below it
  pub passes_lowest :
      (above os : List Row) (r : Row) (below : List Row) →
      passes_between above (os ++ (r ∷ [])) below ≡ (passes_between above os (r ∷ below) && test r (above ++ os) below)
  passes_lowest above [] r below = simp append-nil (and-true (test r above below))
  passes_lowest above (x ∷ os) r below =
      let p = passes_between (above ++ (x ∷ [])) os (r ∷ below) in
      let ih = passes_lowest (above ++ (x ∷ [])) os r below in
      ap₂ (λ (l : List Row) (b : Bool). test x above l && b) (append_snoc os r below) ih
      ∙ ap (λ (l : List Row). test x above (os ++ (r ∷ below)) && (p && test r l below)) (append_snoc above x os)
      ∙ sym (and_assoc (test x above (os ++ (r ∷ below))) p (test r (above ++ (x ∷ os)) below))

  -- ---- the order that is found
  module _ (by_sets : O.BySets test) where
    pub record Sound (os rs below : List Row) : Type 0 where
      pub possible : Possible os rs
      pub passing : passes_between [] os below ≡ true

    -- the lowest row's test sees the order above it as its set
    lowest_test :
        {os rest : List Row} (r : Row) (below : List Row) →
        Possible os rest →
        test r os below ≡ test r rest below
    lowest_test r below p = by_sets r _ _ below below p (possible_self below)

    -- a row that passes under a set goes below an order of it
    pub sound_lowest :
        {r : Row} {os rs rest : List Row} (below : List Row) →
        Taken r rs rest →
        test r rest below ≡ true →
        Sound os rest (r ∷ below) →
        Sound (os ++ (r ∷ [])) rs below
    sound_lowest {r} {os} below t h s = record {
      possible = with_lowest t s.possible;
      passing = passes_lowest [] os r below
          ∙ and_both (passes_between [] os (r ∷ below)) (test r os below) s.passing
          (lowest_test r below s.possible ∙ h);
    }

    -- and the other way round
    pub lowest_sound :
        {os rs : List Row} (below : List Row) (l : Lowest os rs) →
        passes_between [] os below ≡ true →
        (test l.lowest l.rest below ≡ true) × (passes_between [] l.above (l.lowest ∷ below) ≡ true)
    lowest_sound below l h =
        let r = l.lowest in
        let a = passes_between [] l.above (r ∷ below) in
        let b = test r l.above below in
        let both : (a && b) ≡ true =
        sym (ap (λ (os : List Row). passes_between [] os below) l.order_is ∙ passes_lowest [] l.above r below)
        ∙ h in
        (sym (lowest_test r below l.possible) ∙ and_right a b both, and_left a b both)

    pub sound :
        (n : ℕ) (rs below os : List Row) →
        length rs ≡ n →
        O.order_from test n rs below ≡ some os →
        Sound os rs below
    sound zero [] below os e h =
        subst (λ (l : List Row). Sound l [] below) (same_some h) (record { possible = nothing; passing = refl })
    sound zero (x ∷ rs) below os e h = absurd (omega arith)
    sound (suc n) rs below os e h =
        let p = picked_of (O.order_from test n) below [] rs os h in
        let short : length p.rest ≡ n = omega (arith, taken_length p.taken) in
        let ih = sound n p.rest (p.lowest ∷ below) p.above short p.goes.above in
        subst (λ (l : List Row). Sound l rs below) (sym p.order_is)
        (sound_lowest below p.taken p.goes.fits ih)

    module _ (position : Row → ℕ) where
      pub record First (n : ℕ) (rs below ps : List Row) : Type 0 where
        pub order : List Row
        pub found : O.order_from test n rs below ≡ some order
        pub comes_first : not_after (positions_up position order) (positions_up position ps) ≡ true

      pub complete :
          (n : ℕ) (rs below ps : List Row) →
          length rs ≡ n →
          Rising position rs →
          Possible ps rs →
          passes_between [] ps below ≡ true →
          First n rs below ps
      complete zero rs below ps e up p h = record { order = []; found = refl; comes_first = refl }
      complete (suc n) rs below ps e up p h =
          let l = lowest_of_lem n ps rs e p in
          let r = l.lowest in
          let both = lowest_sound below l h in
          let short : length l.rest ≡ n = omega (arith, taken_length l.taken) in
          let ih = complete n l.rest (r ∷ below) l.above short (rising_rest position l.taken up) l.possible
          both.1 in
          let positions : positions_up position ps ≡ position r ∷ positions_up position l.above =
          ap (positions_up position) l.order_is ∙ positions_lowest position l.above r in
          let goes : Goes (O.order_from test n) below r l.rest ih.order =
          record { fits = both.0; above = ih.found } in
          ⊎_elim
          (λ f. record {
            order = ih.order ++ (r ∷ []);
            found = f;
            comes_first = compare (positions_lowest position ih.order r) positions
                (same_first (position r) (positions_up position ih.order) (positions_up position l.above)
                ih.comes_first);
          })
          (λ f. record {
            order = f.above ++ (f.lowest ∷ []);
            found = f.found;
            comes_first = compare (positions_lowest position f.above f.lowest) positions
                (earlier_first (position f.lowest) (position r) (positions_up position f.above)
                (positions_up position l.above) f.earlier);
          })
          (picked_first (O.order_from test n) below position [] ih.order up l.taken goes)
