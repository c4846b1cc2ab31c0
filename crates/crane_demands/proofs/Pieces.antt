-- The pieces of a text are its cut, and the only one. As the key has no line feed, it does not run over the end of a
-- piece that ends a line, so a piece begins with the key where the text does.
use mathlib.Core.Path.{◌≡◌, refl, sym, ap, ap₂, ◌∙◌}
use mathlib.Core.Bool.{Bool, true, false, ◌&&◌}
use mathlib.Core.List.{List, [], ◌∷◌, ◌++◌, append-nil}
use mathlib.Core.Logic.{inl, inr}
use Prim.Native.Nat.{ℕ, ◌<◌}
use native.Mathlib.Omega.{arith}
use lib.Dec.{eqb}
use lib.ListN.{length, length-append}
use borrow.Author.Tests.{eqb-true, eq-eqb}
use Rattle.basics.specs.Basics.{is_in}
use Rattle.basics.proofs.Tests.{test_of, true_not_false, false_of, and_left, and_right, and_both, or_right}
use Rattle.text.specs.Text.{line_feed, joined}
use Rattle.text.specs.Lines.{begins}
use Rattle.crane_demands.specs.Pieces.{cut_after, before, cut_before, Uncut, ends_line, Separate, CutOf}

-- ---- keys
pub begins_more : (key s t : List ℕ) → begins key s ≡ true → begins key (s ++ t) ≡ true
begins_more [] s t e = refl
begins_more (x ∷ key) [] t e = absurd (true_not_false false e refl)
begins_more (x ∷ key) (y ∷ s) t e =
    and_both (eqb x y) (begins key (s ++ t)) (and_left (eqb x y) (begins key s) e)
    (begins_more key s t (and_right (eqb x y) (begins key s) e))

-- a key without a line feed ends before the first line feed
begins_within : (key s t : List ℕ) → is_in line_feed key ≡ false → is_in line_feed s ≡ true
    → begins key (s ++ t) ≡ true → begins key s ≡ true
begins_within [] s t k l e = refl
begins_within (x ∷ key) [] t k l e = absurd (true_not_false false l refl)
begins_within (x ∷ key) (y ∷ s) t k l e =
    let same = and_left (eqb x y) (begins key (s ++ t)) e in
    let rest = and_right (eqb x y) (begins key (s ++ t)) e in
    let ih = begins_within key s t in
    elim (test_of (eqb line_feed x)) [
      | inl z ↦ absurd (true_not_false true refl (rw z at k))
      | inr z ↦ and_both (eqb x y) (begins key s) same (ih (rw z at k) (rw (← eqb-true x y same, z) at l) rest)
    ]

-- ---- pieces that end a line
ends_in_lem : (p : List ℕ) → ends_line p ≡ true → is_in line_feed p ≡ true
ends_in_lem [] e = e
ends_in_lem (b ∷ []) e = rw (eqb-true b line_feed e)
ends_in_lem (b ∷ c ∷ s) e = or_right (eqb line_feed b) (is_in line_feed (c ∷ s)) (ends_in_lem (c ∷ s) e)

ends_more : (b : ℕ) (p : List ℕ) → ends_line p ≡ true → ends_line (b ∷ p) ≡ true
ends_more b [] e = absurd (true_not_false false e refl)
ends_more b (c ∷ p) e = e

-- ---- a byte before pieces
some_before : (c : Bool) (b : ℕ) (ps : List (List ℕ)) → 0 < length (before c b ps)
some_before true b ps = omega arith
some_before false b [] = omega arith
some_before false b (p ∷ ps) = omega arith

before-append : (c : Bool) (b : ℕ) (ps qs : List (List ℕ)) → 0 < length ps → before c b (ps ++ qs) ≡ before c b ps ++ qs
before-append c b [] qs h = absurd (omega arith)
before-append true b (p ∷ ps) qs h = refl
before-append false b (p ∷ ps) qs h = refl

joined_before : (c : Bool) (b : ℕ) (ps : List (List ℕ)) → joined (before c b ps) ≡ b ∷ joined ps
joined_before true b ps = refl
joined_before false b [] = refl
joined_before false b (p ∷ ps) = refl

module _ (key : List ℕ) where
  -- ---- uncut pieces
  not_empty : (u v : List ℕ) → [] ≡ u ++ (line_feed ∷ v) → ⊥
  not_empty u v e = omega (arith, ap length e, length-append u (line_feed ∷ v))

  pub uncut_none : Uncut key []
  uncut_none u v e = absurd (not_empty u v e)

  pub uncut_more : (b : ℕ) (p : List ℕ) → cut_after key b p ≡ false → Uncut key p → Uncut key (b ∷ p)
  uncut_more b p h w [] v e =
      let feed : b ≡ line_feed = cc in
      let same : p ≡ v = cc in
      ap (begins key) (sym same) ∙ sym (ap (λ t. t && begins key p) (eq-eqb b line_feed feed)) ∙ h
  uncut_more b p h w (c ∷ u) v e = let is : p ≡ u ++ (line_feed ∷ v) = cc in w u v is

  uncut_tail : (b : ℕ) (p : List ℕ) → Uncut key (b ∷ p) → Uncut key p
  uncut_tail b p w u v e = w (b ∷ u) v (ap (λ l. b ∷ l) e)

  -- no cut after the first byte of an uncut piece
  uncut_first : (b : ℕ) (p : List ℕ) → Uncut key (b ∷ p) → cut_after key b p ≡ false
  uncut_first b p w = elim (test_of (eqb b line_feed)) [
    | inl e ↦ rw e (w [] p (ap (λ x. x ∷ p) (eqb-true b line_feed e)))
    | inr e ↦ rw e
  ]

  -- ---- the pieces joined are the text
  pub joins : (s : List ℕ) → joined (cut_before key s) ≡ s
  joins [] = refl
  joins (b ∷ s) = joined_before (cut_after key b s) b (cut_before key s) ∙ ap (λ l. b ∷ l) (joins s)

  -- one piece or more, and a byte goes before the first
  pub some_pieces : (s : List ℕ) → 0 < length (cut_before key s)
  some_pieces [] = omega arith
  some_pieces (b ∷ s) = some_before (cut_after key b s) b (cut_before key s)

  -- where the text is not cut, the piece is not
  uncut_front : (b : ℕ) (p rest : List ℕ) → cut_after key b (p ++ rest) ≡ false → cut_after key b p ≡ false
  uncut_front b p rest h = false_of (cut_after key b p) (λ e.
      true_not_false (cut_after key b (p ++ rest))
      (and_both (eqb b line_feed) (begins key (p ++ rest)) (and_left (eqb b line_feed) (begins key p) e)
      (begins_more key p rest (and_right (eqb b line_feed) (begins key p) e))) h)

  separate_uncut : (b : ℕ) (s : List ℕ) (ps : List (List ℕ)) → cut_after key b s ≡ false → joined ps ≡ s
      → Separate key ps → Separate key (before false b ps)
  separate_uncut b s [] c j h = absurd h
  separate_uncut b s (p ∷ []) c j h = uncut_more b p (uncut_front b p [] (ap (cut_after key b) j ∙ c)) h
  separate_uncut b s (p ∷ q ∷ qs) c j h = (
    uncut_more b p (uncut_front b p (joined (q ∷ qs)) (ap (cut_after key b) j ∙ c)) h.0,
    ends_more b p h.1,
    h.2,
    h.3,
  )

  -- ---- a text that is one piece
  pub one_piece : (p : List ℕ) → Uncut key p → cut_before key p ≡ p ∷ []
  one_piece [] w = refl
  one_piece (b ∷ p) w =
      ap (λ c. before c b (cut_before key p)) (uncut_first b p w) ∙ ap (before false b) (one_piece p (uncut_tail b p w))

  -- ---- where the key is not empty and has no line feed
  module _ (some : begins key [] ≡ false) (in_line : is_in line_feed key ≡ false) where
    uncut_one : (b : ℕ) → Uncut key (b ∷ [])
    uncut_one b [] v e = let is : v ≡ [] = cc in ap (begins key) is ∙ some
    uncut_one b (c ∷ u) v e = let is : [] ≡ u ++ (line_feed ∷ v) = cc in absurd (not_empty u v is)

    piece_begins : (p rest : List ℕ) → ends_line p ≡ true → begins key (p ++ rest) ≡ true → begins key p ≡ true
    piece_begins p rest e h = begins_within key p rest in_line (ends_in_lem p e) h

    separate_cut : (b : ℕ) (s : List ℕ) (ps : List (List ℕ)) → cut_after key b s ≡ true → joined ps ≡ s
        → Separate key ps → Separate key (before true b ps)
    separate_cut b s [] c j h = absurd h
    separate_cut b s (p ∷ []) c j h = (
      uncut_one b,
      and_left (eqb b line_feed) (begins key s) c,
      ap (begins key) (sym (append-nil p) ∙ j) ∙ and_right (eqb b line_feed) (begins key s) c,
      h,
    )
    separate_cut b s (p ∷ q ∷ qs) c j h = (
      uncut_one b,
      and_left (eqb b line_feed) (begins key s) c,
      piece_begins p (joined (q ∷ qs)) h.1
          (ap (begins key) j ∙ and_right (eqb b line_feed) (begins key s) c),
      h,
    )

    separate : (s : List ℕ) → Separate key (cut_before key s)
    separate [] = uncut_none
    separate (b ∷ s) =
        let ih = separate s in
        elim (test_of (cut_after key b s)) [
          | inl e ↦ rw e (separate_cut b s (cut_before key s) e (joins s) ih)
          | inr e ↦ rw e (separate_uncut b s (cut_before key s) e (joins s) ih)
        ]

    pub is_cut : (text : List ℕ) → CutOf key text (cut_before key text)
    is_cut text = record { joins = joins text; separate = separate text }

    -- ---- a text that ends a line, and one that begins with the key: each is cut as it is alone
    begins_same : (p rest : List ℕ) → ends_line p ≡ true → begins key (p ++ rest) ≡ begins key p
    begins_same p rest h = elim (test_of (begins key p)) [
      | inl e ↦ begins_more key p rest e ∙ sym e
      | inr e ↦ false_of (begins key (p ++ rest)) (λ t. true_not_false (begins key p) (piece_begins p rest h t) e) ∙ sym e
    ]

    pub cut_together : (text more : List ℕ) → ends_line text ≡ true → begins key more ≡ true
        → cut_before key (text ++ more) ≡ cut_before key text ++ cut_before key more
    cut_together [] more e h = absurd (true_not_false false e refl)
    cut_together (b ∷ []) more e h =
        ap (λ c. before c b (cut_before key more)) (and_both (eqb b line_feed) (begins key more) e h)
        ∙ ap (λ ps. ps ++ cut_before key more) (sym (one_piece (b ∷ []) (uncut_one b)))
    cut_together (b ∷ c ∷ s) more e h =
        ap (λ t. before (eqb b line_feed && t) b (cut_before key ((c ∷ s) ++ more))) (begins_same (c ∷ s) more e)
        ∙ ap (before (cut_after key b (c ∷ s)) b) (cut_together (c ∷ s) more e h)
        ∙ before-append (cut_after key b (c ∷ s)) b (cut_before key (c ∷ s)) (cut_before key more) (some_pieces (c ∷ s))

    -- ---- the only cut
    unique : (ps : List (List ℕ)) → Separate key ps → cut_before key (joined ps) ≡ ps
    unique [] h = absurd h
    unique (p ∷ []) h = ap (cut_before key) (append-nil p) ∙ one_piece p h
    unique (p ∷ q ∷ qs) h =
        cut_together p (joined (q ∷ qs)) h.1 (begins_more key q (joined qs) h.2)
        ∙ ap₂ (λ ps rest. ps ++ rest) (one_piece p h.0) (unique (q ∷ qs) h.3)

    pub only_cut : (text : List ℕ) (ps : List (List ℕ)) → CutOf key text ps → ps ≡ cut_before key text
    only_cut text ps c = sym (unique ps c.separate) ∙ ap (cut_before key) c.joins
