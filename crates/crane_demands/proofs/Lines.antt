-- Texts of lines of which the first alone begins with a key: each of them is a piece.
use mathlib.Core.Path.{◌≡◌, refl, sym, ap, ◌∙◌}
use mathlib.Core.Bool.{true, false, ◌&&◌}
use mathlib.Core.List.{List, [], ◌∷◌, ◌++◌, append-nil, append_assoc}
use Prim.Native.Nat.{ℕ, suc}
use lib.Dec.{eqb}
use lib.IntN.{ℤ, pos, negsuc}
use Rattle.basics.specs.Basics.{is_in}
use borrow.Author.Tests.{eq-eqb}
use Rattle.basics.proofs.Tests.{and_both, or_neither, eqb_swap, in_append}
use Rattle.text.specs.Text.{line_feed, signed, key_line}
use Rattle.text.specs.Lines.{begins}
use Rattle.text.proofs.Lines.{decimal_no_feed}
use Rattle.crane_demands.specs.Pieces.{Uncut, ends_line}
use Rattle.crane_demands.proofs.Pieces.{uncut_none, uncut_more}

pub signed_no_feed : (z : ℤ) → is_in line_feed (signed z) ≡ false
unfolding signed
signed_no_feed (pos v) = decimal_no_feed v
signed_no_feed (negsuc v) = decimal_no_feed (suc v)

-- lines, or none, of which no one begins with the key
pub record Others (key t : List ℕ) : Type 0 where
  pub uncut : Uncut key t
  pub other : begins key t ≡ false
  pub ends : (s : List ℕ) → ends_line s ≡ true → ends_line (s ++ t) ≡ true

module _ (key : List ℕ) (some : begins key [] ≡ false) where
  pub no_others : Others key []
  no_others = record { uncut = uncut_none key; other = some; ends = λ s h. ap ends_line (append-nil s) ∙ h }

  ends_feed : (s : List ℕ) → ends_line (s ++ (line_feed ∷ [])) ≡ true
  ends_feed [] = refl
  ends_feed (b ∷ []) = refl
  ends_feed (b ∷ c ∷ s) = ends_feed (c ∷ s)

  -- a line before others
  uncut_line : (l rest : List ℕ) → is_in line_feed l ≡ false → Others key rest → Uncut key (l ++ (line_feed ∷ rest))
  uncut_line [] rest h o = uncut_more key line_feed rest o.other o.uncut
  uncut_line (b ∷ l) rest h o =
      let both = or_neither (eqb line_feed b) (is_in line_feed l) h in
      let no_cut = ap (λ t. t && begins key (l ++ (line_feed ∷ rest))) (eqb_swap line_feed b both.0) in
      uncut_more key b (l ++ (line_feed ∷ rest)) no_cut (uncut_line l rest both.1 o)

  module _ (k v : List ℕ) (in_key : is_in line_feed k ≡ false) (in_value : is_in line_feed v ≡ false) where
    line_is : (rest : List ℕ) → key_line k v ++ rest ≡ (k ++ v) ++ (line_feed ∷ rest)
    unfolding key_line
    line_is rest =
        append_assoc k (v ++ (line_feed ∷ [])) rest
        ∙ ap (λ t. k ++ t) (append_assoc v (line_feed ∷ []) rest)
        ∙ sym (append_assoc k v (line_feed ∷ rest))

    line_plain : is_in line_feed (k ++ v) ≡ false
    line_plain = rw (in_append line_feed k v, in_key, in_value)

    line_uncut : (rest : List ℕ) → Others key rest → Uncut key (key_line k v ++ rest)
    line_uncut rest o = rw (line_is rest) (uncut_line (k ++ v) rest line_plain o)

    line_ends : (s : List ℕ) → ends_line (s ++ key_line k v) ≡ true
    line_ends s =
        ap (λ t. ends_line (s ++ t)) (sym (append-nil (key_line k v)) ∙ line_is [])
        ∙ ap ends_line (sym (append_assoc s (k ++ v) (line_feed ∷ [])))
        ∙ ends_feed (s ++ (k ++ v))

    pub line_other : ((s : List ℕ) → begins key (k ++ s) ≡ false) → (rest : List ℕ) → Others key rest
        → Others key (key_line k v ++ rest)
    line_other differs rest o = record {
      uncut = line_uncut rest o;
      other = ap (begins key) (line_is rest ∙ append_assoc k v (line_feed ∷ rest)) ∙ differs (v ++ (line_feed ∷ rest));
      ends = λ s h. ap ends_line (sym (append_assoc s (key_line k v) rest)) ∙ o.ends (s ++ key_line k v) (line_ends s);
    }

-- the first line, and others
pub record Begun (key t : List ℕ) : Type 0 where
  pub uncut : Uncut key t
  pub ends : ends_line t ≡ true
  pub begun : begins key t ≡ true

own_line : (key more : List ℕ) → begins key (key ++ more) ≡ true
own_line [] more = refl
own_line (b ∷ key) more = and_both (eqb b b) (begins key (key ++ more)) (eq-eqb b b refl) (own_line key more)

pub first_line : (key : List ℕ) → begins key [] ≡ false → is_in line_feed key ≡ false → (v t : List ℕ)
    → is_in line_feed v ≡ false → Others key t → Begun key (key_line key v ++ t)
first_line key some in_key v t in_value o = record {
  uncut = line_uncut key some key v in_key in_value t o;
  ends = o.ends (key_line key v) (line_ends key some key v in_key in_value []);
  begun =
      ap (begins key) (line_is key some key v in_key in_value t ∙ append_assoc key v (line_feed ∷ t))
      ∙ own_line key (v ++ (line_feed ∷ t));
}
