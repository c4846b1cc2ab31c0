-- A loop that reads line by line, one step a turn: the text reads as from the next line on, and fewer bytes are left.
use mathlib.Core.Path.{◌≡◌, refl, ap, ◌∙◌}
use mathlib.Core.List.{List}
use Prim.Native.Nat.{ℕ, ◌-◌, ◌<◌}
use native.Mathlib.Omega.{arith}
use lib.ListN.{length}
use Rattle.text.specs.Lines.{fault_number}
use Rattle.text.specs.declared.LineRefusal.{LineRefusal}
use Rattle.grammars.specs.Grammars.{Grammar, accepted, refused}
use Rattle.grammars.specs.Grammars.{Step, goes_on, stops, on_step, step}
use Rattle.grammars.specs.Grammars.{read_from, read}
use Rattle.grammars.specs.inside.Readers.{Reader, Takes, Refuses}
use Rattle.grammars.proofs.Steps.{read_steps, step_onward}

-- ---- a step: it goes on past a byte at least, so the bytes that are left are the loop's measure; or it ends; and what
-- is read stays the same
module _ {S : Type 0} (g : Grammar S) (text : List ℕ) (s : S) (at k : ℕ) where
  step_same : (x : Step S) → step g text s at k ≡ x → read_from g text s at k ≡ on_step x (read_from g text)
  step_same x e = read_steps g text s at k ∙ ap (λ y. on_step y (read_from g text)) e

  goes_fewer : (t : S) (next j : ℕ) → step g text s at k ≡ goes_on t next j → length text - next < length text - at
  goes_fewer t next j e =
      let past = (step_onward g text s at k t next j e).0 in omega (arith, past.further, past.inside)

-- ---- code that reads so, one line a turn: the text reads as from where it stands
pub record Going {P S : Type 0} (r : Reader P S) (On : P → Type 0) (g : Grammar S) (start : S) (text : List ℕ) (p : P)
    : Type 0 where
  pub stands : On p
  pub same : read g start text ≡ read_from g text (r.shows p) (r.offset p) (r.line p)

-- the bytes that are left are its measure
abbrev pub left_at : {P S : Type 0} → Reader P S → List ℕ → P → ℕ
left_at r text p = length text - r.offset p

module _ {P S : Type 0} {r : Reader P S} {On : P → Type 0} {g : Grammar S} {start : S} {text : List ℕ} {p : P}
    (here : Going r On g start text p) where
  -- a turn: it stands again, and less is left
  pub turn : (q : P) → Takes r On (step g text (r.shows p) (r.offset p) (r.line p)) q
      → Going r On g start text q × (left_at r text q < left_at r text p)
  turn q t = go _ refl t
    where
      go : (x : Step S) → step g text (r.shows p) (r.offset p) (r.line p) ≡ x → Takes r On x q
          → Going r On g start text q × (left_at r text q < left_at r text p)
      go (goes_on t next j) e w =
          let same = step_same g text (r.shows p) (r.offset p) (r.line p) (goes_on t next j) e in
          let fewer = goes_fewer g text (r.shows p) (r.offset p) (r.line p) t next j e in (
            record { stands = w.stands; same = rw (w.shows, w.offset, w.line) (here.same ∙ same) },
            omega (arith, w.offset, fewer),
          )
      go (stops v) e w = absurd w

  -- where its line is refused, so is the text
  pub refused_at : (e : LineRefusal) → Refuses (step g text (r.shows p) (r.offset p) (r.line p)) e
      → read g start text ≡ refused (fault_number e.fault) e.line
  refused_at e is = here.same ∙ step_same g text (r.shows p) (r.offset p) (r.line p) _ is

  -- where its line ends the text, that is accepted
  pub accepted_at : step g text (r.shows p) (r.offset p) (r.line p) ≡ stops (accepted (r.shows p))
      → read g start text ≡ accepted (r.shows p)
  accepted_at is = here.same ∙ step_same g text (r.shows p) (r.offset p) (r.line p) _ is
