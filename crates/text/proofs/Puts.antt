-- Writing one text after another is writing both: what a writer's proof cites for each of its calls.
-- A text put at an offset splits the buffer in three, and the next text starts where the first ends: the part of the
-- buffer from there on is lent to the next writer.
use Rattle.std.proofs.Common.{◌≡◌, ℕ, suc, ◌+◌, ◌-◌, ◌<◌, ◌≤◌, List, [], ◌∷◌, ◌++◌, length, take, drop, set, sym, refl, ap, ◌∙◌, ap₂, append_assoc, append-nil, add-zero, zero-add, arith, length-append, length-drop, take-append-drop, length-take, length-take-le, drop-drop, take_at, drop_at}
use lib.ListN.{drop_of_length-le}
use lib.Seq.{take_all, take-append_seam, drop-append-add, append_snoc, set_split}
use Rattle.io.specs.Counts.{IsPrefixLen}
use Rattle.text.specs.Text.{joined}
use Rattle.text.specs.Buffers.{Wrote}
use Rattle.text.specs.inside.Puts.{put}

-- a text is put at an offset of a buffer, and ends there
pub record Put (text : List ℕ) (at : ℕ) (buffer buffer' : List ℕ) (end : ℕ) : Type 0 where
  pub ends : end ≡ at + length text
  pub holds : buffer' ≡ put at text buffer

-- the first of two texts has room where both have
room_first : (at : ℕ) (t u o : List ℕ) → at + length (t ++ u) ≤ length o → at + length t ≤ length o
room_first at t u o room = omega (arith, length-append t u)

module _ (at : ℕ) (t u o : List ℕ) (room : at + length t ≤ length o) where
  front_length : length (take at o ++ t) ≡ at + length t
  front_length = simp (length-append, length-take) (omega arith)

  front_stays : take (at + length t) (put at t o) ≡ take at o ++ t
  front_stays = take_at (take at o ++ t) (drop (at + length t) o) (at + length t) front_length

  rest_stays : drop (at + length t + length u) (put at t o) ≡ drop (at + length (t ++ u)) o
  rest_stays =
      let long : at + length t + length u ≡ at + length (t ++ u) = omega (arith, length-append t u) in
      ap (λ k. drop (k + length u) (put at t o)) (sym front_length)
      ∙ drop-append-add (take at o ++ t) (drop (at + length t) o) (length u)
      ∙ drop-drop (length u) (at + length t) o
      ∙ ap (λ k. drop k o) long

  put_put : put (at + length t) u (put at t o) ≡ put at (t ++ u) o
  put_put = ap₂ (λ x y. x ++ u ++ y) front_stays rest_stays ∙ simp append_assoc

put_next : {t u o o₁ o₂ : List ℕ} {at m n : ℕ} → at + length (t ++ u) ≤ length o → Put t at o o₁ m → Put u m o₁ o₂ n
    → Put (t ++ u) at o o₂ n
put_next {t} {u} {o} {at = at} room p q = record {
  ends = omega (arith, p.ends, q.ends, length-append t u);
  holds = q.holds ∙ ap₂ (λ k l. put k u l) p.ends p.holds ∙ put_put at t u o (room_first at t u o room);
}

nothing_is : (at : ℕ) (o : List ℕ) → put at [] o ≡ o
nothing_is at o = rw (append-nil (take at o), add-zero at) (take-append-drop at o)

-- the buffer keeps its length
keeps : {t o o' : List ℕ} {at n : ℕ} → at + length t ≤ length o → Put t at o o' n → length o' ≡ length o
keeps {t} {o} {at = at} room p = ap length p.holds ∙ simp (length-append, length-take, length-drop) (omega arith)

-- ---- the part of a buffer from an offset on, as it is lent, and the buffer when that part is back
abbrev pub lent : ℕ → List ℕ → List ℕ
lent at o = take (length o - at) (drop at o)

abbrev pub restored : ℕ → List ℕ → List ℕ → List ℕ
restored at o part = take at o ++ (part ++ drop (length o - at) (drop at o))

lent_is : (at : ℕ) (o : List ℕ) → lent at o ≡ drop at o
lent_is at o = take_all (length o - at) (drop at o) (omega (arith, length-drop at o))

pub lent_length : (at : ℕ) (o : List ℕ) → length (lent at o) ≡ length o - at
lent_length at o = ap length (lent_is at o) ∙ length-drop at o

none_left : (at : ℕ) (o : List ℕ) → drop (length o - at) (drop at o) ≡ []
none_left at o = drop_of_length-le (drop at o) {i = length o - at} (omega (arith, length-drop at o))

-- what is written at the front of the part is put at the offset
pub put_lent : (at : ℕ) (o : List ℕ) {t part : List ℕ} {k : ℕ} → Wrote t (lent at o) part k
    → Put t at o (restored at o part) (at + k)
put_lent at o {t} {part} w = record {
  ends = ap (λ k. at + k) w.long_is;
  holds =
      ap₂ (λ x y. take at o ++ (x ++ y)) (w.holds ∙ ap (λ l. t ++ drop (length t) l) (lent_is at o)) (none_left at o)
      ∙ ap (λ x. take at o ++ x) (append-nil (t ++ drop (length t) (drop at o)))
      ∙ sym (append_assoc (take at o) t (drop (length t) (drop at o)))
      ∙ ap (λ x. take at o ++ t ++ x) (drop-drop (length t) at o);
}

-- and what is written from the start is put at 0
put_start : {t o o' : List ℕ} {n : ℕ} → Wrote t o o' n → Put t 0 o o' n
put_start {t} {o} w = record {
  ends = w.long_is ∙ sym (zero-add (length t));
  holds = w.holds ∙ ap (λ k. t ++ drop k o) (sym (zero-add (length t)));
}

from_start : {t o o' : List ℕ} {n : ℕ} → Put t 0 o o' n → Wrote t o o' n
from_start {t} {o} p = record {
  long_is = p.ends ∙ zero-add (length t);
  holds = p.holds ∙ ap (λ k. t ++ drop k o) (zero-add (length t));
}

-- ---- A writer on its way: it began in `o`, stands at `m` in `o₁`, and has the texts `left` of all to write.
-- They have room, and once they are written, all are.
pub record Going (all left : List (List ℕ)) (o : List ℕ) (m : ℕ) (o₁ : List ℕ) : Type 0 where
  pub room : m + length (joined left) ≤ length o₁
  pub ending : {o₂ : List ℕ} {n : ℕ} → Put (joined left) m o₁ o₂ n → Put (joined all) 0 o o₂ n
  pub same : length o₁ ≡ length o

pub begins : (all : List (List ℕ)) (o : List ℕ) → length (joined all) ≤ length o → Going all all o 0 o
begins all o room = record { room = omega (arith, room); ending = λ p. p; same = refl }

pub next_put : {all : List (List ℕ)} {t : List ℕ} {ts : List (List ℕ)} {o : List ℕ} {m : ℕ} {o₁ o₂ : List ℕ} {n : ℕ}
    → Going all (t ∷ ts) o m o₁ → Put t m o₁ o₂ n → Going all ts o n o₂
next_put {t = t} {ts = ts} {m = m} {o₁ = o₁} g p =
    let same = keeps (room_first m t (joined ts) o₁ g.room) p in
    record {
      room = omega (arith, g.room, p.ends, length-append t (joined ts), same);
      ending = λ q. g.ending (put_next g.room p q);
      same = same ∙ g.same;
    }

-- the first text has room, and is written from the buffer's start
module _ {t : List ℕ} {ts : List (List ℕ)} {o : List ℕ} (g : Going (t ∷ ts) (t ∷ ts) o 0 o) where
  pub fits_first : length t ≤ length o
  fits_first = omega (arith, g.room, length-append t (joined ts))

  pub first : {m : ℕ} {o₁ : List ℕ} → Wrote t o o₁ m → Going (t ∷ ts) ts o m o₁
  first w = next_put g (put_start w)

-- and so has each next one, which is written where the one before it ends
pub fits_next : {all : List (List ℕ)} {t : List ℕ} {ts : List (List ℕ)} {o : List ℕ} {m : ℕ} {o₁ : List ℕ}
    → Going all (t ∷ ts) o m o₁ → length t ≤ length (lent m o₁)
fits_next {t = t} {ts = ts} {m = m} {o₁ = o₁} g =
    omega (arith, g.room, length-append t (joined ts), lent_length m o₁)

-- between its two facts, so that a row of calls reads from left to right
infixl 20 ◌▷◌
pub ◌▷◌ : {all : List (List ℕ)} {t : List ℕ} {ts : List (List ℕ)} {o : List ℕ} {m : ℕ} {o₁ part : List ℕ} {k : ℕ}
    → Going all (t ∷ ts) o m o₁ → Wrote t (lent m o₁) part k → Going all ts o (m + k) (restored m o₁ part)
◌▷◌ {m = m} {o₁ = o₁} g w = next_put g (put_lent m o₁ w)

-- what is left may be one writer's
pub ends_by : {all left : List (List ℕ)} {m : ℕ} {o o₁ part : List ℕ} {k : ℕ} → Going all left o m o₁
    → Wrote (joined left) (lent m o₁) part k → Wrote (joined all) o (restored m o₁ part) (m + k)
ends_by {m = m} {o₁ = o₁} g w = from_start (g.ending (put_lent m o₁ w))

pub ends : {all : List (List ℕ)} {m : ℕ} {o o₁ : List ℕ} → Going all [] o m o₁ → Wrote (joined all) o o₁ m
ends {m = m} {o₁ = o₁} g =
    from_start (g.ending record { ends = sym (add-zero m); holds = sym (nothing_is m o₁) })

-- ---- what is written stands at the buffer's front
-- a text written before a byte that is set is both
pub set_next : (t o : List ℕ) (i x : ℕ) → i ≡ length t → i < length o
    → t ++ drop (length t) (set o i x) ≡ (t ++ (x ∷ [])) ++ drop (length (t ++ (x ∷ []))) o
set_next t o i x is room =
    let rest = ap (drop i) (set_split o i x room) ∙ drop_at (take i o) _ i (length-take-le i o (omega arith)) in
    let long : suc i ≡ length (t ++ (x ∷ [])) = omega (arith, length-append t (x ∷ [])) in
    ap (λ r. t ++ r) (ap (λ k. drop k (set o i x)) (sym is) ∙ rest)
    ∙ sym (append_snoc t x (drop (suc i) o))
    ∙ ap (λ k. (t ++ (x ∷ [])) ++ drop k o) long

pub wrote_nothing : (o : List ℕ) → Wrote [] o o 0
wrote_nothing o = record { long_is = refl; holds = refl }

pub wrote_keeps : {t o o' : List ℕ} {n : ℕ} → n ≤ length o → Wrote t o o' n → length o' ≡ length o
wrote_keeps {t} {o} room w =
    omega (arith, w.long_is, ap length w.holds, length-append t (drop (length t) o), length-drop (length t) o)

pub wrote_front : {t o o' : List ℕ} {n : ℕ} → Wrote t o o' n → take n o' ≡ t
wrote_front {t} {o} w = ap₂ take w.long_is w.holds ∙ take-append_seam t (drop (length t) o)

-- so that a caller can lend the text as a part of the buffer
pub wrote_counts : {t o o' : List ℕ} {n : ℕ} → Wrote t o o' n → IsPrefixLen n o'
wrote_counts {t} {o} w =
    let long = ap length w.holds ∙ length-append t (drop (length t) o) in
    (omega (arith, w.long_is), w.long_is ∙ sym (ap length (wrote_front w)))
