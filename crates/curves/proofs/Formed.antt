-- A curve is well formed exactly if its points keep the limits by their indices: along the curve each point hands the
-- test on to the next, and back.
use mathlib.Core.Path.{◌≡◌, refl}
use mathlib.Core.Bool.{true, ◌&&◌}
use mathlib.Core.List.{List, [], ◌∷◌}
use Prim.Native.Nat.{ℕ, zero, suc, ◌≤◌, ◌<◌}
use native.Mathlib.Omega.{arith}
use borrow.Author.Tests.{le-leb}
use lib.Dec.{leb}
use lib.ListN.{length, get_or}
use Rattle.basics.proofs.Tests.{and_both}
use Rattle.curves.specs.Curves.{Point, no_point, min_delay, max_delay, max_allow, max_points}
use Rattle.curves.specs.Curves.{in_limits, follows, orderly_from, orderly, well_formed}
use Rattle.curves.specs.Claims.{InSequence, FormedSo}
use Rattle.curves.proofs.Lines.{step, head_limited, orderly_of, few_of}
use Rattle.curves.proofs.Orderly.{passing, follow}

-- ---- what is said of each index, of a first point and those behind it
abbrev Delays : Point → List Point → Type 0
Delays p ps = (i : ℕ) → i < length (p ∷ ps) → (get_or (p ∷ ps) i no_point).delay ≤ max_delay

abbrev Allows : Point → List Point → Type 0
Allows p ps = (i : ℕ) → i < length (p ∷ ps) → (get_or (p ∷ ps) i no_point).allow ≤ max_allow

abbrev Later : Point → List Point → Type 0
Later p ps =
    (i : ℕ) → suc i < length (p ∷ ps) → (get_or (p ∷ ps) i no_point).delay < (get_or (p ∷ ps) (suc i) no_point).delay

abbrev Lower : Point → List Point → Type 0
Lower p ps =
    (i : ℕ) → suc i < length (p ∷ ps) → (get_or (p ∷ ps) (suc i) no_point).allow ≤ (get_or (p ∷ ps) i no_point).allow

-- ---- from the test to the indices
delays_of : (p : Point) (ps : List Point) → orderly_from p ps ≡ true → Delays p ps
delays_of p ps h zero l = (head_limited p ps h).delay_max
delays_of p [] h (suc i) l = absurd (omega arith)
delays_of p (q ∷ qs) h (suc i) l = delays_of q qs (step p q qs h).rest i (omega arith)

allows_of : (p : Point) (ps : List Point) → orderly_from p ps ≡ true → Allows p ps
allows_of p ps h zero l = (head_limited p ps h).allow_max
allows_of p [] h (suc i) l = absurd (omega arith)
allows_of p (q ∷ qs) h (suc i) l = allows_of q qs (step p q qs h).rest i (omega arith)

later_of : (p : Point) (ps : List Point) → orderly_from p ps ≡ true → Later p ps
later_of p [] h i l = absurd (omega arith)
later_of p (q ∷ qs) h zero l = (step p q qs h).delays
later_of p (q ∷ qs) h (suc i) l = later_of q qs (step p q qs h).rest i (omega arith)

lower_of : (p : Point) (ps : List Point) → orderly_from p ps ≡ true → Lower p ps
lower_of p [] h i l = absurd (omega arith)
lower_of p (q ∷ qs) h zero l = (step p q qs h).allows
lower_of p (q ∷ qs) h (suc i) l = lower_of q qs (step p q qs h).rest i (omega arith)

-- ---- and back
orderly_by : (p : Point) (ps : List Point) → Delays p ps → Allows p ps → Later p ps → Lower p ps
    → orderly_from p ps ≡ true
orderly_by p [] d a l w = passing min_delay max_allow p (omega arith) (d 0 (omega arith)) (a 0 (omega arith))
orderly_by p (q ∷ qs) d a l w =
    and_both (in_limits p) (follows p q && orderly_from q qs)
    (passing min_delay max_allow p (omega arith) (d 0 (omega arith)) (a 0 (omega arith)))
    (and_both (follows p q) (orderly_from q qs) (follow p q (l 0 (omega arith)) (w 0 (omega arith)))
    (orderly_by q qs (λ i h. d (suc i) (omega arith)) (λ i h. a (suc i) (omega arith))
    (λ i h. l (suc i) (omega arith)) (λ i h. w (suc i) (omega arith))))

in_sequence : (c : List Point) → well_formed c ≡ true → InSequence c
in_sequence [] h = record {
  few = few_of [] h;
  delays = λ i l. absurd (omega arith);
  allows = λ i l. absurd (omega arith);
  later = λ i l. absurd (omega arith);
  lower = λ i l. absurd (omega arith);
}
in_sequence (p ∷ ps) h =
    let o = orderly_of (p ∷ ps) h in
    record {
      few = few_of (p ∷ ps) h;
      delays = delays_of p ps o;
      allows = allows_of p ps o;
      later = later_of p ps o;
      lower = lower_of p ps o;
    }

orderly_so : (c : List Point) → InSequence c → orderly c ≡ true
orderly_so [] s = refl
orderly_so (p ∷ ps) s = orderly_by p ps s.delays s.allows s.later s.lower

well_formed_by : (c : List Point) → InSequence c → well_formed c ≡ true
unfolding well_formed
well_formed_by c s =
    and_both (leb (length c) max_points) (orderly c) (le-leb (length c) max_points s.few) (orderly_so c s)

pub formed_so : FormedSo
formed_so c = (in_sequence c, well_formed_by c)
