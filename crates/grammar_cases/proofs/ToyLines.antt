-- The toy text's laws, each by the law that every grammar has: a text is accepted as it is written or refused for its
-- reason, the marks of an accepted text rise, and what is written reads back.
use mathlib.Core.Path.{◌≡◌, refl, sym, ap, subst}
use mathlib.Core.List.{List, [], ◌∷◌, ◌++◌, append_assoc, append-nil}
use Prim.Native.Nat.{ℕ, zero, suc, ◌≤◌, ◌<◌}
use native.Mathlib.Omega.{arith}
use lib.Dec.{ltb}
use lib.IntN.{ℤ, pos}
use lib.ListN.{length}
use borrow.Author.Tests.{lt-ltb, ltb-true}
use Rattle.basics.specs.Basics.{pick}
use Rattle.basics.proofs.Tests.{let_through}
use Rattle.text.specs.Text.{bytes, signed}
use Rattle.grammars.specs.Forms.{size}
use Rattle.grammars.specs.Grammars.{Plain, accepted, read}
use Rattle.grammars.specs.Reasons.{Passes}
use Rattle.grammars.specs.Claims.{Decides, Writes, done, then}
use Rattle.grammars.proofs.Decision.{decides}
use Rattle.grammars.proofs.Invariants.{Invariant, accepted_holds}
use Rattle.grammars.proofs.Naturals.{natural_passes, in_range_passes, integer_passes, passed_integer}
use Rattle.grammars.proofs.RoundTrip.{reads_back}
use Rattle.grammar_cases.specs.ToyLines.{max_marks, min_mark, max_mark, not_above, Mark, last_from}
use Rattle.grammar_cases.specs.ToyLines.{Stage, at_count, at_mark, at_drift, at-end, marks_stage, after, toy}
use Rattle.grammar_cases.specs.ToyLines.{Above, Rising, none, next, marks_text, toy_text}

-- no key has a line feed
plain : Plain toy
plain at_count = refl
plain (at_mark n ms) = refl
plain (at_drift n ms v) = refl
plain (at-end ms) = refl

-- every text is accepted as it is written, or refused for its reason
pub toy_decides : (text : List ℕ) → Decides toy at_count text
toy_decides text = decides toy plain at_count text

-- ---- the marks of an accepted text rise
-- one more, above the last
rising-last : (v : ℕ) (ms : List Mark) (m : Mark) → Rising v ms → Above (last_from v ms) m → Rising v (ms ++ (m ∷ []))
rising-last v [] m none a = next a none
rising-last v (x ∷ ms) m (next b h) a = next b (rising-last x.mark ms m h a)

-- what is known at each stage
abbrev Known : Stage → Type 0
Known at_count = Unit {0}
Known (at_mark n ms) = Rising 0 ms
Known (at_drift n ms v) = Rising 0 ms × (last_from 0 ms < v) × (v ≤ max_mark)
Known (at-end ms) = Rising 0 ms

-- the same whether marks are left or not
marks_known : (n : ℕ) (ms : List Mark) → Rising 0 ms → Known (marks_stage n ms)
marks_known zero ms h = h
marks_known (suc n) ms h = h

-- every number that passes keeps what is known
known : Invariant toy at_count Known
known = record { begins = tt; keeps = keeps }
  where
    keeps : (s : Stage) (key : List ℕ) (z : ℤ) → Known s → Passes toy s key z → Known (after s z)
    keeps at_count key z h p = marks_known (size z) [] none
    keeps (at_mark n ms) key z h p =
        let test = let_through (ltb (last_from 0 ms) (size z)) not_above (omega arith) p.no_fault in
        let between = natural_passes p (bytes "mark=") min_mark max_mark refl in
        (h, ltb-true (last_from 0 ms) (size z) test, between.le_high)
    keeps (at_drift n ms v) key z (h, above, is_in_range) p =
        let m : Mark = record { mark = v; drift = z } in
        let drift_fits = passed_integer p (bytes "drift=") refl in
        marks_known n (ms ++ (m ∷ []))
        (rising-last 0 ms m h (record { above = above; is_in_range = is_in_range; drift_fits = drift_fits }))
    keeps (at-end ms) key z h p = h

-- so it holds where a text is accepted
pub accepted_rise : (text : List ℕ) (ms : List Mark) → read toy at_count text ≡ accepted (at-end ms) → Rising 0 ms
accepted_rise text ms e = accepted_holds toy at_count Known known plain text (at-end ms) e

-- ---- what is written reads back
-- the last of some marks and one more
last_is : (v : ℕ) (ms : List Mark) (m : Mark) → last_from v (ms ++ (m ∷ [])) ≡ m.mark
last_is v [] m = refl
last_is v (x ∷ ms) m = last_is x.mark ms m

-- the marks that are left, after those that have been written
marks_written : (ds ms : List Mark) → Rising (last_from 0 ds) ms
    → Writes toy (marks_stage (length ms) ds) (marks_text ms) (at-end (ds ++ ms))
unfolding signed
marks_written ds [] none = subst (λ x. Writes toy (at-end ds) [] (at-end x)) (sym (append-nil ds)) (done refl)
marks_written ds (m ∷ ms) (next a h) =
    let before = last_from 0 ds in
    let more = ds ++ (m ∷ []) in
    let passed = ap (λ b. pick b 0 not_above) (lt-ltb before m.mark a.above) in
    let rest = marks_written more ms (subst (λ v. Rising v ms) (sym (last_is 0 ds m)) h) in
    let ends = append_assoc ds (m ∷ []) ms in
    then (bytes "mark=") (pos m.mark)
    (in_range_passes min_mark max_mark m.mark refl refl (omega (arith, a.above)) a.is_in_range passed)
    (then (bytes "drift=") m.drift (integer_passes m.drift refl a.drift_fits refl)
    (subst (λ x. Writes toy (marks_stage (length ms) more) (marks_text ms) (at-end x)) ends rest))

-- the count, and all the marks
pub toy_reads_back : (ms : List Mark) → length ms ≤ max_marks → Rising 0 ms
    → read toy at_count (toy_text ms) ≡ accepted (at-end ms)
unfolding signed
toy_reads_back ms few h =
    reads_back toy at_count (toy_text ms) plain (at-end ms)
    (then (bytes "marks=") (pos (length ms))
    (in_range_passes 0 max_marks (length ms) refl refl (omega arith) few refl)
    (marks_written [] ms h))
