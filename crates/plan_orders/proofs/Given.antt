-- An order's plan in a text that has room for it: its first lines and its ranks are the plan's, where no rank is late;
-- and what comes of the text, or of a late rank, is what comes of the order.
use mathlib.Core.Path.{◌≡◌, refl, sym, ap, subst, ◌∙◌}
use mathlib.Core.Bool.{true}
use mathlib.Core.List.{List, []}
use Prim.Native.Nat.{ℕ, ◌+◌, ◌^◌, ◌≤◌, ◌<◌}
use native.Mathlib.Omega.{arith}
use lib.ListN.{length, take}
use Rattle.std.proofs.Common.{Some, Ok, Err}
use Rattle.text.specs.Buffers.{Wrote}
use Rattle.text.proofs.Puts.{lent, restored, wrote_front}
use Rattle.fixed_points.specs.inside.Loads.{loads_max}
use Rattle.rows.specs.Rows.{Row, in_range, all_rows}
use Rattle.plans.specs.declared.Refusal.TheVariants.{Late}
use Rattle.plans.specs.Entries.{entries}
use Rattle.plans.specs.Plans.{head_text, room_for}
use Rattle.plans.specs.Outcomes.{fitted, if_in_time, Written}
use Rattle.plans.proofs.Entries.{entries_length, first_late_none}
use Rattle.plans.proofs.Lengths.{plan_fits}
use Rattle.plans.proofs.Outcomes.{late_outcome, timely_outcome, refused}
use Rattle.plans.proofs.Ranks.{plan_put}
use Rattle.plan_orders.specs.inside.Ranks.{FirstLate, PutsRanks, PutsPlan}

pub plan_there : (board n : ℕ) (order : List Row) (text text₁ part : List ℕ) {m k : ℕ}
    → board < 10 ^ 5 → n ≤ loads_max → length order ≡ n → all_rows in_range order ≡ true → room_for n ≤ length text
    → Wrote (head_text board n) text text₁ m → PutsRanks order (lent m text₁) part (Ok k)
    → PutsPlan board order text (restored m text₁ part) (Ok (m + k))
plan_there board n order text text₁ part {m} small few counted ok room head ranks =
    let many : n ≡ length (entries order) = sym (entries_length [] order ∙ counted) in
    let head' = subst (λ (j : ℕ). Wrote (head_text board j) text text₁ m) many head in
    let short = rw counted at (plan_fits board order small (omega (arith, counted)) ok (first_late_none order ranks.0)) in
    (ranks.0, plan_put board (entries order) (omega (arith, short, room)) head' ranks.1)

pub given_is : (room board : ℕ) (order : List Row) {text text' : List ℕ} {long : ℕ}
    → PutsPlan board order text text' (Ok long) → fitted room (take long text') ≡ if_in_time room board order
given_is room board order p = ap (fitted room) (wrote_front p.1) ∙ sym (timely_outcome room board order p.0)

pub late_is : (room board : ℕ) (order : List Row) {late : ℕ} {out : List ℕ}
    → FirstLate order (Some late) → Written (if_in_time room board order) out out (Err (Late late))
late_is room board order {late} first =
    refused (late_outcome room board order late first.0 (λ z. omega (arith, first.1))) (refl, refl)
