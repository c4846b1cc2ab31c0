-- A plan's ranks one by one: those of one entry more have its rank at their end. A plan has them after its first lines.
use mathlib.Core.Path.{◌≡◌, sym, ap, ◌∙◌}
use mathlib.Core.List.{List, [], ◌∷◌, ◌++◌, append_assoc}
use Prim.Native.Nat.{ℕ, suc, ◌+◌, ◌≤◌}
use native.Mathlib.Omega.{arith}
use lib.ListN.{length, length-append}
use Rattle.text.specs.Text.{joined}
use Rattle.text.specs.Buffers.{Wrote}
use Rattle.text.proofs.Puts.{lent, restored, begins, first, ◌▷◌, ends_by, ends}
use Rattle.plans.specs.declared.Entry.{Entry}
use Rattle.plans.specs.Plans.{rank_text, rank_texts, head_text, plan_text}

ranks_more : (k j : ℕ) (es : List Entry) (e : Entry) → j ≡ k + length es
    → joined (rank_texts k (es ++ (e ∷ []))) ≡ joined (joined (rank_texts k es) ∷ rank_text j e ∷ [])
ranks_more k j [] e h =
    let same : k ≡ j = omega (arith, h) in
    ap (λ (m : ℕ). joined (rank_text m e ∷ [])) same
ranks_more k j (x ∷ es) e h =
    ap (λ (t : List ℕ). rank_text k x ++ t) (ranks_more (suc k) j es e (omega (arith, h)))
    ∙ sym (append_assoc (rank_text k x) (joined (rank_texts (suc k) es)) (joined (rank_text j e ∷ [])))

-- a rank put where those above it end
pub rank_put : (es : List Entry) (e : Entry) (j : ℕ) {m k : ℕ} {o o₁ part : List ℕ} → j ≡ suc (length es)
    → length (joined (rank_texts 1 es)) + length (rank_text j e) ≤ length o
    → Wrote (joined (rank_texts 1 es)) o o₁ m → Wrote (rank_text j e) (lent m o₁) part k
    → Wrote (joined (rank_texts 1 (es ++ (e ∷ [])))) o (restored m o₁ part) (m + k)
rank_put es e j {o = o} is room above rank =
    let above_text = joined (rank_texts 1 es) in
    let texts = above_text ∷ rank_text j e ∷ [] in
    let long = length-append above_text (joined (rank_text j e ∷ [])) in
    let long' = length-append (rank_text j e) [] in
    rw (ranks_more 1 j es e (omega (arith, is)))
    (ends (first (begins texts o (omega (arith, room, long, long'))) above ▷ rank))

-- all ranks put where the lines before them end
pub plan_put : (board : ℕ) (es : List Entry) {m k : ℕ} {o o₁ part : List ℕ} → length (plan_text board es) ≤ length o
    → Wrote (head_text board (length es)) o o₁ m → Wrote (joined (rank_texts 1 es)) (lent m o₁) part k
    → Wrote (plan_text board es) o (restored m o₁ part) (m + k)
unfolding plan_text
plan_put board es {o = o} room head ranks =
    let texts = head_text board (length es) ∷ rank_texts 1 es in
    ends_by (first (begins texts o room) head) ranks
