-- A line that the code takes in is the step of the text's reading: its number leads to the next stage and stands behind
-- those before it, and any other answer ends the reading.
use mathlib.Core.Path.{◌≡◌, refl, sym, ap, ap₂, ◌∙◌, subst}
use mathlib.Core.Bool.{Bool, true, false}
use mathlib.Core.List.{List, [], ◌∷◌, ◌++◌, append_assoc}
use mathlib.Core.Logic.{◌⊎◌, inl, inr}
use Prim.Native.Nat.{ℕ, suc, ◌+◌, ◌-◌, ◌*◌, ◌≤◌, ◌<◌}
use native.Mathlib.Numerals.{add-one}
use native.Mathlib.Omega.{arith}
use lib.ListN.{length, take, drop, set, replicate, length-append, length-drop, length-set, length-replicate}
use lib.Seq.{append_snoc, length-take-le, take-suc-set, take-add, drop-set-lt, get_or-take, get_or-set_other}
use Rattle.basics.proofs.Tests.{never}
use Rattle.rows.specs.inside.Numbers.{line_count, field_count, switch_at}
use Rattle.std.specs.Prelude.{Ok, Err}
use Rattle.text.specs.Line.{Line}
use Rattle.text.specs.Lines.{told}
use Rattle.text.specs.declared.LineRefusal.{LineRefusal}
use Rattle.text.specs.declared.Number.{Number}
use Rattle.grammars.specs.Grammars.{step}
use Rattle.grammars.specs.inside.Answers.{tested, on_answer}
use Rattle.readers.specs.declared.progress.Part.{Part}
use Rattle.readers.specs.declared.progress.Part.TheVariants as P
use Rattle.readers.specs.declared.progress.Stand.{Stand}
use Rattle.readers.specs.declared.progress.Progress.{Progress}
use Rattle.tables.specs.TableLines.{Stage, after, table}
use Rattle.readers.specs.inside.Numbers.{most_numbers, line_bytes, row_bytes, row_start, head_switch_at, switch_in}
use Rattle.readers.specs.inside.Stands.{line_here, fault_in, stand_after, fewest_lines, most_lines, read_by, Counted}
use Rattle.readers.specs.inside.Stands.{Going, ends_row, with_number, PutAt, stage_in, stage_of}
use Rattle.readers.specs.inside.Stands.{Stands, progress, TakesLine}
use Rattle.readers.proofs.Stands.{step_shown, grown, Follows, last_in, stand_follows, LineTaken, answer_taken}

-- ---- so many numbers and lines at most, and bytes enough for each number
few_read : (p : Part) (s : Stand) → Counted p s → read_by p s ≤ most_numbers
few_read P.Board s h = omega arith
few_read P.Tasks s h = omega arith
few_read P.Switch s h = omega arith
few_read P.Row s h = omega (arith, h.0, h.1)
few_read P.Rank s h = omega (arith, h.0, h.1)
few_read P.End s h = omega (arith, h.0, h.1)

bytes_enough : (p : Part) (s : Stand) → row_bytes * read_by p s ≤ field_count * (line_bytes * fewest_lines p s)
bytes_enough P.Board s = omega arith
bytes_enough P.Tasks s = omega arith
bytes_enough P.Switch s = omega arith
bytes_enough P.Row s = omega arith
bytes_enough P.Rank s = omega arith
bytes_enough P.End s = omega arith

-- no more lines than numbers
lines_few : (p : Part) (s : Stand) → most_lines p s ≤ read_by p s
lines_few P.Board s = omega arith
lines_few P.Tasks s = omega arith
lines_few P.Switch s = omega arith
lines_few P.Row s = omega arith
lines_few P.Rank s = omega arith
lines_few P.End s = omega arith

pub line_small : (text : List ℕ) (at : ℕ) (s : Stand) (k : ℕ) (ns : List ℕ) → Stands text at s k ns
    → k ≤ suc most_numbers
line_small text at s k ns h =
    omega (arith, h.most, lines_few s.part s, few_read s.part s h.counted)

-- ---- a number put behind those before it, and the switch of its row
put_long : (last : Bool) (at switch v : ℕ) (ns : List ℕ) → length (with_number last at switch v ns) ≡ length ns
put_long true at switch v ns = length-set (set ns at v) switch (switch_in (set ns at v)) ∙ length-set ns at v
put_long false at switch v ns = length-set ns at v

-- what is left standing between the two
abbrev gap_of : ℕ → ℕ → List ℕ → List ℕ
gap_of at switch ns = take (switch - suc at) (drop (suc at) ns)

put_grown : (last : Bool) (at switch v : ℕ) (ns : List ℕ) → PutAt last at switch ns
    → let ms = grown last v (gap_of at switch ns) (take at ns) in
    take (length ms) (with_number last at switch v ns) ≡ ms
put_grown false at switch v ns h =
    let ws = take at ns in
    let long : length (ws ++ (v ∷ [])) ≡ suc at =
    length-append ws (v ∷ []) ∙ omega (arith, length-take-le at ns (omega (arith, h.here))) in
    ap (λ m. take m (set ns at v)) long ∙ take-suc-set ns at v h.here
put_grown true at switch v ns h =
    let (past, later, room) = h.behind refl in
    let ws = take at ns in
    let ms = set ns at v in
    let sw = switch_in ms in
    let left = switch - suc at in
    let gap = gap_of at switch ns in
    let gap_long : length gap ≡ left = length-take-le left (drop (suc at) ns) (omega (arith, length-drop (suc at) ns)) in
    let long : length (ws ++ (v ∷ (gap ++ (switch_in ws ∷ [])))) ≡ suc switch =
    length-append ws (v ∷ (gap ++ (switch_in ws ∷ []))) ∙ omega (
      arith,
      length-take-le at ns (omega (arith, h.here)),
      length-append gap (switch_in ws ∷ []),
      gap_long,
    ) in
    let same : sw ≡ switch_in ws =
    get_or-set_other ns at head_switch_at v 0 (λ e. omega (arith, e, past)) ∙ sym (get_or-take at ns head_switch_at 0 past) in
    let there : switch ≡ suc at + left = omega arith in
    let front : take switch ms ≡ (ws ++ (v ∷ [])) ++ gap =
    ap (λ m. take m ms) there
    ∙ take-add (suc at) left ms
    ∙ ap₂ (λ xs ys. xs ++ take left ys) (take-suc-set ns at v h.here) (drop-set-lt (suc at) ns at v (omega arith)) in
    ap (λ m. take m (set ms switch sw)) long
    ∙ take-suc-set ms switch sw (omega (arith, room, length-set ns at v))
    ∙ ap (λ xs. xs ++ (sw ∷ [])) front
    ∙ append_assoc (ws ++ (v ∷ [])) gap (sw ∷ [])
    ∙ append_snoc ws v (gap ++ (sw ∷ []))
    ∙ ap (λ d. ws ++ (v ∷ (gap ++ (d ∷ [])))) same

-- the last number of a row stands before its switch, and behind the head
last_is : (p : Part) (s : Stand) (ns : List ℕ) (v : ℕ) → ends_row p s ns v ≡ last_in p s (take (read_by p s) ns) v
last_is P.Board s ns v = refl
last_is P.Tasks s ns v = refl
last_is P.Switch s ns v = refl
last_is P.Row s ns v = refl
last_is P.Rank s ns v = refl
last_is P.End s ns v = refl

abbrev switch_of : Stand → ℕ
switch_of s = row_start s.count + switch_at

pub record LastStands (p : Part) (s : Stand) : Type 0 where
  pub past : head_switch_at < read_by p s
  pub before : read_by p s < switch_of s
  pub fills : s.position + suc (switch_of s - suc (read_by p s)) ≡ line_count

last_stands : (p : Part) (s : Stand) (ns : List ℕ) (v : ℕ) → Counted p s → ends_row p s ns v ≡ true → LastStands p s
last_stands P.Board s ns v h e = never e
last_stands P.Tasks s ns v h e = never e
last_stands P.Switch s ns v h e = never e
last_stands P.Row s ns v h e =
    record { past = omega arith; before = omega (arith, h.0); fills = omega (arith, h.0) }
last_stands P.Rank s ns v h e = never e
last_stands P.End s ns v h e = never e

module _ (p : Progress) (text ns : List ℕ) (h : Stands text p.offset p.stand p.line ns) where
  abbrev s : Stand
  s = p.stand

  abbrev at : ℕ
  at = p.offset

  abbrev k : ℕ
  k = p.line

  abbrev here : Stage
  here = stage_of s ns

  -- what its line answers
  abbrev answer : Line
  answer = tested (fault_in s.part s ns) (line_here s.part s.position text at k) k

  step_is : (x : Line) → x ≡ answer → step (table s.ranked) text here at k ≡ on_answer (table s.ranked) here k x
  step_is x e = step_shown s.ranked text at k s ns s.part h.long ∙ ap (on_answer (table s.ranked) here k) (sym e)

  -- ---- no number: the text is refused
  pub takes_none : (e : LineRefusal) → told (Err e) ≡ answer → TakesLine p text ns (Err e) ns
  takes_none e is = step_is (told (Err e)) is

  -- ---- a number: the stage after it
  module _ (number : Number) (e : told (Ok number) ≡ answer) where
    abbrev v : ℕ
    v = number.value

    abbrev next : ℕ
    next = number.next

    abbrev ws : List ℕ
    ws = take (read_by s.part s) ns

    abbrev last : Bool
    last = ends_row s.part s ns v

    abbrev there : Stand
    there = stand_after s.part last s v

    -- where its number is put, and where the switch of its row
    abbrev here_at : ℕ
    here_at = read_by s.part s

    abbrev switch : ℕ
    switch = switch_of s

    read_so_far : length ws ≡ read_by s.part s
    read_so_far = length-take-le (read_by s.part s) ns h.long

    line_taken : LineTaken s.part text at s.position v next
    line_taken = answer_taken (fault_in s.part s ns) text at k v next s.part s h.counted (sym e)

    stands_last : last ≡ true → LastStands s.part s
    stands_last = last_stands s.part s ns v h.counted

    follows : (gap : List ℕ) → length gap ≡ switch - suc here_at
        → Follows s.ranked (after s.ranked here v) (suc (fewest_lines s.part s)) (suc (most_lines s.part s))
        (length (grown last v gap ws)) there (grown last v gap ws)
    follows gap long =
        let same = last_is s.part s ns v in
        rw same
        (stand_follows s.part s.ranked s.count s.left s.position ws gap v read_so_far h.counted
        h.going line_taken.taken
        (λ t. omega (arith, long, (stands_last (same ∙ t)).fills)))

    -- there is room for it: for the numbers of any table, or for one for so many bytes
    room_there : (gap : List ℕ) → length gap ≡ switch - suc here_at → length (grown last v gap ws) ≤ length ns
    room_there gap long =
        let f = follows gap long in
        elim h.room [
          | inl all ↦ omega (arith, all, few_read there.part there f.counted, f.read_is)
          | inr each ↦
              omega (
                arith,
                each,
                h.bytes,
                h.fewest,
                line_taken.past,
                line_taken.inside,
                f.read_is,
                f.fewest,
                bytes_enough there.part there,
              )
        ]

    -- whatever is left standing
    abbrev any : List ℕ
    any = replicate (switch - suc here_at) 0

    any_long : length any ≡ switch - suc here_at
    any_long = length-replicate (switch - suc here_at) 0

    room_any : (b : Bool) → last ≡ b → length (grown b v any ws) ≤ length ns
    room_any b same = subst (λ x. length (grown x v any ws) ≤ length ns) same (room_there any any_long)

    put_at : (b : Bool) → last ≡ b → PutAt b here_at switch ns
    put_at true e =
        let l = room_any true e in
        let here = stands_last e in
        let long = length-append ws (v ∷ (any ++ (switch_in ws ∷ []))) in
        let more = length-append any (switch_in ws ∷ []) in
        let many = any_long in
        record {
          here = omega (arith, l, long, read_so_far);
          behind = λ z.
              (here.past, here.before, omega (arith, l, long, more, many, read_so_far, here.before));
        }
    put_at false e =
        record {
          here = omega (arith, room_any false e, length-append ws (v ∷ []), read_so_far);
          behind = never;
        }

    pub number_room : PutAt last here_at switch ns
    number_room = put_at last refl

    -- what is left standing in its row
    abbrev gap : List ℕ
    gap = gap_of here_at switch ns

    gap_long : (b : Bool) → last ≡ b → (length gap ≡ switch - suc here_at) ⊎ (b ≡ false)
    gap_long true e =
        let room = number_room.behind e in
        inl (length-take-le (switch - suc here_at) (drop (suc here_at) ns)
        (omega (arith, length-drop (suc here_at) ns, room.2)))
    gap_long false e = inr refl

    -- the stage behind it, with the numbers as they are then
    shown : Follows s.ranked (after s.ranked here v) (suc (fewest_lines s.part s))
        (suc (most_lines s.part s)) (length (grown last v gap ws)) there (grown last v gap ws)
    shown = elim (gap_long last refl) [
      | inl long ↦ follows gap long
      | inr none ↦
          let same : grown last v any ws ≡ grown last v gap ws = rw none in
          subst (λ xs. Follows s.ranked (after s.ranked here v) (suc (fewest_lines s.part s))
          (suc (most_lines s.part s)) (length xs) there xs) same
          (follows any any_long)
    ]

    fits : length (grown last v gap ws) ≤ length ns
    fits = elim (gap_long last refl) [
      | inl long ↦ room_there gap long
      | inr none ↦
          let same : grown last v any ws ≡ grown last v gap ws = rw none in
          subst (λ xs. length xs ≤ length ns) same (room_there any any_long)
    ]

    pub takes_number : (t : Stand) → t ≡ there → (ms : List ℕ) → ms ≡ with_number last here_at switch v ns
        → TakesLine p text ns (Ok (progress t (k + 1) next)) ms
    takes_number t same ms put =
        let long = ap length put ∙ put_long last here_at switch v ns in
        let behind : take (read_by there.part there) ms ≡ grown last v gap ws =
        ap₂ take shown.read_is put ∙ put_grown last here_at switch v ns number_room in
        rw (same, step_is (told (Ok number)) e) record {
          shows = ap (stage_in there.part there) behind ∙ shown.shows;
          stands = (
            shown.asked,
            record {
              room = rw long h.room;
              bytes = omega (arith, h.bytes, line_taken.past);
              long = omega (arith, long, fits, shown.read_is);
              fewest = omega (arith, h.fewest, shown.fewest);
              most = omega (arith, h.most, shown.most);
              counted = shown.counted;
              going = subst (Going there.part there) (sym behind) shown.going;
            },
          );
          line = add-one k;
          offset = refl;
        }
