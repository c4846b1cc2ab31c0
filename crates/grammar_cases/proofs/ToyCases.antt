-- Toy texts, read by computing.
use mathlib.Core.Path.{◌≡◌, refl}
use mathlib.Core.List.{List, [], ◌∷◌}
use Prim.Native.String.{String}
use lib.IntN.{pos, negsuc}
use Rattle.text.specs.Text.{lined}
use Rattle.text.specs.Lines.{line_at, number_of}
use Rattle.grammars.specs.Forms.{form_at}
use Rattle.grammars.specs.Grammars.{Verdict, accepted, refused, read_for, read}
use Rattle.grammar_cases.specs.ToyLines.{Stage, at_count, at-end, toy}

abbrev reads : List String → Verdict Stage
reads lines = read toy at_count (lined lines)

two_marks : reads ("marks=2" ∷ "mark=4" ∷ "drift=-7" ∷ "mark=9" ∷ "drift=0" ∷ [])
    ≡ accepted (at-end (record { mark = 4; drift = negsuc 6 } ∷ record { mark = 9; drift = pos 0 } ∷ []))
unfolding read_for form_at line_at number_of
two_marks = refl

no_marks : reads ("marks=0" ∷ []) ≡ accepted (at-end [])
unfolding read_for form_at line_at number_of
no_marks = refl

line_missing : reads ("marks=1" ∷ "mark=4" ∷ []) ≡ refused 1 3
unfolding read_for form_at line_at number_of
line_missing = refl

trailing_line : reads ("marks=0" ∷ "mark=4" ∷ []) ≡ refused 1 2
unfolding read_for form_at line_at number_of
trailing_line = refl

minus_zero : reads ("marks=1" ∷ "mark=4" ∷ "drift=-0" ∷ []) ≡ refused 2 3
unfolding read_for form_at line_at number_of
minus_zero = refl

leading_zero : reads ("marks=1" ∷ "mark=04" ∷ "drift=7" ∷ []) ≡ refused 2 2
unfolding read_for form_at line_at number_of
leading_zero = refl

out_of_range : reads ("marks=1" ∷ "mark=101" ∷ "drift=7" ∷ []) ≡ refused 3 2
unfolding read_for form_at line_at number_of
out_of_range = refl

mark_repeated : reads ("marks=2" ∷ "mark=4" ∷ "drift=7" ∷ "mark=4" ∷ "drift=0" ∷ []) ≡ refused 21 4
unfolding read_for form_at line_at number_of
mark_repeated = refl
