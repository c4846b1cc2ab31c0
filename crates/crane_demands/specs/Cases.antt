-- Cranes and what they come to, computed: each kind of cut, each refusal, and each condition of the demands occurs.
use Rattle.std.specs.Prelude.{◌≡◌, List, [], ◌∷◌, ◌++◌, ℕ, zero, suc}
use Prim.Native.String.{String}
use Rattle.text.specs.Text.{bytes, lined}
use Rattle.plans.specs.Outcomes.{Outcome, writes, refuses}
use Rattle.demands.specs.Cases.{alone, one_under, refused_at, overrun, overrun_plan}
use Rattle.crane_demands.specs.Pieces.{pieces}
use Rattle.crane_demands.specs.Calls.{craned, crane_prints}

-- a text and its pieces; a text, a buffer's room and the outcome; a text and what the program prints
pub data Case : Type 0 where
  cut : List ℕ → List (List ℕ) → Case
  call : List ℕ → ℕ → Outcome → Case
  prints : List ℕ → List ℕ → Case

abbrev pub IsSo : Case → Type 0
IsSo (cut text ps) = pieces text ≡ ps
IsSo (call text room w) = craned text room ≡ w
IsSo (prints text output) = crane_prints text ≡ output

abbrev pub AllSo : List Case → Type 0
AllSo [] = Unit {0}
AllSo (c ∷ cs) = IsSo c × AllSo cs

-- a text n times
abbrev pub times : ℕ → List ℕ → List ℕ
times zero s = []
times (suc n) s = s ++ times n s

abbrev pub tab : ℕ
tab = 9

abbrev pub carriage_return : ℕ
carriage_return = 13

-- a board of one task that always runs, its plan, and the refusal of a piece whose first line is not a board's
abbrev pub one : List ℕ
one = alone "worst=10" "beta=10000"

abbrev pub one_plan : List ℕ
one_plan = lined (
    "plan=1" ∷ "board=7" ∷ "tasks=1"
    ∷ "rank=1" ∷ "task=1" ∷ "best=10" ∷ "worst=10" ∷ "jitter=0" ∷ "margin=0"
    ∷ [])

-- the plan of a task with a best time of 7 under a switch
abbrev pub switched_plan : String → String → String → List ℕ
switched_plan worst jitter margin = lined (
    "plan=1" ∷ "board=7" ∷ "tasks=1" ∷ "rank=1" ∷ "task=1" ∷ "best=7" ∷ worst ∷ jitter ∷ margin ∷ [])

abbrev pub no_board_refusal : List ℕ
no_board_refusal = lined ("plan=0" ∷ "refusal=1" ∷ "line=1" ∷ [])

abbrev pub cuts : List Case
cuts =
    cut [] ([] ∷ [])
    ∷ cut (bytes "board=") (bytes "board=" ∷ [])
    ∷ cut (lined ("board=1" ∷ [])) (lined ("board=1" ∷ []) ∷ [])
    -- ahead of the first board, with a line feed and without one
    ∷ cut (lined ("x" ∷ []) ++ bytes "board=") (lined ("x" ∷ []) ∷ bytes "board=" ∷ [])
    ∷ cut (bytes "xboard=") (bytes "xboard=" ∷ [])
    -- inside a line, and after a carriage return
    ∷ cut (lined ("board=1 board=2" ∷ [])) (lined ("board=1 board=2" ∷ []) ∷ [])
    ∷ cut (bytes "x" ++ (carriage_return ∷ bytes "board=")) ((bytes "x" ++ (carriage_return ∷ bytes "board=")) ∷ [])
    -- a line that begins with a part of the key
    ∷ cut (lined ("x" ∷ "board" ∷ [])) (lined ("x" ∷ "board" ∷ []) ∷ [])
    -- and with almost the key
    ∷ cut (lined ("x" ∷ "Board=1" ∷ " board=2" ∷ []) ++ (tab ∷ bytes "board="))
    ((lined ("x" ∷ "Board=1" ∷ " board=2" ∷ []) ++ (tab ∷ bytes "board=")) ∷ [])
    -- an empty line is a line
    ∷ cut (lined ("" ∷ "board=1" ∷ "a" ∷ "board=2" ∷ []))
    (lined ("" ∷ []) ∷ lined ("board=1" ∷ "a" ∷ []) ∷ lined ("board=2" ∷ []) ∷ [])
    ∷ []

abbrev pub cranes : List Case
cranes =
    -- every piece refused: 9 all the same, where the buffer is one byte short
    call [] 24 (writes no_board_refusal)
    ∷ call [] 23 (refuses 9 0)
    -- 32 pieces and 33, which are refused whatever the buffer
    ∷ call (times 32 (lined ("board=" ∷ []))) 0 (refuses 9 0)
    ∷ call (times 33 (lined ("board=" ∷ []))) 0 (refuses 10 0)
    ∷ prints (times 33 (lined ("board=" ∷ []))) (lined ("plan=0" ∷ "refusal=10" ∷ "line=0" ∷ []))
    -- a refused piece changes no other: bytes ahead of a board, and a line too many in the first of two
    ∷ call (lined ("x" ∷ []) ++ one) 100 (writes (no_board_refusal ++ one_plan))
    ∷ call (lined ("x" ∷ []) ++ one ++ one) 168 (writes (no_board_refusal ++ one_plan ++ one_plan))
    ∷ call (lined ("x" ∷ []) ++ one ++ one) 167 (refuses 9 0)
    ∷ prints (one ++ one) (one_plan ++ one_plan)
    -- each piece has its own switch
    ∷ prints (one_under "switch=3" "worst=7" "best=7" "hold=0" ++ (one ++ one_under "switch=2" "worst=7" "best=7" "hold=0"))
    (switched_plan "worst=10" "jitter=3" "margin=0" ++ (one_plan ++ switched_plan "worst=9" "jitter=2" "margin=1000"))
    -- and its own deadlines
    ∷ prints (overrun "deadline=118" ++ overrun "deadline=117") (overrun_plan ++ refused_at "refusal=8" "line=0")
    ∷ prints (one ++ lined ("x" ∷ []) ++ one) (lined ("plan=0" ∷ "refusal=1" ∷ "line=13" ∷ []) ++ one_plan)
    ∷ []
