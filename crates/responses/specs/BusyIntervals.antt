-- The busy interval of a task that may overrun its period (document 002, equation 4). It begins with a release of the
-- task, and its jobs follow each other every period, the older first; `w q` is the time from its begin in which the
-- first q + 1 of them are done, 0 where none is found. It ends with the first job that is done when the next is
-- released, and W is the longest response in it.
use Rattle.std.specs.Prelude.{Bool, false, ℕ, zero, suc, ◌-◌, ◌*◌, eqb, leb}
use Rattle.basics.specs.Basics.{pick, larger}
use Rattle.rows.specs.Rows.{max_ticks}
use Rattle.responses.specs.Extremes.{smallest}

-- it ends with its first n jobs: the last of them is done when the next is released, or is not found
abbrev pub ends_with : (ℕ → ℕ) → ℕ → ℕ → Bool
ends_with w period zero = false
ends_with w period (suc q) = leb (w q) (suc q * period)

-- how many jobs it has: as few as it ends with. There are never more than ticks in which a job may be done
unfoldable pub jobs_in : (ℕ → ℕ) → ℕ → ℕ
jobs_in w period = smallest (ends_with w period) max_ticks

-- the longest response of its first n jobs: job q is released q periods after the begin
abbrev pub longest : (ℕ → ℕ) → ℕ → ℕ → ℕ
longest w period zero = 0
longest w period (suc q) = larger (longest w period q) (w q - q * period)

-- W: the longest response of all its jobs; 0 where its last is not found
unfoldable pub longest_response : (ℕ → ℕ) → ℕ → ℕ
longest_response w period =
    let n = jobs_in w period in
    pick (eqb (w (n - 1)) 0) 0 (longest w period n)

-- W where it is within a deadline, and else 0
unfoldable pub latest_within : (ℕ → ℕ) → ℕ → ℕ → ℕ
latest_within w period deadline =
    let longest = longest_response w period in
    pick (leb longest deadline) longest 0
