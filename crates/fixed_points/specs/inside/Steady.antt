-- A promise between functions: up to which window no task is released more often than in a shorter one.
use Rattle.std.specs.Prelude.{◌≡◌, List, ℕ, ◌≤◌}
use Rattle.rows.specs.Rows.{max_ticks}
use Rattle.responses.specs.declared.Load.{Load}
use Rattle.responses.specs.Interference.{interference}

pub record Steady (x : ℕ) (ls : List Load) (until : ℕ) : Type 0 where
  pub most : until ≤ max_ticks
  pub least : x ≤ until
  pub same : (y : ℕ) → x ≤ y → y ≤ until → interference 0 y ls ≡ interference 0 x ls
