-- The cases hold, by computing.
use mathlib.Core.Path.{refl}
use Rattle.text.specs.Text.{digits, decimal, signed, key_line}
use Rattle.text.specs.Lines.{number_of, line_at}
use Rattle.grammars.specs.Forms.{form_at}
use Rattle.grammars.specs.Grammars.{read_for}
use Rattle.tables.specs.TableLines.{read_table}
use Rattle.rows.specs.Rows.{cost}
use Rattle.responses.specs.Extremes.{smallest, largest}
use Rattle.responses.specs.BusyIntervals.{jobs_in, longest_response, latest_within}
use Rattle.responses.specs.Figures.{blocking}
use Rattle.orders.specs.Orders.{over_set}
use Rattle.plans.specs.Plans.{rank_text, head_text, plan_text, refusal_text}
use Rattle.plans.specs.Outcomes.{fitted}
use Rattle.demands.specs.Calls.{on_table, if_ordered}
use Rattle.crane_demands.specs.Calls.{crane_text, craned}
use Rattle.crane_demands.specs.Cases.{AllSo, cuts, cranes}

pub cuts_so : AllSo cuts
cuts_so = (refl, (refl, (refl, (refl, (refl, (refl, (refl, (refl, (refl, (refl, tt))))))))))

pub cranes_so : AllSo cranes
unfolding digits decimal signed key_line number_of line_at form_at read_for read_table cost blocking smallest largest
    jobs_in longest_response latest_within over_set rank_text head_text plan_text refusal_text fitted on_table if_ordered
    crane_text craned
cranes_so = (refl, (refl, (refl, (refl, (refl, (refl, (refl, (refl, (refl, (refl, (refl, (refl, tt))))))))))))
