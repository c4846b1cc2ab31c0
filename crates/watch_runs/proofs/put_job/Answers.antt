-- `put_job`: the lines stand in an array of the call's own, and are copied where they fit.
use Rattle.std.proofs.Common.{◌^◌, ◌<◌, rules}
use Rattle.watch_runs.proofs.Runs.{job_length}
use Rattle.watch_runs.proofs.put_job.Goals as goal

pub job_lines-long-requires : goal.job_lines-long-requires
job_lines-long-requires c =
    let job = c.args.job in
    let task : job.task < 2 ^ 64 = search rules in
    let release : job.release < 2 ^ 64 = search rules in
    let finish : job.finish < 2 ^ 64 = search rules in
    job_length job.task job.release job.finish task release finish
