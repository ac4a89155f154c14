-- What the reading of a job tells: how many grammar bytes, tokens and questions it has, or the number and place of the refusal.
use Rattle.refusals.specs.declared.Refusal.{Refusal}
use Rattle.std.specs.Prelude.{[], ◌∷◌, Err, Ok, Result}
use Rattle.refusals.specs.Row.{row_of}
use Rattle.report.specs.declared.job.Job.{Job}
use Rattle.refusals.specs.Told.{Told, answered, refused}

abbrev pub job_told : Result Job Refusal → Told
job_told (Ok job) = answered (job.grammar ∷ job.line ∷ job.questions ∷ [])
job_told (Err refusal) = refused (row_of refusal)
