-- Which jobs are done in a case, and which job a check is, as tests and numbers.
use Rattle.std.specs.Prelude.{ℕ, Bool, true, cond, ◌&&◌, Option, ◌==◌, position}
use Rattle.book.specs.declared.parts.Label.{Label}
use Rattle.book.specs.Labels.{bit, all_below}
use Rattle.book.specs.Plain.{Plain, is_check, job}

-- what a case says of one check (`said`, 1 for yes) is what is wanted, where yes or no is wanted (1)
abbrev pub met : ℕ → ℕ → ℕ → Bool
met wanted unwanted said = cond (wanted == 1) (said == 1) true && cond (unwanted == 1) (said == 0) true

-- the case meets the label
abbrev pub met_by : Label → ℕ → Bool
met_by l case = all_below 8 (λ k. met (bit l.yes k) (bit l.no k) (bit case k))

-- the job is done in the case; past the last job the label is empty
abbrev pub done : Plain → ℕ → ℕ → Bool
done b s j = met_by (job b j).label s

-- the job that is check c, if there is one
abbrev pub check_job : Plain → ℕ → Option ℕ
check_job b c = position (λ j. is_check j c) b.jobs
