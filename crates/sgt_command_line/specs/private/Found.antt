-- What clap found for the options of `run`.
use Rattle.std.specs.Prelude.{◌≤◌, ℕ, codes}
use Rattle.clap.specs.Words.{found_of, one_text}
use Rattle.clap.specs.declared.parser.matches.ArgMatches.{ArgMatches}
use Rattle.sgt_names.specs.Limits.{max_tries, max_workers}
use Rattle.sgt_command_line.specs.Options.{ReadsNumber}

-- the getters read these numbers, which are in their ranges
pub record FindsRun (m : ArgMatches) (workers tries : ℕ) : Type 0 where
  pub by_workers : ReadsNumber (one_text (found_of m) (codes "workers")) workers
  pub by_tries : ReadsNumber (one_text (found_of m) (codes "tries")) tries
  pub some_workers : (1 ≤ workers) × (workers ≤ max_workers)
  pub some_tries : (1 ≤ tries) × (tries ≤ max_tries)
