-- The options of `run`, as clap reads them.
use Rattle.std.specs.Prelude.{◌≡◌, ◌≤◌, ℕ, List, [], ◌∷◌, Option, Some, codes}
use Rattle.std.specs.Str.Parse.{IsNumeral, digits_value, without_leading_plus}
use Rattle.clap.specs.Words.{App, Rule, Text, fault_of, matches_of, new_app, new_rule, one_of, with_rule}
use Rattle.sgt_names.specs.Limits.{max_tries, max_workers}
use Rattle.clap.specs.declared.builder.value_parser.ValueParser.TheVariants as parser

-- an option with a number from 1 to `most`, and the text that stands for it where it isn't there
abbrev pub number_rule : Text → ℕ → Text → Rule
number_rule name most default = record (new_rule name) {
  long = Some name;
  value_names = 1;
  defaults = default ∷ [];
  parser = Some (parser.Unsigned 1 most);
}

-- the command line of `run`: `--workers`, which is 1 where it isn't there, and `--tries`, which is
-- 4
abbrev pub run_line : App
run_line = with_rule (with_rule (new_app (codes "run")) (number_rule (codes "workers") max_workers (codes "1")))
    (number_rule (codes "tries") max_tries (codes "4"))

-- a text was found, and it is this number
abbrev pub ReadsNumber : Option Text → ℕ → Type 0
ReadsNumber found n = (text : Text) × (found ≡ Some text)
    × IsNumeral 10 (without_leading_plus text) × (n ≡ digits_value 10 (without_leading_plus text))

-- what clap finds for the option is this number
abbrev pub SaysNumber : List Text → Text → ℕ → Type 0
SaysNumber words name n = ReadsNumber (one_of name (matches_of run_line words)) n

-- clap takes the words, of which the first is the command's name, and finds these numbers
pub record SaysRun (words : List Text) (workers tries : ℕ) : Type 0 where
  pub taken : fault_of run_line words ≡ []
  pub by_workers : SaysNumber words (codes "workers") workers
  pub by_tries : SaysNumber words (codes "tries") tries
  pub some_workers : (1 ≤ workers) × (workers ≤ max_workers)
  pub some_tries : (1 ≤ tries) × (tries ≤ max_tries)
