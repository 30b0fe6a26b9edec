-- What the words of `run` ask for.
use Rattle.std.specs.Prelude.{ℕ, List}
use Rattle.sgt_command_line.specs.Options.{SaysRun}
use Rattle.sgt_command_line.specs.declared.choice.Choice.{Choice}
use Rattle.sgt_command_line.specs.declared.choice.Choice.TheVariants.{Run}

-- a run, of the numbers that clap finds
abbrev pub IsRunOf : List (List ℕ) → Choice → Type 0
IsRunOf words (Run workers tries) = SaysRun words workers tries
IsRunOf words _ = ⊥
