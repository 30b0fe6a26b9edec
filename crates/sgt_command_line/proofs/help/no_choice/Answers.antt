use Rattle.std.proofs.Common.{Any, List, ℕ, map, refl, string_bytes, subst}
use Rattle.sgt_command_line.specs.Words.{NamesHelp}
use Rattle.sgt_command_line.proofs.help.no_choice.Goals as goal

pub returns-in-Some-clause-help : goal.returns-in-Some-clause-help
returns-in-Some-clause-help c =
    c.help.ensures.help (map string_bytes c.args.words.now)
    (subst (λ (words : List (List ℕ)). Any NamesHelp words) c.behind_first-behind.ensures (c.in-Some.ensures.0 refl))
