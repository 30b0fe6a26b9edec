use Rattle.std.proofs.Common.{map, string_bytes}
use Rattle.sgt_command_line.specs.Words.{NamesHelp}
use Rattle.sgt_command_line.proofs.Helping.{of_the_others}
use Rattle.sgt_command_line.proofs.help.+help_word.Goals as goal

pub returns : goal.returns
returns t c = of_the_others NamesHelp c.in_ok-word.word.now (map string_bytes c.in_ok-word.behind.now) _ _
    c.in_ok-word.ensures
    (λ names. let is_true = c.names_help.ensures.1 names in let is_false = c.if-names_help.false in
    absurd cc) c.help_word.ensures
