use Rattle.std.proofs.Common.{length}
use Rattle.sgt_command_line.proofs.help.+help_word.Given as goal

abbrev pub decreases-help_word : goal.decreases-help_word
decreases-help_word l = length l.words.now
