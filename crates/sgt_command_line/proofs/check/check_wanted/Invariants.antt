use Rattle.std.proofs.Common.{map, string_bytes, take}
use Rattle.sgt_command_line.specs.Check.{SaysCheck}
use Rattle.sgt_command_line.proofs.check.check_wanted.Given as goal

abbrev pub invariant-loop-option : goal.invariant-loop-option
invariant-loop-option l = SaysCheck (map string_bytes (take l.option-index l.options)) l.wanted
