use Rattle.std.proofs.Common.{◌-◌}
use Rattle.sgt_page.specs.Answer.{HasNoLineEnd}
use Rattle.sgt_page.proofs.answer.whole_lines.Given as goal

abbrev pub invariant-ends : goal.invariant-ends
invariant-ends l = HasNoLineEnd l.text (16384 - l.left_out) 16384
