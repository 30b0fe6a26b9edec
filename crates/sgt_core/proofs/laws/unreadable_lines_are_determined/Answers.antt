use Rattle.sgt_input.proofs.SitedLines.{input-no_fault, input-or_fault, lines-one_fault}
use Rattle.sgt_core.proofs.OneInput.{events-kind}
use Rattle.sgt_core.proofs.laws.unreadable_lines_are_determined.Goals as goal

pub returns-clause-apart : goal.returns-clause-apart
returns-clause-apart c = input-no_fault events-kind

pub returns-clause-one : goal.returns-clause-one
returns-clause-one c = lines-one_fault events-kind

pub returns-clause-some : goal.returns-clause-some
returns-clause-some c = input-or_fault events-kind
