use Rattle.std.proofs.Common.{rules}
use Rattle.sgt_notation.proofs.OneEvent.{read_not, put_not, add_not, install_not}
use Rattle.sgt_notation.proofs.reading_events.find_event.Goals as goal

pub returns-in-114 : goal.returns-in-114
returns-in-114 c = search (rules, read_not)

pub returns-in-119 : goal.returns-in-119
returns-in-119 c = search (rules, put_not)

pub returns-in-100 : goal.returns-in-100
returns-in-100 c = search (rules, add_not)

pub returns-in-105 : goal.returns-in-105
returns-in-105 c = search (rules, install_not)
