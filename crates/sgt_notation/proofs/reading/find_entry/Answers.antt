use Rattle.std.proofs.Common.{rules}
use Rattle.sgt_notation.proofs.Unspelled.{read_not, write_not, add_not, want_not, want_add_not}
use Rattle.sgt_notation.proofs.reading.find_entry.Goals as goal

pub returns-in-114 : goal.returns-in-114
returns-in-114 c = search (rules, read_not)

pub returns-in-119 : goal.returns-in-119
returns-in-119 c = search (rules, write_not)

pub returns-in-100 : goal.returns-in-100
returns-in-100 c = search (rules, add_not)

pub returns-in-112 : goal.returns-in-112
returns-in-112 c = search (rules, want_not)

pub returns-in-113 : goal.returns-in-113
returns-in-113 c = search (rules, want_add_not)
