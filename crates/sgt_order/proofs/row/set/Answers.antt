use Rattle.std.proofs.Common.{arith}
use Rattle.sgt_order.proofs.Covering.{bit_kept, bit_new, bit_none}
use Rattle.sgt_order.proofs.row.set.Goals as goal

pub returns-then-at-words-clause-kept : goal.returns-then-at-words-clause-kept
returns-then-at-words-clause-kept c = bit_kept c.args.words.now c.args.at (omega arith)

pub returns-then-at-words-clause-set : goal.returns-then-at-words-clause-set
returns-then-at-words-clause-set c within = bit_new c.args.words.now c.args.at within

pub returns-then-at-words-clause-none : goal.returns-then-at-words-clause-none
returns-then-at-words-clause-none c = bit_none c.args.words.now c.args.at (omega arith)
