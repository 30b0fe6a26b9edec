use Rattle.std.proofs.Common.{ap, ◌∙◌, Some, arith}
use Rattle.sgt_history_text.proofs.Lookups.{table-keep, table-with_besides}
use Rattle.sgt_history_text.proofs.table.add_besides.Goals as goal

pub returns-in_err-push-clause-table : goal.returns-in_err-push-clause-table
returns-in_err-push-clause-table c = λ slots passed t.
    rw c.in_err-push.ensures.err
    (table-keep c.args.names.now slots c.args.more.now c.insert_besides.new.more c.args.text.now
    c.in_ok-insert_besides.ensures.others c.requires t)

pub returns-clause-table : goal.returns-clause-table
returns-clause-table c = λ slots passed t.
    rw c.in_ok-push.ensures.ok
    (table-with_besides c.args.names.now slots c.insert_besides.new.more c.args.text.now (omega arith)
    (table-keep c.args.names.now slots c.args.more.now c.insert_besides.new.more c.args.text.now
    c.in_ok-insert_besides.ensures.others c.requires t)
    c.requires passed (c.in_ok-insert_besides.ensures.ok ∙ ap Some c.in-Some.ensures.0))
