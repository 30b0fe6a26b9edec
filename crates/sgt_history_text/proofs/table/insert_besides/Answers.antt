use Rattle.std.proofs.Common.{◌∙◌, sym, ap, ◌++◌}
use Rattle.sgt_history_text.proofs.Lookups.{number-insert_other}
use Rattle.sgt_history_text.proofs.table.insert_besides.Goals as goal

pub returns-clause-others : goal.returns-clause-others
returns-clause-others c = λ other apart.
    number-insert_other other c.extend_from_slice.new.self c.args.number c.args.more.now c.insert.new.self
    c.in-Ok.ensures.entries
    (λ e. apart (sym e ∙ c.in_ok-extend_from_slice.ensures.items
    ∙ ap (λ l. l ++ c.args.text.now) c.new-key.ensures.items))
