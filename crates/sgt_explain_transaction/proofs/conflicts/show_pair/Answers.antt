use Rattle.std.specs.Prelude.{string_bytes}
use Rattle.sgt_explain_lines.proofs.Numbering.{on-ok}
use Rattle.sgt_explain_transaction.proofs.Showing.{shows-no_more, shows-one}
use Rattle.sgt_explain_transaction.proofs.conflicts.show_pair.Goals as goal

pub returns-then-shown-lt-MOST_SHOWN : goal.returns-then-shown-lt-MOST_SHOWN
returns-then-shown-lt-MOST_SHOWN c =
    on-ok c.push_pair.result _ _ (λ told. shows-one c.args.pair.now (string_bytes c.args.out.now) c.args.count.now
    (string_bytes c.push_pair.new.out) c.saturating_add.result c.if-shown-lt-MOST_SHOWN.true c.saturating_add.ensures
    told) c.push_pair.ensures

pub returns-else-shown-lt-MOST_SHOWN : goal.returns-else-shown-lt-MOST_SHOWN
returns-else-shown-lt-MOST_SHOWN c =
    shows-no_more c.args.pair.now (string_bytes c.args.out.now) c.args.count.now c.saturating_add.result
    c.if-shown-lt-MOST_SHOWN.false c.saturating_add.ensures
