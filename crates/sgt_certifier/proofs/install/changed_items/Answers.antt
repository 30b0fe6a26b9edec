use Rattle.std.proofs.Common.{rules, sym, ◌∙◌}
use Rattle.sgt_names.proofs.Lists.{element_at}
use Rattle.sgt_certifier.proofs.Changes.{changed_some}
use Rattle.sgt_certifier.proofs.install.changed_items.Goals as goal

pub returns-in_err-make_place-clause-err : goal.returns-in_err-make_place-clause-err
returns-in_err-make_place-clause-err c =
    let here = element_at c.args.touched.now c.loop-touch.touch-index c.touch-item.result c.loop-touch-test.true
    c.touch-item.is in
    let some = changed_some c.args.touched.now c.args.site c.loop-touch.touch-index c.touch-item.result here
    (sym c.is_changed.ensures ∙ c.if-is_changed.true) in
    search rules
