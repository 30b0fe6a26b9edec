use Rattle.std.proofs.Common.{◌∙◌, ap, arith, sym, Some}
use Rattle.json.specs.Value.{value_view}
use Rattle.sgt_history_text.proofs.Telling.{times_are}
use Rattle.sgt_history_text.proofs.moment.times_of.Goals as goal

pub returns-then-done-begin : goal.returns-then-done-begin
returns-then-done-begin c = λ x is.
    let same = times_are (value_view c.args.value.now) c.in_ok-begin.begin c.in_ok-done.done x
    (sym c.in_ok-get.ensures ∙ ap Some c.in_ok-begin.ensures)
    (sym c.in_ok-get-2.ensures ∙ ap Some c.in_ok-done.ensures) (omega arith) (omega arith) is in
    omega (arith, c.if-done-begin.true, same.0, same.1, is.in_order)
