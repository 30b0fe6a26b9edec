use Rattle.std.proofs.Common.{ap, ◌∙◌}
use Rattle.sgt_bundle.proofs.Shapes.{all-items_view}
use Rattle.sgt_bundle.specs.Line.{all_pass, is_decision_object}
use Rattle.sgt_bundle.proofs.shape.shows_decisions.Goals as goal

pub returns-in-Some : goal.returns-in-Some
returns-in-Some c =
    rw (c.show_decisions.ensures, c.deref.ensures.value) (all-items_view is_decision_object c.in-Some.items.now.items
    ∙ ap (all_pass is_decision_object) c.in-Some.ensures)
