use Rattle.std.proofs.Common.{ap, ◌∙◌, option_map, option_and_then}
use Rattle.serde_json.specs.Find.{as_array}
use Rattle.sgt_bundle.proofs.Shapes.{list_of_vec}
use Rattle.sgt_bundle.specs.Line.{items_list}
use Rattle.sgt_bundle.proofs.convert.list.Goals as goal

pub returns-in-Some : goal.returns-in-Some
returns-in-Some c = list_of_vec _
    ∙ (ap (option_map items_list) c.as_array.ensures
    ∙ ap (λ r. option_map items_list (option_and_then as_array r)) c.in-Some.ensures)
