use Rattle.std.proofs.Common.{sym, ap, ◌∙◌}
use Rattle.std.specs.Option.{option_map_or}
use Rattle.sgt_bundle.specs.Line.{members_count}
use Rattle.sgt_bundle.proofs.Shapes.{members_count-members_view}
use Rattle.sgt_bundle.proofs.shape.member_count.Goals as goal

pub returns-in-Some : goal.returns-in-Some
returns-in-Some c = c.len.ensures.len ∙ (sym (members_count-members_view c.in-Some.map.now.entries)
    ∙ ap (λ r. option_map_or members_count r 0) c.in-Some.ensures)
