use Rattle.std.proofs.Common.{◌∙◌, ap, sym, ◌∷◌, [], ◌++◌}
use Rattle.sgt_service_settle.proofs.Rowing.{pushed_row}
use Rattle.sgt_names.proofs.Lists.{element_at}
use Rattle.sgt_service_settle.proofs.rows.push_at.Goals as goal

pub returns : goal.returns
returns g c =
    let here = element_at c.args.rows.now c.args.at c.index-rows-at.result c.requires c.index-rows-at.is in
    pushed_row c.args.rows.now c.args.at c.args.x c.index-rows-at.result c.push_reserved.new.self here
    (c.push_reserved.ensures.items ∙ ap (λ xs. xs ++ c.args.x ∷ []) (c.reserve.ensures.items
    ∙ ap (λ v. v.items) (sym c.index-rows-at.is)))
