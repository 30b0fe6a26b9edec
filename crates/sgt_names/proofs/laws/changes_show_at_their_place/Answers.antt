use Rattle.std.proofs.Common.{ap, sym, ◌∙◌}
use Rattle.sgt_names.specs.Draft.{touched_at}
use Rattle.sgt_names.proofs.Shown.{shown_there, shown_elsewhere}
use Rattle.sgt_names.proofs.laws.changes_show_at_their_place.Goals as goal

pub returns-clause-there : goal.returns-clause-there
returns-clause-there c old new t rising changes = shown_there t changes.rest new changes.front changes.is rising

pub returns-clause-others : goal.returns-clause-others
returns-clause-others c old new t p apart changes =
    ap (λ ts. touched_at ts p) changes.is
    ∙ shown_elsewhere t changes.rest p apart changes.front changes.there changes.place
    ∙ ap (λ ts. touched_at ts p) (sym changes.was)
