use Rattle.std.proofs.Common.{subst}
use Rattle.sgt_history_text.specs.Table.{EndsAt}
use Rattle.sgt_history_text.specs.declared.table.Place.TheVariants.{Crowded, Free}
use Rattle.sgt_history_text.proofs.Keys.{besides-known}
use Rattle.sgt_history_text.proofs.Lookups.{new_from_crowded, new_from_free}
use Rattle.sgt_history_text.proofs.table.number_in_places.Goals as goal

pub returns-in-Free : goal.returns-in-Free
returns-in-Free c =
    let places = c.args.places.now in
    new_from_free c.args.names.now places.slots.items places.more c.args.text.now _ c.requires
    (subst (λ slots. EndsAt c.args.names.now slots c.args.text.now (Free c.in-Free.field-0)) c.as_slice.ensures.value
    c.in-Free.ensures)

pub returns-in-Crowded : goal.returns-in-Crowded
returns-in-Crowded c =
    let places = c.args.places.now in
    besides-known c.args.names.now c.args.text.now c.found_besides.result places.more
    (new_from_crowded c.args.names.now places.slots.items places.more c.args.text.now c.requires
    (subst (λ slots. EndsAt c.args.names.now slots c.args.text.now Crowded) c.as_slice.ensures.value
    c.in-Crowded.ensures)) c.found_besides.ensures
