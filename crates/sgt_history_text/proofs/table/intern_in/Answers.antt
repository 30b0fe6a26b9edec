use Rattle.std.proofs.Common.{subst}
use Rattle.sgt_history_text.specs.Table.{EndsAt}
use Rattle.sgt_history_text.specs.declared.table.Place.TheVariants.{Crowded}
use Rattle.sgt_history_text.proofs.Lookups.{new_from_crowded}
use Rattle.sgt_history_text.proofs.table.intern_in.Goals as goal

pub add_besides-requires : goal.add_besides-requires
add_besides-requires c =
    new_from_crowded c.args.names.now c.args.places.now.slots.items c.args.places.now.more c.args.text.now c.requires
    (subst (λ slots. EndsAt c.args.names.now slots c.args.text.now Crowded) c.as_slice.ensures.value
    c.in-Crowded.ensures) c.in_default.ensures

pub returns-in-Free-clause-interned : goal.returns-in-Free-clause-interned
returns-in-Free-clause-interned c = c.take_slot.ensures.interned c.args.places.now.more c.requires

pub returns-in-Free-clause-table : goal.returns-in-Free-clause-table
returns-in-Free-clause-table c = c.take_slot.ensures.table c.args.places.now.more c.requires
