use Rattle.sgt_history_text.proofs.Kept.{interned_is, numbered_new, numbered_old}
use Rattle.sgt_history_text.proofs.building.number_of_text.Goals as goal

pub returns-in-Old : goal.returns-in-Old
returns-in-Old c = λ js j kept numbers text.
    numbered_old c.args.names.now js j kept numbers c.intern.new.self _
    (interned_is c.args.names.now c.args.text.now _ _ _ c.intern.new.self c.in_ok-number.ensures text c.in-Old.is)

pub returns-in-New : goal.returns-in-New
returns-in-New c = λ js j kept numbers text.
    numbered_new c.args.names.now js j kept numbers c.intern.new.self _
    (interned_is c.args.names.now c.args.text.now _ _ _ c.intern.new.self c.in_ok-number.ensures text c.in-New.is)
