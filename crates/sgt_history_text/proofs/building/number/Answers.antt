use Rattle.std.proofs.Common.{◌∙◌}
use Rattle.json.specs.Value.{value_view}
use Rattle.sgt_history_text.specs.Name.{compact}
use Rattle.sgt_history_text.proofs.Kept.{interned_is, numbered_new, numbered_old}
use Rattle.sgt_history_text.proofs.building.number.Goals as goal

pub returns-in-Old : goal.returns-in-Old
returns-in-Old c = λ js kept.
    numbered_old c.args.names.now js (value_view c.args.value.now) kept c.requires c.intern.new.self _
    (interned_is c.args.names.now c.as_slice.result.now (compact (value_view c.args.value.now)) _ _ c.intern.new.self
    c.in_ok-number.ensures (c.as_slice.ensures.value ∙ c.in_ok-text.ensures.text) c.in-Old.is)

pub returns : goal.returns
returns c = λ js kept.
    numbered_new c.args.names.now js (value_view c.args.value.now) kept c.requires c.intern.new.self _
    (interned_is c.args.names.now c.as_slice.result.now (compact (value_view c.args.value.now)) _ _ c.intern.new.self
    c.in_ok-number.ensures (c.as_slice.ensures.value ∙ c.in_ok-text.ensures.text) c.in-New.is)
