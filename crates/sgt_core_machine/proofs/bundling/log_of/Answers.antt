use Rattle.std.proofs.Common.{◌∙◌}
use Rattle.sgt_core_machine.proofs.Bundles.{same_log, finals_are}
use Rattle.sgt_core_machine.proofs.bundling.log_of.Goals as goal

pub returns-in-Ok-final_values : goal.returns-in-Ok-final_values
returns-in-Ok-final_values c =
    let items = c.args.site.now.items in
    let entries = c.args.site.now.entries in
    same_log _ _ _ items entries
    (c.new.ensures ∙ (c.in-Ok.ensures.items ∙ c.items.ensures.items))
    (c.new-in-Ok-final_values.ensures ∙ (c.in-Ok-to_vec.ensures ∙ c.log.ensures.entries))
    (c.new-in-Ok-final_values-2.ensures
    ∙ finals_are items entries items c.in-Ok-final_values.finals.items c.in-Ok-final_values.ensures.items
    c.in-Ok-final_values.ensures.values)
