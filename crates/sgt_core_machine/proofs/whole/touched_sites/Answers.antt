use Rattle.std.proofs.Common.{◌≡◌, ◌∙◌, Some, ap, sym, subst}
use Rattle.std.specs.Prelude.{OnOk}
use Rattle.std.proofs.lemmas.Option.{same_Some}
use Rattle.sgt_names.proofs.Lists.{element_at}
use Rattle.sgt_core_machine.specs.declared.machine.Running.{Running}
use Rattle.sgt_core_machine.specs.private.Whole.{AreTouched}
use Rattle.sgt_core_machine.proofs.whole.touched_sites.Goals as goal

pub returns-in-Some : goal.returns-in-Some
returns-in-Some c = λ r at.
    let here = element_at c.args.table.now c.args.slot c.index-table-slot.result c.requires.slot c.index-table-slot.is in
    let same : c.in-Some.running ≡ r = same_Some c.in-Some.running r (same_Some (Some c.in-Some.running) (Some r)
    (sym (here ∙ ap Some c.in-Some.is) ∙ at)) in
    subst (λ (q : Running). OnOk c.list_touched.result (AreTouched q.draft.touched c.args.count c.list_touched.new.sites.items))
    same c.list_touched.ensures
