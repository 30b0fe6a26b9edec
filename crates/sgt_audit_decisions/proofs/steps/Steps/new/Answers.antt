use Rattle.std.proofs.Common.{◌≡◌, ◌<◌, ◌∙◌, [], All, ap, length, subst, sym}
use Rattle.std.proofs.lemmas.List.{with_items_is}
use Rattle.sgt_audit_decisions.specs.Steps.{edges_in}
use Rattle.sgt_audit_decisions.specs.private.Grouped.{AreGrouped}
use Rattle.sgt_audit_decisions.specs.declared.steps.Edge.{Edge}
use Rattle.sgt_audit_decisions.specs.declared.steps.Group.{Group}
use Rattle.sgt_audit_decisions.proofs.Grouping.{none-grouped}
use Rattle.sgt_audit_decisions.proofs.steps.Steps.new.Goals as goal

pub returns : goal.returns
returns c within =
    let ds = c.args.decisions.now in
    let items = with_items_is c.in_ok-groups.groups c.add_decisions.new.groups (c.add_decisions.auto.groups
    ∙ c.as_mut_slice.ensures.len) in
    let empty =
    subst (All (λ (g : Group). g.edges.items ≡ [])) (sym c.as_mut_slice.ensures.value) c.in_ok-groups.ensures.1 in
    record {
      grouped =
          subst (AreGrouped (edges_in ds)) (sym items)
          (c.in_ok-add_decisions.ensures (none-grouped c.as_mut_slice.result.now empty));
      sites = subst (λ n. All (λ (e : Edge). e.step.label.site < n) (edges_in ds))
          (sym (ap length items ∙ c.add_decisions.auto.groups ∙ ap length c.as_mut_slice.ensures.value
          ∙ c.in_ok-groups.ensures.0)) within;
    }
