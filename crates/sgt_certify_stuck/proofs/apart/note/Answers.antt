use Rattle.std.proofs.Common.{inl, inr, sym, ap, ◌∙◌, subst}
use Rattle.std.specs.BTreeSet.{contains}
use Rattle.std.specs.Ordering.{nat_cmp}
use Rattle.sgt_names.specs.Name.{Name}
use Rattle.sgt_certify_stuck.specs.Apart.{Does}
use Rattle.sgt_certify_stuck.proofs.Elements.{same-or-other}
use Rattle.sgt_certify_stuck.proofs.apart.note.Goals as goal

pub returns-in_ok-insert-clause-only : goal.returns-in_ok-insert-clause-only
returns-in_ok-insert-clause-only c x has =
    elim (same-or-other c.in-Some.item x) [
      | inl same ↦
          inr (
            ap (contains nat_cmp c.args.sources.now) (sym c.tx.ensures) ∙ sym c.contains.ensures ∙ c.if-contains.true,
            subst (λ (y : Name). Does c.args.class y c.args.entry.now) same c.in-Some.ensures.only,
          )
      | inr other ↦ inl (sym (c.in_ok-insert.ensures.updates.2 x other) ∙ has)
    ]
