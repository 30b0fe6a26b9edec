use Rattle.std.proofs.Common.{◌≡◌, inl, inr, Some, sym, ap, ◌∙◌, subst, arith}
use Rattle.std.specs.BTreeMap.{get}
use Rattle.std.specs.Cmp.Lexicographic.{slice_cmp}
use Rattle.std.specs.Ordering.{nat_cmp}
use Rattle.std.proofs.lemmas.Option.{same_Some}
use Rattle.sgt_names.specs.Name.{Name}
use Rattle.sgt_certify_stuck.specs.Apart.{Does}
use Rattle.sgt_certify_stuck.proofs.Elements.{same-or-other}
use Rattle.sgt_certify_stuck.proofs.onward.raise.Goals as goal

pub returns-in_ok-insert-clause-kept : goal.returns-in_ok-insert-clause-kept
returns-in_ok-insert-clause-kept c = λ x top is.
    let updates = c.in_ok-insert.ensures.updates in
    elim (same-or-other c.in-Some.item x) [
      | inl same ↦
          let was = c.top_of.ensures ∙ ap (get (slice_cmp nat_cmp) c.args.tops.now) same ∙ is in
          let most = c.greater-top.ensures.top top was in
          (c.greater-top.result, ap (get (slice_cmp nat_cmp) c.insert.new.self) (sym same) ∙ updates.1, most)
      | inr other ↦ (top, updates.2 x other ∙ is, omega arith)
    ]

pub returns-in_ok-insert-clause-only : goal.returns-in_ok-insert-clause-only
returns-in_ok-insert-clause-only c = λ x top is.
    let updates = c.in_ok-insert.ensures.updates in
    elim (same-or-other c.in-Some.item x) [
      | inl same ↦
          let here : c.greater-top.result ≡ top =
          same_Some c.greater-top.result top (sym updates.1 ∙ ap (get (slice_cmp nat_cmp) c.insert.new.self) same
          ∙ is) in
          elim c.greater-top.ensures.one [
            | inl mine ↦ inr (
              sym here
                  ∙ mine,
              subst (λ (y : Name). Does c.args.class y c.args.entry.now) same c.in-Some.ensures.only,
            )
            | inr old ↦ inl (ap (get (slice_cmp nat_cmp) c.args.tops.now) (sym same) ∙ sym c.top_of.ensures ∙ old
                ∙ ap Some here)
          ]
      | inr other ↦ inl (sym (updates.2 x other) ∙ is)
    ]
