use Rattle.std.proofs.Common.{◌≡◌, ◌++◌, ◌∷◌, [], refl, sym, ap, ◌∙◌, subst, arith, ◌≢◌, AllPairs, length}
use Rattle.sgt_certifier.specs.declared.call.Call.TheVariants as call
use Rattle.sgt_certifier.specs.declared.call.CertifierFault.TheVariants as fault
use Rattle.sgt_certifier.specs.Kept.{Kept, Adds, IsExpected, changed_at, state_with}
use Rattle.sgt_certifier.specs.Counted.{CountsEach}
use Rattle.sgt_certifier.proofs.Calling.{allowed_note, declines_with, notes_kept, notes_serves, told_note, view_by}
use Rattle.sgt_certifier.proofs.Changes.{expected_same}
use Rattle.sgt_certifier.proofs.Counting.{changed-once, counted-few, counted-installed, counted-fewer, counted-wider}
use Rattle.sgt_certifier.proofs.Judging.{may_note}
use Rattle.sgt_certifier.specs.History.{installed}
use Rattle.std.proofs.lemmas.List.{length_push}
use Rattle.sgt_certifier.specs.Certifier.{State}
use Rattle.sgt_certifier.specs.Judged.{note_at}
use Rattle.sgt_certifier.proofs.certifier.Certifier.installed.Goals as goal

pub push_reserved-requires : goal.push_reserved-requires
push_reserved-requires c =
    let i = c.self.inside in
    let notes = c.note.ensures.notes in
    let few = c.note.ensures.few in
    let longer = length_push i.judge.installs (note_at c.args.tx c.args.site) in
    let spare = c.self.invariant.0.spare c.args.tx (may_note i.judge c.args.tx c.args.site notes.allowed).0.0 in
    omega (arith, spare, few, ap (λ (s : State). length s.installs) notes.after, longer, i.history.ok)

pub invariant_of-self-2 : goal.invariant_of-self-2
invariant_of-self-2 c =
    let i = c.self.inside in
    let new = c.note.new.self in
    let calls = c.push_reserved.new.self.items in
    let items = changed_at c.args.draft.now.touched c.args.site in
    let items_is : c.in_ok-items.items ≡ items = c.in_ok-items.ensures.items ∙ c.touched_near.ensures.changed in
    let made = call.Installed c.args.tx c.args.site items in
    let longer : calls ≡ i.history.items ++ made ∷ [] = c.push_reserved.ensures.items
    ∙ ap (λ xs. i.history.items ++ call.Installed c.args.tx c.args.site xs ∷ []) items_is in
    let each = subst (λ xs. CountsEach c.args.site xs c.take_items.new.counts c.add_each.new.self) (c.as_slice.ensures
    ∙ items_is) c.add_each.ensures in
    let wider =
    counted-wider i.counts c.take_items.new.counts i.history.items i.expected.items c.take_items.ensures.widens
    c.self.invariant.1 in
    let counted_before =
    counted-fewer c.take_items.new.counts i.history.items i.expected.items c.take_items.new.expected.items
    c.take_items.ensures.fewer wider in (
      notes_kept i.judge new i.history.items calls c.args.tx c.args.site items _ _ c.self.invariant.0
          c.note.ensures.notes longer c.push_reserved.ensures.capacity,
      counted-installed c.take_items.new.counts c.add_each.new.self i.history.items calls
          c.take_items.new.expected.items c.args.tx c.args.site items longer each counted_before,
    )

pub returns-clause-ok : goal.returns-clause-ok
returns-clause-ok c =
    let i = c.self.inside in
    let new = c.note.new.self in
    let calls = c.push_reserved.new.self.items in
    let items = changed_at c.args.draft.now.touched c.args.site in
    let items_is : c.in_ok-items.items ≡ items = c.in_ok-items.ensures.items ∙ c.touched_near.ensures.changed in
    let made = call.Installed c.args.tx c.args.site items in
    let longer : calls ≡ i.history.items ++ made ∷ [] = c.push_reserved.ensures.items
    ∙ ap (λ xs. i.history.items ++ call.Installed c.args.tx c.args.site xs ∷ []) items_is in
    let all = notes_serves i.judge new i.history.items calls c.args.tx c.args.site items _ c.self.invariant.0
    c.note.ensures.notes longer in
    subst (λ (v : Kept). Adds v made (record {
      state = state_with new calls;
      history = calls;
      expected =
          c.take_items.new.expected.items;
    })) c.self.view_is (record {
      serves = all;
      history = longer;
      expected =
          c.in_ok-items.ensures.others;
    })

pub returns-in_err-items-clause-takes_none : goal.returns-in_err-items-clause-takes_none
returns-in_err-items-clause-takes_none c = λ e.
    let inside = subst (λ (v : Kept). IsExpected v.expected c.args.draft.now.touched c.args.site) (sym c.self.view_is)
    e in
    absurd (c.in_err-items.ensures.wants
    (expected_same c.args.site c.args.draft.now.touched _ c.self.inside.expected.items c.touched_near.ensures.changed
    inside))

pub invariant_of-self : goal.invariant_of-self
invariant_of-self c =
    let i = c.self.inside in
    let new = c.take_items.new.counts in
    let wider =
    counted-wider i.counts new i.history.items i.expected.items c.take_items.ensures.widens c.self.invariant.1 in (
      c.self.invariant.0,
      counted-fewer new i.history.items i.expected.items c.take_items.new.expected.items
          c.take_items.ensures.fewer wider,
    )

pub add_each-requires-clause-once : goal.add_each-requires-clause-once
add_each-requires-clause-once c =
    let items_is = c.as_slice.ensures ∙ c.in_ok-items.ensures.items in
    subst (AllPairs (λ a b. a ≢ b)) (sym items_is)
    (changed-once c.args.site c.touched_near.result.now c.touched_near.ensures.rising)

pub add_each-requires-clause-small : goal.add_each-requires-clause-small
add_each-requires-clause-small c = λ s x.
    let same = c.take_items.ensures.widens.same s x in
    let exact = c.self.invariant.1.exact s x in
    omega (arith, same, exact, counted-few c.self.inside.history.items s x, c.self.inside.history.ok)

pub returns-in_err-may_note-clause-err : goal.returns-in_err-may_note-clause-err
returns-in_err-may_note-clause-err c =
    let i = c.self.inside in
    let old = c.args.self.now in
    declines_with c.from_residual.result c.in_err-may_note.field-0.0 i.judge i.history.items i.expected.items old old
    (installed c.args.tx c.args.site) c.self.view_is c.from_residual.ensures.1
    (told_note i.judge i.history.items c.args.tx c.args.site _ c.in_err-may_note.field-0.0
    c.in_err-may_note.ensures.takes_none c.self.invariant.0 c.in_err-may_note.ensures.err) refl

pub returns-in_err-items-clause-err : goal.returns-in_err-items-clause-err
returns-in_err-items-clause-err c =
    let i = c.self.inside in
    declines_with c.from_residual-in_err-items.result fault.Memory i.judge i.history.items i.expected.items
    c.args.self.now _ (installed c.args.tx c.args.site) c.self.view_is c.from_residual-in_err-items.ensures.1
    (allowed_note i.judge i.history.items c.args.tx c.args.site _ c.self.invariant.0 c.in_ok-may_note.ensures.ok)
    (ap (view_by i.judge i.history.items) c.in_err-items.ensures.err ∙ c.self.view_is)
