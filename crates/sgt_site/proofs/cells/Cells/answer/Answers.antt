use Rattle.std.proofs.Common.{refl, length, sym, ◌∙◌}
use Rattle.std.proofs.lemmas.Option.{slice_get_read}
use Rattle.sgt_site.proofs.Found.{answers_at}
use Rattle.sgt_site.proofs.Versions.{answer-item, answer-keeps, answered-rises, versions-answered}
use Rattle.sgt_site.proofs.cells.Cells.answer.Goals as goal

pub answer-requires : goal.answer-requires
answer-requires c =
    (rw (← c.self.view_is) at c.requires.first) c.index_mut.result.now
    (slice_get_read _ (length c.self.inside.cells.items) _ _ refl (rw (← c.self.view_is) at c.requires.within)
    c.index_mut.ensures.value)

pub returns-clause-ok : goal.returns-clause-ok
returns-clause-ok c =
    rw (← c.self.view_is)
    (answers_at _ _ _ _ c.answer.result (slice_get_read _ (length c.self.inside.cells.items) _ _ refl
    (rw (← c.self.view_is) at c.requires.within) c.index_mut.ensures.value) c.answer.ensures.value c.answer.ensures.ok)

pub invariant_of-self : goal.invariant_of-self
invariant_of-self c =
    let within = rw (← c.self.view_is) at c.requires.within in
    let here = slice_get_read _ (length c.self.inside.cells.items) _ _ refl within c.index_mut.ensures.value in
    let item = answer-item c.answer.result _ _ c.args.tx c.answer.ensures.ok c.answer.ensures.err in
    let writers = answer-keeps c.answer.result _ _ c.args.tx c.answer.ensures.ok c.answer.ensures.err in
    record {
      rising = answered-rises _ _ _ _ here item c.self.invariant.rising;
      counted = c.self.invariant.counted ∙ sym (versions-answered _ _ _ _ here writers);
    }
