use Rattle.std.proofs.Common.{◌∙◌, subst}
use Rattle.std.specs.Prelude.{get_or}
use Rattle.std.proofs.lemmas.Bool.{false≢true}
use Rattle.std.proofs.lemmas.List.{take_all}
use Rattle.std.proofs.lemmas.Option.{slice_get-get_or}
use Rattle.sgt_history_picture.specs.Words.{HasNoGap}
use Rattle.sgt_history_picture.specs.declared.word.Place.TheVariants.{Outside}
use Rattle.sgt_history_picture.proofs.Words.{gap-next, no-word}
use Rattle.sgt_history_picture.proofs.word.cut_word.Goals as goal
use Rattle.sgt_history_picture.proofs.word.cut_word.Goals.{else-eq-via-then-eq+else-text-at-eq32, else-eq-via-else-eq}

pub loop-at-preserved : goal.loop-at-preserved
loop-at-preserved c =
    let text = c.args.text.now in
    let k = c.loop-at.at in
    gap-next text k (get_or text k 0) c.loop-at.place c.next_place-place.result
    (slice_get-get_or text k 0 c.loop-at-test.true)
    c.loop-at.invariant.0 c.loop-at.invariant.1
    (λ outside is. elim c.else-eq.branch [
      | else-eq-via-then-eq+else-text-at-eq32 w ↦ w.if-text-at-eq32.false is
      | else-eq-via-else-eq w ↦ false≢true (rw outside at w.if-eq.ensures)
    ]) c.next_place-place.ensures

pub returns-clause-none : goal.returns-clause-none
returns-clause-none c = λ word rest is whole.
    no-word Outside word rest (subst (HasNoGap Outside) (take_all c.loop-at.at c.args.text.now c.loop-at-test.false
    ∙ whole) c.loop-at.invariant.0) is.1
