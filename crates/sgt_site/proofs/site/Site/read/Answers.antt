use mathlib.Core.Bool.{false≢true}
use Rattle.std.proofs.Common.{◌∙◌, ap, length, arith, refl, sym, subst}
use Rattle.std.proofs.lemmas.Option.{none-some, same_Some, slice_get_read}
use Rattle.sgt_site.specs.private.Cells.{Contents, IsAnswering}
use Rattle.sgt_site.proofs.Keeps.{found_cell, found_known, reads-here, answered-value, kept-read, kept-roomier, pledged_is, pledged_by, pledged_part}
use Rattle.sgt_site.specs.State.{HasEnded}
use Rattle.sgt_site.proofs.PendingReads.{added-back, pending-read, pending-same}
use Rattle.sgt_site.proofs.Found.{named_at}
use Rattle.sgt_site.proofs.site.Site.read.Goals as goal

pub has_ended-requires : goal.has_ended-requires
has_ended-requires c = rw c.as_slice-2.ensures.value c.self.invariant.0.ends_rise

pub returns-in_default-clause-refused : goal.returns-in_default-clause-refused
returns-in_default-clause-refused c = rw (← c.self.view_is, ← c.self.invariant.0.names_same) c.in_default.ensures.absent

pub returns-in_default-unread-clause-refused : goal.returns-in_default-unread-clause-refused
returns-in_default-unread-clause-refused c =
    let cell = found_cell _ _ _ _ _ _ _ c.self.invariant.0.each c.in-Some.ensures.found
    (rw c.as_slice.ensures.cells at c.index-as_slice-at.is) in
    rw (← c.self.view_is) (
      found_known _ _ _ _ c.self.invariant.0.names_same c.in-Some.ensures.found,
      rw cell.0 at ((reads-here _ c.self.invariant.0.site c.index-as_slice-at.result cell.1 c.args.tx).0
          (c.in_default-unread.ensures.0 refl)),
    )

pub returns-then-has_ended-clause-refused : goal.returns-then-has_ended-clause-refused
returns-then-has_ended-clause-refused c =
    let cell = found_cell _ _ _ _ _ _ _ c.self.invariant.0.each c.in-Some.ensures.found
    (rw c.as_slice.ensures.cells at c.index-as_slice-at.is) in
    rw (← c.self.view_is) (
      (
        found_known _ _ _ _ c.self.invariant.0.names_same c.in-Some.ensures.found,
        λ read. none-some _ (sym (c.in-Some-unread.ensures.1
            ((reads-here _ c.self.invariant.0.site c.index-as_slice-at.result cell.1 c.args.tx).1 (rw cell.0 read)))),
      ),
      (c.self.invariant.0.ends c.args.tx).0 (rw c.as_slice-2.ensures.value at (c.if-has_ended.ensures.0 refl)),
    )

pub returns-then-is_pledged-clause-refused : goal.returns-then-is_pledged-clause-refused
returns-then-is_pledged-clause-refused c =
    let cell = found_cell _ _ _ _ _ _ _ c.self.invariant.0.each c.in-Some.ensures.found
    (rw c.as_slice.ensures.cells at c.index-as_slice-at.is) in
    rw (← c.self.view_is) (
      (
        (
          found_known _ _ _ _ c.self.invariant.0.names_same c.in-Some.ensures.found,
          λ read. none-some _ (sym (c.in-Some-unread.ensures.1
              ((reads-here _ c.self.invariant.0.site c.index-as_slice-at.result cell.1 c.args.tx).1 (rw cell.0 read)))),
        ),
        λ ended. false≢true
            (c.if-has_ended.ensures.1 (rw c.as_slice-2.ensures.value ((c.self.invariant.0.ends c.args.tx).1 ended))),
      ),
      (
        c.self.inside.part.items,
        pledged_is c.self.inside.pledged c.self.inside.part.items c.args.tx
            (c.if-is_pledged.ensures.0 refl),
      ),
    )

pub returns-then-not-make_room-clause-refused : goal.returns-then-not-make_room-clause-refused
returns-then-not-make_room-clause-refused c =
    let cell = found_cell _ _ _ _ _ _ _ c.self.invariant.0.each c.in-Some.ensures.found
    (rw c.as_slice.ensures.cells at c.index-as_slice-at.is) in
    rw (← c.self.view_is) record {
      known = found_known _ _ _ _ c.self.invariant.0.names_same c.in-Some.ensures.found;
      first = λ read. none-some _ (sym (c.in-Some-unread.ensures.1
          ((reads-here _ c.self.invariant.0.site c.index-as_slice-at.result cell.1 c.args.tx).1 (rw cell.0 read))));
      active = λ ended. false≢true
          (c.if-has_ended.ensures.1 (rw c.as_slice-2.ensures.value ((c.self.invariant.0.ends c.args.tx).1 ended)));
      free = λ pledge. false≢true
          (c.if-is_pledged.ensures.1 (pledged_by c.self.inside.pledged c.self.inside.part.items pledge.0 c.args.tx
          pledge.1));
    }

pub returns-in_default-add-clause-refused : goal.returns-in_default-add-clause-refused
returns-in_default-add-clause-refused c =
    let cell = found_cell _ _ _ _ _ _ _ c.self.invariant.0.each c.in-Some.ensures.found
    (rw c.as_slice.ensures.cells at c.index-as_slice-at.is) in
    rw (← c.self.view_is) record {
      known = found_known _ _ _ _ c.self.invariant.0.names_same c.in-Some.ensures.found;
      first = λ read. none-some _ (sym (c.in-Some-unread.ensures.1
          ((reads-here _ c.self.invariant.0.site c.index-as_slice-at.result cell.1 c.args.tx).1 (rw cell.0 read))));
      active = λ ended. false≢true
          (c.if-has_ended.ensures.1 (rw c.as_slice-2.ensures.value ((c.self.invariant.0.ends c.args.tx).1 ended)));
      free = λ pledge. false≢true
          (c.if-is_pledged.ensures.1 (pledged_by c.self.inside.pledged c.self.inside.part.items pledge.0 c.args.tx
          pledge.1));
    }

pub answer-requires-clause-within : goal.answer-requires-clause-within
answer-requires-clause-within c = c.in-Some.ensures.found.within

pub answer-requires-clause-first : goal.answer-requires-clause-first
answer-requires-clause-first c = λ d here answering.
    let same =
    same_Some _ _
    (sym (slice_get_read _ (length c.self.inside.cells) _ _ refl c.in-Some.ensures.found.within
    (rw c.as_slice.ensures.cells at c.index-as_slice-at.is)) ∙ here) in
    none-some _ (sym (c.in-Some-unread.ensures.1
    (subst (λ (e : Contents). IsAnswering e.readings c.args.tx) (sym same) answering)))

pub push-requires-clause-room : goal.push-requires-clause-room
push-requires-clause-room c = omega (arith, c.if-not-make_room.ensures.room refl)

pub push-requires-clause-placed : goal.push-requires-clause-placed
push-requires-clause-placed c = (
  c.args.item,
  refl,
  rw c.make_room.ensures.items (rw (c.self.invariant.2, ← c.self.invariant.0.names_same)
      (named_at c.self.inside.cells c.args.item c.in-Some.at c.in-Some.ensures.found)),
)

pub invariant_of-self : goal.invariant_of-self
invariant_of-self c =
    rw (c.make_room.ensures.entries, c.make_room.ensures.installed) (
      kept-roomier _ _ _ _ _ c.self.invariant.0 (omega (arith, c.make_room.ensures.spare)) (omega arith),
      c.self.invariant.1,
      c.make_room.ensures.items ∙ c.self.invariant.2,
    )

pub invariant_of-self-in_default-add : goal.invariant_of-self-in_default-add
invariant_of-self-in_default-add c =
    rw (c.make_room.ensures.entries, c.make_room.ensures.installed) (
      kept-roomier _ _ _ _ _ c.self.invariant.0 (omega (arith, c.make_room.ensures.spare)) (omega arith),
      pending-same c.self.inside.pending c.add.new.self _ c.self.invariant.1 c.in_default-add.ensures.err,
      c.make_room.ensures.items ∙ c.self.invariant.2,
    )

pub invariant_of-self-in-Ok-answer : goal.invariant_of-self-in-Ok-answer
invariant_of-self-in-Ok-answer c =
    let at = c.in-Some.ensures.found in
    let cell =
    found_cell _ _ _ _ _ _ _ c.self.invariant.0.each at (rw c.as_slice.ensures.cells at c.index-as_slice-at.is) in
    let answers = c.in-Ok-answer.ensures.ok in
    let value = answered-value _ c.self.invariant.0.site _ _ c.args.item _ _ _ c.self.invariant.0.each at answers in
    let had_room = c.if-not-make_room.ensures.room refl in
    let active : HasEnded c.self.inside.log.entries c.args.tx
    → ⊥ = λ ended. false≢true
    (c.if-has_ended.ensures.1 (rw c.as_slice-2.ensures.value ((c.self.invariant.0.ends c.args.tx).1 ended))) in
    rw (c.push.ensures, c.make_room.ensures.entries, c.make_room.ensures.installed) (
      kept-read _ c.args.tx c.args.item c.in-Ok-answer.seen.value c.self.invariant.0.site record {
        known = found_known _ _ _ _ c.self.invariant.0.names_same at;
        first = λ read. none-some _ (sym (c.in-Some-unread.ensures.1
            ((reads-here _ c.self.invariant.0.site c.index-as_slice-at.result cell.1 c.args.tx).1 (rw cell.0 read))));
        active = active;
        free = λ pledge. false≢true
            (c.if-is_pledged.ensures.1 (pledged_by c.self.inside.pledged c.self.inside.part.items pledge.0 c.args.tx
            pledge.1));
      } value.0 _ _ _ _ _ _ _ c.as_slice.ensures.rising c.self.invariant.0 at refl answers (λ p is.
          let same = ap length (pledged_part c.self.inside.pledged c.self.inside.part.items p is) in
          omega (arith, same, had_room)) (omega arith),
      pending-read c.self.inside.pending c.add.new.self _ c.args.tx c.args.item c.in-Ok-answer.seen.value
          c.self.invariant.1 active c.in-Ok.ensures.ok,
      c.make_room.ensures.items ∙ c.self.invariant.2,
    )

pub invariant_of-self-in-Err : goal.invariant_of-self-in-Err
invariant_of-self-in-Err c =
    rw (c.make_room.ensures.entries, c.make_room.ensures.installed, c.in-Err.ensures.err) (
      kept-roomier _ _ _ _ _ c.self.invariant.0 (omega (arith, c.make_room.ensures.spare)) (omega arith),
      pending-same c.self.inside.pending c.take_back.new.self _ c.self.invariant.1
          (added-back c.self.inside.pending c.add.new.self c.take_back.new.self c.args.tx c.args.item c.in-Ok.ensures.ok
          c.take_back.ensures.own c.take_back.ensures.others),
      c.make_room.ensures.items ∙ c.self.invariant.2,
    )

pub returns-in-Ok-answer-clause-value : goal.returns-in-Ok-answer-clause-value
returns-in-Ok-answer-clause-value c =
    rw (← c.self.view_is) (answered-value _ c.self.invariant.0.site _ _ c.args.item _ _ _ c.self.invariant.0.each
    c.in-Some.ensures.found c.in-Ok-answer.ensures.ok).0

pub returns-in-Ok-answer-clause-version : goal.returns-in-Ok-answer-clause-version
returns-in-Ok-answer-clause-version c =
    rw (← c.self.view_is) (answered-value _ c.self.invariant.0.site _ _ c.args.item _ _ _ c.self.invariant.0.each
    c.in-Some.ensures.found c.in-Ok-answer.ensures.ok).1

pub returns-in-Ok-answer-clause-logged : goal.returns-in-Ok-answer-clause-logged
returns-in-Ok-answer-clause-logged c =
    rw (← c.self.view_is, c.push.ensures, c.make_room.ensures.entries, c.make_room.ensures.installed) refl

pub returns-in-Ok-answer-clause-allowed : goal.returns-in-Ok-answer-clause-allowed
returns-in-Ok-answer-clause-allowed c =
    let cell = found_cell _ _ _ _ _ _ _ c.self.invariant.0.each c.in-Some.ensures.found
    (rw c.as_slice.ensures.cells at c.index-as_slice-at.is) in
    rw (← c.self.view_is) record {
      known = found_known _ _ _ _ c.self.invariant.0.names_same c.in-Some.ensures.found;
      first = λ read. none-some _ (sym (c.in-Some-unread.ensures.1
          ((reads-here _ c.self.invariant.0.site c.index-as_slice-at.result cell.1 c.args.tx).1 (rw cell.0 read))));
      active = λ ended. false≢true
          (c.if-has_ended.ensures.1 (rw c.as_slice-2.ensures.value ((c.self.invariant.0.ends c.args.tx).1 ended)));
      free = λ pledge. false≢true
          (c.if-is_pledged.ensures.1 (pledged_by c.self.inside.pledged c.self.inside.part.items pledge.0 c.args.tx
          pledge.1));
    }

pub returns-in-Err-clause-refused : goal.returns-in-Err-clause-refused
returns-in-Err-clause-refused c =
    let cell = found_cell _ _ _ _ _ _ _ c.self.invariant.0.each c.in-Some.ensures.found
    (rw c.as_slice.ensures.cells at c.index-as_slice-at.is) in
    rw (← c.self.view_is) record {
      known = found_known _ _ _ _ c.self.invariant.0.names_same c.in-Some.ensures.found;
      first = λ read. none-some _ (sym (c.in-Some-unread.ensures.1
          ((reads-here _ c.self.invariant.0.site c.index-as_slice-at.result cell.1 c.args.tx).1 (rw cell.0 read))));
      active = λ ended. false≢true
          (c.if-has_ended.ensures.1 (rw c.as_slice-2.ensures.value ((c.self.invariant.0.ends c.args.tx).1 ended)));
      free = λ pledge. false≢true
          (c.if-is_pledged.ensures.1 (pledged_by c.self.inside.pledged c.self.inside.part.items pledge.0 c.args.tx
          pledge.1));
    }
