use Rattle.std.proofs.Common.{inl, subst}
use Rattle.std.specs.Prelude.{IfOk, OnErr}
use Rattle.sgt_check.specs.Answer as check
use Rattle.sgt_check.specs.declared.options.Options.{Options}
use Rattle.sgt_check_kept.specs.Answer as keeping
use Rattle.sgt_history_text.specs.declared.wanted.Wanted.{Wanted}
use Rattle.sgt_program.specs.Commands.{kept_of, options_of}
use Rattle.sgt_program.proofs.Answered.{status-answers}
use Rattle.sgt_program.proofs.Told.{due, leaves}
use Rattle.sgt_program.proofs.engines.check_by.Goals as goal

pub returns-then-asks_kept-clause-answers : goal.returns-then-asks_kept-clause-answers
returns-then-asks_kept-clause-answers g c =
    let told = g.R.Source.tells c.args.reader.now in
    let old = g.W.Sink.holds c.args.writer.now in
    let new = g.W.Sink.holds c.check_kept.new.writer in
    let r = c.check_kept.result in
    let options = options_of c.args.wanted in
    let wanted = kept_of c.args.wanted in
    let given = c.options_of-options.result in
    record {
      plain = λ none. absurd (none (c.asks_kept.ensures.0 c.if-asks_kept.true));
      kept = λ asks. status-answers (λ outcome. keeping.WroteKeptAnswer wanted options told outcome old new)
          (keeping.WroteKeptAnswerFront wanted options told old new) r
          (subst (λ (o : Options). IfOk r (λ outcome. keeping.WroteKeptAnswer wanted o told outcome old new))
          c.options_of-options.ensures
          (subst (λ (k : Wanted). IfOk r (λ outcome. keeping.WroteKeptAnswer k given told outcome old new))
          c.kept_of.ensures c.check_kept.ensures.answer))
          (subst (λ (o : Options). OnErr r (keeping.WroteKeptAnswerFront wanted o told old new))
          c.options_of-options.ensures
          (subst (λ (k : Wanted). OnErr r (keeping.WroteKeptAnswerFront k given told old new)) c.kept_of.ensures
          c.check_kept.ensures.front));
    }

pub returns-else-asks_kept-clause-answers : goal.returns-else-asks_kept-clause-answers
returns-else-asks_kept-clause-answers g c =
    let told = g.R.Source.tells c.args.reader.now in
    let old = g.W.Sink.holds c.args.writer.now in
    let new = g.W.Sink.holds c.check.new.writer in
    let r = c.check.result in
    let options = options_of c.args.wanted in
    record {
      plain = λ none. status-answers (λ outcome. check.WroteAnswer options told outcome old new)
          (check.WroteAnswerFront options told old new) r
          (subst (λ (o : Options). IfOk r (λ outcome. check.WroteAnswer o told outcome old new))
          c.options_of-options.ensures c.check.ensures.answer)
          (subst (λ (o : Options). OnErr r (check.WroteAnswerFront o told old new)) c.options_of-options.ensures
          c.check.ensures.front);
      kept = λ asks. absurd (cc (c.asks_kept.ensures.1 asks, c.if-asks_kept.false));
    }

pub returns-then-asks_kept-clause-ends : goal.returns-then-asks_kept-clause-ends
returns-then-asks_kept-clause-ends g c =
    let said = c.check_kept.ensures in
    leaves c.check_kept.result _ _ _ (due _ _ _ _ _ _) (λ other. inl (said.reader.quiet other))
    said.reader.due said.writer

pub returns-else-asks_kept-clause-ends : goal.returns-else-asks_kept-clause-ends
returns-else-asks_kept-clause-ends g c =
    let said = c.check.ensures in
    leaves c.check.result _ _ _ (due _ _ _ _ _ _) (λ other. inl (said.reader.quiet other))
    said.reader.due said.writer
