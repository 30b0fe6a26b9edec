use Rattle.std.proofs.Common.{◌*◌, ◌∙◌, [], List, arith, length, subst, sym}
use Rattle.std.specs.Arc.{arc_value}
use Rattle.std.proofs.KnownBytes.{Consumes-nil}
use Rattle.sgt_audit_workers.specs.Cut.{longest}
use Rattle.sgt_audit_workers.specs.Reads.{reader}
use Rattle.sgt_audit_workers.specs.declared.head.Head.{Head}
use Rattle.sgt_audit_workers.specs.declared.running.Running.{Running}
use Rattle.sgt_audit_workers.specs.private.Running.{AreRunning}
use Rattle.sgt_audit_workers.specs.private.Tallied.{IsAnswer, IsTallied, second_size}
use Rattle.sgt_audit_workers.proofs.Answered.{next-found, open-next}
use Rattle.sgt_audit_workers.proofs.Taken.{tallied-on}
use Rattle.sgt_audit_workers.proofs.engine.judge_last.Goals as goal

pub returns-in-Some-clause-goes : goal.returns-in-Some-clause-goes
returns-in-Some-clause-goes g c first left works has was within two =
    let now = reader (g.R.Source.tells c.args.source.now) (g.R.Source.failures c.args.source.now)
    (g.R.Source.asked c.args.source.now) in
    let w = c.wait.new.self in
    let same = c.in_ok-verdict.ensures.same in
    let found = rw c.in-Some.is at (c.in_ok-verdict.ensures.ends first.told left works) in
    next-found (second_size (arc_value w.head)) (length c.args.workers.now.running.items) first now left
    [] c.args.text.now w c.in-Some.verdict found (within.most
    ∙ sym same.most) has was (omega (arith, within.held, same.count))

pub returns-in-Some-2-clause-goes : goal.returns-in-Some-2-clause-goes
returns-in-Some-2-clause-goes g c first left works has was within two =
    let now = reader (g.R.Source.tells c.judge_open.new.source) (g.R.Source.failures c.judge_open.new.source)
    (g.R.Source.asked c.judge_open.new.source) in
    let w = c.wait.new.self in
    let h = arc_value w.head in
    let same = c.in_ok-verdict.ensures.same in
    let tallied = rw c.in_default.is at (c.in_ok-verdict.ensures.ends first.told left works) in
    let here = tallied-on h first.told left has.0 w.tally tallied has.1 in
    let said = subst (λ (k : Head). IsTallied k first.told has.0 w.tally) (sym c.deref.ensures) here in
    let ends = rw c.in-Some-2.is at (c.in_ok-verdict-2.ensures.ends first has.0 has.2 said was) in
    let answer =
    subst (λ (k : Head). IsAnswer (second_size k) first now (2 * longest c.judge_open.new.text.most)
    c.in-Some-2.verdict) c.deref.ensures ends in
    open-next (second_size h) first now c.judge_open.new.text.most w c.in-Some-2.verdict answer
    (c.judge_open.ensures.most ∙ within.most ∙ sym same.most) (omega (arith, two, same.count))

pub returns-in-None-clause-goes : goal.returns-in-None-clause-goes
returns-in-None-clause-goes g c first left works has was within two =
    let w = c.wait.new.self in
    let h = arc_value w.head in
    let none = rw c.in_default.is at c.in_ok-verdict.ensures.none in
    let tallied = rw c.in_default.is at (c.in_ok-verdict.ensures.ends first.told left works) in
    let here = tallied-on h first.told left has.0 w.tally tallied has.1 in
    let said = subst (λ (k : Head). IsTallied k first.told has.0 w.tally) (sym c.deref.ensures) here in
    let ends = rw c.in-None.is at (c.in_ok-verdict-2.ensures.ends first has.0 has.2 said was) in
    let back = subst (λ (k : Head). IsTallied k first.told ends.0 c.judge_open.new.tally) c.deref.ensures ends.1 in (
      ends.0,
      record {
        middle = ends.0;
        tallied = back;
        running = subst (λ (rs : List Running). AreRunning h w.most ends.0 c.judge_open.new.tally.whole rs ends.0)
            (sym none) (Consumes-nil ends.0);
      },
      (ends.0, Consumes-nil ends.0, ends.2),
    )

pub returns-in_err-verdict-2-clause-asked : goal.returns-in_err-verdict-2-clause-asked
returns-in_err-verdict-2-clause-asked g c first left has was = c.judge_open.ensures.asked first has.0 has.2 was

pub returns-in-Some-2-clause-asked : goal.returns-in-Some-2-clause-asked
returns-in-Some-2-clause-asked g c first left has was = c.judge_open.ensures.asked first has.0 has.2 was

pub returns-in-None-clause-asked : goal.returns-in-None-clause-asked
returns-in-None-clause-asked g c first left has was = c.judge_open.ensures.asked first has.0 has.2 was
