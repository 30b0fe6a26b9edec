use Rattle.std.proofs.Common.{◌≡◌, ◌+◌, ◌∙◌, [], List, arith, inl, inr, length, subst, sym}
use Rattle.std.specs.Prelude.{IfOk}
use Rattle.sgt_audit_workers.specs.Reads.{reader}
use Rattle.sgt_audit_workers.specs.declared.sections.Section.{Section}
use Rattle.sgt_audit_workers.specs.private.Texts.{IsNextSection}
use Rattle.sgt_audit_workers.specs.private.Working.{IsWithin, NextGoes}
use Rattle.sgt_audit_workers.proofs.Answered.{goes-next}
use Rattle.sgt_audit_workers.proofs.Given.{if_ok_map}
use Rattle.sgt_names.proofs.Elements.{if_ok_both}
use Rattle.sgt_audit_workers.proofs.engine.judge_next.Goals as goal

pub returns-in-Some-clause-goes : goal.returns-in-Some-clause-goes
returns-in-Some-clause-goes g c first left works has was within =
    let now = reader (g.R.Source.tells c.take_section.new.source) (g.R.Source.failures c.take_section.new.source)
    (g.R.Source.asked c.take_section.new.source) in
    let came = rw c.in-Some.is at (c.take_section.ensures.came first left has) in
    let asked = c.take_section.ensures.asked first left has was in
    let text = c.take_section.new.text in
    let most : text.most ≡ c.args.workers.now.most = c.take_section.ensures.most ∙ within.most in
    let section = subst (λ m. IsNextSection m left c.in-Some.section came.0) most came.1 in
    if_ok_map c.judge.result _ _ (c.judge.ensures.goes first.told left came.0 works section) (λ r goes.
    goes-next first now came.0 (length c.args.workers.now.running.items + 1) c.take_section.new.ahead.items text
    c.judge.new.self r goes (most ∙ sym c.judge.ensures.same.most) came.2 asked
    (omega (
      arith,
      within.held,
      within.judged,
      c.requires.count,
      c.take_section.ensures.fewer,
      c.judge.ensures.same.count,
    )))

pub returns-in-Some-clause-within : goal.returns-in-Some-clause-within
returns-in-Some-clause-within g c within =
    if_ok_both c.judge.result _ _ _ (c.judge.ensures.few within.judged) c.judge.ensures.more
    (λ r few more. if_ok_both r _ _ _ few more (λ x few more. record {
      judged = omega (arith, few, c.judge.ensures.same.count);
      held = omega (
        arith,
        few,
        more,
        within.held,
        c.requires.count,
        c.take_section.ensures.fewer,
        c.judge.ensures.same.count,
      );
      most = c.take_section.ensures.most ∙ within.most ∙ sym c.judge.ensures.same.most;
    }))

pub returns-in-None-clause-goes : goal.returns-in-None-clause-goes
returns-in-None-clause-goes g c first left works has was within =
    let now = reader (g.R.Source.tells c.judge_last.new.source) (g.R.Source.failures c.judge_last.new.source)
    (g.R.Source.asked c.judge_last.new.source) in
    let came = rw c.in-None.is at (c.take_section.ensures.came first left has) in
    let asked = c.take_section.ensures.asked first left has was in
    let empty = rw c.in-None.is at c.take_section.ensures.empty in
    let here : IsWithin c.args.workers.now [] c.take_section.new.text =
    record {
      judged = within.judged;
      held = omega (arith, within.held);
      most = c.take_section.ensures.most
          ∙ within.most;
    } in
    subst (λ (ss : List Section). IfOk c.judge_last.result
    (NextGoes first c.judge_last.new.workers ss c.judge_last.new.text now)) (sym empty)
    (c.judge_last.ensures.goes first left works came asked here c.requires.count)

pub returns-in-None-clause-asked : goal.returns-in-None-clause-asked
returns-in-None-clause-asked g c first left has was =
    let came = rw c.in-None.is at (c.take_section.ensures.came first left has) in
    c.judge_last.ensures.asked first left came (c.take_section.ensures.asked first left has was)

pub returns-in-Some-clause-ready : goal.returns-in-Some-clause-ready
returns-in-Some-clause-ready g c drained = inl (c.take_section.ensures.ready drained).1

pub returns-in-None-clause-ready : goal.returns-in-None-clause-ready
returns-in-None-clause-ready g c drained = inr c.judge_last.ensures.none
