use Rattle.std.proofs.Common.{◌≤◌, ◌+◌, ◌*◌, subst, sym}
use Rattle.std.specs.Arc.{arc_value}
use Rattle.sgt_audit_workers.specs.Cut.{longest}
use Rattle.sgt_audit_workers.specs.Head.{IsHead}
use Rattle.sgt_audit_workers.specs.Reads.{reader, room}
use Rattle.sgt_audit_workers.specs.declared.head.Head.{Head}
use Rattle.sgt_audit_workers.specs.private.Tallied.{second_size}
use Rattle.sgt_audit_workers.proofs.Answered.{near}
use Rattle.sgt_audit_workers.proofs.Given.{if_ok_map}
use Rattle.sgt_audit_workers.proofs.engine.judge_text.Goals as goal

pub judge_each-found-requires-clause-head : goal.judge_each-found-requires-clause-head
judge_each-found-requires-clause-head g c =
    subst IsHead (sym c.in_ok-workers.ensures.head) (rw c.in-Ok.is at c.in_ok-begun.ensures.head)

pub judge_each-found-requires-clause-begins : goal.judge_each-found-requires-clause-begins
judge_each-found-requires-clause-begins g c =
    let first = c.requires.begins.0 in
    let is = c.requires.begins.1 in
    let was = c.requires.begins.2 in
    let begun = rw c.in-Ok.is at (c.in_ok-begun.ensures.begun first is was) in (
      first,
      begun.middle,
      c.in_ok-workers.ensures.works first.told begun.middle begun.front,
      begun.sections,
      c.read_head.ensures.asked first is was,
    )

pub returns-in-Err-clause-verdict : goal.returns-in-Err-clause-verdict
returns-in-Err-clause-verdict g c first is was = rw c.in-Err.is at (c.in_ok-begun.ensures.begun first is was)

pub returns-clause-verdict : goal.returns-clause-verdict
returns-clause-verdict g c first is was =
    let begun = rw c.in-Ok.is at (c.in_ok-begun.ensures.begun first is was) in
    let asked = c.read_head.ensures.asked first is was in
    let works = c.in_ok-workers.ensures.works first.told begun.middle begun.front in
    let most = rw c.in-Ok.is at c.in_ok-begun.ensures.most in
    let w = c.in_ok-workers.workers in
    let now =
    reader (g.R.Source.tells c.judge_each-found.new.source) (g.R.Source.failures c.judge_each-found.new.source)
    (g.R.Source.asked c.judge_each-found.new.source) in
    let count = c.args.count in
    let each = longest c.read_head.new.text.most in
    let sized =
    subst (λ (h : Head). 2 * count * each ≤ count * room + second_size h) (sym c.in_ok-workers.ensures.head) most in
    let within = subst (λ n. 2 * n * each ≤ count * room + second_size (arc_value w.head))
    (sym c.in_ok-workers.ensures.count) sized in
    if_ok_map c.judge_each-found.result _ _
    (c.judge_each-found.ensures.verdict first begun.middle works begun.sections asked) (λ v answer.
    near count (second_size (arc_value w.head)) (2 * w.count * each) first now v answer within)

pub returns-clause-asked : goal.returns-clause-asked
returns-clause-asked g c first is was =
    let begun = rw c.in-Ok.is at (c.in_ok-begun.ensures.begun first is was) in
    let asked = c.read_head.ensures.asked first is was in
    let works = c.in_ok-workers.ensures.works first.told begun.middle begun.front in
    c.judge_each-found.ensures.asked first begun.middle works begun.sections asked
