use Rattle.std.proofs.Common.{◌≡◌, ◌+◌, ◌*◌, arith, length, subst, sym}
use Rattle.sgt_audit.specs.Verdict.{yes_of}
use Rattle.sgt_audit.specs.declared.verdict.Verdict.{Verdict}
use Rattle.sgt_audit_decisions.proofs.Loops.{empty, not-empty}
use Rattle.sgt_audit_workers.specs.Cut.{longest}
use Rattle.sgt_audit_workers.specs.Reads.{reader}
use Rattle.sgt_audit_workers.specs.private.Tallied.{IsAnswer, second_size}
use Rattle.sgt_audit_workers.specs.private.Texts.{EndsHere}
use Rattle.sgt_audit_workers.proofs.Answered.{end-answer, nothing-ahead, text-answer}
use Rattle.sgt_audit_workers.proofs.Taken.{ahead-comes, each, on-text, tallied-on, trails-ok, yes-at-end}
use Rattle.sgt_audit_workers.proofs.engine.at_end.Goals as goal

pub returns-in-Some-clause-verdict : goal.returns-in-Some-clause-verdict
returns-in-Some-clause-verdict g c h first from has tallied all same was =
    let now = reader (g.R.Source.tells c.args.source.now) (g.R.Source.failures c.args.source.now)
    (g.R.Source.asked c.args.source.now) in
    let found = on-text h first.told from c.args.tally.now tallied all c.in-Some.verdict
    (λ more. c.in-Some.ensures.some h.second h.certificate tallied.logs more tallied.tally
    (each h first.told from c.args.tally.now tallied all)) in
    text-answer (second_size h) (length c.args.ahead.now + 1) first now from c.args.ahead.now c.args.text.now
    c.in-Some.verdict found has was (omega arith)

pub returns-then-not-is_empty-clause-verdict : goal.returns-then-not-is_empty-clause-verdict
returns-then-not-is_empty-clause-verdict g c h first from has tallied all same was =
    let now = reader (g.R.Source.tells c.args.source.now) (g.R.Source.failures c.args.source.now)
    (g.R.Source.asked c.args.source.now) in
    let found = rw c.in_default.is at (c.walk_fault.ensures.none h.second h.certificate tallied.logs tallied.tally) in
    trails-ok h first.told from c.args.tally.now tallied all c.trailing.result
    (IsAnswer (second_size h) first now ((length c.args.ahead.now + 1) * longest c.args.text.now.most))
    (ahead-comes c.args.text.now.most from has.0 c.args.ahead.now has.1
    (not-empty _ _ c.is_empty.ensures c.if-not-is_empty.true))
    (λ more some. c.trailing.ensures.trails h.second h.certificate tallied.logs more tallied.tally
    (each h first.told from c.args.tally.now tallied all) found some)
    (λ v trails. text-answer (second_size h) (length c.args.ahead.now + 1) first now from c.args.ahead.now
    c.args.text.now v trails has was (omega arith))

pub returns-then-branch-clause-verdict : goal.returns-then-branch-clause-verdict
returns-then-branch-clause-verdict g c h first from has was all same asked =
    let old = reader (g.R.Source.tells c.args.source.now) (g.R.Source.failures c.args.source.now)
    (g.R.Source.asked c.args.source.now) in
    let none : length c.args.ahead.now ≡ 0 = omega (arith, empty _ _ c.is_empty.ensures c.if-not-is_empty.false) in
    let read =
    c.settle.ensures.read first old from (nothing-ahead first old from c.args.ahead.now c.args.text.now none has) in
    let now = reader (g.R.Source.tells c.ends_here.new.source) (g.R.Source.failures c.ends_here.new.source)
    (g.R.Source.asked c.ends_here.new.source) in
    let t = c.args.tally.now in
    let tallied = tallied-on h first.told from read.0 t was read.1 in
    let found = rw c.in_default.is at (c.walk_fault.ensures.none h.second h.certificate tallied.logs tallied.tally) in
    let far = c.in_ok-ends_here.ensures.few first read.0 read.2 (c.settle.ensures.asked first old asked) in
    let most = c.args.text.now.most in
    let few = c.settle.new.text.most in
    let many = length c.args.ahead.now in
    let ends = subst (EndsHere read.0) c.if-branch.true (c.in_ok-ends_here.ensures.ends first read.0 read.2) in
    let yes = yes-at-end h first.told read.0 t tallied all found ends in
    subst (λ (v : Verdict). IsAnswer (second_size h) first now ((many + 1) * longest most) v) (sym same)
    (end-answer (second_size h) many most few first now read.0 (yes_of h.certificate.decisions) yes far
    c.settle.ensures.most)

pub returns-else-branch-clause-verdict : goal.returns-else-branch-clause-verdict
returns-else-branch-clause-verdict g c h first from has was all same asked =
    let old = reader (g.R.Source.tells c.args.source.now) (g.R.Source.failures c.args.source.now)
    (g.R.Source.asked c.args.source.now) in
    let none : length c.args.ahead.now ≡ 0 = omega (arith, empty _ _ c.is_empty.ensures c.if-not-is_empty.false) in
    let read =
    c.settle.ensures.read first old from (nothing-ahead first old from c.args.ahead.now c.args.text.now none has) in
    let now = reader (g.R.Source.tells c.ends_here.new.source) (g.R.Source.failures c.ends_here.new.source)
    (g.R.Source.asked c.ends_here.new.source) in
    let t = c.args.tally.now in
    let tallied = tallied-on h first.told from read.0 t was read.1 in
    let found = rw c.in_default.is at (c.walk_fault.ensures.none h.second h.certificate tallied.logs tallied.tally) in
    let far = c.in_ok-ends_here.ensures.few first read.0 read.2 (c.settle.ensures.asked first old asked) in
    let most = c.args.text.now.most in
    let few = c.settle.new.text.most in
    let many = length c.args.ahead.now in
    let comes = subst (EndsHere read.0) c.if-branch.false (c.in_ok-ends_here.ensures.ends first read.0 read.2) in
    trails-ok h first.told read.0 t tallied all c.trailing-else-branch.result
    (IsAnswer (second_size h) first now ((many + 1) * longest most)) comes
    (λ more some. c.trailing-else-branch.ensures.trails h.second h.certificate tallied.logs more tallied.tally
    (each h first.told read.0 t tallied all) found some)
    (λ v trails. end-answer (second_size h) many most few first now read.0 v trails far c.settle.ensures.most)

pub returns-in_err-ends_here-clause-asked : goal.returns-in_err-ends_here-clause-asked
returns-in_err-ends_here-clause-asked g c first from has asked =
    let old = reader (g.R.Source.tells c.args.source.now) (g.R.Source.failures c.args.source.now)
    (g.R.Source.asked c.args.source.now) in
    let none : length c.args.ahead.now ≡ 0 = omega (arith, empty _ _ c.is_empty.ensures c.if-not-is_empty.false) in
    let read =
    c.settle.ensures.read first old from (nothing-ahead first old from c.args.ahead.now c.args.text.now none has) in
    c.ends_here.ensures.asked first read.0 read.2 (c.settle.ensures.asked first old asked)

pub returns-then-branch-clause-asked : goal.returns-then-branch-clause-asked
returns-then-branch-clause-asked g c first from has asked =
    let old = reader (g.R.Source.tells c.args.source.now) (g.R.Source.failures c.args.source.now)
    (g.R.Source.asked c.args.source.now) in
    let none : length c.args.ahead.now ≡ 0 = omega (arith, empty _ _ c.is_empty.ensures c.if-not-is_empty.false) in
    let read =
    c.settle.ensures.read first old from (nothing-ahead first old from c.args.ahead.now c.args.text.now none has) in
    c.ends_here.ensures.asked first read.0 read.2 (c.settle.ensures.asked first old asked)

pub returns-else-branch-clause-asked : goal.returns-else-branch-clause-asked
returns-else-branch-clause-asked g c first from has asked =
    let old = reader (g.R.Source.tells c.args.source.now) (g.R.Source.failures c.args.source.now)
    (g.R.Source.asked c.args.source.now) in
    let none : length c.args.ahead.now ≡ 0 = omega (arith, empty _ _ c.is_empty.ensures c.if-not-is_empty.false) in
    let read =
    c.settle.ensures.read first old from (nothing-ahead first old from c.args.ahead.now c.args.text.now none has) in
    c.ends_here.ensures.asked first read.0 read.2 (c.settle.ensures.asked first old asked)
