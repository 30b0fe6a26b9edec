use Rattle.std.proofs.Common.{subst, sym}
use Rattle.sgt_audit.specs.Verdict.{IsVerdict}
use Rattle.sgt_audit.proofs.Verdicts.{told-map}
use Rattle.sgt_audit_workers.specs.Reads.{IsFailOf, ReadsLittleFurther, reader}
use Rattle.sgt_audit_workers.proofs.Answered.{fail-is}
use Rattle.sgt_audit_workers.proofs.engine.judge_sections.Goals as goal

pub returns-in-Some-clause-verdict : goal.returns-in-Some-clause-verdict
returns-in-Some-clause-verdict g c =
    let first = reader (g.R.Source.tells c.args.source.now) (g.R.Source.failures c.args.source.now)
    (g.R.Source.asked c.args.source.now) in
    let near =
    rw c.in-Some.ensures.some at (c.judge_text-found.ensures.verdict first (c.in_ok-text.ensures.left first)
    (c.in_ok-text.ensures.asked first)) in
    told-map _ (λ bytes. IsVerdict bytes c.in-Some.verdict) first.told (λ bytes both. both.0) near

pub returns-in-Some-clause-little_further : goal.returns-in-Some-clause-little_further
returns-in-Some-clause-little_further g c =
    let first = reader (g.R.Source.tells c.args.source.now) (g.R.Source.failures c.args.source.now)
    (g.R.Source.asked c.args.source.now) in
    let near =
    rw c.in-Some.ensures.some at (c.judge_text-found.ensures.verdict first (c.in_ok-text.ensures.left first)
    (c.in_ok-text.ensures.asked first)) in
    told-map _ (λ bytes. ReadsLittleFurther c.args.count bytes _) first.told (λ bytes both. both.1) near

pub returns-in-Some-clause-yes : goal.returns-in-Some-clause-yes
returns-in-Some-clause-yes g c is =
    let first = reader (g.R.Source.tells c.args.source.now) (g.R.Source.failures c.args.source.now)
    (g.R.Source.asked c.args.source.now) in
    let now =
    reader (g.R.Source.tells c.judge_text-found.new.source) (g.R.Source.failures c.judge_text-found.new.source)
    (g.R.Source.asked c.judge_text-found.new.source) in
    c.has_failed-failed.ensures.quiet first now
    (c.judge_text-found.ensures.asked first (c.in_ok-text.ensures.left first) (c.in_ok-text.ensures.asked first))
    (c.in-Some.ensures.yes is)

pub returns-in-Some-clause-failed : goal.returns-in-Some-clause-failed
returns-in-Some-clause-failed g c =
    let first = reader (g.R.Source.tells c.args.source.now) (g.R.Source.failures c.args.source.now)
    (g.R.Source.asked c.args.source.now) in
    let now =
    reader (g.R.Source.tells c.judge_text-found.new.source) (g.R.Source.failures c.judge_text-found.new.source)
    (g.R.Source.asked c.judge_text-found.new.source) in
    let asked = c.judge_text-found.ensures.asked first (c.in_ok-text.ensures.left first)
    (c.in_ok-text.ensures.asked first) in
    subst (IsFailOf first now) (sym c.fail_of-fail.ensures)
    (fail-is first now c.has_failed-failed.result (c.has_failed-failed.ensures.due first now asked)
    (c.has_failed-failed.ensures.quiet first now asked))

pub returns-clause-fail : goal.returns-clause-fail
returns-clause-fail g c =
    let first = reader (g.R.Source.tells c.args.source.now) (g.R.Source.failures c.args.source.now)
    (g.R.Source.asked c.args.source.now) in
    let now =
    reader (g.R.Source.tells c.judge_text-found.new.source) (g.R.Source.failures c.judge_text-found.new.source)
    (g.R.Source.asked c.judge_text-found.new.source) in
    let asked = c.judge_text-found.ensures.asked first (c.in_ok-text.ensures.left first)
    (c.in_ok-text.ensures.asked first) in
    subst (IsFailOf first now) (sym c.fail_of-fail.ensures)
    (fail-is first now c.has_failed-failed.result (c.has_failed-failed.ensures.due first now asked)
    (c.has_failed-failed.ensures.quiet first now asked))

pub returns-in-Some-clause-once : goal.returns-in-Some-clause-once
returns-in-Some-clause-once g c =
    let first = reader (g.R.Source.tells c.args.source.now) (g.R.Source.failures c.args.source.now)
    (g.R.Source.asked c.args.source.now) in
    let asked = c.judge_text-found.ensures.asked first (c.in_ok-text.ensures.left first)
    (c.in_ok-text.ensures.asked first) in
    asked.once

pub returns-clause-once : goal.returns-clause-once
returns-clause-once g c =
    let first = reader (g.R.Source.tells c.args.source.now) (g.R.Source.failures c.args.source.now)
    (g.R.Source.asked c.args.source.now) in
    let asked = c.judge_text-found.ensures.asked first (c.in_ok-text.ensures.left first)
    (c.in_ok-text.ensures.asked first) in
    asked.once

pub judge_text-found-requires-clause-begins : goal.judge_text-found-requires-clause-begins
judge_text-found-requires-clause-begins g c lifetimes within =
    let first = reader (g.R.Source.tells c.args.source.now) (g.R.Source.failures c.args.source.now)
    (g.R.Source.asked c.args.source.now) in
    (first, c.in_ok-text.ensures.left first, c.in_ok-text.ensures.asked first)
