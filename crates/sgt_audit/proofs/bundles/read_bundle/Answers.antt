use Rattle.std.proofs.Common.{◌∙◌}
use Rattle.sgt_audit.proofs.SpelledLines.{some-line, first-is, some-second, second-is, spells-sections, read-spells, read-only, bundle-answers}
use Rattle.sgt_audit.proofs.bundles.read_bundle.Goals as goal

pub returns-in-None-clause-bundle : goal.returns-in-None-clause-bundle
returns-in-None-clause-bundle c b s = some-line _ b s c.in-None.ensures.none

pub returns-in_default-clause-bundle : goal.returns-in_default-clause-bundle
returns-in_default-clause-bundle c b s =
    c.in_default.ensures.none s.second (first-is _ b s _ _ c.in-Some.ensures.some.0 c.in-Some.ensures.some.1)

pub returns-in-None-split_line-clause-bundle : goal.returns-in-None-split_line-clause-bundle
returns-in-None-split_line-clause-bundle c b s =
    some-second _ b s _ _ c.in-Some.ensures.some.0 c.in-Some.ensures.some.1 c.in-None-split_line.ensures.none

pub returns-in-Err-NotJson-clause-bundle : goal.returns-in-Err-NotJson-clause-bundle
returns-in-Err-NotJson-clause-bundle c b s =
    let second =
    second-is _ b s _ _ c.in-Some.ensures.some.0 c.in-Some.ensures.some.1 _ _ c.in-Some-split_line.ensures.some.0
    c.in-Some-split_line.ensures.some.1 in
    let memory = c.in-Err-NotJson.ensures.only b.certificate s.certificate second in
    let other = c.in-Err-NotJson.field-0-is in
    absurd (cc (memory, other))

pub returns-in-Err-Shape-clause-bundle : goal.returns-in-Err-Shape-clause-bundle
returns-in-Err-Shape-clause-bundle c b s =
    let second =
    second-is _ b s _ _ c.in-Some.ensures.some.0 c.in-Some.ensures.some.1 _ _ c.in-Some-split_line.ensures.some.0
    c.in-Some-split_line.ensures.some.1 in
    let memory = c.in-Err-Shape.ensures.only b.certificate s.certificate second in
    let other = c.in-Err-Shape.field-0-is in
    absurd (cc (memory, other))

pub returns-in-Err-Range-clause-bundle : goal.returns-in-Err-Range-clause-bundle
returns-in-Err-Range-clause-bundle c b s =
    let second =
    second-is _ b s _ _ c.in-Some.ensures.some.0 c.in-Some.ensures.some.1 _ _ c.in-Some-split_line.ensures.some.0
    c.in-Some-split_line.ensures.some.1 in
    let memory = c.in-Err-Range.ensures.only b.certificate s.certificate second in
    let other = c.in-Err-Range.field-0-is in
    absurd (cc (memory, other))

pub returns-in-Ok-None-clause-bundle : goal.returns-in-Ok-None-clause-bundle
returns-in-Ok-None-clause-bundle c b s =
    let second =
    second-is _ b s _ _ c.in-Some.ensures.some.0 c.in-Some.ensures.some.1 _ _ c.in-Some-split_line.ensures.some.0
    c.in-Some-split_line.ensures.some.1 in
    let same = c.in-Ok.ensures.only b.certificate s.certificate second in
    let none = rw c.in-Ok-None.field-0-is at c.in-Ok-None.ensures in
    none _ (spells-sections _ b s _ _ c.in-Some.ensures.some.0 c.in-Some.ensures.some.1 _ _
    c.in-Some-split_line.ensures.some.0 c.in-Some-split_line.ensures.some.1 _ c.in-Ok.certificate
    c.in-Some-read_format.ensures.some same)

pub returns-in-Ok-site_logs-clause-bundle : goal.returns-in-Ok-site_logs-clause-bundle
returns-in-Ok-site_logs-clause-bundle c =
    let read = rw c.in-Ok-Some.field-0-is at c.in-Ok-Some.ensures in
    let format = c.in-Some-read_format.ensures.some in
    let first = c.in-Some.ensures.some in
    let next = c.in-Some-split_line.ensures.some in
    bundle-answers c.args.bytes.now c.new.result _ c.new.ensures
    (read-spells _ _ _ _ _ _ c.in-Ok.certificate c.in-Ok-Some.sections _ first.1 format next.1 c.in-Ok.ensures.ok.1
    read.1 read.0 (c.in-Ok-site_logs.ensures ∙ c.into_logs.ensures) c.in-Ok.ensures.ok.0)
    (λ b s miss.
    let second = second-is _ b s _ _ first.0 first.1 _ _ next.0 next.1 in
    read-only _ _ _ _ _ _ c.in-Ok.certificate c.in-Ok-Some.sections _ first.1 format next.1 c.in-Ok.ensures.ok.1
    read.1 read.0 (c.in-Ok-site_logs.ensures ∙ c.into_logs.ensures) b s first.0 next.0 (c.in-Ok.ensures.only b.certificate s.certificate second)
    miss)
