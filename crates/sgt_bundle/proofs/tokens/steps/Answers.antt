use Rattle.std.proofs.Common.{◌≡◌, ◌<◌, length, subst, arith}
use Rattle.sgt_bundle.specs.Line.{is_step_object}
use Rattle.sgt_bundle.specs.Private.{HasValue}
use Rattle.sgt_bundle.proofs.Shown.{fewer, no_more, one_more}
use Rattle.sgt_bundle.proofs.tokens.steps.Goals as goal

pub loop-reader-smaller : goal.loop-reader-smaller
loop-reader-smaller c =
    let here : c.take_end_array.new.self ≡ c.loop-reader.reader = grind arith in
    let less : length c.step.new.reader < length c.loop-reader.reader =
    fewer is_step_object 1 c.loop-reader.reader c.step.new.reader
    (subst (λ ts. HasValue is_step_object 1 ts c.step.new.reader) here c.in_ok-step.ensures) in
    less

pub loop-reader-preserved : goal.loop-reader-preserved
loop-reader-preserved c = λ new more.
    let here : c.take_end_array.new.self ≡ c.loop-reader.reader = grind arith in
    c.loop-reader.invariant new (one_more is_step_object 1 c.loop-reader.reader c.step.new.reader new
    (subst (λ ts. HasValue is_step_object 1 ts c.step.new.reader) here c.in_ok-step.ensures) more)

pub returns : goal.returns
returns c =
    c.loop-reader.invariant c.take_end_array.new.self
    (no_more is_step_object 1 c.loop-reader.reader c.take_end_array.new.self (grind arith))
