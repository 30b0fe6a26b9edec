use Rattle.std.proofs.Common.{ap}
use Rattle.std.specs.Prelude.{Some}
use Rattle.sgt_explain.proofs.SecondLine.{line-held}
use Rattle.sgt_explain.proofs.shown.certificate_of.Goals as goal

pub returns-in-Ok-clause-only : goal.returns-in-Ok-clause-only
returns-in-Ok-clause-only c = λ d held. ap Some (c.in-Ok.ensures.only d held.0 (c.second_line.ensures.only _ held.1))

pub returns-in-Ok-clause-some : goal.returns-in-Ok-clause-some
returns-in-Ok-clause-some c =
    let is = c.in-Ok.ensures.ok in
    line-held c.args.bytes.now c.second_line.result.now c.in-Ok.certificate c.second_line.ensures.there is.0 is.1

pub returns-in_default-clause-only : goal.returns-in_default-clause-only
returns-in_default-clause-only c = λ d held.
    absurd (c.in_default.not-Memory (c.in-Err.ensures.only d held.0 (c.second_line.ensures.only _ held.1)))
