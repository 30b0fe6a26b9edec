use Rattle.sgt_certify.specs.Answer.{IsCertified}
use Rattle.sgt_draw_logs.proofs.answer.shown.Goals as goal

pub bundle_picture-requires : goal.bundle_picture-requires
bundle_picture-requires c =
    let is : IsCertified c.requires.0 c.args.text.now = rw c.in-Yes.is at c.requires.1 in
    (is.bundle, is.spelled, is.valid)

pub returns-in-Yes-clause-shown : goal.returns-in-Yes-clause-shown
returns-in-Yes-clause-shown c = rw c.in-Yes.is c.bundle_picture.ensures.drawn

pub returns-in_ok-refusal_shown-in-No-clause-shown : goal.returns-in_ok-refusal_shown-in-No-clause-shown
returns-in_ok-refusal_shown-in-No-clause-shown c = rw c.in-No.is c.in_ok-refusal_shown-in-No.ensures
