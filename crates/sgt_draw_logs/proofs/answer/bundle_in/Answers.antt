use Rattle.std.proofs.Common.{subst}
use Rattle.sgt_bundle.specs.Valid.{IsValid}
use Rattle.sgt_bundle.proofs.OneText.{bundle-one}
use Rattle.sgt_draw_logs.proofs.answer.bundle_in.Goals as goal

pub unreachable-requires : goal.unreachable-requires
unreachable-requires c = (rw c.in-None.is at c.in_ok-found.ensures.bundle) c.requires.0 c.requires.1

pub returns-clause-valid : goal.returns-clause-valid
returns-clause-valid c =
    subst IsValid (bundle-one c.args.text.now c.requires.0 c.in-Some.bundle c.requires.1
    (rw c.in-Some.is at c.in_ok-found.ensures.bundle)) c.requires.2
