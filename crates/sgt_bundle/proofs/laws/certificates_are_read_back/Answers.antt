use Rattle.std.proofs.Common.{refl}
use Rattle.sgt_bundle.specs.Text.{certificate_text}
use Rattle.sgt_bundle.proofs.Answered.{not_refused}
use Rattle.sgt_bundle.proofs.laws.certificates_are_read_back.Goals as goal

pub returns : goal.returns
returns goal_c c h e plain refused = not_refused (certificate_text c) c e h refl plain refused
