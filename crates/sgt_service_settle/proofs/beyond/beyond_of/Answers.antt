use Rattle.std.proofs.Common.{◌++◌, ◌∙◌, ap, sym, subst}
use Rattle.std.proofs.lemmas.List.{append-nil}
use Rattle.sgt_service_settle.specs.Told.{number_of}
use Rattle.sgt_service_settle.specs.private.Sites.{IsLeastBeyond}
use Rattle.sgt_service_settle.proofs.Leasts.{handed_none}
use Rattle.sgt_service_settle.proofs.beyond.beyond_of.Goals as goal

pub returns-in-Decide : goal.returns-in-Decide
returns-in-Decide c before is = rw c.in-Decide.is (c.beyond_among.ensures before (number_of c.in-Decide.reply) is)

pub returns-in_default : goal.returns-in_default
returns-in_default c before is =
    let none = ap (λ hs. before ++ hs) (handed_none c.args.call.now c.in_default.not-Decide) ∙ append-nil before in
    subst (λ hs. IsLeastBeyond c.args.sites hs c.args.first) (sym none) is
