use Rattle.std.proofs.Common.{◌∙◌, sym}
use Rattle.sgt_serve.proofs.Ends.{installed_none, installed_some}
use Rattle.sgt_names.proofs.Elements.{none-unless_some}
use Rattle.sgt_serve.proofs.ending.install_open.Goals as goal

pub returns-in-Some : goal.returns-in-Some
returns-in-Some c =
    installed_some c.args.core.now c.install_at.new.core c.in-Some.tx c.sites-sites.result c.in-Some.ensures
    c.sites-sites.ensures.sites c.install_at.ensures

pub returns-in_default : goal.returns-in_default
returns-in_default c = installed_none c.args.core.now (λ d stands. sym (none-unless_some _ c.in_default.not-Some)
    ∙ c.open_step.ensures d stands)
