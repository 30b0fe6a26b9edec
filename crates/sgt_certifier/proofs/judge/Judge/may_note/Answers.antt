use Rattle.std.proofs.Common.{sym, ◌∙◌}
use Rattle.std.proofs.lemmas.Bool.{true≢false}
use Rattle.sgt_certifier.proofs.Judging.{installed_allowed}
use Rattle.sgt_certifier.proofs.judge.Judge.may_note.Goals as goal

pub returns-clause-ok : goal.returns-clause-ok
returns-clause-ok c =
    installed_allowed c.args.self.now c.args.tx c.args.site (c.is_installing.ensures.0 c.if-not-is_installing.false)
    (λ noted. true≢false (sym (c.is_noted.ensures.1 noted) ∙ c.if-is_noted.false))
