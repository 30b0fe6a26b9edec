use Rattle.std.proofs.Common.{sym, ◌∙◌, subst}
use Rattle.sgt_notation.proofs.OneSpelling.{line-one}
use Rattle.sgt_explain_lines.specs.Numbered.{with_site}
use Rattle.sgt_explain.specs.Steps.{IsOpenAt}
use Rattle.sgt_explain.proofs.steps.pass.Goals as goal

pub returns-after-was_open-clause-opens : goal.returns-after-was_open-clause-opens
returns-after-was_open-clause-opens c read one e opened held =
    let same = line-one c.in-Ok.read read c.in-Ok.ensures.0 one (sym c.in-Ok.ensures.1 ∙ e) in
    subst (λ l. IsOpenAt c.is_open_behind.result (with_site opened l) c.args.site) same
    (c.is_open_behind.ensures opened held)
