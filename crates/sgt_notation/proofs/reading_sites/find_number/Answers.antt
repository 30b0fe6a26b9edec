use Rattle.sgt_notation.proofs.SiteWords.{unnumbered}
use Rattle.sgt_notation.proofs.reading_sites.find_number.Goals as goal

pub returns-in_err-text-clause-none : goal.returns-in_err-text-clause-none
returns-in_err-text-clause-none c =
    rw c.from_residual.ensures (λ k ws is e. unnumbered c.args.line.now c.in_err-text.ensures k ws e)
