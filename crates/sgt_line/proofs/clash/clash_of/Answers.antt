use Rattle.std.proofs.Common.{◌∙◌, sym}
use Rattle.std.proofs.lemmas.Bool.{true≢false}
use Rattle.sgt_line.specs.Parts.{parts_of}
use Rattle.sgt_line.proofs.Clashing.{none_weaker, nothing_clashes}
use Rattle.sgt_line.proofs.clash.clash_of.Goals as goal

pub returns-clause-none : goal.returns-clause-none
returns-clause-none c =
    none_weaker _ _ _
    (nothing_clashes (parts_of c.args.line.now)
    (λ over. absurd (true≢false (sym (c.writes_over_input.ensures.1 over) ∙ c.if-writes_over_input.false))))
    c.beside.ensures.none
