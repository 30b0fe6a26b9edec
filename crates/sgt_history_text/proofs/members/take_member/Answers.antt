use Rattle.std.proofs.Common.{◌∙◌, refl, sym}
use Rattle.std.proofs.lemmas.Result.{IfOk-weaker}
use Rattle.sgt_history_text.proofs.Gathered.{operations_found, told_found}
use Rattle.sgt_history_text.proofs.members.take_member.Goals as goal

pub returns-then-eq-clause-taken : goal.returns-then-eq-clause-taken
returns-then-eq-clause-taken c =
    IfOk-weaker c.take_operations.result _ _
    (λ taken found. operations_found c.args.reader.now c.take_operations.new.reader c.args.name.now c.args.found.now _
    c.args.builder.now c.take_operations.new.builder taken (sym c.eq.ensures ∙ c.if-eq.true) refl found)
    c.take_operations.ensures.taken

pub returns-clause-taken : goal.returns-clause-taken
returns-clause-taken c =
    IfOk-weaker c.take_told.result _ _
    (λ taken found. told_found c.args.reader.now c.take_told.new.reader c.args.name.now c.args.found.now _
    c.args.builder.now c.args.builder.now taken (sym c.eq.ensures ∙ c.if-eq.false) refl refl found)
    c.take_told.ensures.taken
