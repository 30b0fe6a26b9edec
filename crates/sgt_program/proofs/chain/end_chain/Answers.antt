use Rattle.sgt_program.proofs.Told.{failed_at, never_no, tells-errors, told_yes, writes}
use Rattle.sgt_program.specs.declared.ending.Ending.TheVariants.{Ran}
use Rattle.sgt_program.proofs.chain.end_chain.Goals as goal

pub returns-clause-yes : goal.returns-clause-yes
returns-clause-yes g c =
    λ zero. told_yes c.tell_chain-told.result c.finish.result _ zero c.finish.ensures.status
    c.tell_chain-told.ensures.yes

pub returns-clause-ends : goal.returns-clause-ends
returns-clause-ends g c =
    let said = c.tell_chain-told.ensures in
    let finished = c.finish.ensures in (
      Ran c.tell_chain-told.result,
      finished.status,
      writes c.tell_chain-told.result said.read_fault said.writer,
      tells-errors c.tell_chain-told.result _ _ finished.silent finished.told,
    )

pub returns-clause-known : goal.returns-clause-known
returns-clause-known g c =
    never_no c.tell_chain-told.result c.finish.result _ c.finish.ensures.status c.tell_chain-told.ensures.yes

pub returns-clause-front : goal.returns-clause-front
returns-clause-front g c = λ four.
    failed_at c.tell_chain-told.result c.finish.result _ c.finish.ensures.status c.tell_chain-told.ensures.read_fault
    c.tell_chain-told.ensures.front four
