use Rattle.sgt_core_machine.proofs.Standing.{goes_stands, goes_same}
use Rattle.sgt_core_machine.proofs.driver.Core.step.Goals as goal

pub invariant_of-self : goal.invariant_of-self
invariant_of-self c = goes_stands _ _ _ c.self.invariant c.begin.ensures

pub invariant_of-self-in-Read : goal.invariant_of-self-in-Read
invariant_of-self-in-Read c = goes_stands _ _ _ c.self.invariant c.read.ensures

pub invariant_of-self-in-Put : goal.invariant_of-self-in-Put
invariant_of-self-in-Put c = goes_stands _ _ _ c.self.invariant c.put.ensures

pub invariant_of-self-in-Add : goal.invariant_of-self-in-Add
invariant_of-self-in-Add c = goes_stands _ _ _ c.self.invariant c.add.ensures

pub invariant_of-self-in-Gather : goal.invariant_of-self-in-Gather
invariant_of-self-in-Gather c = goes_stands _ _ _ c.self.invariant c.gather.ensures

pub invariant_of-self-in-Decide : goal.invariant_of-self-in-Decide
invariant_of-self-in-Decide c = goes_stands _ _ _ c.self.invariant c.decide.ensures

pub invariant_of-self-in-Install : goal.invariant_of-self-in-Install
invariant_of-self-in-Install c = goes_stands _ _ _ c.self.invariant c.install.ensures

pub invariant_of-self-in-Commit : goal.invariant_of-self-in-Commit
invariant_of-self-in-Commit c = goes_stands _ _ _ c.self.invariant c.commit.ensures

pub invariant_of-self-in-Withdraw : goal.invariant_of-self-in-Withdraw
invariant_of-self-in-Withdraw c = goes_stands _ _ _ c.self.invariant c.withdraw.ensures

pub invariant_of-self-in-Close : goal.invariant_of-self-in-Close
invariant_of-self-in-Close c = goes_stands _ _ _ c.self.invariant c.close.ensures

pub returns-in-Begin : goal.returns-in-Begin
returns-in-Begin c = goes_same _ _ _ c.args.event _ _ c.self.view_is c.in-Begin.is c.begin.ensures

pub returns-in-Read : goal.returns-in-Read
returns-in-Read c = goes_same _ _ _ c.args.event _ _ c.self.view_is c.in-Read.is c.read.ensures

pub returns-in-Put : goal.returns-in-Put
returns-in-Put c = goes_same _ _ _ c.args.event _ _ c.self.view_is c.in-Put.is c.put.ensures

pub returns-in-Add : goal.returns-in-Add
returns-in-Add c = goes_same _ _ _ c.args.event _ _ c.self.view_is c.in-Add.is c.add.ensures

pub returns-in-Gather : goal.returns-in-Gather
returns-in-Gather c = goes_same _ _ _ c.args.event _ _ c.self.view_is c.in-Gather.is c.gather.ensures

pub returns-in-Decide : goal.returns-in-Decide
returns-in-Decide c = goes_same _ _ _ c.args.event _ _ c.self.view_is c.in-Decide.is c.decide.ensures

pub returns-in-Install : goal.returns-in-Install
returns-in-Install c = goes_same _ _ _ c.args.event _ _ c.self.view_is c.in-Install.is c.install.ensures

pub returns-in-Commit : goal.returns-in-Commit
returns-in-Commit c = goes_same _ _ _ c.args.event _ _ c.self.view_is c.in-Commit.is c.commit.ensures

pub returns-in-Withdraw : goal.returns-in-Withdraw
returns-in-Withdraw c = goes_same _ _ _ c.args.event _ _ c.self.view_is c.in-Withdraw.is c.withdraw.ensures

pub returns-in-Close : goal.returns-in-Close
returns-in-Close c = goes_same _ _ _ c.args.event _ _ c.self.view_is c.in-Close.is c.close.ensures
