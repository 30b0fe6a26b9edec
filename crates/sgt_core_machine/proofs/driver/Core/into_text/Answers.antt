use Rattle.std.proofs.Common.{◌∙◌, ap, arith}
use Rattle.sgt_certifier.specs.Certifier.{State}
use Rattle.sgt_core_machine.specs.Machine.{parts_of}
use Rattle.sgt_core_machine.proofs.Standing.{reached_kept}
use Rattle.sgt_core_machine.proofs.Bundles.{valid_ok, nobody}
use Rattle.sgt_core_machine.proofs.driver.Core.into_text.Goals as goal

pub returns-clause-valid : goal.returns-clause-valid
returns-clause-valid c = rw (← c.self.view_is) (valid_ok _ (parts_of c.self.inside.machine) (λ d s.
    let none = ap (λ (st : State). st.active) s.certifier.same
    ∙ nobody c.self.inside.machine.certifier.active (omega arith) in
    (reached_kept d s.reached, none)))
