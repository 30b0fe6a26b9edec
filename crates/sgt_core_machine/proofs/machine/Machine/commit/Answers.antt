use Rattle.std.proofs.Common.{◌∙◌, List, ℕ, sym, subst}
use Rattle.sgt_core_model.specs.declared.reply.Reply.{Reply}
use Rattle.sgt_core_model.specs.Core.{CoreState}
use Rattle.sgt_core_machine.specs.Machine.{parts_of, StandsFor, GoesOn}
use Rattle.sgt_core_machine.specs.private.Whole.{AwaitsBlocks, DecidesWhole, InstallsAll}
use Rattle.sgt_core_machine.proofs.WholeGoing.{AreWhole, commit_refused, awaiting, committing, committing_stops}
use Rattle.sgt_core_machine.proofs.machine.Machine.commit.Goals as goal

pub decide_whole-requires-clause-whole : goal.decide_whole-requires-clause-whole
decide_whole-requires-clause-whole c = subst (λ (xs : List ℕ). AreWhole (parts_of c.args.self.now) c.args.tx xs)
    (sym c.as_slice.ensures.value) c.in-Ok.ensures.ok

pub install_all-requires-clause-awaits : goal.install_all-requires-clause-awaits
install_all-requires-clause-awaits c =
    awaiting (parts_of c.args.self.now) (parts_of c.decide_whole.new.self) c.args.tx c.as_slice-in_default.result.now
    c.decide_whole.result c.requires (λ f e. c.in_default.not-Fault f e)
    (subst (λ (xs : List ℕ). GoesOn (λ x y. DecidesWhole x c.args.tx xs c.decide_whole.result y)
    (parts_of c.args.self.now) (parts_of c.decide_whole.new.self))
    (c.as_slice.ensures.value ∙ sym c.as_slice-in_default.ensures.value) c.decide_whole.ensures.goes)

pub returns-in-Err : goal.returns-in-Err
returns-in-Err c =
    commit_refused (parts_of c.args.self.now) c.args.tx c.in-Err.fault c.refused.result c.refused.ensures
    c.in-Err.ensures.err

pub returns-in-Fault : goal.returns-in-Fault
returns-in-Fault c =
    let first = parts_of c.args.self.now in
    let last = parts_of c.decide_whole.new.self in
    let sites = c.as_slice.result.now in
    committing_stops first last c.args.tx sites c.in-Fault.fault c.refused-in-Fault.result c.refused-in-Fault.ensures
    (subst (λ (r : Reply). GoesOn (λ x y. DecidesWhole x c.args.tx sites r y) first last) c.in-Fault.is
    c.decide_whole.ensures.goes)

pub returns-in_default : goal.returns-in_default
returns-in_default c =
    let first = parts_of c.args.self.now in
    let mid = parts_of c.decide_whole.new.self in
    let last = parts_of c.install_all.new.self in
    let tx = c.args.tx in
    let verdict = c.decide_whole.result in
    committing first mid last tx c.whole_sites.new.sites.items c.in-Ok.ensures.ok verdict
    (λ f e. c.in_default.not-Fault f e)
    (subst (λ (xs : List ℕ). GoesOn (λ x y. DecidesWhole x tx xs verdict y) first mid) c.as_slice.ensures.value
    c.decide_whole.ensures.goes)
    (subst (λ (xs : List ℕ). (x : CoreState) → StandsFor mid x → AwaitsBlocks x tx xs
    → (y : CoreState) × InstallsAll x tx xs y × StandsFor last y) c.as_slice-in_default.ensures.value
    c.install_all.ensures)
