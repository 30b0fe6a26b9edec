use Rattle.std.proofs.Common.{◌-◌, Some, length, refl, ◌∙◌, ap, arith}
use Rattle.std.proofs.lemmas.Option.{slice_get_read}
use Rattle.sgt_core_machine.specs.Machine.{parts_of}
use Rattle.sgt_core_machine.proofs.Standing.{older_refused, free_refused}
use Rattle.sgt_core_machine.proofs.machine.Machine.slot_of.Goals as goal

pub returns-then-number-self-2-clause-err : goal.returns-then-number-self-2-clause-err
returns-then-number-self-2-clause-err c =
    λ d s e is. older_refused (parts_of c.args.self.now) d e c.args.tx s is (omega arith)

pub returns-in-Some-clause-ok : goal.returns-in-Some-clause-ok
returns-in-Some-clause-ok c =
    let slot = c.number-number.result - c.args.self.now.before - 1 in
    let window = c.requires.1.window in (
      omega arith,
      (
        c.in-Some.field-0,
        slice_get_read c.args.self.now.running.items (length c.args.self.now.running.items) slot
            c.index.result.now refl (omega arith) c.index.ensures ∙ ap Some c.in-Some.is,
      ),
    )

pub returns-in-None-clause-err : goal.returns-in-None-clause-err
returns-in-None-clause-err c = λ d s e is.
    let slot = c.number-number.result - c.args.self.now.before - 1 in
    let window = s.window in
    free_refused (parts_of c.args.self.now) d e c.args.tx slot s is (omega arith) (omega arith)
    (slice_get_read c.args.self.now.running.items (length c.args.self.now.running.items) slot c.index.result.now refl
    (omega arith) c.index.ensures ∙ ap Some c.in-None.is)
