use Rattle.std.proofs.Common.{List, ℕ, subst}
use Rattle.sgt_program.specs.Ending.{WroteOrFailed}
use Rattle.sgt_program.proofs.Told.{wrote_or_failed}
use Rattle.sgt_program.proofs.ending.tell.Goals as goal

pub returns : goal.returns
returns g c =
    let wrote = c.write_all.ensures in
    let old = c.args.errors.now in
    let new = c.write_all.new.writer in
    subst (λ (text : List ℕ). WroteOrFailed (g.E.Sink.holds old) (g.E.Sink.holds new) (g.E.Sink.failures old)
    (g.E.Sink.failures new) text) c.as_bytes.ensures.value
    (wrote_or_failed c.write_all.result _ _ _ _ wrote.ok wrote.fails wrote.err)
