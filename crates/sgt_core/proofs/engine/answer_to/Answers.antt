use Rattle.std.proofs.Common.{subst}
use Rattle.std.proofs.lemmas.Result.{IfOk-weaker}
use Rattle.sgt_input.specs.declared.reading.Stop.{Stop}
use Rattle.sgt_core.specs.private.Stopping.{StopsPlayer}
use Rattle.sgt_core.proofs.PlayedLines.{run-answers, taken-input}
use Rattle.sgt_core.proofs.engine.answer_to.Goals as goal

pub run_text-requires : goal.run_text-requires
run_text-requires c =
    let p = c.args.player in
    let (told, stops) = c.requires in
    let (input, is, played, spells) =
    taken-input p.sites.items p.core p.text.items told
    (subst (λ (s : Stop). StopsPlayer told p.sites.items p.core p.text.items s) c.in-Ended.is stops) in
    (input, is, played)

pub returns-in-Ended : goal.returns-in-Ended
returns-in-Ended c =
    let p = c.args.player in
    IfOk-weaker c.run_text.result _ _ (λ answer runs told stops.
    let (input, is, played, spells) =
    taken-input p.sites.items p.core p.text.items told
    (subst (λ (s : Stop). StopsPlayer told p.sites.items p.core p.text.items s) c.in-Ended.is stops) in
    run-answers told answer.outcome _ input spells (runs input played)) c.run_text.ensures
