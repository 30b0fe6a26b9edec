use Rattle.std.proofs.Common.{sym, ◌∙◌, ap, subst}
use Rattle.std.specs.Prelude.{string_bytes}
use Rattle.std.proofs.lemmas.Option.{same_Some, none-some}
use Rattle.sgt_bundle.specs.declared.certificate.Certificate.{Certificate}
use Rattle.sgt_explain.specs.Asked.{TellsRefused}
use Rattle.sgt_explain.proofs.Telling.{on-all, on-ok}
use Rattle.sgt_explain.proofs.yeses.push_refused.Goals as goal

pub returns-in-Some : goal.returns-in-Some
returns-in-Some c = on-all _ c.push_cycles.result (λ d. on-all _ c.push_cycles.result (λ held.
    let same = same_Some c.in-Some.certificate d (sym c.in-Some.is ∙ c.in_ok-certificate.ensures.only d held) in
    let decisions = c.decisions.ensures ∙ ap (λ (k : Certificate). k.decisions) same in
    on-ok c.push_cycles.result
    (λ told. subst (λ ds. TellsRefused c.args.asked ds c.args.bytes.now (string_bytes c.args.out.now)
    (string_bytes c.push_cycles.new.out)) decisions told)
    c.push_cycles.ensures))

pub returns-in-None : goal.returns-in-None
returns-in-None c =
    λ d held. absurd (none-some d (sym c.in-None.is ∙ c.in_ok-certificate.ensures.only d held))
