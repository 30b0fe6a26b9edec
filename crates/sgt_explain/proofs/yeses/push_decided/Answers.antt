use Rattle.std.proofs.Common.{sym, ◌∙◌, ap, subst}
use Rattle.std.specs.Prelude.{string_bytes}
use Rattle.std.proofs.lemmas.Bool.{false≢true}
use Rattle.std.proofs.lemmas.Option.{same_Some, none-some}
use Rattle.sgt_bundle.specs.declared.certificate.Certificate.{Certificate}
use Rattle.sgt_explain_decisions.specs.Fate.{TellsFate}
use Rattle.sgt_explain.proofs.Finding.{decided-held}
use Rattle.sgt_explain.proofs.Telling.{if-ok, on-all, on-ok}
use Rattle.sgt_explain.proofs.yeses.push_decided.Goals as goal

pub returns-in-Some-clause-told : goal.returns-in-Some-clause-told
returns-in-Some-clause-told c = on-all _ c.push_fate.result (λ d. on-all _ c.push_fate.result (λ held.
    let same = same_Some c.in-Some.certificate d (sym c.in-Some.is ∙ c.in_ok-certificate.ensures.only d held) in
    let decisions = c.decisions.ensures ∙ ap (λ (k : Certificate). k.decisions) same in
    on-ok c.push_fate.result (λ fate. (
      c.seen_text-seen.result.now,
      c.seen_text-seen.ensures,
      subst (λ ds. TellsFate ds c.seen_text-seen.result.now c.args.tx (string_bytes c.args.out.now)
          (string_bytes c.push_fate.new.out)) decisions fate,
    )) c.push_fate.ensures.told))

pub returns-in-Some-clause-decided : goal.returns-in-Some-clause-decided
returns-in-Some-clause-decided c =
    if-ok c.push_fate.result (λ decided is. decided-held c.args.bytes.now c.args.tx c.in-Some.certificate
    c.decisions.result.now decided c.decisions.ensures (rw c.in-Some.is at c.in_ok-certificate.ensures.some)
    (λ d held. sym c.in-Some.is ∙ c.in_ok-certificate.ensures.only d held) is) c.push_fate.ensures.decided

pub returns-in_ok-push_str-in-None-clause-told : goal.returns-in_ok-push_str-in-None-clause-told
returns-in_ok-push_str-in-None-clause-told c =
    λ d held. absurd (none-some d (sym c.in-None.is ∙ c.in_ok-certificate.ensures.only d held))

pub returns-in_ok-push_str-in-None-clause-decided : goal.returns-in_ok-push_str-in-None-clause-decided
returns-in_ok-push_str-in-None-clause-decided c = (
  λ decided. absurd (false≢true decided),
  λ has. absurd (none-some has.0 (sym c.in-None.is ∙ c.in_ok-certificate.ensures.only has.0 has.1)),
)
