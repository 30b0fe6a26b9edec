use Rattle.std.proofs.Common.{sym, ◌∙◌, subst}
use Rattle.std.specs.Prelude.{OnOk, string_bytes}
use Rattle.sgt_explain_decisions.specs.Ends.{TellsEnd}
use Rattle.sgt_explain_decisions.specs.Placed.{ArePlaced}
use Rattle.sgt_explain.proofs.ShownDecisions.{end-certificate, end-entry, shows-end}
use Rattle.sgt_explain.proofs.Telling.{on-all}
use Rattle.sgt_explain.proofs.certified.tell_end.Goals as goal

pub returns-in_default : goal.returns-in_default
returns-in_default c =
    λ first. absurd
    (end-certificate c.args.bytes.now c.args.number first (λ d held. sym c.in_default.is
    ∙ c.in_ok-certificate.ensures.only d held))

pub returns-in_default-logged_at : goal.returns-in_default-logged_at
returns-in_default-logged_at c =
    λ first. absurd (end-entry c.args.bytes.now c.args.number first c.in_default-logged_at.ensures)

pub returns : goal.returns
returns c =
    on-all _ c.push_end.result (λ first. shows-end c.args.bytes.now c.args.number first c.push_end.result
    c.in_ok-section.section c.in-Some.certificate c.in-Some-logged_at.logged c.as_slice.result.now _ _
    c.in_ok-section.ensures
    (λ d held. sym c.in-Some.is ∙ c.in_ok-certificate.ensures.only d held)
    c.in-Some-logged_at.ensures
    (subst (λ ds. ArePlaced ds c.as_slice.result.now) c.decisions-decisions.ensures
    (subst (λ ps. ArePlaced c.decisions-decisions.result.now ps) (sym c.as_slice.ensures.value)
    c.in_ok-placed.ensures))
    (subst (λ ds. OnOk c.push_end.result (TellsEnd ds c.as_slice.result.now c.in_ok-section.section.entries.items
    c.in-Some-logged_at.logged (string_bytes c.args.out.now) (string_bytes c.push_end.new.out)))
    c.decisions-decisions.ensures c.push_end.ensures))
