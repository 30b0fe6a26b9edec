use Rattle.std.proofs.Common.{List, All, sym, subst, ◌∙◌}
use Rattle.std.specs.Prelude.{OnOk, string_bytes, unwrap_or}
use Rattle.sgt_names.specs.Entry.{tx_of}
use Rattle.sgt_bundle.specs.declared.certificate.Decision.{Decision}
use Rattle.sgt_explain_lines.specs.declared.section.Logged.{Logged}
use Rattle.sgt_explain_decisions.specs.Ends.{HasEnd, TellsNotEnded}
use Rattle.sgt_explain_decisions.specs.Placed.{ArePlaced, IsUndecided}
use Rattle.sgt_explain.proofs.ShownDecisions.{left-certificate, shows-left}
use Rattle.sgt_explain.proofs.Telling.{on-all}
use Rattle.sgt_explain.proofs.certified.tell_not_ended.Goals as goal

pub returns-in_default : goal.returns-in_default
returns-in_default c =
    λ first. absurd (left-certificate c.args.bytes.now c.args.number first
    (λ d held. sym c.in_default.is ∙ c.in_ok-certificate.ensures.only d held))

pub returns : goal.returns
returns c =
    let entries = c.in_ok-section.section.entries.items in
    on-all _ c.push_not_ended.result (λ first. shows-left c.args.bytes.now c.args.number first c.push_not_ended.result
    c.in_ok-section.section c.in-Some.certificate c.as_slice.result.now _ _
    c.in_ok-section.ensures
    (λ d held. sym c.in-Some.is ∙ c.in_ok-certificate.ensures.only d held)
    (subst (λ ds. ArePlaced ds c.as_slice.result.now) c.decisions-decisions.ensures
    (subst (λ ps. ArePlaced c.decisions-decisions.result.now ps) (sym c.as_slice.ensures.value)
    c.in_ok-placed.ensures))
    (subst (λ (ds : List Decision). All (λ (l : Logged). IsUndecided ds (tx_of l.entry) → ⊥) entries
    → (All (λ (l : Logged). HasEnd entries (tx_of l.entry)) entries → ⊥)
    → OnOk c.push_not_ended.result (TellsNotEnded ds entries (unwrap_or c.in_ok-section.section.site 0)
    (string_bytes c.args.out.now) (string_bytes c.push_not_ended.new.out))) c.decisions-decisions.ensures
    (c.push_not_ended.ensures (subst (λ ps. ArePlaced c.decisions-decisions.result.now ps)
    (sym c.as_slice.ensures.value) c.in_ok-placed.ensures))))
