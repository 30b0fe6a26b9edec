use Rattle.std.proofs.Common.{List, ℕ, Some, subst, sym}
use Rattle.sgt_names.specs.declared.outcome.Outcome.TheVariants.{Yes}
use Rattle.sgt_bundle.specs.Text.{Spells}
use Rattle.sgt_audit.specs.declared.verdict.Verdict.{Verdict}
use Rattle.sgt_explain.specs.Explained.{IsVerdictOn}
use Rattle.sgt_draw.specs.Drawn.{IsDrawn}
use Rattle.sgt_draw_logs.proofs.Told.{drawn-yes}
use Rattle.sgt_draw_logs.proofs.answer.bundle_answer.Goals as goal

pub bundle_picture-requires : goal.bundle_picture-requires
bundle_picture-requires c =
    let is = rw c.in-Yes.is at c.requires in
    (is.0, subst (λ (t : List ℕ). Spells t is.0) (sym c.as_slice.ensures.value) is.1, is.2)

pub returns-in_ok-bundle_picture-in-Yes-clause-answer : goal.returns-in_ok-bundle_picture-in-Yes-clause-answer
returns-in_ok-bundle_picture-in-Yes-clause-answer c =
    let front = c.args.front.now.text.items in
    let text = c.in_ok-bundle_picture-in-Yes.field-0.items in
    λ told on. drawn-yes c.args.wanted told front text c.in-Yes.committed c.in-Yes.refused c.in-Yes.withdrawn
    (subst (λ (v : Verdict). IsVerdictOn told v front) c.in-Yes.is on)
    (subst (λ (t : List ℕ). IsDrawn c.args.wanted (Some t) Yes text) c.as_slice.ensures.value
    c.in_ok-bundle_picture-in-Yes.ensures.drawn)
