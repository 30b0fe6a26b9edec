use Rattle.std.proofs.Common.{List, ℕ, subst, sym}
use Rattle.std.specs.Prelude.{Some}
use Rattle.sgt_names.proofs.Elements.{some-weaker}
use Rattle.sgt_certify.specs.Answer.{IsAnswer}
use Rattle.sgt_certify.proofs.Decided.{told-exact}
use Rattle.sgt_explain_logs.specs.Taken.{AreReadOf}
use Rattle.sgt_draw_logs.specs.Drawing.{IsShown}
use Rattle.sgt_draw_logs.proofs.answer.logs_answer.Goals as goal

pub shown-requires : goal.shown-requires
shown-requires c =
    let bytes = c.args.logs.now.text.items in (
      bytes,
      subst (λ (t : List ℕ). IsAnswer bytes c.in_ok-found.found.outcome t) (sym c.as_slice.ensures.value)
          (c.in_ok-found.ensures.answer bytes c.requires),
    )

pub returns-clause-answer : goal.returns-clause-answer
returns-clause-answer c told read =
    let found = c.in_ok-found.found in (
      found.text.items,
      some-weaker told (λ bytes. AreReadOf bytes c.args.logs.now) (λ bytes. IsAnswer bytes found.outcome found.text.items)
          c.in_ok-found.ensures.answer read,
      subst (λ (t : List ℕ). IsShown c.args.wanted found.outcome t c.in_ok-text.text.items)
          c.as_slice.ensures.value c.in_ok-text.ensures.shown,
    )

pub returns-clause-exact : goal.returns-clause-exact
returns-clause-exact c bytes read =
    let found = c.in_ok-found.found in
    told-exact (Some bytes) found.text.items found.outcome (c.in_ok-found.ensures.answer bytes read)
