use Rattle.std.proofs.Common.{inr, refl}
use Rattle.std.specs.Prelude.{string_bytes}
use Rattle.std.proofs.lemmas.Bool.{false≢true}
use Rattle.sgt_names.proofs.Elements.{two-parts}
use Rattle.sgt_explain_decisions.specs.Told.{decision_text}
use Rattle.sgt_explain_decisions.proofs.Besides.{first-decided}
use Rattle.sgt_explain_decisions.proofs.fate.push_fate.Goals as goal

pub returns-in_default-clause-decided : goal.returns-in_default-clause-decided
returns-in_default-clause-decided c =
    let none = rw c.in_default.is at c.in_ok-found.ensures.none in
    (λ decided. absurd (false≢true decided), λ some. absurd (first-decided c.args.decisions.now c.args.tx some.0 some.1 none))

pub returns-clause-told : goal.returns-clause-told
returns-clause-told c =
    let on = rw c.in-Some.is at c.in_ok-found.ensures.some in
    let first = rw c.in-Some.is at c.in_ok-found.ensures.first in
    let n = c.in-Some.number in
    let d = c.in-Some.decision.now in
    let more = c.in_ok-push_cause.ensures in
    inr (
      n,
      d,
      more.0,
      on,
      first,
      more.1,
      two-parts (string_bytes c.args.out.now) _ (decision_text n d) more.0 _ c.in_ok-push_decision.ensures more.2,
    )

pub returns-clause-decided : goal.returns-clause-decided
returns-clause-decided c =
    let first = rw c.in-Some.is at c.in_ok-found.ensures.first in
    (λ decided. (c.in-Some.number, first), λ some. refl)
