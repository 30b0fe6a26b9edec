use Rattle.std.proofs.Common.{◌≡◌, ◌∙◌, ℕ, List, Option, Vec, Global, subst}
use Rattle.std.specs.Prelude.{IfSome}
use Rattle.std.proofs.lemmas.Result.{IfOk-weaker}
use Rattle.sgt_history.specs.Transaction.{Transaction}
use Rattle.sgt_history_verdict.specs.declared.step.Step.{Step}
use Rattle.sgt_history_verdict.specs.Named.{IsNameOf, named}
use Rattle.sgt_history_verdict.specs.Steps.{AreAlong, AreSteps, AreToldFirst, lines_of}
use Rattle.sgt_history_verdict.specs.Verdict.{IsCyclic}
use Rattle.sgt_history_verdict.proofs.Names.{name-right}
use Rattle.sgt_history_verdict.proofs.Stepping.{along-lines, told-first, told-join, told-lead, told-steps}
use Rattle.sgt_history_verdict.proofs.steps.steps_of.Goals as goal

pub quick_steps-requires : goal.quick_steps-requires
quick_steps-requires c =
    told-join c.args.cyclic.now c.requires.0 c.as_slice-touches.result.now c.edges_in-pairs.result.now c.requires.1
    c.as_slice-touches.ensures.value c.edges_in-pairs.ensures

pub steps_along-requires-clause-joins : goal.steps_along-requires-clause-joins
steps_along-requires-clause-joins c =
    told-join c.args.cyclic.now c.requires.0 c.as_slice-touches.result.now c.edges_in-pairs.result.now c.requires.1
    c.as_slice-touches.ensures.value c.edges_in-pairs.ensures

pub steps_along-requires-clause-lead : goal.steps_along-requires-clause-lead
steps_along-requires-clause-lead c =
    told-lead c.args.cyclic.now c.requires.0 c.as_slice-touches.result.now c.edges_in-pairs.result.now
    c.as_slice-lines.result.now c.requires.1 c.as_slice-touches.ensures.value c.edges_in-pairs.ensures
    c.as_slice-lines.ensures.value

pub returns-in-Some-clause-steps : goal.returns-in-Some-clause-steps
returns-in-Some-clause-steps c = λ h is.
    let along =
    subst (λ (found : Option (Vec Step Global)). IfSome found
    (λ steps. AreAlong c.as_slice-touches.result.now c.edges_in-pairs.result.now c.args.ranks.now
    c.as_slice-lines.result.now steps.items)) c.in-Some.is c.in_ok-steps.ensures in
    told-steps c.args.cyclic.now h c.as_slice-touches.result.now c.edges_in-pairs.result.now c.args.ranks.now
    c.as_slice-lines.result.now c.in-Some.steps.items is c.as_slice-touches.ensures.value c.edges_in-pairs.ensures
    c.as_slice-lines.ensures.value along

pub returns-in-Some-clause-first : goal.returns-in-Some-clause-first
returns-in-Some-clause-first c = λ h is.
    let along =
    subst (λ (found : Option (Vec Step Global)). IfSome found
    (λ steps. AreAlong c.as_slice-touches.result.now c.edges_in-pairs.result.now c.args.ranks.now
    c.as_slice-lines.result.now steps.items)) c.in-Some.is c.in_ok-steps.ensures in
    told-first c.args.cyclic.now h c.as_slice-touches.result.now c.edges_in-pairs.result.now c.args.ranks.now
    c.as_slice-lines.result.now c.in-Some.steps.items is c.as_slice-touches.ensures.value c.edges_in-pairs.ensures
    along

pub returns-in-Some-clause-name : goal.returns-in-Some-clause-name
returns-in-Some-clause-name c = λ h is.
    let along =
    subst (λ (found : Option (Vec Step Global)). IfSome found
    (λ steps. AreAlong c.as_slice-touches.result.now c.edges_in-pairs.result.now c.args.ranks.now
    c.as_slice-lines.result.now steps.items)) c.in-Some.is c.in_ok-steps.ensures in
    name-right h c.args.cyclic.now.graph c.in-Some.steps.items
    (told-steps c.args.cyclic.now h c.as_slice-touches.result.now c.edges_in-pairs.result.now c.args.ranks.now
    c.as_slice-lines.result.now c.in-Some.steps.items is c.as_slice-touches.ensures.value c.edges_in-pairs.ensures
    c.as_slice-lines.ensures.value along) is.graph_is

pub returns-in-Some-clause-lines : goal.returns-in-Some-clause-lines
returns-in-Some-clause-lines c =
    let along =
    subst (λ (found : Option (Vec Step Global)). IfSome found
    (λ steps. AreAlong c.as_slice-touches.result.now c.edges_in-pairs.result.now c.args.ranks.now
    c.as_slice-lines.result.now steps.items)) c.in-Some.is c.in_ok-steps.ensures in
    along-lines c.as_slice-touches.result.now c.edges_in-pairs.result.now c.args.ranks.now c.as_slice-lines.result.now
    c.in-Some.steps.items along ∙ c.as_slice-lines.ensures.value

pub returns-clause-steps : goal.returns-clause-steps
returns-clause-steps c =
    let cyclic = c.args.cyclic.now in
    IfOk-weaker c.steps_along.result
    (λ (steps : Vec Step Global). AreAlong c.as_slice-touches.result.now c.edges_in-pairs.result.now
    c.args.ranks.now c.as_slice-lines.result.now steps.items)
    (λ (steps : Vec Step Global). (h : List (Transaction ℕ ℕ)) → IsCyclic h cyclic
    → AreSteps h cyclic.graph steps.items)
    (λ steps along h is. told-steps cyclic h c.as_slice-touches.result.now c.edges_in-pairs.result.now
    c.args.ranks.now c.as_slice-lines.result.now steps.items is c.as_slice-touches.ensures.value
    c.edges_in-pairs.ensures c.as_slice-lines.ensures.value along)
    c.steps_along.ensures

pub returns-clause-first : goal.returns-clause-first
returns-clause-first c =
    let cyclic = c.args.cyclic.now in
    IfOk-weaker c.steps_along.result
    (λ (steps : Vec Step Global). AreAlong c.as_slice-touches.result.now c.edges_in-pairs.result.now
    c.args.ranks.now c.as_slice-lines.result.now steps.items)
    (λ (steps : Vec Step Global). (h : List (Transaction ℕ ℕ)) → IsCyclic h cyclic
    → AreToldFirst h cyclic.graph c.args.ranks.now steps.items)
    (λ steps along h is. told-first cyclic h c.as_slice-touches.result.now c.edges_in-pairs.result.now
    c.args.ranks.now c.as_slice-lines.result.now steps.items is c.as_slice-touches.ensures.value
    c.edges_in-pairs.ensures along)
    c.steps_along.ensures

pub returns-clause-name : goal.returns-clause-name
returns-clause-name c =
    let cyclic = c.args.cyclic.now in
    IfOk-weaker c.steps_along.result
    (λ (steps : Vec Step Global). AreAlong c.as_slice-touches.result.now c.edges_in-pairs.result.now
    c.args.ranks.now c.as_slice-lines.result.now steps.items)
    (λ (steps : Vec Step Global). (h : List (Transaction ℕ ℕ)) → IsCyclic h cyclic → IsNameOf h (named steps.items))
    (λ steps along h is. name-right h cyclic.graph steps.items
    (told-steps cyclic h c.as_slice-touches.result.now c.edges_in-pairs.result.now c.args.ranks.now
    c.as_slice-lines.result.now steps.items is c.as_slice-touches.ensures.value c.edges_in-pairs.ensures
    c.as_slice-lines.ensures.value along) is.graph_is)
    c.steps_along.ensures

pub returns-clause-lines : goal.returns-clause-lines
returns-clause-lines c =
    IfOk-weaker c.steps_along.result
    (λ (steps : Vec Step Global). AreAlong c.as_slice-touches.result.now c.edges_in-pairs.result.now
    c.args.ranks.now c.as_slice-lines.result.now steps.items)
    (λ (steps : Vec Step Global). lines_of steps.items ≡ c.args.cyclic.now.cycle.items)
    (λ steps along. along-lines c.as_slice-touches.result.now c.edges_in-pairs.result.now c.args.ranks.now
    c.as_slice-lines.result.now steps.items along ∙ c.as_slice-lines.ensures.value)
    c.steps_along.ensures
