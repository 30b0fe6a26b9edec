use Rattle.std.proofs.Common.{◌∙◌, All, ap, length, map, subst, sym}
use Rattle.std.specs.Prelude.{Result, Ok, Err, IfOk, IfSome}
use Rattle.std.proofs.lemmas.List.{length-map}
use Rattle.sgt_notation.specs.declared.event.SiteLine.{SiteLine}
use Rattle.sgt_site.specs.State.{AreItems}
use Rattle.sgt_service.specs.declared.input.Reading.{Reading}
use Rattle.sgt_service.specs.Input.{IsRead, IsUsable}
use Rattle.sgt_service.specs.Report.{IsRunOf}
use Rattle.sgt_service.proofs.Reporting.{items_good, read_answers, run_answers}
use Rattle.sgt_service.proofs.engine.answer_to.Goals as goal

pub settled_run-settled-requires-clause-items : goal.settled_run-settled-requires-clause-items
settled_run-settled-requires-clause-items g c κs within =
    let items = c.as_slice.ensures.value ∙ c.in_ok-items.ensures
    ∙ ap (map (λ (l : SiteLine). l.items)) c.into_vec.ensures in
    subst (All AreItems) (sym items)
    (items_good c.in-Readable.input (subst IsUsable c.in-Readable.is c.requires.usable))

if_ok : {A E : Type 0} (r : Result A E) (P Q : A → Type 0) → ((a : A) → P a → Q a) → IfOk r P → IfOk r Q
if_ok (Ok a) P Q f p = f a p
if_ok (Err e) P Q f p = tt

pub returns-in-Ok : goal.returns-in-Ok
returns-in-Ok g c =
    let input = c.in-Readable.input in
    let settled = c.in-Ok.settled in
    let tries = c.args.tries in
    let items = c.as_slice.ensures.value ∙ c.in_ok-items.ensures
    ∙ ap (map (λ (l : SiteLine). l.items)) c.into_vec.ensures in
    let many = ap length items ∙ length-map input.sites (λ (l : SiteLine). l.items) in
    let of = subst (λ n. IsRunOf input.scripts n tries settled) many c.in-Ok.ensures.run in
    if_ok c.run_text.result _ _ (λ answer is told read.
    read_answers input tries told answer.outcome answer.text.items
    (subst (λ (r : Reading). IfSome told (λ bytes. IsRead bytes r)) c.in-Readable.is read)
    (run_answers input tries settled answer.outcome answer.text.items c.in-Ok.ensures.settled of
    (c.in-Ok.ensures.items ∙ items) is)) c.run_text.ensures
