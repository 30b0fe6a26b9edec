use Rattle.std.proofs.Common.{◌∙◌, Bool, List, IfOk, refl, subst, sym}
use Rattle.sgt_notation.specs.declared.event.SiteLine.{SiteLine}
use Rattle.sgt_input.specs.Sites.{TakesSite}
use Rattle.sgt_input.proofs.SitedLines.{took-site}
use Rattle.sgt_input.proofs.SiteLines.{empty_when, filled_when}
use Rattle.sgt_service.specs.private.Taking.{TakesScript}
use Rattle.sgt_service.proofs.OneInput.{after-script, scripts-kind}
use Rattle.sgt_service.proofs.taking.take_line.Goals as goal

pub returns-then-not-is_empty : goal.returns-then-not-is_empty
returns-then-not-is_empty c =
    let some = filled_when _ _ (sym c.args.scripts.now.ok.0) c.if-not-is_empty.ensures in
    let took =
    subst (λ (ss : List SiteLine). IfOk c.take_script.result
    (TakesScript ss c.args.scripts.now.items c.args.line.now c.take_script.new.scripts.items))
    c.as_slice.ensures.value c.take_script.ensures in
    after-script _ _ _ _ refl (λ none. absurd (some none)) took

pub returns-then-branch : goal.returns-then-branch
returns-then-branch c =
    took-site scripts-kind _ _ _ (empty_when _ _ (sym c.args.scripts.now.ok.0) c.if-not-is_empty.ensures) refl
    (subst (λ (b : Bool). TakesSite c.args.sites.now.items c.args.line.now c.take_site.new.sites.items b)
    c.if-branch.true (c.in_ok-take_site.ensures))

pub returns : goal.returns
returns c =
    let site = subst (λ (b : Bool). TakesSite c.args.sites.now.items c.args.line.now c.take_site.new.sites.items b)
    c.if-branch.false c.in_ok-take_site.ensures in
    let took =
    subst (λ (ss : List SiteLine). IfOk c.take_script-2.result
    (TakesScript ss c.args.scripts.now.items c.args.line.now c.take_script-2.new.scripts.items))
    (c.as_slice-2.ensures.value ∙ site.1) c.take_script-2.ensures in
    after-script _ _ _ _ site.1 (λ _. site.0) took
