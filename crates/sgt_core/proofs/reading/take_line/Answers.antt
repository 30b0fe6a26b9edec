use Rattle.std.proofs.Common.{◌∙◌, Bool, refl, subst, sym}
use Rattle.sgt_input.specs.Sites.{TakesSite}
use Rattle.sgt_input.proofs.SiteLines.{empty_when, filled_when}
use Rattle.sgt_input.proofs.SitedLines.{took-site}
use Rattle.sgt_core.proofs.OneInput.{after-event, events-kind, took-none}
use Rattle.sgt_core.proofs.reading.take_line.Goals as goal

pub returns-then-not-is_empty : goal.returns-then-not-is_empty
returns-then-not-is_empty c =
    let some = filled_when _ _ (sym c.args.events.now.ok.0) c.if-not-is_empty.ensures in
    after-event _ _ _ _ refl (λ begun none. some (begun.first none)) (λ none. absurd (some none)) c.take_event.ensures

pub returns-then-branch : goal.returns-then-branch
returns-then-branch c =
    took-site events-kind _ _ _ (empty_when _ _ (sym c.args.events.now.ok.0) c.if-not-is_empty.ensures) refl
    (subst (λ (b : Bool). TakesSite c.args.sites.now.items c.args.line.now c.take_site.new.sites.items b)
    c.if-branch.true (c.in_ok-take_site.ensures))

pub returns-then-is_empty : goal.returns-then-is_empty
returns-then-is_empty c =
    let site = subst (λ (b : Bool). TakesSite c.args.sites.now.items c.args.line.now c.take_site.new.sites.items b)
    c.if-branch.false c.in_ok-take_site.ensures in
    took-none _ _ (λ _. site.0)
    (λ some. absurd (some (sym site.1 ∙ empty_when _ _ (sym c.take_site.new.sites.ok.0) c.if-is_empty.ensures)))

pub returns : goal.returns
returns c =
    let site = subst (λ (b : Bool). TakesSite c.args.sites.now.items c.args.line.now c.take_site.new.sites.items b)
    c.if-branch.false c.in_ok-take_site.ensures in
    after-event _ _ _ _ site.1 (λ begun none. filled_when _ _ (sym c.take_site.new.sites.ok.0) c.if-is_empty.ensures
    (site.1 ∙ none)) (λ _. site.0) c.take_event-2.ensures
