use Rattle.std.proofs.Common.{◌∙◌, ◌≢◌, ℕ, Bool, List, Ok, Option, [], ap, map, refl, subst, sym}
use Rattle.sgt_notation.specs.declared.event.SiteLine.{SiteLine}
use Rattle.sgt_core_model.specs.Core.{fresh}
use Rattle.sgt_core_machine.specs.Machine.{Parts, StandsFor}
use Rattle.sgt_input.specs.Sites.{TakesSite}
use Rattle.sgt_input.proofs.SitedLines.{took-site}
use Rattle.sgt_input.proofs.SiteLines.{empty_when, filled_when}
use Rattle.sgt_core.specs.declared.input.Input.{Input}
use Rattle.sgt_core.specs.private.Playing.{AnswersEvent, IsOpening, IsPlayed}
use Rattle.sgt_core.proofs.OneInput.{events-kind, took-none}
use Rattle.sgt_core.proofs.PlayedLines.{begun-opening, first-played}
use Rattle.sgt_core.proofs.playing.take_first.Goals as goal

pub returns-then-branch : goal.returns-then-branch
returns-then-branch c =
    let old : Input = record { sites = c.args.sites.now.items; events = [] } in
    let new : Input = record { sites = c.take_site.new.sites.items; events = [] } in
    let site = subst (λ (b : Bool). TakesSite c.args.sites.now.items c.args.line.now c.take_site.new.sites.items b)
    c.if-branch.true c.in_ok-take_site.ensures in (
      new,
      took-site events-kind old new c.args.line.now refl refl site,
      subst (λ (core : Option Parts). IsPlayed new c.take_site.new.sites.items core c.args.text.now.items)
          (sym c.requires.none) (refl, refl, c.requires.empty),
    )

pub returns-then-is_empty : goal.returns-then-is_empty
returns-then-is_empty c =
    let old : Input = record { sites = c.args.sites.now.items; events = [] } in
    let site = subst (λ (b : Bool). TakesSite c.args.sites.now.items c.args.line.now c.take_site.new.sites.items b)
    c.if-branch.false c.in_ok-take_site.ensures in
    took-none old c.args.line.now (λ _. site.0)
    (λ some. absurd (some (sym site.1 ∙ empty_when _ _ (sym c.take_site.new.sites.ok.0) c.if-is_empty.ensures)))

pub core_of-requires : goal.core_of-requires
core_of-requires c =
    let old : Input = record { sites = c.args.sites.now.items; events = [] } in
    let site = subst (λ (b : Bool). TakesSite c.args.sites.now.items c.args.line.now c.take_site.new.sites.items b)
    c.if-branch.false c.in_ok-take_site.ensures in
    let some : c.args.sites.now.items ≢ [] =
    λ none. filled_when _ _ (sym c.take_site.new.sites.ok.0) c.if-is_empty.ensures (site.1 ∙ none) in
    let same = ap (λ v. v.items) c.replace.ensures.value ∙ site.1 in
    subst (λ (ss : List SiteLine). IsOpening ss) (sym same) (begun-opening old c.requires.begun some)

pub returns : goal.returns
returns c =
    let site = subst (λ (b : Bool). TakesSite c.args.sites.now.items c.args.line.now c.take_site.new.sites.items b)
    c.if-branch.false c.in_ok-take_site.ensures in
    let some : c.args.sites.now.items ≢ [] =
    λ none. filled_when _ _ (sym c.take_site.new.sites.ok.0) c.if-is_empty.ensures (site.1 ∙ none) in
    let same = ap (λ v. v.items) c.replace.ensures.value ∙ site.1 in
    let stands = subst (λ (ss : List SiteLine). StandsFor c.in_ok-opened.opened (fresh (map (λ l. l.items) ss))) same
    c.in_ok-opened.ensures in
    let answers =
    subst (λ (t : List ℕ). AnswersEvent c.in_ok-opened.opened c.args.line.now c.answer_line.new.core t
    c.answer_line.new.text.items c.in_ok-answered.answered) c.requires.empty c.in_ok-answered.ensures in
    first-played {E = ℕ} (Ok c.in_ok-answered.answered) c.args.sites.now.items [] _ _ c.args.line.now _ some site.0
    stands answers
