use Rattle.std.proofs.Common.{◌≡◌, ◌++◌, ℕ, List, inl, inr, sym, ap, ◌∙◌, subst}
use Rattle.std.proofs.lemmas.Option.{same_Some, slice_get_within}
use Rattle.sgt_names.proofs.Lists.{element_at}
use Rattle.sgt_names.specs.Entry.{IsEnd}
use Rattle.sgt_names.specs.declared.entry.Entry.{Entry}
use Rattle.sgt_certify_stuck.specs.Apart.{HasTx}
use Rattle.sgt_certify.specs.Lines.{IsNextEnd, left_text}
use Rattle.sgt_certify.proofs.NextEnds.{none-of}
use Rattle.sgt_certify.proofs.Numbered.{next-numbered}
use Rattle.sgt_certify.proofs.left.text_at.Goals as goal

pub push_left-requires : goal.push_left-requires
push_left-requires c =
    let next = c.in-Some.ensures.some in
    let entries = c.as_slice-entries.result.now in
    let at = element_at entries c.in-Some.place c.index-entries-place.result
    (slice_get_within entries c.in-Some.place next.0 next.1.at) c.index-entries-place.is in
    subst IsEnd (same_Some next.0 c.index-entries-place.result (sym next.1.at ∙ at)) next.1.end

pub returns-clause-some : goal.returns-clause-some
returns-clause-some c =
    let next = c.in-Some.ensures.some in
    let entries = c.as_slice-entries.result.now in
    let at = element_at entries c.in-Some.place c.index-entries-place.result
    (slice_get_within entries c.in-Some.place next.0 next.1.at) c.index-entries-place.is in
    let one = same_Some c.index-entries-place.result next.0 (sym at ∙ next.1.at) in
    let there = subst (λ (es : List Entry). (e : Entry) × IsNextEnd (HasTx c.args.decided.now) es c.in-Some.place e)
    c.as_slice-entries.ensures next in
    let told = c.in_ok-push_left.ensures
    ∙ (ap (λ (w : List ℕ). w ++ left_text c.index-entries-place.result c.args.site c.in-Some-line_at.line)
    c.new-out.ensures.items
    ∙ (ap (λ (e : Entry). left_text e c.args.site c.in-Some-line_at.line) one
    ∙ ap (λ (n : ℕ). left_text next.0 c.args.site n) c.in-Some-line_at.ensures.some)) in
    inl (c.in-Some.place, there.0, there.1, told)

pub returns-in_default-line_at-clause-none : goal.returns-in_default-line_at-clause-none
returns-in_default-line_at-clause-none c are here =
    let next = c.in-Some.ensures.some in
    let there = subst (λ (es : List Entry). (e : Entry) × IsNextEnd (HasTx c.args.decided.now) es c.in-Some.place e)
    c.as_slice-entries.ensures next in
    next-numbered c.args.sites.now (HasTx c.args.decided.now) c.args.site c.in-Some.place c.args.log.now are here
    there (none-of _ _ c.in_default-line_at.not-Some c.line_at.ensures.none)
