use Rattle.std.proofs.Common.{◌∙◌, refl, sym, ap, subst, length, All}
use Rattle.std.proofs.lemmas.Option.{same_Some, slice_get_read, slice_get_within}
use Rattle.sgt_names.proofs.Places.{All_at}
use Rattle.sgt_certifier.specs.Counted.{HasPlace, HavePlaces}
use Rattle.sgt_certifier.specs.declared.install.Prepared.{Prepared}
use Rattle.sgt_certifier.proofs.Counting.{expected-left, not-placed, on-err}
use Rattle.sgt_certifier.proofs.install.take_items.Goals as goal

pub returns-in_err-place_each-in-None-clause-wants : goal.returns-in_err-place_each-in-None-clause-wants
returns-in_err-place_each-in-None-clause-wants c =
    let items = c.as_slice-in-None.ensures ∙ c.in_ok-items-in-None.ensures.ok in
    on-err c.from_residual-in_err-place_each-in-None.result _
    (not-placed c.args.counts.now c.args.expected.now.items c.args.touched.now c.args.site c.requires.placed
    (λ all. c.in_err-place_each-in-None.ensures.err
    (subst (All (HasPlace c.args.counts.now c.args.site)) (sym items) all)))

pub returns-in-Some-clause-items : goal.returns-in-Some-clause-items
returns-in-Some-clause-items c =
    let expected = c.args.expected.now.items in
    let at = rw c.as_slice.ensures.value at c.in-Some.ensures.found in
    let within = slice_get_within expected _ _ at in
    let there = slice_get_read expected (length expected) _ _ refl within c.remove.ensures.value in
    ap (λ (p : Prepared). p.items) (same_Some _ _ (sym there ∙ at))

pub returns-in-Some-clause-places : goal.returns-in-Some-clause-places
returns-in-Some-clause-places c =
    let at = rw c.as_slice.ensures.value at c.in-Some.ensures.found in
    All_at (HavePlaces c.args.counts.now) c.args.expected.now.items _ _ c.requires.placed at

pub returns-in-Some-clause-others : goal.returns-in-Some-clause-others
returns-in-Some-clause-others c = λ other s apart was.
    let at = rw c.as_slice.ensures.value at c.in-Some.ensures.found in
    expected-left c.args.expected.now.items c.remove.new.self.items _ _ _ other s at c.remove.ensures.items apart was
