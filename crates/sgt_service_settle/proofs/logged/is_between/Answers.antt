use Rattle.std.proofs.Common.{◌≢◌, ◌∙◌, sym, subst, arith}
use Rattle.std.proofs.lemmas.Bool.{true≢false, eqb-true, eqb-false}
use Rattle.std.proofs.lemmas.Option.{none-some}
use Rattle.std.specs.List.Sorted.{IsNonDecreasingBy}
use Rattle.sgt_service_settle.specs.private.Acts.{actor}
use Rattle.sgt_service_settle.proofs.Placing.{known_place}
use Rattle.sgt_service_settle.proofs.Acting.{between_conflicts}
use Rattle.sgt_names.proofs.Lists.{element_at}
use Rattle.sgt_notation.proofs.Texts.{clash_items}
use Rattle.sgt_service_settle.proofs.logged.is_between.Goals as goal

pub returns-then-eq-clause-told : goal.returns-then-eq-clause-told
returns-then-eq-clause-told c log known are =
    (λ told. absurd (true≢false (sym told)), λ k. absurd (k.apart (eqb-true _ _ (sym c.eq.ensures ∙ c.if-eq.true))))

pub returns-in_default-clause-told : goal.returns-in_default-clause-told
returns-in_default-clause-told c log known are = (
  λ told. absurd (true≢false (sym told)),
  λ k.
      let x = c.args.label.now.item in
      let place =
      known_place c.args.items.now log k.p k.e x known k.first
      (clash_items c.args.label.now.kind x k.e k.f k.clash).0 in
      absurd (none-some place.0 (sym c.in_default.is ∙ (c.place_near.ensures place.0).1 place.1)),
)

pub offset_bounds-acts-at : goal.offset_bounds-acts-at
offset_bounds-acts-at c = let within = ((c.place_near.ensures c.in-Some.at).0 c.in-Some.is).within in
    omega (arith, within, c.requires.long, c.well_formed)

pub bounds-acts-at : goal.bounds-acts-at
bounds-acts-at c = let within = ((c.place_near.ensures c.in-Some.at).0 c.in-Some.is).within in
    omega (arith, within, c.requires.long)

pub index-last-requires : goal.index-last-requires
index-last-requires c = let within = ((c.place_near.ensures c.in-Some.at).0 c.in-Some.is).within in
    omega (arith, within, c.requires.near, c.args.near.now.rows.ok.0)

pub index_mut-requires : goal.index_mut-requires
index_mut-requires c = let within = ((c.place_near.ensures c.in-Some.at).0 c.in-Some.is).within in
    omega (arith, within, c.requires.near, c.args.near.now.rows.ok.0)

pub start_of-first-requires : goal.start_of-first-requires
start_of-first-requires c =
    let within = ((c.place_near.ensures c.in-Some.at).0 c.in-Some.is).within in
    let here = element_at c.args.acts.now c.in-Some.at c.index-acts-at.result (omega (arith, within, c.requires.long))
    c.index-acts-at.is in
    subst (IsNonDecreasingBy actor) (sym c.as_slice-row.ensures.value)
    (c.requires.sorted c.in-Some.at c.index-acts-at.result here)

pub start_of-second-requires : goal.start_of-second-requires
start_of-second-requires c =
    let within = ((c.place_near.ensures c.in-Some.at).0 c.in-Some.is).within in
    let here = element_at c.args.acts.now c.in-Some.at c.index-acts-at.result (omega (arith, within, c.requires.long))
    c.index-acts-at.is in
    subst (IsNonDecreasingBy actor) (sym c.as_slice-row.ensures.value)
    (c.requires.sorted c.in-Some.at c.index-acts-at.result here)

pub acts_from-requires-clause-sorted : goal.acts_from-requires-clause-sorted
acts_from-requires-clause-sorted c =
    let within = ((c.place_near.ensures c.in-Some.at).0 c.in-Some.is).within in
    let here = element_at c.args.acts.now c.in-Some.at c.index-acts-at.result (omega (arith, within, c.requires.long))
    c.index-acts-at.is in
    subst (IsNonDecreasingBy actor) (sym c.as_slice-row.ensures.value)
    (c.requires.sorted c.in-Some.at c.index-acts-at.result here)

pub acts_from-requires-2-clause-sorted : goal.acts_from-requires-2-clause-sorted
acts_from-requires-2-clause-sorted c =
    let within = ((c.place_near.ensures c.in-Some.at).0 c.in-Some.is).within in
    let here = element_at c.args.acts.now c.in-Some.at c.index-acts-at.result (omega (arith, within, c.requires.long))
    c.index-acts-at.is in
    subst (IsNonDecreasingBy actor) (sym c.as_slice-row.ensures.value)
    (c.requires.sorted c.in-Some.at c.index-acts-at.result here)

pub returns-clause-told : goal.returns-clause-told
returns-clause-told c log known are =
    let item = (c.place_near.ensures c.in-Some.at).0 c.in-Some.is in
    let within = item.within in
    let row = c.index-acts-at.result in
    let here =
    element_at c.args.acts.now c.in-Some.at row (omega (arith, within, c.requires.long)) c.index-acts-at.is in
    let apart : c.args.from ≢ c.args.to = eqb-false _ _ (sym c.eq.ensures ∙ c.if-eq.false) in
    let firsts = rw c.as_slice-row.ensures.value at c.acts_from.ensures in
    let seconds = rw c.as_slice-row.ensures.value at c.acts_from-2.ensures in
    let b = between_conflicts c.args.items.now log c.args.acts.now c.in-Some.at c.args.from c.args.to row
    c.acts_from.result.now c.acts_from-2.result.now c.args.label.now.kind c.args.label.now.item are item here
    apart firsts seconds in
    (λ told. b.0 (c.are_between.ensures.0 told), λ k. c.are_between.ensures.1 (b.1 k))
