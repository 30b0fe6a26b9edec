use Rattle.std.proofs.Common.{ℕ, List, Option, None, Some, get_or, length, refl, sym, ap, ◌≡◌, ◌<◌, ◌∙◌, arith}
use Rattle.std.proofs.Math.ListN.{set, length-set}
use Rattle.std.proofs.lemmas.List.{get_or_default}
use Rattle.sgt_names.proofs.Places.{All_at}
use Rattle.sgt_names.proofs.Lists.{element_at}
use Rattle.sgt_bundle.specs.Certificate.{decided_tx}
use Rattle.sgt_audit_decisions.proofs.Loops.{answered-no, answered-yes}
use Rattle.sgt_audit_decisions.proofs.Tables.{told-as, none-entered, entered, decided-twice, whole-table, whole-once, empty-places, place-here, place-others}
use Rattle.sgt_audit_decisions.specs.declared.table.Placed.{Placed}
use Rattle.sgt_names.proofs.Elements.{is_some-some, is_some-none}
use Rattle.sgt_audit_decisions.proofs.table.fill_dense.Goals as goal

pub loop-number-init : goal.loop-number-init
loop-number-init c = record {
  room = refl;
  first = none-entered c.args.decisions.now (λ tx. get_or c.args.places.now.items tx None)
      (empty-places c.args.places.now.items c.requires.fresh);
}

-- what stands at the place of the decision's transaction
stands : (xs : List (Option (Placed ℕ))) (k tx : ℕ) (x : Option (Placed ℕ)) → k ≡ tx → k < length xs
    → x ≡ get_or xs k x → get_or xs tx None ≡ x
stands xs k tx x same lt is = ap (λ i. get_or xs i None) (sym same) ∙ get_or_default xs k None x lt ∙ sym is

pub returns-then-is_some-clause-once : goal.returns-then-is_some-clause-once
returns-then-is_some-clause-once c =
    let xs = c.loop-number.places.items in
    let d = c.index-decisions-number.result in
    let at = element_at _ _ _ c.loop-number-test.true c.index-decisions-number.is in
    let same : c.number-place.result ≡ decided_tx d = c.number-place.ensures.is ∙ c.tx.ensures in
    let room : decided_tx d < length c.args.places.now.items =
    All_at (λ d. decided_tx d < length c.args.places.now.items) c.args.decisions.now c.loop-number.number d
    c.requires.room at in
    let kept = c.loop-number.invariant.room in
    let lt : c.number-place.result < length xs = omega arith in
    let had = is_some-some c.index.result.now (sym c.is_some.ensures ∙ c.if-is_some.true) in
    answered-no (decided-twice c.args.decisions.now c.loop-number.number had.0 d (λ tx. get_or xs tx None) at
    (stands xs c.number-place.result (decided_tx d) c.index.result.now same lt c.index.ensures ∙ had.1)
    c.loop-number.invariant.first)

pub loop-number-preserved : goal.loop-number-preserved
loop-number-preserved c =
    let xs = c.loop-number.places.items in
    let i = c.loop-number.number in
    let k = c.number-place.result in
    let d = c.index-decisions-number.result in
    let at = element_at _ _ _ c.loop-number-test.true c.index-decisions-number.is in
    let same : k ≡ decided_tx d = c.number-place.ensures.is ∙ c.tx.ensures in
    let room : decided_tx d < length c.args.places.now.items =
    All_at (λ d. decided_tx d < length c.args.places.now.items) c.args.decisions.now i d c.requires.room at in
    let kept = c.loop-number.invariant.room in
    let lt : k < length xs = omega arith in
    let told : Placed ℕ = record { number = i; outcome = c.outcome_of.result } in
    record {
      room = length-set xs k (Some told) ∙ kept;
      first = entered c.args.decisions.now i d (λ tx. get_or xs tx None) (λ tx. get_or (set xs k (Some told)) tx None)
          at
          (stands xs k (decided_tx d) c.index.result.now same lt c.index.ensures
          ∙ is_some-none c.index.result.now (sym c.is_some.ensures ∙ c.if-is_some.false))
          (ap (λ tx. get_or (set xs k (Some told)) tx None) (sym same) ∙ place-here xs k told lt
          ∙ ap (told-as i) c.outcome_of.ensures)
          (λ q apart. place-others xs k told q (λ e. apart (sym same ∙ e)))
          c.loop-number.invariant.first;
    }

pub returns-clause-once : goal.returns-clause-once
returns-clause-once c =
    answered-yes
    (whole-once c.args.decisions.now c.loop-number.number (λ tx. get_or c.loop-number.places.items tx None)
    c.loop-number-test.false c.loop-number.invariant.first)

pub returns-clause-table : goal.returns-clause-table
returns-clause-table c =
    λ _. whole-table c.args.decisions.now c.loop-number.number (λ tx. get_or c.loop-number.places.items tx None)
    c.loop-number-test.false c.loop-number.invariant.first
