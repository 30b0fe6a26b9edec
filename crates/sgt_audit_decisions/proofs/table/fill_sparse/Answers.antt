use Rattle.std.proofs.Common.{ℕ, Some, sym, ap, ◌∙◌, cond}
use Rattle.std.specs.Ordering.{nat_cmp, is_eq}
use Rattle.std.specs.BTreeMap.{get}
use Rattle.sgt_names.proofs.Lists.{element_at}
use Rattle.sgt_audit_decisions.proofs.Loops.{answered-no, answered-yes}
use Rattle.sgt_audit_decisions.proofs.Tables.{told-as, none-entered, entered, decided-twice, whole-table, whole-once, empty-map, map-here, map-others}
use Rattle.sgt_audit_decisions.specs.declared.table.Placed.{Placed}
use Rattle.sgt_names.proofs.Elements.{is_some-some, is_some-none}
use Rattle.sgt_audit_decisions.proofs.table.fill_sparse.Goals as goal

pub loop-number-init : goal.loop-number-init
loop-number-init c =
    none-entered c.args.decisions.now (get nat_cmp c.args.places.now) (empty-map c.args.places.now c.requires)

pub returns-then-is_some-clause-once : goal.returns-then-is_some-clause-once
returns-then-is_some-clause-once c =
    let map = c.loop-number.places in
    let had = is_some-some c.in_ok-insert.field-0 (sym c.is_some.ensures ∙ c.if-is_some.true) in
    answered-no (decided-twice c.args.decisions.now c.loop-number.number had.0 c.index-decisions-number.result
    (get nat_cmp map) (element_at _ _ _ c.loop-number-test.true c.index-decisions-number.is)
    (ap (get nat_cmp map) (sym c.tx.ensures) ∙ sym c.in_ok-insert.ensures.old ∙ had.1)
    c.loop-number.invariant)

pub loop-number-preserved : goal.loop-number-preserved
loop-number-preserved c =
    let map = c.loop-number.places in
    let i = c.loop-number.number in
    let told : Placed ℕ = record { number = i; outcome = c.outcome_of.result } in
    let updated = λ (q : ℕ). c.in_ok-insert.ensures.updates.0 q
    ∙ ap (λ k. cond (is_eq (nat_cmp k q)) (Some told) (get nat_cmp map q)) c.tx.ensures in
    entered c.args.decisions.now i c.index-decisions-number.result (get nat_cmp map) (get nat_cmp c.insert.new.self)
    (element_at _ _ _ c.loop-number-test.true c.index-decisions-number.is)
    (ap (get nat_cmp map) (sym c.tx.ensures) ∙ sym c.in_ok-insert.ensures.old
    ∙ is_some-none c.in_ok-insert.field-0 (sym c.is_some.ensures ∙ c.if-is_some.false))
    (map-here map c.insert.new.self _ told updated ∙ ap (told-as i) c.outcome_of.ensures)
    (map-others map c.insert.new.self _ told updated)
    c.loop-number.invariant

pub returns-clause-once : goal.returns-clause-once
returns-clause-once c =
    answered-yes (whole-once c.args.decisions.now c.loop-number.number (get nat_cmp c.loop-number.places)
    c.loop-number-test.false c.loop-number.invariant)

pub returns-clause-table : goal.returns-clause-table
returns-clause-table c = λ _. whole-table c.args.decisions.now c.loop-number.number (get nat_cmp c.loop-number.places)
    c.loop-number-test.false c.loop-number.invariant
