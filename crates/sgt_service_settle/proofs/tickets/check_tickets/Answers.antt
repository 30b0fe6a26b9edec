use Rattle.std.proofs.Common.{◌≡◌, ◌∙◌, length, arith, None, Some}
use Rattle.sgt_service_settle.specs.Settled.{Run}
use Rattle.sgt_service_settle.specs.private.Tickets.{IsRunOf, is_decision}
use Rattle.std.specs.Prelude.{count_by}
use Rattle.sgt_service_settle.proofs.Telling.{NoStray, NoTwo, NoMissing, NoDisorder, no_stray, no_two, no_disorder, are_tickets, first_stray_told, first_two_told, first_missing_told, first_unordered_told, stray_of, order_of, count_in_run, decisions_of_run, run_of, is_run_of}
use Rattle.sgt_service_settle.proofs.tickets.check_tickets.Goals as goal

pub returns-in-Some-clause-err : goal.returns-in-Some-clause-err
returns-in-Some-clause-err c r is =
    first_stray_told r c.in-Some.number (stray_of r c.args.history.now c.args.dones.now (Some c.in-Some.number) is
    (rw c.in-Some.is at c.first_stray.ensures))

pub returns-in-Some-first_doubled-clause-err : goal.returns-in-Some-first_doubled-clause-err
returns-in-Some-first_doubled-clause-err c r is =
    let good : NoStray r =
    no_stray r (stray_of r c.args.history.now c.args.dones.now None is
    (rw c.in_default.is at c.first_stray.ensures)) in
    let k = c.in-Some-first_doubled.number in
    let found = rw c.in-Some-first_doubled.is at c.first_doubled.ensures.some in
    let here = count_in_run r c.args.history.now c.args.dones.now k is in
    first_two_told r k good (omega (arith, found.0, here))
    (λ j lt. let le = found.1 j lt in let there = count_in_run r c.args.history.now c.args.dones.now j is in
    omega (arith, le, there))

pub returns-in-Some-first_missing-clause-err : goal.returns-in-Some-first_missing-clause-err
returns-in-Some-first_missing-clause-err c r is =
    let good : NoStray r =
    no_stray r (stray_of r c.args.history.now c.args.dones.now None is
    (rw c.in_default.is at c.first_stray.ensures)) in
    let many : length r.certifier.state.rulings ≡ count_by is_decision c.args.history.now =
    decisions_of_run r c.args.history.now c.args.dones.now is in
    let few = rw c.in_default-first_doubled.is at c.first_doubled.ensures.none in
    let two : NoTwo r =
    no_two r good (λ k low. let le = few k (omega (arith, low, many, c.decisions_in-decisions.ensures)) in
    let here = count_in_run r c.args.history.now c.args.dones.now k is in omega (arith, le, here)) in
    let k = c.in-Some-first_missing.number in
    let found = rw c.in-Some-first_missing.is at c.first_missing.ensures.some in
    let here = count_in_run r c.args.history.now c.args.dones.now k is in
    first_missing_told r k good two (omega (arith, found.0, many, c.decisions_in-decisions.ensures)) (here ∙ found.1)
    (λ j lt. let le = found.2 j lt in let there = count_in_run r c.args.history.now c.args.dones.now j is in
    omega (arith, le, there))

pub returns-in-Some-first_unordered-clause-err : goal.returns-in-Some-first_unordered-clause-err
returns-in-Some-first_unordered-clause-err c r is =
    let good : NoStray r =
    no_stray r (stray_of r c.args.history.now c.args.dones.now None is
    (rw c.in_default.is at c.first_stray.ensures)) in
    let many : length r.certifier.state.rulings ≡ count_by is_decision c.args.history.now =
    decisions_of_run r c.args.history.now c.args.dones.now is in
    let few = rw c.in_default-first_doubled.is at c.first_doubled.ensures.none in
    let two : NoTwo r =
    no_two r good (λ k low. let le = few k (omega (arith, low, many, c.decisions_in-decisions.ensures)) in
    let here = count_in_run r c.args.history.now c.args.dones.now k is in omega (arith, le, here)) in
    let each = rw c.in_default-first_missing.is at c.first_missing.ensures.none in
    let missing : NoMissing r = λ k low. let le =
    each k (omega (arith, low, many, c.decisions_in-decisions.ensures)) in let here =
    count_in_run r c.args.history.now c.args.dones.now k is in omega (arith, le, here) in
    let job = c.in-Some-first_unordered.job in
    first_unordered_told r job good two missing (order_of r c.args.history.now c.args.dones.now (Some job) is
    (rw c.in-Some-first_unordered.is at c.first_unordered.ensures))

pub returns-clause-ok : goal.returns-clause-ok
returns-clause-ok c =
    let r : Run = run_of c.args.history.now c.args.dones.now in
    let is : IsRunOf r c.args.history.now c.args.dones.now = is_run_of c.args.history.now c.args.dones.now in
    let good : NoStray r =
    no_stray r (stray_of r c.args.history.now c.args.dones.now None is
    (rw c.in_default.is at c.first_stray.ensures)) in
    let many : length r.certifier.state.rulings ≡ count_by is_decision c.args.history.now =
    decisions_of_run r c.args.history.now c.args.dones.now is in
    let few = rw c.in_default-first_doubled.is at c.first_doubled.ensures.none in
    let two : NoTwo r = no_two r good (λ k low. few k (omega (arith, low, many, c.decisions_in-decisions.ensures))) in
    let each = rw c.in_default-first_missing.is at c.first_missing.ensures.none in
    let missing : NoMissing r = λ k low. each k (omega (arith, low, many, c.decisions_in-decisions.ensures)) in
    let order : NoDisorder r =
    no_disorder r (order_of r c.args.history.now c.args.dones.now None is
    (rw c.in_default-first_unordered.is at c.first_unordered.ensures)) in
    are_tickets r good two missing order
