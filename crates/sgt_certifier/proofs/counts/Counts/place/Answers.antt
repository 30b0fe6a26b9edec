use Rattle.std.proofs.Common.{◌<◌, refl, arith, length}
use Rattle.std.proofs.lemmas.Option.{slice_get_read}
use Rattle.sgt_certifier.proofs.Counting.{has-row, on-err, placed-err, placed-ok, placed-widens, same-widens, widens-more}
use Rattle.sgt_certifier.proofs.counts.Counts.place.Goals as goal

pub returns-in_err-open-clause-widens : goal.returns-in_err-open-clause-widens
returns-in_err-open-clause-widens c = same-widens _ _ c.open.ensures.same

pub returns-in_err-open-clause-err : goal.returns-in_err-open-clause-err
returns-in_err-open-clause-err c = on-err c.from_residual.result _ (λ has.
    let row = has-row c.args.self.now c.args.site c.args.item has in
    absurd (omega (arith, row, c.in_err-open.ensures.err)))

pub returns-clause-widens : goal.returns-clause-widens
returns-clause-widens c =
    let mid = c.open.new.self in
    let place = c.number.ensures.is in
    let within : c.number.result < length mid.rows.items = omega (arith, place, c.in_ok-open.ensures.ok) in
    let at = slice_get_read mid.rows.items (length mid.rows.items) _ _ refl within c.index_mut.ensures.value in
    widens-more c.args.self.now mid _ (same-widens _ _ c.open.ensures.same)
    (placed-widens mid _ c.args.site c.number.result c.args.item _ c.place.new.self place at refl c.place.ensures.same
    c.place.ensures.kept)

pub returns-clause-ok : goal.returns-clause-ok
returns-clause-ok c =
    let mid = c.open.new.self in
    let place = c.number.ensures.is in
    let within : c.number.result < length mid.rows.items = omega (arith, place, c.in_ok-open.ensures.ok) in
    let at = slice_get_read mid.rows.items (length mid.rows.items) _ _ refl within c.index_mut.ensures.value in
    placed-ok mid.rows.items c.args.site c.number.result c.args.item _ c.place.new.self place at c.place.result
    c.place.ensures.ok

pub returns-clause-err : goal.returns-clause-err
returns-clause-err c =
    let mid = c.open.new.self in
    let place = c.number.ensures.is in
    let within : c.number.result < length mid.rows.items = omega (arith, place, c.in_ok-open.ensures.ok) in
    let at = slice_get_read mid.rows.items (length mid.rows.items) _ _ refl within c.index_mut.ensures.value in
    placed-err c.place.result c.args.self.now mid c.args.site c.number.result c.args.item _ place at
    (same-widens _ _ c.open.ensures.same) c.place.ensures.err
