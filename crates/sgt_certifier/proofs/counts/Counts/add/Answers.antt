use Rattle.std.proofs.Common.{◌+◌, ◌<◌, ◌^◌, refl, arith, length, subst}
use Rattle.std.specs.Prelude.{IsSome}
use Rattle.std.proofs.lemmas.Option.{slice_get_read}
use Rattle.sgt_certifier.specs.Row.{count_in, found_in}
use Rattle.sgt_certifier.proofs.Counting.{added-here, added-others, has-row, row-is}
use Rattle.sgt_certifier.proofs.counts.Counts.add.Goals as goal

pub index_mut-requires : goal.index_mut-requires
index_mut-requires c =
    let row = has-row c.args.self.now c.args.site c.args.item c.requires.place in
    omega (arith, row, c.number.ensures.is, c.args.self.now.rows.ok)

pub add-requires-clause-place : goal.add-requires-clause-place
add-requires-clause-place c =
    let rows = c.args.self.now.rows.items in
    let place = c.number.ensures.is in
    let row = has-row c.args.self.now c.args.site c.args.item c.requires.place in
    let within : c.number.result < length rows = omega (arith, place, row) in
    let at = slice_get_read rows (length rows) _ _ refl within c.index_mut.ensures.value in
    subst (λ r. IsSome (found_in r c.args.item)) (row-is c.args.self.now c.args.site c.number.result _ place at)
    c.requires.place

pub add-requires-clause-small : goal.add-requires-clause-small
add-requires-clause-small c =
    let rows = c.args.self.now.rows.items in
    let place = c.number.ensures.is in
    let row = has-row c.args.self.now c.args.site c.args.item c.requires.place in
    let within : c.number.result < length rows = omega (arith, place, row) in
    let at = slice_get_read rows (length rows) _ _ refl within c.index_mut.ensures.value in
    subst (λ r. count_in r c.args.item + 1 < 2 ^ 64) (row-is c.args.self.now c.args.site c.number.result _ place at)
    c.requires.small

pub returns-clause-here : goal.returns-clause-here
returns-clause-here c =
    let rows = c.args.self.now.rows.items in
    let place = c.number.ensures.is in
    let row = has-row c.args.self.now c.args.site c.args.item c.requires.place in
    let within : c.number.result < length rows = omega (arith, place, row) in
    let at = slice_get_read rows (length rows) _ _ refl within c.index_mut.ensures.value in
    added-here rows c.args.site c.number.result c.args.item _ c.add.new.self place at c.add.ensures.here

pub returns-clause-others : goal.returns-clause-others
returns-clause-others c =
    let rows = c.args.self.now.rows.items in
    let place = c.number.ensures.is in
    let row = has-row c.args.self.now c.args.site c.args.item c.requires.place in
    let within : c.number.result < length rows = omega (arith, place, row) in
    let at = slice_get_read rows (length rows) _ _ refl within c.index_mut.ensures.value in
    added-others rows c.args.site c.number.result c.args.item _ c.add.new.self place at c.add.ensures.others
