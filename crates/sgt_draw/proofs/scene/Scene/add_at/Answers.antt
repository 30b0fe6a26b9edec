use Rattle.std.proofs.Common.{◌≡◌, ◌<◌, ◌≤◌, Contains, All, arith, length, refl, subst, sym}
use Rattle.std.specs.Prelude.{Some, slice_get}
use Rattle.std.proofs.lemmas.List.Elements.{All-push}
use Rattle.std.proofs.lemmas.Option.{slice_get_read, slice_get_within}
use Rattle.sgt_names.proofs.Places.{Contains-from_at}
use Rattle.sgt_draw.proofs.scene.Scene.add_at.Goals as goal

pub returns-in_ok-push-in-Some-clause-others : goal.returns-in_ok-push-in-Some-clause-others
returns-in_ok-push-in-Some-clause-others c = λ all.
    let committed = c.args.committed.now in
    let lt : c.args.place < length committed = c.in-Some.ensures.lookup.3.0 in
    let there : slice_get committed c.args.place ≡ Some c.in-Some.one.now =
    slice_get_read committed (length committed) c.args.place c.in-Some.one.now refl lt c.in-Some.ensures.lookup.1 in
    subst (All (Contains committed)) (sym c.in_ok-push-in-Some.ensures.items)
    (All-push (Contains committed) _ c.in-Some.one.now all
    (Contains-from_at committed c.args.place c.in-Some.one.now there))

pub returns-in-None-clause-own : goal.returns-in-None-clause-own
returns-in-None-clause-own c = λ one at.
    let past : length c.args.committed.now ≤ c.args.place = c.in-None.ensures.lookup.3 in
    let within = slice_get_within c.args.committed.now c.args.place one at in absurd (omega (arith, past, within))
