use Rattle.std.proofs.Common.{length, refl}
use Rattle.std.proofs.lemmas.Option.{slice_get_read}
use Rattle.sgt_core_machine.proofs.Unrefused.{pledge_memory}
use Rattle.sgt_core_machine.proofs.gathering.gather_there.Goals as goal

pub returns-clause-memory : goal.returns-clause-memory
returns-clause-memory c =
    let places = c.args.places.now.items in
    let here = slice_get_read places (length places) c.args.at c.index_mut-place.result.now refl c.requires.site
    c.index_mut-place.ensures.value in
    pledge_memory c.index_mut-place.result.now.site c.args.tx c.in-Some.running.draft.touched c.gather.result
    (c.requires.may _ _ here c.in-Some.is) c.gather.ensures.refused
