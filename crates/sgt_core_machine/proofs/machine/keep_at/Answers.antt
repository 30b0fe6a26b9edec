use Rattle.std.proofs.Common.{Some, length, refl, ◌∙◌, ap}
use Rattle.std.proofs.lemmas.Option.{slice_get_within, slice_get_read}
use Rattle.sgt_core_machine.proofs.Finding.{ok_of}
use Rattle.sgt_core_machine.proofs.machine.keep_at.Goals as goal

pub returns : goal.returns
returns c =
    let table = c.args.table.now.items in
    let at = slice_get_read table (length table) c.args.slot c.index_mut.result.now refl
    (slice_get_within table c.args.slot _ c.requires.1) c.index_mut.ensures.value ∙ ap Some c.in-Some.is in
    record {
      before = c.in-Some.running;
      after = record { handle = c.in-Some.running.handle; draft = c.seen-kept.new.self };
      was = at;
      is = refl;
      handle = refl;
      rising = c.touched-touched.ensures.rising;
      used = c.touched-touched.ensures.used;
      draft = ok_of c.seen-kept.result c.in-Ok.field-0 c.in-Ok.is c.seen-kept.ensures.ok;
    }
