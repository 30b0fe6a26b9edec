use Rattle.std.specs.Prelude.{get_or}
use Rattle.std.proofs.lemmas.Option.{slice_get-get_or}
use Rattle.sgt_markup.proofs.Growing.{mended-next}
use Rattle.sgt_markup.proofs.mending.mended_text.Goals as goal

pub loop-byte-preserved : goal.loop-byte-preserved
loop-byte-preserved c =
    let text = c.args.text.now in
    let k = c.loop-byte.byte-index in
    mended-next text k c.loop-byte.before c.loop-byte.last (get_or text k 0) c.loop-byte.out.items
    c.push_mended.new.out.items
    (slice_get-get_or text k 0 c.loop-byte-test.true) c.loop-byte.invariant.0 c.loop-byte.invariant.1
    c.loop-byte.invariant.2 c.in_ok-push_mended.ensures
