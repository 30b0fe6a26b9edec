use Rattle.std.proofs.Common.{refl}
use Rattle.sgt_serve.proofs.Ends.{handed_out, lost_so, unhanded}
use Rattle.sgt_serve.proofs.ending.hand_out.Goals as goal

pub returns-in-Ok-keep : goal.returns-in-Ok-keep
returns-in-Ok-keep g c =
    handed_out c.args.core c.in-Ok.text.items c.as_slice.result.now c.in-Ok-keep.field-0 _ _ c.in-Ok.ensures.text
    c.in-Ok.ensures.idle c.as_slice.ensures.value c.in-Ok-keep.ensures.handed c.in-Ok-keep.ensures.answers refl

pub returns : goal.returns
returns g c d stands =
    lost_so c.in-Err.fault c.lost.result d _ _ c.lost.ensures c.in-Err.ensures.handed c.in-Err.ensures.answers refl

pub returns-in_default : goal.returns-in_default
returns-in_default g c = unhanded c.args.core _ _ refl refl c.note.ensures
