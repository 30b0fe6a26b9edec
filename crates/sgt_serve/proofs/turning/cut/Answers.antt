use Rattle.std.proofs.Common.{◌∙◌, refl}
use Rattle.sgt_serve.proofs.Turns.{takes_cut, takes_refused, takes_unkept}
use Rattle.sgt_serve.proofs.turning.cut.Goals as goal

pub returns-in-Ok-keep : goal.returns-in-Ok-keep
returns-in-Ok-keep g c =
    takes_cut c.args.core.now c.in-Ok.cut.next c.in-Ok-keep.number c.as_slice.result.now _ _
    (λ d stands. c.as_slice.ensures.value ∙ c.in-Ok.ensures.text d stands)
    c.in-Ok.ensures.next c.in-Ok.ensures.idle c.in-Ok-keep.ensures.handed c.in-Ok-keep.ensures.answers refl

pub returns-in-Err-keep : goal.returns-in-Err-keep
returns-in-Err-keep g c =
    takes_unkept c.args.core.now c.in-Err-keep.fault c.unkept.result _ _ c.in-Ok.ensures.idle c.unkept.ensures
    c.in-Err-keep.ensures.handed c.in-Err-keep.ensures.answers refl

pub returns-in-Err : goal.returns-in-Err
returns-in-Err g c =
    takes_refused c.args.core.now c.in-Err.fault _ _ _ c.in-Err.ensures.refused c.cut_fault.ensures.told refl refl
    c.cut_fault.ensures.noted
