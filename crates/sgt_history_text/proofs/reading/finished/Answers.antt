use Rattle.std.proofs.Common.{refl}
use Rattle.sgt_history_text.proofs.Ending.{is_reading}
use Rattle.sgt_history_text.proofs.reading.finished.Goals as goal

pub returns : goal.returns
returns c = λ w bytes ids h built spells moments.
    is_reading w bytes c.args.builder c.args.moments _ ids h c.args.builder.history.rising built spells moments refl
    c.into_names.ensures.names
    c.into_names-2.ensures.names c.into_names-3.ensures.names refl refl c.into_names-4.ensures.names
