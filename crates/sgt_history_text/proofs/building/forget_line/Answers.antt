use Rattle.std.proofs.Common.{refl}
use Rattle.sgt_history_text.proofs.Grown.{built_forgotten}
use Rattle.sgt_history_text.proofs.building.forget_line.Goals as goal

pub returns : goal.returns
returns c = λ ids h begun built.
    built_forgotten c.args.builder.now _ ids h begun built refl refl refl c.reopen.ensures.closed c.reopen.ensures.open
