use Rattle.sgt_history_text.proofs.Ending.{told_reading}
use Rattle.sgt_history_text.proofs.reading.read_history.Goals as goal

pub returns-in-Ok-Ended-clause-told : goal.returns-in-Ok-Ended-clause-told
returns-in-Ok-Ended-clause-told g c =
    let stop = rw c.in-Ok-Ended.field-0-is at c.in-Ok-Ended.ensures.stops in
    told_reading c.args.wanted c.in_ok-moments.moments.wanted (g.R.Source.tells c.args.reader.now)
    c.read_lines.new.builder c.read_lines.new.moments
    c.finished.result c.in_ok-moments.ensures.wanted stop c.finished.ensures
