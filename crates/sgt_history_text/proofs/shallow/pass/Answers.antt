use Rattle.json.specs.Value.{value_view}
use Rattle.sgt_history_text.specs.Shallow.{leaf}
use Rattle.sgt_history_text.proofs.Seen.{front_read}
use Rattle.sgt_history_text.proofs.shallow.pass.Goals as goal

pub returns-clause-passes : goal.returns-clause-passes
returns-clause-passes c =
    let read = rw c.in-Some.is at c.in_ok-value.ensures.read in
    front_read leaf c.args.reader.now c.leaf.new.reader (value_view c.in-Some.value) read
