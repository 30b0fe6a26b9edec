use Rattle.std.proofs.Common.{rules}
use Rattle.std.proofs.lemmas.List.{take_rest}
use Rattle.sgt_edges.proofs.Once.{readers-drop}
use Rattle.sgt_edges.proofs.Slices.{since-slice}
use Rattle.sgt_edges.proofs.runs.readers_since.Goals as goal

pub returns-in-Some-clause-since : goal.returns-in-Some-clause-since
returns-in-Some-clause-since c =
    λ r. rw take_rest (since-slice c.args.readers.now c.args.version c.in-Some.at c.requires (search rules)
    (search rules) (search rules) r)

pub returns-in-Some-clause-apart : goal.returns-in-Some-clause-apart
returns-in-Some-clause-apart c = λ apart. rw take_rest (readers-drop _ _ apart)
