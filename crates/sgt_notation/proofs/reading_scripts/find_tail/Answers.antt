use Rattle.std.proofs.Common.{rules}
use Rattle.sgt_notation.proofs.ScriptParts.{tail-none}
use Rattle.sgt_notation.proofs.reading_scripts.find_tail.Goals as goal

pub returns : goal.returns
returns c = search (rules, tail-none)
