use Rattle.std.proofs.Common.{take}
use Rattle.sgt_notation.specs.Private.{Spans}
use Rattle.sgt_history_text.proofs.plain.word_at.Given as goal

abbrev pub invariant-loop-byte : goal.invariant-loop-byte
invariant-loop-byte l = Spans l.bytes l.from (take l.byte-index l.word) l.at
