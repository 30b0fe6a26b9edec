use Rattle.std.proofs.Common.{◌≡◌, map, string_bytes, take}
use Rattle.sgt_line.specs.Parts.{bare, parts_of}
use Rattle.sgt_line.proofs.line.Line.whole.Given as goal

abbrev pub invariant-loop-word : goal.invariant-loop-word
invariant-loop-word l = parts_of l.line ≡ bare (map string_bytes (take l.word-index l.words))
