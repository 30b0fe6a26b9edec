use Rattle.std.proofs.Common.{[], ◌∷◌, map, string_bytes, take}
use Rattle.sgt_line.specs.Names.{command_text}
use Rattle.sgt_line.specs.Parts.{bare, parts_of}
use Rattle.sgt_line.specs.private.State.{IsReadTo}
use Rattle.sgt_line.proofs.line.Line.read.Given as goal

abbrev pub invariant-loop-word : goal.invariant-loop-word
invariant-loop-word l =
    IsReadTo l.command (bare (l.name ∷ command_text l.command ∷ [])) (map string_bytes (take l.word-index l.words))
    l.before (parts_of l.line)
