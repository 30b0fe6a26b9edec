use Rattle.std.proofs.Common.{◌≡◌, ◌++◌, take}
use Rattle.sgt_draw.specs.Parts.{parts_text}
use Rattle.sgt_draw.proofs.canvas.Canvas.write.Given as goal

abbrev pub invariant-loop-part : goal.invariant-loop-part
invariant-loop-part l = l.self ≡ l.initial.self ++ parts_text (take l.part-index l.parts)
