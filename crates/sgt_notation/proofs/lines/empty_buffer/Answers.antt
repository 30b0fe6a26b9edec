use Rattle.sgt_notation.proofs.lines.empty_buffer.Goals as goal

pub returns : goal.returns
returns c = c.vec.ensures.len
