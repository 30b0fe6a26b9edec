use Rattle.sgt_notation.proofs.Looking.{moves_found, window_later}
use Rattle.sgt_notation.proofs.lines.Lines.look.Goals as goal

pub returns-clause-left : goal.returns-clause-left
returns-clause-left c =
    rw (
      window_later c.self.inside.start c.self.inside.end c.in_ok-found.used c.self.inside.buffer.items,
      ← c.self.view_is,
      ← c.deref.ensures.value,
    ) c.in_ok-found.ensures.left

pub returns-clause-moved : goal.returns-clause-moved
returns-clause-moved c =
    let moves = moves_found c.args.limit _ _ _ _ c.in_ok-found.found c.in_ok-found.n c.in_ok-found.ensures.looks
    c.in_ok-found.ensures.left in
    rw (
      window_later c.self.inside.start c.self.inside.end c.in_ok-found.used c.self.inside.buffer.items,
      ← c.self.view_is,
      ← c.deref.ensures.value,
    ) moves
