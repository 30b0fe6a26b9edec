use Rattle.sgt_draw.proofs.Begun.{begun-more}
use Rattle.sgt_draw.proofs.canvas.Canvas.put_one.Goals as goal

pub invariant_of-self : goal.invariant_of-self
invariant_of-self c =
    begun-more _ _ c.args.part.now _ _ _ c.self.invariant (rw c.in-Markup.is c.as_bytes.ensures.value)
    c.extend_from_slice.ensures.items

pub invariant_of-self-in-Name : goal.invariant_of-self-in-Name
invariant_of-self-in-Name c =
    begun-more _ _ c.args.part.now _ _ _ c.self.invariant
    (rw (c.in-Name.is, c.as_slice.ensures.value) c.in_ok-text-in-Name.ensures.escaped)
    c.extend_from_slice-in-Name.ensures.items

pub invariant_of-self-in-Number : goal.invariant_of-self-in-Number
invariant_of-self-in-Number c =
    begun-more _ _ c.args.part.now _ _ _ c.self.invariant
    (rw (c.in-Number.is, c.as_slice-in-Number.ensures.value) c.in_ok-text-in-Number.ensures)
    c.extend_from_slice-in-Number.ensures.items
