use Rattle.std.proofs.Common.{ap, ◌∙◌, arith, length, length-append}
use Rattle.sgt_history_text.proofs.Cut.{texts_push, rise_push}
use Rattle.sgt_history_text.proofs.names.Names.push.Goals as goal

pub invariant_of-self-2 : goal.invariant_of-self-2
invariant_of-self-2 c =
    let end = c.len.ensures ∙ c.extend_from_slice.new.self.ok.0 in
    rw (c.push_reserved.ensures.items, c.reserve.ensures.items, end)
    (rise_push _ _ 0 c.self.inside.ends.items c.self.invariant
    (rw c.in_ok-extend_from_slice.ensures.items
    (omega (arith, length-append c.self.inside.bytes.items c.args.text.now))))

pub returns-clause-ok : goal.returns-clause-ok
returns-clause-ok c =
    let end = c.len.ensures ∙ c.extend_from_slice.new.self.ok.0 in
    rw (
      c.push_reserved.ensures.items,
      c.reserve.ensures.items,
      c.in_ok-extend_from_slice.ensures.items,
      ← c.self.view_is,
    )
    (texts_push 0 _ c.self.inside.ends.items c.self.inside.bytes.items c.args.text.now c.self.invariant (end
    ∙ ap length c.in_ok-extend_from_slice.ensures.items))
