use Rattle.std.proofs.Common.{sym, subst}
use Rattle.std.specs.Prelude.{string_bytes}
use Rattle.sgt_explain_lines.proofs.Numbering.{on-ok}
use Rattle.sgt_explain_decisions.specs.Placed.{ArePlaced}
use Rattle.sgt_explain_decisions.specs.Walks.{walk_shape_head, walk_shape_rule}
use Rattle.sgt_names.proofs.Elements.{ok-taken, three-parts}
use Rattle.sgt_explain_decisions.proofs.walks.push_walk_shape.Goals as goal

pub returns : goal.returns
returns c = λ flawed.
    let placed = subst (ArePlaced c.args.decisions.now) (sym c.as_slice.ensures.value) c.in_ok-placed.ensures in
    let first = rw c.in-Some.is at (c.in_ok-found.ensures.some placed) in
    let f = c.in-Some.found in
    let told = c.in_ok-push_flaw.ensures in
    on-ok c.push_str.result _ _ (λ e. (
      f,
      first,
      told.0,
      told.1,
      three-parts (string_bytes c.args.out.now) _ _ (walk_shape_head f.number f.tx) told.0 walk_shape_rule _
          c.in_ok-push_walk_head.ensures told.2 e,
    ))
    (ok-taken c.push_str.result _ _ _ c.push_str.ensures.bytes)
