use Rattle.std.proofs.Common.{◌≡◌, ◌-◌, refl, subst, arith, Any}
use Rattle.std.specs.Prelude.{◌↔◌}
use Rattle.sgt_audit_cells.specs.private.Deeds.{IsOf}
use Rattle.sgt_audit_cells.specs.private.Linked.{chain}
use Rattle.sgt_audit_cells.specs.private.Rows.{HasMark}
use Rattle.sgt_audit_cells.proofs.Linked.{both-ways}
use Rattle.sgt_audit_cells.proofs.Rows.{any-split, followed, renamed}
use Rattle.sgt_audit_cells.proofs.Tracking.{got}
use Rattle.sgt_audit_cells.proofs.row.Row.follow.Goals as goal

pub returns-then-add : goal.returns-then-add
returns-then-add c = (
  c.requires.within,
  λ place change.
      let nodes = c.args.nodes.now in
      let node = c.in-Some.node.now in
      let there = got _ _ _ _ refl c.in-Some.ensures.lookup.0 c.in-Some.ensures.lookup.1 in
      let same : c.args.self.now.upto ≡ node.before = omega (arith, c.if-self-node.false) in
      let shows = subst (λ k. Any (IsOf place change) (chain nodes k) ↔ HasMark c.args.self.now change place) same
      (c.requires.row.1 place change) in
      let split = any-split nodes c.requires.linked c.args.last node c.requires.some there (IsOf place change) in
      both-ways (followed shows (c.add.ensures.set c.if-add.true (c.args.last - 1) place change) split)
      (renamed c.add.new.self c.args.last change place),
)
