use Rattle.std.proofs.Common.{◌≡◌, length, refl, ap, ◌∙◌, arith}
use Rattle.std.proofs.lemmas.List.{length-append}
use Rattle.std.proofs.lemmas.List.Elements.{All-push}
use Rattle.crossbeam_channel.specs.Claims.{view, IsSeatAt}
use Rattle.crossbeam_channel.specs.Ends.{sends_on}
use Rattle.sgt_workers.specs.Queue.{newcomer, lender}
use Rattle.sgt_workers.proofs.Lists.{zip_push}
use Rattle.sgt_workers.proofs.Moves.{lender_more}
use Rattle.sgt_workers.proofs.workers.make_kits.Goals as goal

pub loop-state-preserved : goal.loop-state-preserved
loop-state-preserved g c = record {
  can = tt;
  ends = tt;
  seat = c.cut-mine.ensures.old.0;
  same = c.cut-mine.ensures.old.1 ∙ ap (lender 1) c.loop-state.invariant.same
      ∙ lender_more (view c.args.pass.now) _ _
      (omega (arith, simp length-append at (ap length c.in_ok-push.ensures.items)));
  kits = rw c.in_ok-push.ensures.items (zip_push _ _ _ _ _ c.loop-state.invariant.kits refl);
  passes = rw c.in_ok-push.ensures.items (All-push (λ k. IsSeatAt (sends_on c.args.sender.now) k.pass
      × (view k.pass ≡ newcomer (view c.args.pass.now))) _ _ c.loop-state.invariant.passes (
        c.cut-mine.ensures.new.0,
        c.cut-mine.ensures.new.1 ∙ ap newcomer c.loop-state.invariant.same,
      ));
}
