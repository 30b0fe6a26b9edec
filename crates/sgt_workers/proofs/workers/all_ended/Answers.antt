use Rattle.std.proofs.Common.{refl, inl, inr, Err, IfErr}
use Rattle.std.proofs.lemmas.List.Elements.{All-push, Contains-push}
use Rattle.sgt_workers.specs.Answers.{IsOwn}
use Rattle.sgt_workers.specs.declared.fault.PoolFail.TheVariants.{Pool}
use Rattle.sgt_workers.proofs.Ends.{one_more, pushed}
use Rattle.sgt_workers.proofs.workers.all_ended.Goals as goal

pub loop-end-preserved-then-is_err : goal.loop-end-preserved-then-is_err
loop-end-preserved-then-is_err g c =
    record {
      own = All-push (λ e. IfErr e IsOwn) c.loop-end.yielded c.in-Some.end c.loop-end.invariant.own
          (rw c.in-Ok.is tt);
      so_far = inl refl;
    }

pub loop-end-preserved-else-is_err : goal.loop-end-preserved-else-is_err
loop-end-preserved-else-is_err g c = record {
  own = All-push (λ e. IfErr e IsOwn) c.loop-end.yielded c.in-Some.end c.loop-end.invariant.own (rw c.in-Ok.is tt);
  so_far = rw (pushed c.push.result c.push.new.self.items c.loop-end.reports.items c.in-Ok.report
      c.if-is_err.ensures.value c.push.ensures.items)
      (one_more c.loop-end.fault c.loop-end.yielded c.loop-end.reports.items c.in-Some.end c.in-Ok.report c.in-Ok.is
      c.loop-end.invariant.so_far);
}

pub loop-end-preserved : goal.loop-end-preserved
loop-end-preserved g c = record {
  own = All-push (λ e. IfErr e IsOwn) c.loop-end.yielded c.in-Some.end c.loop-end.invariant.own
      (rw (c.in-Err-Pool.is, c.in-Err-Pool.field-0-is) tt);
  so_far = rw (c.in-Err-Pool.own-is, c.in-Err-Pool.is, c.in-Err-Pool.field-0-is)
      (inr (Contains-push c.loop-end.yielded (Err (Pool c.in-Err-Pool.own))));
}
