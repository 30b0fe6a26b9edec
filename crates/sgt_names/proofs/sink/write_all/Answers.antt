use Rattle.std.proofs.Common.{◌∙◌, sym, subst, take, arith}
use Rattle.std.proofs.Math.Seq.{take-add}
use Rattle.std.specs.Io.KnownBytes.{Appends}
use Rattle.sgt_names.proofs.Devices.{appends_on, tail_whole}
use Rattle.sgt_names.proofs.sink.write_all.Goals as goal

pub writes-preserved : goal.writes-preserved
writes-preserved g c =
    let wrote =
    subst (λ t. Appends (g.W.Sink.holds c.writes.writer) (g.W.Sink.holds c.write.new.self)
    (take c.in_ok-at.field-0 t)) (tail_whole c.args.bytes.now c.writes.at) c.in_ok-at.ensures.bytes in (
      omega (arith, c.in_ok-at.ensures.count),
      subst (Appends _ _) (sym (take-add c.writes.at c.in_ok-at.field-0 c.args.bytes.now))
          (appends_on _ _ _ _ _ c.writes.invariant.1 wrote),
      c.in_ok-at.ensures.fails ∙ c.writes.invariant.2,
    )
