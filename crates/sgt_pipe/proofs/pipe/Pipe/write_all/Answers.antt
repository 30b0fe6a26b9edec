use Rattle.std.proofs.Common.{◌≡◌, ◌++◌, ◌∙◌, List, sym, ap, subst, take, arith, append_assoc}
use Rattle.std.proofs.Math.Seq.{take-add}
use Rattle.std.specs.Io.KnownBytes.{Appends}
use Rattle.sgt_names.proofs.Devices.{appends_on, tail_whole}
use Rattle.sgt_pipe.specs.Acts.{WritesAll}
use Rattle.sgt_pipe.proofs.pipe.Pipe.write_all.Goals as goal

pub writes-preserved : goal.writes-preserved
writes-preserved g c =
    let n = c.in_ok-at.field-0 in
    let bytes = c.args.bytes.now in
    let e = c.in_ok-at.ensures in
    let wrote =
    subst (λ t. WritesAll (take n t) (g.W.Sink.holds c.writes.self.writer)
    (g.W.Sink.holds c.write.new.self.writer) c.writes.self.history.written c.write.new.self.history.written)
    (tail_whole bytes c.writes.at) e.wrote in
    let was = c.writes.invariant.wrote in
    let first = c.args.self.now.history.written in
    record {
      within = omega (arith, e.count);
      wrote = (
        subst (Appends _ _) (sym (take-add c.writes.at n bytes)) (appends_on _ _ _ _ _ was.0 wrote.0),
        wrote.1 ∙ (ap (λ ws. ws ++ take n (Rattle.std.proofs.Common.drop c.writes.at bytes)) was.1
            ∙ (append_assoc first _ _ ∙ ap (λ ts. first ++ ts) (sym (take-add c.writes.at n bytes)))),
      );
      quiet = e.fails ∙ c.writes.invariant.quiet;
      given = e.given ∙ c.writes.invariant.given;
      waits = e.waits ∙ c.writes.invariant.waits;
      reader = e.reader ∙ c.writes.invariant.reader;
      refusals = e.refusals ∙ c.writes.invariant.refusals;
    }
