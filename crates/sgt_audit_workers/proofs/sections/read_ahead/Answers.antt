use Rattle.std.proofs.Common.{List, arith, refl, subst, sym, ◌∙◌}
use Rattle.std.proofs.KnownBytes.{Consumes-nil}
use Rattle.sgt_audit_workers.specs.declared.sections.Section.{Section}
use Rattle.sgt_audit_workers.specs.private.Texts.{AreAhead}
use Rattle.sgt_audit_workers.proofs.sections.read_ahead.Goals as goal

pub loop-section-init : goal.loop-section-init
loop-section-init g c = record {
  read = λ first left is. (
    left,
    subst (λ (ss : List Section). AreAhead c.args.text.now.most left ss left)
        (sym c.new-ahead.ensures.items) (Consumes-nil left),
    is,
  );
  asked = λ first left is was. was;
  few = omega (arith, c.new-ahead.ensures.len);
  most = refl;
  ready = λ drained. (drained, refl);
}

pub loop-section-preserved : goal.loop-section-preserved
loop-section-preserved g c =
    let inv = c.loop-section.invariant in
    record {
      read = λ first left is. c.read_on.ensures.read first left (inv.read first left is);
      asked = λ first left is was. c.read_on.ensures.asked first left (inv.read first left is)
          (inv.asked first left is was);
      few = omega (arith, c.read_on.ensures.few, inv.few);
      most = c.read_on.ensures.most ∙ inv.most;
      ready = λ drained.
          let was = inv.ready drained in
          let is = c.read_on.ensures.ready was.0 in
          (is.0, is.1 ∙ was.1);
    }
