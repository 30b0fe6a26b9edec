use Rattle.std.proofs.Common.{◌+◌, ◌*◌, List, ◌∷◌, [], arith, ap, length, refl, subst, sym, add-one}
use Rattle.std.specs.Arc.{arc_value}
use Rattle.std.proofs.Math.Nat.{suc-mul}
use Rattle.std.proofs.lemmas.List.{length-append}
use Rattle.std.specs.Prelude.{Ok}
use Rattle.sgt_audit_sections.specs.declared.judging.Judged.TheVariants.{Unfit}
use Rattle.sgt_audit_workers.specs.Cut.{longest}
use Rattle.sgt_audit_workers.specs.declared.job.Job.{Job}
use Rattle.sgt_audit_workers.specs.declared.running.Running.{Running}
use Rattle.sgt_audit_workers.specs.declared.head.Head.{Head}
use Rattle.sgt_audit_workers.specs.private.Running.{AreRunning, Will}
use Rattle.sgt_audit_workers.specs.private.Tallied.{second_size}
use Rattle.sgt_audit_workers.specs.private.Texts.{IsNextSection}
use Rattle.sgt_audit_workers.proofs.Given.{running-more}
use Rattle.sgt_audit_workers.proofs.Taken.{found-on}
use Rattle.sgt_audit_workers.proofs.workers.Workers.judge.Goals as goal

pub returns-clause-goes : goal.returns-clause-goes
returns-clause-goes g c told left next works section =
    let was = rw c.in-Ok.is at (c.in_ok-free.ensures.goes told left works) in
    let h = arc_value c.free.new.self.head in
    let most = c.free.new.self.most in
    let job : Job = record {
      alone = c.in-Ok.free.alone;
      site = c.free.new.self.tally.whole + c.len.result;
      section =
          c.args.section;
      judged = Ok Unfit;
    } in
    let given = subst (λ m. IsNextSection m left c.args.section next) (sym c.in_ok-free.ensures.same.most) section in
    record {
      middle = was.middle;
      tallied = was.tallied;
      running = subst (λ (rs : List Running). AreRunning h most was.middle c.free.new.self.tally.whole rs next)
          (sym c.in_ok-add.ensures)
          (running-more h most was.middle left next c.free.new.self.tally.whole _ c.free.new.self.running.items
          c.start-running.result job was.running refl (record {
            site = omega (arith, c.len.ensures);
            section =
                given;
          })
          (subst (λ (x : Head). Will x job c.start-running.result) c.in_ok-theirs.ensures c.start-running.ensures));
    }

pub returns-clause-given : goal.returns-clause-given
returns-clause-given g c =
    let same = rw c.in-Ok.is at c.in_ok-free.ensures.given in
    omega (
      arith,
      same,
      ap length c.in_ok-add.ensures,
      length-append c.free.new.self.running.items (c.start-running.result ∷ []),
    )

pub returns-in-Err-clause-goes : goal.returns-in-Err-clause-goes
returns-in-Err-clause-goes g c told left next works section =
    let found = rw c.in-Err.is at (c.in_ok-free.ensures.goes told left works) in
    let h = arc_value c.free.new.self.head in
    let most = c.free.new.self.most in
    let many = length c.args.self.now.running.items in
    let given = subst (λ m. IsNextSection m left c.args.section next) (sym c.in_ok-free.ensures.same.most) section in
    found-on (second_size h) (many * longest most) (longest most) ((many + 1) * longest most) told left next
    c.args.section.bytes.items c.in-Err.verdict found given.bytes (omega (arith, given.short))
    (omega (arith, suc-mul many (longest most), ap (λ k. k * longest most) (add-one many)))
