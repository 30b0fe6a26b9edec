use Rattle.std.proofs.Common.{◌≡◌, ◌≤◌, ◌+◌, ◌*◌, ◌∙◌, List, ap, arith, length, refl, subst, sym}
use Rattle.std.specs.Arc.{arc_value}
use Rattle.std.proofs.Math.Nat.{mul-le-mul_right}
use Rattle.sgt_audit.specs.Verdict.{yes_of}
use Rattle.sgt_audit_workers.specs.Cut.{longest}
use Rattle.sgt_audit_workers.specs.Head.{IsHead}
use Rattle.sgt_audit_workers.specs.Reads.{reader}
use Rattle.sgt_audit_workers.specs.declared.head.Head.{Head}
use Rattle.sgt_audit_workers.specs.declared.sections.Section.{Section}
use Rattle.sgt_audit_workers.specs.private.Tallied.{IsAnswer, IsTallied, second_size}
use Rattle.sgt_audit_workers.specs.private.Texts.{HasRead}
use Rattle.sgt_audit_workers.proofs.Answered.{next-found}
use Rattle.sgt_audit_workers.proofs.Given.{if_ok_map}
use Rattle.sgt_audit_workers.proofs.Taken.{answer-more}
use Rattle.sgt_audit_workers.proofs.engine.judge_each.Goals as goal

pub loop-site-init : goal.loop-site-init
loop-site-init g c = record {
  goes = λ first left works has was. (left, works, has, was);
  counted = omega (arith, c.requires.none);
  same = record { head = refl; count = refl; most = refl };
  within = c.requires.within;
  most = refl;
}

pub judge_next-requires-clause-head : goal.judge_next-requires-clause-head
judge_next-requires-clause-head g c =
    subst (λ a. IsHead (arc_value a)) (sym c.loop-site.invariant.same.head) c.requires.head

pub judge_next-requires-clause-works : goal.judge_next-requires-clause-works
judge_next-requires-clause-works g c =
    let begins = c.requires.begins in
    let here = c.loop-site.invariant.goes begins.0 begins.1 begins.2 begins.3 begins.4 in
    (begins.0.told, here.0, here.1)

pub wait-requires-clause-works : goal.wait-requires-clause-works
wait-requires-clause-works g c =
    let begins = c.requires.begins in
    let here = c.loop-site.invariant.goes begins.0 begins.1 begins.2 begins.3 begins.4 in
    (begins.0.told, here.0, here.1)

pub loop-site-preserved : goal.loop-site-preserved
loop-site-preserved g c =
    let inv = c.loop-site.invariant in
    record {
      goes = λ first left works has was.
          let now = inv.goes first left works has was in
          let next = rw c.in-Ok.is at (c.in_ok-free.ensures.goes first now.0 now.1 now.2 now.3 inv.within) in
          let asked = c.judge_next.ensures.asked first now.0 now.2 now.3 in (
            next.0,
            next.1,
            c.read_within.ensures.read first next.0 next.2,
            c.read_within.ensures.asked first next.0 next.2 asked,
          );
      counted = omega (arith, rw c.in-Ok.is at c.in_ok-free.ensures.given, inv.counted);
      same = record {
        head = c.judge_next.ensures.same.head ∙ inv.same.head;
        count = c.judge_next.ensures.same.count
            ∙ inv.same.count;
        most = c.judge_next.ensures.same.most ∙ inv.same.most;
      };
      within = c.read_within.ensures.within (rw c.in-Ok.is at (c.in_ok-free.ensures.within inv.within));
      most = c.read_within.ensures.most ∙ c.judge_next.ensures.most ∙ inv.most;
    }

pub returns-in-Err-clause-verdict : goal.returns-in-Err-clause-verdict
returns-in-Err-clause-verdict g c first left works has was =
    let inv = c.loop-site.invariant in
    let now = reader (g.R.Source.tells c.judge_next.new.source) (g.R.Source.failures c.judge_next.new.source)
    (g.R.Source.asked c.judge_next.new.source) in
    let here = inv.goes first left works has was in
    let answer = rw c.in-Err.is at (c.in_ok-free.ensures.goes first here.0 here.1 here.2 here.3 inv.within) in
    let head = c.judge_next.ensures.same.head ∙ inv.same.head in
    let count = c.judge_next.ensures.same.count ∙ inv.same.count in
    let most = c.judge_next.ensures.same.most ∙ inv.same.most ∙ sym c.requires.within.most in
    subst (λ m. IsAnswer (second_size (arc_value c.args.workers.now.head)) first now
    (2 * c.args.workers.now.count * longest m) c.in-Err.verdict) most
    (subst (λ n. IsAnswer (second_size (arc_value c.args.workers.now.head)) first now
    (2 * n * longest c.judge_next.new.workers.most) c.in-Err.verdict) count
    (subst (λ a. IsAnswer (second_size (arc_value a)) first now
    (2 * c.judge_next.new.workers.count * longest c.judge_next.new.workers.most) c.in-Err.verdict) head answer))

pub returns-in-Some-clause-verdict : goal.returns-in-Some-clause-verdict
returns-in-Some-clause-verdict g c first left works has was =
    let inv = c.loop-site.invariant in
    let now = reader (g.R.Source.tells c.loop-site.source) (g.R.Source.failures c.loop-site.source)
    (g.R.Source.asked c.loop-site.source) in
    let here = inv.goes first left works has was in
    let same = c.in_ok-verdict.ensures.same in
    let w = c.wait.new.self in
    let found = rw c.in-Some.is at (c.in_ok-verdict.ensures.ends first.told here.0 here.1) in
    let answer = next-found (second_size (arc_value w.head)) (length c.loop-site.workers.running.items) first now
    here.0 c.loop-site.ahead.items c.loop-site.text w c.in-Some.verdict found (inv.within.most
    ∙ sym same.most) here.2 here.3 (omega (arith, inv.within.held, same.count)) in
    let head = same.head ∙ inv.same.head in
    let count = same.count ∙ inv.same.count in
    let most = same.most ∙ inv.same.most ∙ sym c.requires.within.most in
    subst (λ m. IsAnswer (second_size (arc_value c.args.workers.now.head)) first now
    (2 * c.args.workers.now.count * longest m) c.in-Some.verdict) most
    (subst (λ n. IsAnswer (second_size (arc_value c.args.workers.now.head)) first now (2 * n * longest w.most)
    c.in-Some.verdict) count
    (subst (λ a. IsAnswer (second_size (arc_value a)) first now (2 * w.count * longest w.most) c.in-Some.verdict) head
    answer))

pub returns-clause-verdict : goal.returns-clause-verdict
returns-clause-verdict g c first left works has was =
    let inv = c.loop-site.invariant in
    let here = inv.goes first left works has was in
    let same = c.in_ok-verdict.ensures.same in
    let w = c.wait.new.self in
    let h = arc_value c.args.workers.now.head in
    let from_head : arc_value w.head ≡ h = ap (λ a. arc_value a) (same.head ∙ inv.same.head) in
    let tallied =
    subst (λ (k : Head). IsTallied k first.told here.0 w.tally) from_head
    (rw c.in_default.is at (c.in_ok-verdict.ensures.ends first.told here.0 here.1)) in
    let all = rw c.in_default.is at c.in_ok-verdict.ensures.all in
    let each : w.tally.whole ≡ h.certificate.sites =
    omega (
      arith,
      all,
      inv.counted,
      c.loop-site-test.false,
      c.requires.head.sites,
      ap (λ (k : Head). k.sites) c.deref.ensures,
    ) in
    let was_read = reader (g.R.Source.tells c.loop-site.source) (g.R.Source.failures c.loop-site.source)
    (g.R.Source.asked c.loop-site.source) in
    let has_read = subst (λ (ss : List Section). HasRead first here.0 ss c.loop-site.text was_read)
    (sym c.as_slice.ensures.value) here.2 in
    let yes = c.yes_to-yes.ensures
    ∙ ap yes_of (c.decisions.ensures.same ∙ ap (λ (k : Head). k.certificate.decisions) (c.deref-2.ensures
    ∙ ap (λ a. arc_value a) inv.same.head)) in
    let answer = c.at_end.ensures.verdict h first here.0 has_read tallied each yes here.3 in
    let now = reader (g.R.Source.tells c.at_end.new.source) (g.R.Source.failures c.at_end.new.source)
    (g.R.Source.asked c.at_end.new.source) in
    let fewer : (length c.as_slice.result.now + 1) * longest c.loop-site.text.most ≤ 2 * c.args.workers.now.count
    * longest c.loop-site.text.most =
    mul-le-mul_right (longest c.loop-site.text.most)
    (omega (arith, inv.within.held, ap length c.as_slice.ensures.value, inv.same.count)) in
    if_ok_map c.at_end.result _ _ answer
    (λ v is. answer-more (second_size h) ((length c.as_slice.result.now + 1) * longest c.loop-site.text.most)
    (2 * c.args.workers.now.count * longest c.args.text.now.most) first now v is
    (omega (arith, fewer, ap (λ m. 2 * c.args.workers.now.count * longest m) inv.most)))

pub returns-in_err-free-clause-asked : goal.returns-in_err-free-clause-asked
returns-in_err-free-clause-asked g c first left works has was =
    let here = c.loop-site.invariant.goes first left works has was in
    c.judge_next.ensures.asked first here.0 here.2 here.3

pub returns-in-Err-clause-asked : goal.returns-in-Err-clause-asked
returns-in-Err-clause-asked g c first left works has was =
    let here = c.loop-site.invariant.goes first left works has was in
    c.judge_next.ensures.asked first here.0 here.2 here.3

pub returns-in_err-verdict-clause-asked : goal.returns-in_err-verdict-clause-asked
returns-in_err-verdict-clause-asked g c first left works has was =
    let here = c.loop-site.invariant.goes first left works has was in
    here.3

pub returns-in-Some-clause-asked : goal.returns-in-Some-clause-asked
returns-in-Some-clause-asked g c first left works has was =
    let here = c.loop-site.invariant.goes first left works has was in
    here.3

pub returns-clause-asked : goal.returns-clause-asked
returns-clause-asked g c first left works has was =
    let here = c.loop-site.invariant.goes first left works has was in
    let was_read = reader (g.R.Source.tells c.loop-site.source) (g.R.Source.failures c.loop-site.source)
    (g.R.Source.asked c.loop-site.source) in
    let has_read = subst (λ (ss : List Section). HasRead first here.0 ss c.loop-site.text was_read)
    (sym c.as_slice.ensures.value) here.2 in
    c.at_end.ensures.asked first here.0 has_read here.3
