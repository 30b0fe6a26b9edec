use Rattle.std.proofs.Common.{◌≡◌, ◌<◌, ◌-◌, Some, All, [], ◌∷◌, ◌++◌, length, refl, sym, ap, ◌∙◌, subst, arith}
use Rattle.std.specs.Prelude.{slice_get}
use Rattle.std.proofs.lemmas.List.{map-append}
use Rattle.std.proofs.lemmas.List.Elements.{All-push}
use Rattle.std.proofs.lemmas.List.Quantifiers.{all_pairs_push}
use Rattle.crossbeam_channel.specs.Claims.{view}
use Rattle.sgt_workers.specs.Answers.{jobs_of, IsAnswer}
use Rattle.sgt_workers.specs.Queue.{IsFilled}
use Rattle.sgt_workers.specs.declared.ticket.Done.{Done}
use Rattle.sgt_workers.specs.declared.queue.Hold.{Hold}
use Rattle.sgt_workers.proofs.Told.{below_jobs}
use Rattle.sgt_workers.proofs.Runs.{runs_push}
use Rattle.sgt_workers.proofs.workers.fn.run_workers.one.Goals as goal

pub loop-preserved : goal.loop-preserved
loop-preserved g c =
    let P = IsAnswer (g.W.Work.answers c.captures.work.now) c.captures.scripts.now in
    let done = c.in-Ok.done in
    let told = c.in-Some-take_job.ensures in
    let number = c.in-Some-take_job.job.number in
    let said = c.in-Ok.ensures in
    let before = c.loop.dones.items in
    let same : c.push_reserved.new.self.items ≡ before ++ done ∷ [] =
    rw c.push_reserved.ensures.items (rw c.in_ok-reserve.ensures.items refl) in
    let right : P done =
    subst (λ n. (0 < n) × ((x : g.row.C.Denot) × (slice_get c.captures.scripts.now (n - 1) ≡ Some x)
    × g.W.Work.answers c.captures.work.now n x done)) (sym said.job)
    (told.rising.0, (c.in-Some-take_job.job.script.now, told.script, said.answer)) in
    let below : All (λ n. n < number) (jobs_of before) =
    subst (All (λ n. n < number)) (sym c.loop.invariant.taken) told.rising.1 in
    let jobs : jobs_of (before ++ done ∷ []) ≡ jobs_of before ++ done.job ∷ [] =
    map-append (λ (d : Done). d.job) before (done ∷ []) in
    let D = g.W.Work.does c.captures.work.now in
    let script = c.in-Some-take_job.job.script.now in
    let at : slice_get c.captures.scripts.now (done.job - 1) ≡ Some script =
    subst (λ n. slice_get c.captures.scripts.now (n - 1) ≡ Some script) (sym said.job) told.script in
    let did : D c.loop.state done.job script done c.work.new.state =
    subst (λ n. D c.loop.state n script done c.work.new.state) (sym said.job) said.does in
    let with_it : jobs_of (before ++ done ∷ []) ≡ (view c.take_job.new.pass).taken =
    jobs ∙ ap (λ l. l ++ done.job ∷ []) c.loop.invariant.taken ∙ ap (λ n. (view c.loop.pass).taken ++ n ∷ []) said.job
    ∙ ap (λ (h : Hold). h.taken) (sym told.job) in
    let laws = g.met.W.Work g.world.𝓛 g.world.𝓜 g.world.𝓡 ((λ s x. x), (λ x. x), (λ x. x), λ x. x) in
    record {
      can = tt;
      ends = tt;
      seat = told.seat;
      filled = subst (λ (h : Hold). IsFilled (length c.captures.scripts.now) h) (sym told.job) c.loop.invariant.filled;
      lent = ap (λ (h : Hold). h.lent) told.job ∙ c.loop.invariant.lent;
      taken = rw same with_it;
      keeps = laws.keeps_on _ _ _ c.loop.invariant.keeps said.keeps;
      answers = rw same (All-push P before done c.loop.invariant.answers right);
      runs = rw same (runs_push D c.captures.scripts.now _ _ _ done before c.loop.invariant.runs (script, at, did));
      rising = rw same (all_pairs_push (λ (d e : Done). d.job < e.job) before done c.loop.invariant.rising
          (λ k d h. omega (arith, below_jobs number before below k d h, said.job)));
    }

pub returns-in_default : goal.returns-in_default
returns-in_default g c =
    let same : c.reserve.new.self.items ≡ c.loop.dones.items = c.in_ok-reserve.ensures.items in
    let i = c.loop.invariant in
    let stop = c.in_default.ensures.stop in
    record {
      taken = rw same (
        c.in_default.ensures.seat,
        ap (λ (h : Hold). h.stopped) stop,
        i.taken
            ∙ sym (ap (λ (h : Hold). h.taken) stop),
        ap (λ (h : Hold). h.lent) stop ∙ i.lent,
      );
      keeps = i.keeps;
      answers = rw same i.answers;
      reports = (rw same i.rising, rw same i.runs);
      fault = tt;
    }
