use Rattle.std.proofs.Common.{◌≡◌, All, [], ◌∷◌, ◌++◌, length, sym, ap, ◌∙◌, subst, inl, arith}
use Rattle.std.specs.Prelude.{◌||◌}
use Rattle.std.specs.List.{flat_map}
use Rattle.std.proofs.lemmas.List.{map-append, append-nil}
use Rattle.std.proofs.lemmas.List.Concat.{flat_map-append}
use Rattle.std.proofs.lemmas.List.Elements.{All-head, All-tail}
use Rattle.crossbeam_channel.specs.Claims.{view}
use Rattle.crossbeam_channel.specs.Ends.{sends_on}
use Rattle.sgt_workers.specs.Answers.{jobs_of}
use Rattle.sgt_workers.specs.Queue.{IsEnded}
use Rattle.sgt_workers.specs.declared.ticket.Done.{Done}
use Rattle.sgt_workers.specs.declared.queue.Hold.{Hold}
use Rattle.sgt_workers.specs.declared.worker.Report.{Report}
use Rattle.sgt_names.proofs.Elements.{or_right}
use Rattle.sgt_workers.proofs.workers.collect.Goals as goal

pub join-requires : goal.join-requires
join-requires g c =
    let P : Report g.row.S.Denot → Type 0 = λ w. IsEnded (sends_on c.args.sender.now) w.pass (jobs_of w.dones.items) in
    let here : P c.in-Some.report =
    All-head P c.in-Some.report _ (subst (All P) c.in-Some.ensures.steps.0 c.loop-report.invariant.rest) in
    record {
      seats = (c.loop-report.invariant.seat, here.0);
      sends = c.loop-report.invariant.sent.0 ∙ c.requires.sends;
      out = omega (arith, here.3, c.loop-report.invariant.out, ap length c.in-Some.ensures.steps.0);
    }

pub loop-report-preserved : goal.loop-report-preserved
loop-report-preserved g c =
    let P : Report g.row.S.Denot → Type 0 = λ w. IsEnded (sends_on c.args.sender.now) w.pass (jobs_of w.dones.items) in
    let x = c.in-Some.report in
    let so_far = c.loop-report.invariant in
    let all = c.loop-report.all.items in
    let seen = c.loop-report.yielded in
    let rest = subst (All P) c.in-Some.ensures.steps.0 so_far.rest in
    let here : P x = All-head P x _ rest in
    let appended : c.append.new.self.items ≡ all ++ x.dones.items = c.in_ok-append.ensures.items in
    let pushed : c.push.new.self.items ≡ c.loop-report.states.items ++ x.state ∷ [] = c.in_ok-push.ensures.items in
    let both = c.join.ensures.both in
    let flat : flat_map (λ (w : Report g.row.S.Denot). w.dones.items) (seen ++ x ∷ []) ≡ flat_map
    (λ (w : Report g.row.S.Denot). w.dones.items) seen ++ x.dones.items =
    flat_map-append (λ (w : Report g.row.S.Denot). w.dones.items) seen (x ∷ [])
    ∙ ap (λ l. flat_map (λ (w : Report g.row.S.Denot). w.dones.items) seen ++ l) (append-nil x.dones.items) in
    let jobs : jobs_of (all ++ x.dones.items) ≡ jobs_of all ++ jobs_of x.dones.items =
    map-append (λ (d : Done). d.job) all x.dones.items in
    record {
      dones = appended ∙ ap (λ l. l ++ x.dones.items) so_far.dones ∙ sym flat;
      states = pushed ∙ ap (λ l. l ++ x.state ∷ []) so_far.states
          ∙ sym (map-append (λ (w : Report g.row.S.Denot). w.state) seen (x ∷ []));
      seat = c.join.ensures.seat;
      taken = ap (λ (h : Hold). h.taken) both ∙ ap (λ l. l ++ (view x.pass).taken) so_far.taken
          ∙ ap (λ l. jobs_of all ++ l) (sym here.2) ∙ sym (ap jobs_of appended ∙ jobs);
      sent = (ap (λ (h : Hold). h.sends) both ∙ so_far.sent.0, ap (λ (h : Hold). h.sent) both ∙ so_far.sent.1);
      out = omega (arith, ap (λ (h : Hold). h.out) both, here.3, so_far.out, ap length c.in-Some.ensures.steps.0);
      stopped = inl (ap (λ (h : Hold). h.stopped) both ∙ ap (λ b. (view c.loop-report.pass).stopped || b) here.1
          ∙ or_right (view c.loop-report.pass).stopped);
      rest = All-tail P x _ rest;
    }
