use Rattle.std.proofs.Common.{◌≡◌, ◌∙◌, ap, arith, inl, inr, length, refl, rules, sym, subst, vec_len}
use Rattle.std.proofs.lemmas.List.{length-map}
use Rattle.sgt_names.specs.Log.{names}
use Rattle.sgt_service.specs.Report.{EndsUnsettled, IsRunOf}
use Rattle.sgt_service.proofs.Ordering.{numbered_rise}
use Rattle.sgt_service.proofs.Reporting.{ends_unsettled, left_of}
use Rattle.sgt_service.proofs.Telling.{run_ended}
use Rattle.sgt_service.proofs.engine.settled_run.Goals as goal

pub returns-in-None-clause-run : goal.returns-in-None-clause-run
returns-in-None-clause-run g c =
    let service = c.in-Ok.opened.0 in
    let seats = c.in-Ok.opened.1 in
    let ledgers = c.requires.ledgers in
    let named : vec_len service.names ≡ length c.args.sites.now = service.names.ok.0 ∙ ap length c.in-Ok.ensures.names
    ∙ length-map c.args.sites.now names in
    subst (λ ss. IsRunOf ss (length c.args.sites.now) c.args.tries c.in-Ok-settle.settled) c.as_slice.ensures
    (left_of _ _ _ _ _ seats.items c.in_ok-dones.seats.items _ _ c.in-Ok.ensures.seats.1
    (omega (arith, seats.ok.0, c.in-Ok.ensures.seats.0, ledgers.1)) c.in_ok-dones.ensures.parts
    c.in_ok-dones.ensures.counted c.in_ok-dones.ensures.dones c.in_ok-dones.ensures.tried named
    (c.in-Ok-settle.ensures.dones.kept
    (numbered_rise 1 c.in_ok-dones.dones.items (length c.as_slice.result.now) c.in_ok-dones.ensures.dones.jobs))
    c.in-Ok-settle.ensures.sites c.in-Ok-settle.ensures.counts c.in-Ok-settle.ensures.decisions)

pub returns-in-Err-settle-clause-fault : goal.returns-in-Err-settle-clause-fault
returns-in-Err-settle-clause-fault g c =
    let service = c.in-Ok.opened.0 in
    let seats = c.in-Ok.opened.1 in
    let ledgers = c.requires.ledgers in
    let named : vec_len service.names ≡ length c.args.sites.now = service.names.ok.0 ∙ ap length c.in-Ok.ensures.names
    ∙ length-map c.args.sites.now names in
    inr (inr (inl (subst (λ ss. EndsUnsettled ss (length c.args.sites.now) c.args.tries c.in-Err-settle.fault)
    c.as_slice.ensures
    (ends_unsettled _ _ _ _ _ seats.items c.in_ok-dones.seats.items _ _ c.in-Ok.ensures.seats.1
    (omega (arith, seats.ok.0, c.in-Ok.ensures.seats.0, ledgers.1))
    c.in_ok-dones.ensures.parts c.in_ok-dones.ensures.counted c.in_ok-dones.ensures.dones c.in_ok-dones.ensures.tried
    named c.in-Err-settle.ensures.refused))))

pub returns-in-Some-clause-fault : goal.returns-in-Some-clause-fault
returns-in-Some-clause-fault g c =
    let service = c.in-Ok.opened.0 in
    let seats = c.in-Ok.opened.1 in
    let ledgers = c.requires.ledgers in
    let named : vec_len service.names ≡ length c.args.sites.now = service.names.ok.0 ∙ ap length c.in-Ok.ensures.names
    ∙ length-map c.args.sites.now names in
    let of = subst (λ ss. IsRunOf ss (length c.args.sites.now) c.args.tries c.in-Ok-settle.settled) c.as_slice.ensures
    (left_of _ _ _ _ _ seats.items c.in_ok-dones.seats.items _ c.in-Ok-settle.settled c.in-Ok.ensures.seats.1
    (omega (arith, seats.ok.0, c.in-Ok.ensures.seats.0, ledgers.1)) c.in_ok-dones.ensures.parts
    c.in_ok-dones.ensures.counted c.in_ok-dones.ensures.dones c.in_ok-dones.ensures.tried named
    (c.in-Ok-settle.ensures.dones.kept
    (numbered_rise 1 c.in_ok-dones.dones.items (length c.as_slice.result.now) c.in_ok-dones.ensures.dones.jobs))
    c.in-Ok-settle.ensures.sites c.in-Ok-settle.ensures.counts c.in-Ok-settle.ensures.decisions) in
    let began = rw (c.in-Some.is, c.sites.ensures) at c.first_other.ensures in
    inr (inr (inr (record {
      run = c.in-Ok-settle.settled;
      settled = c.in-Ok-settle.ensures.settled;
      of = of;
      number = c.in-Some.site;
      began = began;
      told = refl;
    })))

pub returns-in_err-dones-clause-fault : goal.returns-in_err-dones-clause-fault
returns-in_err-dones-clause-fault g c =
    let service = c.in-Ok.opened.0 in
    let named : vec_len service.names ≡ length c.args.sites.now =
    service.names.ok.0 ∙ ap length c.in-Ok.ensures.names ∙ length-map c.args.sites.now names in
    search (
      rules,
      c.as_slice.ensures,
      run_ended c.as_slice.result.now c.args.sites.now c.args.tries (vec_len service.sites) service.names.items
          (sym service.named ∙ named) c.in-Ok.ensures.names,
    )
