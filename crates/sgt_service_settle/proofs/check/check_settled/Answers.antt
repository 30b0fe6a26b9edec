use Rattle.std.proofs.Common.{refl, sym, subst}
use Rattle.sgt_service_settle.specs.Settled.{Run}
use Rattle.sgt_service_settle.specs.Fault.{IsUnsettled, LeavesActive}
use Rattle.sgt_service_settle.proofs.Whole.{rulings_told, tickets_told, site_told, version_told, begins_told, handed_on}
use Rattle.sgt_service_settle.proofs.check.check_settled.Goals as goal

pub returns-in-Err-clause-err : goal.returns-in-Err-clause-err
returns-in-Err-clause-err c =
    let r : Run = record {
      certifier = c.args.certifier.now;
      sites = c.args.sites.now;
      counts = c.args.counts.now;
      dones = c.args.dones.now;
    } in
    c.in-Err.ensures.err r
    (record {
      told =
          rulings_told _ _ c.args.certifier.now.state c.history-history.ensures.replays c.history-history.ensures.is;
      answers = refl;
    })

pub returns-in_err-differing-clause-err : goal.returns-in_err-differing-clause-err
returns-in_err-differing-clause-err c =
    let r : Run = record {
      certifier = c.args.certifier.now;
      sites = c.args.sites.now;
      counts = c.args.counts.now;
      dones = c.args.dones.now;
    } in
    let tickets = tickets_told _ _ c.args.certifier.now.state c.args.dones.now c.history-history.ensures.replays
    c.history-history.ensures.is c.in_default.ensures.ok in
    let at = c.in_err-differing.ensures.err in
    handed_on c.from_residual.result r c.from_residual.ensures.1 (
      tickets,
      (at.0, record { counted = at.1; before = at.2 }),
    )

pub returns-in-Some-clause-err : goal.returns-in-Some-clause-err
returns-in-Some-clause-err c =
    let r : Run = record {
      certifier = c.args.certifier.now;
      sites = c.args.sites.now;
      counts = c.args.counts.now;
      dones = c.args.dones.now;
    } in
    let tickets = tickets_told _ _ c.args.certifier.now.state c.args.dones.now c.history-history.ensures.replays
    c.history-history.ensures.is c.in_default.ensures.ok in
    let found = rw c.in-Some.is at c.in_ok-differing.ensures.ok in
    site_told r c.in-Some.site tickets found.0 found.1

pub returns-in-Some-first_uncounted-clause-err : goal.returns-in-Some-first_uncounted-clause-err
returns-in-Some-first_uncounted-clause-err c =
    let r : Run = record {
      certifier = c.args.certifier.now;
      sites = c.args.sites.now;
      counts = c.args.counts.now;
      dones = c.args.dones.now;
    } in
    let tickets = tickets_told _ _ c.args.certifier.now.state c.args.dones.now c.history-history.ensures.replays
    c.history-history.ensures.is c.in_default.ensures.ok in
    let sites = rw c.in_default-differing.is at c.in_ok-differing.ensures.ok in
    let found = rw c.in-Some-first_uncounted.is at c.first_uncounted.ensures in
    version_told r c.in-Some-first_uncounted.site tickets sites found.0 found.1

pub returns-clause-ok : goal.returns-clause-ok
returns-clause-ok c = record {
  kept = record { replays = c.history-history.ensures.replays; sites = c.know_sites.ensures };
  tickets = tickets_told _ _ c.args.certifier.now.state c.args.dones.now c.history-history.ensures.replays
      c.history-history.ensures.is c.in_default.ensures.ok;
  begun = rw c.history-history.ensures.is at c.in_default-check_begins.ensures.ok;
  sites = rw c.in_default-differing.is at c.in_ok-differing.ensures.ok;
  versions = rw c.in_default-first_uncounted.is at c.first_uncounted.ensures;
}

pub returns-in-Err-clause-kept : goal.returns-in-Err-clause-kept
returns-in-Err-clause-kept c = record { replays = c.history-history.ensures.replays; sites = c.know_sites.ensures }

pub returns-in_err-differing-clause-kept : goal.returns-in_err-differing-clause-kept
returns-in_err-differing-clause-kept c = record {
  replays = c.history-history.ensures.replays;
  sites =
      c.know_sites.ensures;
}

pub returns-in-Some-clause-kept : goal.returns-in-Some-clause-kept
returns-in-Some-clause-kept c = record { replays = c.history-history.ensures.replays; sites = c.know_sites.ensures }

pub returns-in-Some-first_uncounted-clause-kept : goal.returns-in-Some-first_uncounted-clause-kept
returns-in-Some-first_uncounted-clause-kept c = record {
  replays = c.history-history.ensures.replays;
  sites =
      c.know_sites.ensures;
}

pub returns-clause-kept : goal.returns-clause-kept
returns-clause-kept c = record { replays = c.history-history.ensures.replays; sites = c.know_sites.ensures }

pub returns-in-Err-check_begins-clause-err : goal.returns-in-Err-check_begins-clause-err
returns-in-Err-check_begins-clause-err c =
    let r : Run = record {
      certifier = c.args.certifier.now;
      sites = c.args.sites.now;
      counts = c.args.counts.now;
      dones = c.args.dones.now;
    } in
    let tickets = tickets_told _ _ c.args.certifier.now.state c.args.dones.now c.history-history.ensures.replays
    c.history-history.ensures.is c.in_default.ensures.ok in
    let sites = rw c.in_default-differing.is at c.in_ok-differing.ensures.ok in
    let versions = rw c.in_default-first_uncounted.is at c.first_uncounted.ensures in
    let found = c.in-Err-check_begins.ensures.err in
    subst (IsUnsettled r) (sym found.1)
    (begins_told r found.0 tickets sites versions
    (subst (λ h. LeavesActive h c.args.dones.now found.0) c.history-history.ensures.is found.2))
