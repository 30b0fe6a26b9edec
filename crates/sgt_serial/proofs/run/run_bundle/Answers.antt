use Rattle.std.proofs.Common.{◌≡◌, List, All, None, Err, sym, ap, ◌∙◌, subst}
use Rattle.std.proofs.lemmas.Result.{err_from_is_err_and}
use Rattle.sgt_bundle.specs.Certificate.{by_rank}
use Rattle.sgt_bundle.specs.declared.certificate.Certificate.{Certificate}
use Rattle.sgt_serial.specs.declared.report.SiteValue.{SiteValue}
use Rattle.sgt_serial.specs.declared.report.SerialFail.TheVariants.{Differs}
use Rattle.sgt_serial.specs.Difference.{Has, IsFirstWithout}
use Rattle.sgt_serial.specs.private.Values.{store_of}
use Rattle.sgt_serial.proofs.Running.{same-fail, same-tx, same-site, same-item}
use Rattle.sgt_serial.proofs.Bundles.{differs-bundle, differs-final, agrees-bundle}
use Rattle.sgt_serial.proofs.run.run_bundle.Goals as goal

pub returns-in_err-runs-clause-differs : goal.returns-in_err-runs-clause-differs
returns-in_err-runs-clause-differs c tx s x e =
    let b = c.args.bundle.now in
    let sites = c.as_slice-sites.result.now in
    let logs : sites ≡ b.sites = c.as_slice-sites.ensures.value ∙ c.in_ok-logs.ensures ∙ c.sites.ensures.logs in
    let txs = c.as_slice-2.result.now in
    let values = c.in_ok-store.store in
    let order : txs ≡ by_rank b.certificate.decisions =
    c.as_slice-2.ensures.value ∙ c.in_ok-order.ensures
    ∙ ap by_rank (c.as_slice.ensures ∙ ap (λ (k : Certificate). k.decisions) c.certificate.ensures) in
    let passed = err_from_is_err_and c.from_residual-in_err-runs.result c.from_residual-in_err-runs.ensures.1 in
    let here =
    c.in_err-runs.ensures.differs tx s x
    (same-fail c.in_err-runs.field-0.0 (Differs tx s x) (ap Err (sym passed.2) ∙ sym passed.1 ∙ e)) in
    differs-bundle b sites txs values logs order c.in_ok-store.ensures tx here.0 s x here.1 here.2

pub returns-in-Some-clause-differs : goal.returns-in-Some-clause-differs
returns-in-Some-clause-differs c tx s x e =
    let b = c.args.bundle.now in
    let sites = c.as_slice-sites.result.now in
    let logs : sites ≡ b.sites = c.as_slice-sites.ensures.value ∙ c.in_ok-logs.ensures ∙ c.sites.ensures.logs in
    let txs = c.as_slice-2.result.now in
    let values = c.in_ok-store.store in
    let finals = c.in_ok-finals.finals.items in
    let other = c.in-Some.other in
    let order : txs ≡ by_rank b.certificate.decisions =
    c.as_slice-2.ensures.value ∙ c.in_ok-order.ensures
    ∙ ap by_rank (c.as_slice.ensures ∙ ap (λ (k : Certificate). k.decisions) c.certificate.ensures) in
    let last = store_of c.run_all.new.store in
    let first = subst (λ (listed : List SiteValue). IsFirstWithout (Has last) listed other) c.as_slice-3.ensures.value
    c.in-Some.ensures in
    differs-final b sites txs values logs order c.in_ok-store.ensures last finals
    c.in_ok-runs.ensures.as_logged c.in_ok-runs.ensures.after c.in_ok-finals.ensures other tx s x
    (same-tx None tx other.site s other.item x e) (same-site None tx other.site s other.item x e)
    (same-item None tx other.site s other.item x e) first

pub returns-clause-agrees : goal.returns-clause-agrees
returns-clause-agrees c =
    let b = c.args.bundle.now in
    let sites = c.as_slice-sites.result.now in
    let logs : sites ≡ b.sites = c.as_slice-sites.ensures.value ∙ c.in_ok-logs.ensures ∙ c.sites.ensures.logs in
    let txs = c.as_slice-2.result.now in
    let values = c.in_ok-store.store in
    let finals = c.in_ok-finals.finals.items in
    let order : txs ≡ by_rank b.certificate.decisions =
    c.as_slice-2.ensures.value ∙ c.in_ok-order.ensures
    ∙ ap by_rank (c.as_slice.ensures ∙ ap (λ (k : Certificate). k.decisions) c.certificate.ensures) in
    let last = store_of c.run_all.new.store in
    agrees-bundle b sites txs values logs order c.in_ok-store.ensures last finals
    c.in_ok-runs.ensures.as_logged c.in_ok-runs.ensures.after c.in_ok-finals.ensures
    (subst (All (Has last)) c.as_slice-3.ensures.value c.in_default.ensures)
