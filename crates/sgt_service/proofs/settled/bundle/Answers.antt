use Rattle.std.proofs.Common.{◌≡◌, ◌∙◌, ap, arith, length, subst}
use Rattle.std.specs.List.{AllZip}
use Rattle.sgt_certifier.specs.Certifier.{certificate_of}
use Rattle.sgt_service_settle.specs.Settled.{Run}
use Rattle.sgt_service.specs.Bundle.{IsBundleOf}
use Rattle.sgt_service.proofs.Bundling.{IsSiteLog, bundle-fits, bundle-of}
use Rattle.sgt_service.proofs.settled.bundle.Goals as goal

pub unreachable-requires : goal.unreachable-requires
unreachable-requires c =
    let parts = c.settled.inside in
    let r : Run = record {
      certifier = parts.certifier;
      sites = parts.sites.items;
      counts = parts.counts.items;
      dones = parts.dones.items;
    } in
    let count : c.len-count.result ≡ length parts.sites.items = omega (arith, c.len-count.ensures, parts.sites.ok.0) in
    let certificate = c.in_ok-certificate.ensures ∙ ap (certificate_of parts.certifier.state) count in
    let logs =
    subst (λ sites. AllZip IsSiteLog sites c.in_ok-logs.logs.items) c.as_slice.ensures.value c.in_ok-logs.ensures in
    c.in-None.ensures (bundle-fits r c.in_ok-certificate.certificate c.in_ok-logs.logs.items c.settled.invariant.0
    c.history-history.ensures.replays
    c.settled.invariant.1 c.settled.invariant.2 certificate logs)

pub returns : goal.returns
returns c =
    let parts = c.settled.inside in
    let r : Run = record {
      certifier = parts.certifier;
      sites = parts.sites.items;
      counts = parts.counts.items;
      dones = parts.dones.items;
    } in
    let is : r ≡ c.args.settled.now = c.settled.view_is in
    let count : c.len-count.result ≡ length parts.sites.items = omega (arith, c.len-count.ensures, parts.sites.ok.0) in
    let certificate = c.in_ok-certificate.ensures ∙ ap (certificate_of parts.certifier.state) count in
    let logs =
    subst (λ sites. AllZip IsSiteLog sites c.in_ok-logs.logs.items) c.as_slice.ensures.value c.in_ok-logs.ensures in
    subst (λ s. IsBundleOf s c.in-Some.bundle) is
    (bundle-of r c.in_ok-certificate.certificate c.in_ok-logs.logs.items _ c.new.result c.in-Some.bundle certificate
    logs c.in-Some.is c.new.ensures)
