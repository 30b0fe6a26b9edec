use Rattle.std.proofs.Common.{◌∙◌, ap, arith}
use Rattle.std.proofs.lemmas.List.{length-map}
use Rattle.sgt_bundle.specs.Text.{text_of}
use Rattle.sgt_core_machine.specs.Machine.{parts_of}
use Rattle.sgt_core_machine.proofs.TouchedSites.{few_sites}
use Rattle.sgt_core_machine.proofs.Bundles.{bundle_is}
use Rattle.sgt_core_machine.proofs.machine.Machine.into_text.Goals as goal

pub records_text-requires : goal.records_text-requires
records_text-requires c =
    let s = c.requires in
    let few = few_sites (parts_of c.args.self) s.0 s.1 in
    omega (arith, few, c.in-Ok.ensures.many)

pub returns-in-Ok-records_text-clause-ok : goal.returns-in-Ok-records_text-clause-ok
returns-in-Ok-records_text-clause-ok c = λ d s.
    let m = parts_of c.args.self in
    c.in-Ok-records_text.ensures
    ∙ ap text_of (bundle_is m d c.in-Ok-into_certificate.certificate _ c.len-count.result s
    c.in-Ok-into_certificate.ensures (omega (arith, c.len-count.ensures)) c.in-Ok.ensures.logs)
