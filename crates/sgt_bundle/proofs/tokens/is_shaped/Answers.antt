use Rattle.sgt_bundle.specs.Line.{is_certificate_object}
use Rattle.sgt_bundle.proofs.Shown.{shape_read}
use Rattle.sgt_bundle.proofs.tokens.is_shaped.Goals as goal

pub returns-in-None : goal.returns-in-None
returns-in-None c =
    λ _. shape_read c.args.text.now is_certificate_object c.in_ok-reader.reader c.certificate.new.reader
    c.in_ok-reader.ensures.ok c.in-Some.ensures c.in-None.ensures.value.0
