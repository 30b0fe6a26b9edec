use Rattle.std.proofs.lemmas.Option.{IfSome_then}
use Rattle.sgt_bundle.proofs.Shown.{certificate-has}
use Rattle.sgt_bundle.proofs.tokens.certificate.Goals as goal

pub returns : goal.returns
returns c =
    IfSome_then c.close_object.result c.close_object.ensures
    (λ _ close. certificate-has c.args.reader.now c.open_object.new.reader c.one_key.new.reader
    c.open_array.new.reader c.decisions.new.reader c.one_key-2.new.reader c.whole.new.reader
    c.close_object.new.reader c.in_ok-open_object.ensures c.in_ok-one_key.ensures c.in_ok-open_array.ensures
    c.in_ok-decisions.ensures c.in_ok-one_key-2.ensures c.in_ok-whole.ensures close)
