use Rattle.std.proofs.lemmas.Option.{IfSome_then}
use Rattle.sgt_bundle.proofs.Shown.{step-has}
use Rattle.sgt_bundle.proofs.tokens.step.Goals as goal

pub returns : goal.returns
returns c =
    IfSome_then c.close_object.result c.close_object.ensures
    (λ _ close. step-has c.args.reader.now c.open_object.new.reader c.one_key.new.reader c.text.new.reader
    c.one_key-2.new.reader c.text-2.new.reader c.one_key-3.new.reader c.whole.new.reader
    c.one_key-4.new.reader c.whole-2.new.reader c.close_object.new.reader c.in_ok-open_object.ensures
    c.in_ok-one_key.ensures c.in_ok-text.ensures c.in_ok-one_key-2.ensures c.in_ok-text-2.ensures
    c.in_ok-one_key-3.ensures c.in_ok-whole.ensures c.in_ok-one_key-4.ensures c.in_ok-whole-2.ensures close)
