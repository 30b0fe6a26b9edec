use Rattle.std.proofs.Common.{refl, true, false}
use Rattle.sgt_check.proofs.Texts.{bare_key, quoted_key}
use Rattle.sgt_check.proofs.key.key_of.Goals as goal

pub returns-in_ok-string_bytes-in-Some : goal.returns-in_ok-string_bytes-in-Some
returns-in_ok-string_bytes-in-Some c =
    let bytes = c.in_ok-string_bytes-in-Some.field-0 in
    quoted_key c.args.text.now c.in-Some.inside.now c.in-Some.ensures.0
    (record { is_string = true; value = 0; bytes = bytes }) c.in-Some.ensures.1 refl refl
    c.in_ok-string_bytes-in-Some.ensures

pub returns-in-None : goal.returns-in-None
returns-in-None c =
    bare_key c.args.text.now (record { is_string = false; value = c.number_in.result; bytes = c.new.result })
    c.in-None.ensures refl c.number_in.ensures.fits c.new.ensures.items c.number_in.ensures.value
