use Rattle.sgt_names.proofs.Stored.{name-from_parts, stored-name, stored-bytes}
use Rattle.sgt_names.proofs.item.Item.new.Goals as goal

pub invariant_of-result : goal.invariant_of-result
invariant_of-result c =
    let is = name-from_parts c.args.bytes.now (c.is_first.ensures.0 c.if-not-is_first.false)
    (c.keep_name.ensures.is.0 c.if-not-keep_name.false) in
    stored-name c.args.bytes.now c.keep_name.new.padded is (c.keep_name.ensures.kept c.if-not-keep_name.false)

pub returns : goal.returns
returns c =
    let is = name-from_parts c.args.bytes.now (c.is_first.ensures.0 c.if-not-is_first.false)
    (c.keep_name.ensures.is.0 c.if-not-keep_name.false) in
    (is, stored-bytes c.args.bytes.now c.keep_name.new.padded is (c.keep_name.ensures.kept c.if-not-keep_name.false))
