use Rattle.std.proofs.Common.{Some, sym, ap, ◌∙◌}
use Rattle.std.proofs.lemmas.Option.{slice_get-get_or}
use Rattle.std.proofs.lemmas.Slice.Eq.{bytes_eq-Decides}
use Rattle.sgt_compact.proofs.entries.is_at.Goals as goal

pub returns-in-Some : goal.returns-in-Some
returns-in-Some c equal =
    let found = c.in-Some.ensures.lookup in
    let item = c.in-Some.named.now in
    slice_get-get_or c.args.items.now c.args.number item found.3.0 ∙ ap Some (sym found.1)
    ∙ ap Some ((bytes_eq-Decides item c.args.item).0 (sym c.eq.ensures ∙ equal))
