use Rattle.std.proofs.Common.{◌≡◌, ◌∙◌, ◌<◌, length, sym, arith, slice_index}
use Rattle.std.proofs.lemmas.Grind.{get_or_default_zero}
use Rattle.sgt_history_kept.proofs.Risings.{noted}
use Rattle.sgt_history_kept.proofs.rising.note.Goals as goal

pub returns : goal.returns
returns c = λ yes.
    let most = c.args.most.now.items in
    let session = c.args.session in
    let before = c.index-before.result.now in
    let within : session < length most = omega (arith, c.if-session-len.false, c.len.ensures, c.args.most.now.ok.0) in
    let here : slice_index most session ≡ before =
    sym (c.index-before.ensures ∙ get_or_default_zero most session before within) in
    noted most session c.args.left c.args.right c.greater.result within (omega (arith, here, c.if-before-right.false))
    (omega (arith, here, c.greater.ensures.first)) c.greater.ensures.second
