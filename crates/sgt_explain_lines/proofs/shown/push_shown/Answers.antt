use Rattle.std.proofs.Common.{◌++◌, codes, get_or, take, arith, ap, ◌∙◌, append_assoc}
use Rattle.std.specs.Prelude.{string_bytes}
use Rattle.std.proofs.lemmas.Option.{slice_get-get_or}
use Rattle.sgt_explain_lines.specs.Told.{shown_bytes}
use Rattle.sgt_explain_lines.proofs.Numbering.{on-ok}
use Rattle.sgt_explain_lines.proofs.Showing.{cut-off}
use Rattle.sgt_explain_lines.proofs.shown.push_shown.Goals as goal

pub returns-then-width-gt-COLUMNS : goal.returns-then-width-gt-COLUMNS
returns-then-width-gt-COLUMNS c =
    let text = c.args.text.now in
    let i = c.loop-byte.byte-index in
    let b = get_or text i 0 in
    let so_far = c.loop-byte.invariant in
    let width = so_far.width in
    let one = c.width_of.ensures in
    let sum = c.saturating_add-width.ensures in
    on-ok c.push_dots.result _ _ (λ e. (
      shown_bytes (take i text) ++ codes "..",
      cut-off text i b (slice_get-get_or text i 0 (omega arith)) (omega (arith, width, so_far.fits))
          (omega (arith, width, one, sum, c.if-width-gt-COLUMNS.true)),
      e ∙ ap (λ t. t ++ codes "..") so_far.shown ∙ append_assoc (string_bytes c.args.out.now) (shown_bytes (take i text)) (codes ".."),
    )) c.push_dots.ensures
