use Rattle.std.proofs.Common.{subst, sym}
use Rattle.sgt_markup.specs.Escaped.{HasNoControl}
use Rattle.sgt_markup.proofs.Controls.{escaped-no_control}
use Rattle.sgt_markup.proofs.mending.escaped_text.Goals as goal

pub returns-clause-no_control : goal.returns-clause-no_control
returns-clause-no_control c =
    subst HasNoControl (sym (search (
      c.in_ok-mended.ensures,
      c.as_slice.ensures.value,
      c.new-text.ensures.items,
      c.in_ok-push_written.ensures.written,
    ))) (escaped-no_control c.args.name.now)
