use Rattle.std.proofs.Common.{◌∙◌, ap, List}
use Rattle.std.proofs.lemmas.Result.{IfOk-weaker}
use Rattle.sgt_check.specs.Told.{spelled, text_at}
use Rattle.sgt_check_kept.specs.Text.{kept_text}
use Rattle.sgt_check_kept.specs.declared.link.Link.{Link}
use Rattle.sgt_check_kept.proofs.answer.links_text.Goals as goal

pub returns : goal.returns
returns c =
    let s = c.args.setting.now in
    IfOk-weaker c.cycle_text.result _ _
    (λ text is h by alone cycle. record {
      faultless = by.faultless;
      alone = alone;
      lines = c.args.cycle.now;
      cycle = cycle;
      links = c.in_ok-links.links.items;
      along = c.in_ok-links.ensures h by cycle.is;
      text_is = is
          ∙ ap (λ (links : List Link). kept_text (spelled s.naming) (text_at s.sessions) links)
          c.as_slice.ensures.value;
    }) c.cycle_text.ensures
