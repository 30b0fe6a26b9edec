use Rattle.std.proofs.Common.{◌++◌, map, ◌∙◌, ap}
use Rattle.sgt_notation.specs.Spelling.{line_text, text_of_lines}
use Rattle.sgt_bundle.specs.Text.{section_lines}
use Rattle.sgt_bundle.specs.declared.bundle.SiteLog.{SiteLog}
use Rattle.sgt_core_machine.proofs.Bundles.{same_log, finals_are}
use Rattle.sgt_core_machine.proofs.cutting.push_place.Goals as goal

pub returns-clause-text : goal.returns-clause-text
returns-clause-text c =
    let items = c.args.place.now.site.items in
    let entries = c.args.place.now.site.entries in
    let finals = c.as_slice.ensures.value
    ∙ finals_are items entries items c.in-Ok.finals.items c.in-Ok.ensures.items c.in-Ok.ensures.values in
    c.in_ok-push_site.ensures
    ∙ ap (λ (log : SiteLog). c.args.out.now.items ++ text_of_lines (map line_text (section_lines c.args.site log)))
    (same_log _ _ _ items entries c.items.ensures.items c.log.ensures.entries finals)

pub returns-clause-finals : goal.returns-clause-finals
returns-clause-finals c =
    let items = c.args.place.now.site.items in
    let entries = c.args.place.now.site.entries in
    c.new.ensures ∙ finals_are items entries items c.in-Ok.finals.items c.in-Ok.ensures.items c.in-Ok.ensures.values
