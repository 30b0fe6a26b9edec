use Rattle.std.proofs.Common.{◌≡◌, List, ◌++◌, map, ◌∙◌, ap, length}
use Rattle.sgt_notation.specs.Spelling.{line_text, text_of_lines}
use Rattle.sgt_bundle.specs.Text.{has_increments, sections_from}
use Rattle.sgt_core_machine.specs.declared.machine.Place.{Place}
use Rattle.sgt_core_machine.specs.Machine.{parts_of}
use Rattle.sgt_core_machine.specs.Cut.{finals_at, logs_at}
use Rattle.sgt_core_machine.proofs.Written.{whole_text, text_there, finals_there}
use Rattle.sgt_core_machine.proofs.machine.Machine.written.Goals as goal

pub returns-clause-text : goal.returns-clause-text
returns-clause-text c d s =
    let m = parts_of c.args.self.now in
    let same : c.as_slice-places.result.now ≡ m.places = c.as_slice-places.ensures.value in
    text_there m d c.in-Ok.certificate _ c.push_sections.new.out.items s c.in-Ok.ensures (ap length same)
    (whole_text c.in_ok-text.text.items c.push_head.new.out.items c.push_sections.new.out.items
    c.any_site_increments.result c.in-Ok.certificate (logs_at m.places) c.in_ok-text.ensures.items
    c.in_ok-push_head.ensures.text
    (c.in_ok-finals.ensures.text
    ∙ ap (λ (ps : List Place). c.push_head.new.out.items ++ text_of_lines
    (map line_text (sections_from 0 (logs_at ps)))) same)
    (c.any_site_increments.ensures ∙ ap (λ (ps : List Place). has_increments (logs_at ps)) same))

pub returns-clause-finals : goal.returns-clause-finals
returns-clause-finals c d s = c.in_ok-finals.ensures.finals
    ∙ (ap finals_at c.as_slice-places.ensures.value ∙ finals_there (parts_of c.args.self.now) d s)
