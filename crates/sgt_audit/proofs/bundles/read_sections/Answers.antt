use Rattle.sgt_audit.proofs.bundles.read_sections.Goals as goal

pub add_lines-requires-clause-here : goal.add_lines-requires-clause-here
add_lines-requires-clause-here c = c.new-place.ensures _ c.new-sections.ensures
