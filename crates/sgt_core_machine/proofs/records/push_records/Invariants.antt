use Rattle.std.proofs.Common.{◌≡◌, ◌≤◌, ◌+◌, ◌++◌, length, map}
use Rattle.sgt_names.specs.Limits.{max_sites}
use Rattle.sgt_notation.specs.Spelling.{line_text, text_of_lines}
use Rattle.sgt_bundle.specs.Text.{sections_from}
use Rattle.sgt_core_machine.specs.private.Records.{logs_in}
use Rattle.sgt_core_machine.proofs.records.push_records.Given as goal

-- what is written, and the text of the rest, is the text of all
abbrev pub invariant-loop-kept : goal.invariant-loop-kept
invariant-loop-kept l = record {
  few : l.site + length l.kept-iterator.rest.items ≤ max_sites;
  text : l.out.items ++ text_of_lines (map line_text (sections_from l.site (logs_in l.kept-iterator.rest.items)))
      ≡ l.fn.out.items ++ text_of_lines (map line_text (sections_from 0 (logs_in l.fn.records.items)));
}
