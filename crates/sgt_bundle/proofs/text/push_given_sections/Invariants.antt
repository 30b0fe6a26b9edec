use Rattle.std.proofs.Common.{◌≡◌, ◌≤◌, ◌+◌, ◌++◌, All, length, map}
use Rattle.sgt_names.specs.Limits.{max_sites}
use Rattle.sgt_notation.specs.Spelling.{line_text, text_of_lines}
use Rattle.sgt_bundle.specs.Text.{sections_from, IsLog}
use Rattle.sgt_bundle.proofs.text.push_given_sections.Given as goal

-- what is written, and the text of the rest, is the text of all; and what is written is in its ranges
abbrev pub invariant-loop-log : goal.invariant-loop-log
invariant-loop-log l = record {
  few : l.site + length l.log-iterator.rest.items ≤ max_sites;
  text : l.out.items ++ text_of_lines (map line_text (sections_from l.site l.log-iterator.rest.items))
      ≡ l.fn.out.items ++ text_of_lines (map line_text (sections_from 0 l.fn.sites.items));
  in_range : All IsLog l.log-iterator.rest.items → All IsLog l.fn.sites.items;
}
