use Rattle.std.proofs.Common.{◌≡◌, ◌≢◌, Some, take}
use Rattle.sgt_names.specs.Log.{value_after}
use Rattle.sgt_explain_lines.specs.Values.{entries_of, HadUntil}
use Rattle.sgt_explain_lines.proofs.values.last_had.Given as goal

abbrev pub invariant-loop-logged : goal.invariant-loop-logged
invariant-loop-logged l = record {
  value : Some l.made.value ≡ value_after (Some l.fn.first.value) (entries_of (take l.logged-index l.entries)) l.item;
  until : l.made.value ≢ l.value
      → HadUntil (Some l.fn.first.value) (take l.logged-index l.entries) l.item l.value l.last;
}
