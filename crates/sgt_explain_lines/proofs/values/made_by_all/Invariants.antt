use Rattle.std.proofs.Common.{◌≡◌, Some, None, take}
use Rattle.std.specs.Prelude.{fold}
use Rattle.sgt_names.specs.Log.{value_after}
use Rattle.sgt_explain_lines.specs.Values.{entries_of, latest}
use Rattle.sgt_explain_lines.proofs.values.made_by_all.Given as goal

abbrev pub invariant-loop-logged : goal.invariant-loop-logged
invariant-loop-logged l = record {
  value : Some l.made.value ≡ value_after (Some l.fn.first.value) (entries_of (take l.logged-index l.entries)) l.item;
  by : l.made.by ≡ fold (latest l.item) l.fn.first.by (take l.logged-index l.entries);
  kept : l.made.by ≡ None → l.made.value ≡ l.fn.first.value;
  listed : l.made.listed ≡ l.fn.first.listed;
}
