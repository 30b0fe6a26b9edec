use Rattle.std.proofs.Common.{◌≡◌, ◌⊎◌, ℕ, ◌≤◌, ◌+◌, ◌*◌, ◌-◌, length, take}
use Rattle.sgt_names.specs.Limits.{max_line, most_reads}
use Rattle.sgt_certify.specs.Reach.{IsJudgedTo}
use Rattle.sgt_explain.specs.Watched.{CameBehind}
use Rattle.sgt_explain_logs.specs.Taken.{IsCut}
use Rattle.sgt_explain_logs.proofs.taking.read_logs.Given as goal

abbrev pub invariant-reads : goal.invariant-reads
invariant-reads g l = record {
  told : CameBehind l.initial.text.items l.text.items (g.R.Source.tells l.initial.reader) (g.R.Source.tells l.reader);
  cut : IsCut l.cut l.text.items;
  judged : IsJudgedTo (take l.cut.lines l.text.items) l.early.judged;
  of_last : (l.reader ≡ l.initial.reader) ⊎ ((many : ℕ) × (many + g.R.Source.last l.reader ≡ length l.text.items)
      × (many ≤ l.cut.lines + max_line) × (many ≤ 16 * l.early.judged + 67108864));
  quiet : g.R.Source.failures l.reader ≡ g.R.Source.failures l.initial.reader;
  counted : length l.initial.text.items + l.reads ≤ length l.text.items;
  few : l.reads ≤ most_reads;
  room : length l.buffer.items ≡ 65536;
}

abbrev pub decreases-reads : goal.decreases-reads
decreases-reads g l = most_reads - l.reads
