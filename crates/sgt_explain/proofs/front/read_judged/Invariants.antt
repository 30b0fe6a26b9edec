use Rattle.std.proofs.Common.{◌≡◌, ◌≤◌, ◌+◌, ◌-◌, length}
use Rattle.sgt_names.specs.Limits.{most_reads}
use Rattle.sgt_explain.specs.Watched.{CameBehind, IsBehind, IsOfLastRead}
use Rattle.sgt_explain.proofs.front.read_judged.Given as goal

abbrev pub invariant-reads : goal.invariant-reads
invariant-reads g l = record {
  told : CameBehind l.initial.text.items l.text.items (g.R.Source.tells l.initial.reader) (g.R.Source.tells l.reader);
  behind : IsBehind l.watch l.text.items;
  of_last : IsOfLastRead l.initial.reader l.reader l.watch.seen (g.R.Source.last l.reader) (length l.text.items)
      (length l.initial.text.items) l.reads;
  asked : g.R.Source.asked l.reader ≡ g.R.Source.asked l.initial.reader + l.reads;
  quiet : g.R.Source.failures l.reader ≡ g.R.Source.failures l.initial.reader;
  counted : length l.initial.text.items + l.reads ≤ length l.text.items;
  few : l.reads ≤ most_reads;
  room : length l.buffer.items ≡ 65536;
}

abbrev pub decreases-reads : goal.decreases-reads
decreases-reads g l = most_reads - l.reads
