use Rattle.sgt_service_locks.proofs.Reading.{new_shows}
use Rattle.sgt_service_locks.proofs.read.keep.Goals as goal

pub returns-then-is_longer-clause-value : goal.returns-then-is_longer-clause-value
returns-then-is_longer-clause-value c =
    new_shows c.args.draft.now.touched c.seen.new.self.touched c.args.site c.args.item c.args.seen
    c.count_in-after.ensures.rising c.in-Ok.ensures.ok c.changes_show_at_their_place.ensures.there
    c.count_in-before.result c.count_in-after.result c.is_longer.result c.count_in-before.ensures.count
    c.count_in-after.ensures.count c.is_longer.ensures c.if-is_longer.true
