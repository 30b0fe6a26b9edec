use Rattle.sgt_order.proofs.Reaching.{search_done, search_begins, first_begins}
use Rattle.sgt_order.proofs.search.mark_reached.Goals as goal

pub spread-requires-clause-begins : goal.spread-requires-clause-begins
spread-requires-clause-begins c p h at marked =
    first_begins c.args.dag.now.nodes.generation c.args.dag.now.order.items c.args.dag.now.edges.items _ c.args.new _
    c.args.first c.args.marks.now c.mark_from.new.marks c.requires.sound.forward c.requires.admissible
    c.requires.bare c.mark_from.ensures c.requires.least p h at marked

pub returns-clause-searched : goal.returns-clause-searched
returns-clause-searched c =
    search_done _ _ _ _ _ _ _ _ _ c.requires.sound.forward c.requires.admissible c.requires.bare c.mark_from.ensures
    c.spread.ensures

pub returns-clause-begins : goal.returns-clause-begins
returns-clause-begins c p h at marked =
    let s = search_done _ _ _ _ _ _ _ _ _ c.requires.sound.forward c.requires.admissible c.requires.bare
    c.mark_from.ensures c.spread.ensures in
    search_begins _ _ _ _ _ _ s c.args.first c.requires.least p h at marked
