use Rattle.std.proofs.Common.{below_more, sym, ◌∙◌}
use Rattle.std.proofs.lemmas.Bool.{false≢true}
use Rattle.sgt_history_text.proofs.Tries.{probe_is, slot-within, passed_here, known_here, met_here, free_here}
use Rattle.sgt_history_text.proofs.table.place_of.Goals as goal

pub returns-then-taken-eq0 : goal.returns-then-taken-eq0
returns-then-taken-eq0 c =
    let slots = c.args.slots.now in (
      c.loop-tried.tried,
      c.loop-tried-test.true,
      probe_is slots c.args.text.now c.start_of-start.result c.loop-tried.tried c.start_of-start.ensures.is,
      free_here slots _ (slot-within slots _ c.requires.some) c.if-taken-eq0.true,
      c.loop-tried.invariant,
    )

pub is_at-requires : goal.is_at-requires
is_at-requires c =
    let slots = c.args.slots.now in
    known_here _ slots _ c.requires.known (slot-within slots _ c.requires.some) c.if-taken-eq0.false

pub returns-then-is_at : goal.returns-then-is_at
returns-then-is_at c =
    let slots = c.args.slots.now in (
      c.is_at.ensures.0 c.if-is_at.true,
      met_here c.args.names.now slots c.args.text.now c.loop-tried.tried _
          (probe_is slots c.args.text.now c.start_of-start.result c.loop-tried.tried c.start_of-start.ensures.is)
          c.loop-tried-test.true (slot-within slots _ c.requires.some) c.if-taken-eq0.false c.loop-tried.invariant,
    )

pub loop-tried-preserved : goal.loop-tried-preserved
loop-tried-preserved c =
    let slots = c.args.slots.now in
    below_more _ _ c.loop-tried.invariant
    (passed_here c.args.names.now slots c.args.text.now c.loop-tried.tried _ c.requires.known
    (probe_is slots c.args.text.now c.start_of-start.result c.loop-tried.tried c.start_of-start.ensures.is)
    (slot-within slots _ c.requires.some) c.if-taken-eq0.false (λ e. false≢true (sym c.if-is_at.false
    ∙ c.is_at.ensures.1 e)))
