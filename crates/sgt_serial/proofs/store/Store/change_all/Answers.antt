use Rattle.std.proofs.Common.{take, sym, ap, ◌∙◌, cond, arith}
use Rattle.std.proofs.lemmas.Bool.{false≢true}
use Rattle.std.specs.Prelude.{is_some}
use Rattle.sgt_names.specs.Log.{value_with}
use Rattle.sgt_names.proofs.Lists.{element_at, All-next, take_next}
use Rattle.sgt_serial.specs.Difference.{Knows}
use Rattle.sgt_serial.specs.private.Values.{store_of, is_of, with_all}
use Rattle.sgt_serial.proofs.Changes.{with_all-next, with_all-keeps}
use Rattle.sgt_serial.proofs.store.Store.change_all.Goals as goal

pub returns-then-not-change-clause-known : goal.returns-then-not-change-clause-known
returns-then-not-change-clause-known c =
    let w = c.write-item.result in
    let first = store_of c.args.self.now in
    let so_far = c.loop-write.invariant in
    let keeps = with_all-keeps (take c.loop-write.write-index c.args.writes.now) first so_far.known w.site w.item in
    record {
      place = c.loop-write.write-index;
      at = element_at c.args.writes.now c.loop-write.write-index w (omega arith) c.write-item.is;
      before = so_far.known;
      without = λ known. false≢true (c.if-not-change.ensures.known ∙ ap is_some (so_far.after w.site w.item) ∙ keeps
          ∙ known);
    }

pub loop-write-preserved : goal.loop-write-preserved
loop-write-preserved c =
    let w = c.write-item.result in
    let first = store_of c.args.self.now in
    let so_far = c.loop-write.invariant in
    let i = c.loop-write.write-index in
    let writes = c.args.writes.now in
    let at = element_at writes i w (omega arith) c.write-item.is in
    let keeps = with_all-keeps (take i writes) first so_far.known w.site w.item in
    let known : Knows first w = sym keeps ∙ ap is_some (sym (so_far.after w.site w.item))
    ∙ sym c.if-not-change.ensures.known in
    record {
      known = All-next (Knows first) writes i w at known so_far.known;
      after = λ s x.
          c.if-not-change.ensures.after s x ∙ ap (λ o. cond (is_of s x w) (value_with o w.change) o) (so_far.after s x)
          ∙ sym (with_all-next (take i writes) w first s x)
          ∙ ap (λ ws. with_all ws first s x) (sym (take_next writes i w at));
    }
