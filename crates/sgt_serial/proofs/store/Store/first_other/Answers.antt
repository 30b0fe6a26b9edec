use Rattle.std.proofs.Common.{sym, ◌∙◌, arith}
use Rattle.sgt_names.proofs.Lists.{element_at, All-next, All-whole}
use Rattle.sgt_serial.specs.Difference.{Has}
use Rattle.sgt_serial.specs.private.Values.{store_of}
use Rattle.sgt_serial.proofs.Changes.{is-value, other-value}
use Rattle.sgt_serial.proofs.store.Store.first_other.Goals as goal

pub loop-value-preserved : goal.loop-value-preserved
loop-value-preserved c =
    let a = c.value-item.result in
    let has = sym c.get.ensures ∙ is-value c.get.result a.value (sym c.if-ne.ensures) in
    let at = element_at c.args.values.now c.loop-value.value-index a (omega arith) c.value-item.is in
    All-next (Has (store_of c.args.self.now)) c.args.values.now c.loop-value.value-index a at has c.loop-value.invariant

pub returns-then-ne : goal.returns-then-ne
returns-then-ne c =
    let a = c.value-item.result in
    record {
      place = c.loop-value.value-index;
      at = element_at c.args.values.now c.loop-value.value-index a (omega arith) c.value-item.is;
      before = c.loop-value.invariant;
      without = λ has. other-value c.get.result a.value (sym c.if-ne.ensures) (c.get.ensures ∙ has);
    }

pub returns : goal.returns
returns c = All-whole (Has (store_of c.args.self.now)) c.args.values.now c.loop-value.value-index
    (omega arith) c.loop-value.invariant
