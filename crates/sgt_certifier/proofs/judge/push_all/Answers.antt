use Rattle.std.proofs.Common.{◌++◌, ◌∷◌, [], length, map, take, get_or, sym, ap, ◌∙◌, arith, append_assoc}
use Rattle.std.proofs.lemmas.List.{length-append, length-map, length-take-le, map-append}
use Rattle.std.proofs.lemmas.Option.{slice_get-get_or}
use Rattle.sgt_arena.specs.declared.handle.Handle.{Handle}
use Rattle.sgt_names.proofs.Lists.{take_next}
use Rattle.sgt_certifier.specs.Kept.{tx_at}
use Rattle.sgt_certifier.proofs.judge.push_all.Goals as goal

pub push_reserved-requires : goal.push_reserved-requires
push_reserved-requires c =
    let f = tx_at c.args.before in
    let before = take c.loop-handle.handle-index c.args.order.now in
    omega (
      arith,
      c.requires.room,
      ap length c.loop-handle.invariant.items,
      length-append c.args.past.now.items (map f before),
      length-map before f,
      length-take-le c.loop-handle.handle-index c.args.order.now (omega (arith, c.loop-handle-test.true)),
      c.loop-handle.invariant.capacity,
      c.loop-handle-test.true,
      c.loop-handle.past.ok,
      c.args.past.now.ok,
    )

pub tx_of-requires : goal.tx_of-requires
tx_of-requires c =
    let none : Handle = record { index = 0; generation = 0 } in
    c.requires.numbers c.loop-handle.handle-index (get_or c.args.order.now c.loop-handle.handle-index none)
    (slice_get-get_or c.args.order.now c.loop-handle.handle-index none c.loop-handle-test.true)

pub loop-handle-preserved : goal.loop-handle-preserved
loop-handle-preserved c =
    let f = tx_at c.args.before in
    let n = c.loop-handle.handle-index in
    let none : Handle = record { index = 0; generation = 0 } in
    let h = get_or c.args.order.now n none in
    let here = slice_get-get_or c.args.order.now n none c.loop-handle-test.true in
    let next = ap (map f) (take_next c.args.order.now n h here) ∙ map-append f (take n c.args.order.now) (h ∷ []) in
    record {
      items = c.push_reserved.ensures.items ∙ (ap (λ z. z ++ c.tx_of.result ∷ []) c.loop-handle.invariant.items
          ∙ (append_assoc c.args.past.now.items (map f (take n c.args.order.now)) (c.tx_of.result ∷ [])
          ∙ (ap (λ t. c.args.past.now.items ++ (map f (take n c.args.order.now) ++ t ∷ [])) c.tx_of.ensures
          ∙ ap (λ z. c.args.past.now.items ++ z) (sym next))));
      capacity = c.push_reserved.ensures.capacity ∙ c.loop-handle.invariant.capacity;
    }
