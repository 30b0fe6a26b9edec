use Rattle.std.proofs.Common.{◌≡◌, ◌≤◌, ◌<◌, ◌+◌, ◌++◌, ◌∙◌, [], ◌∷◌, ap, sym, arith, append_assoc, append-nil}
use Rattle.sgt_serial.specs.private.Grouped.{entries_in}
use Rattle.sgt_serial.proofs.Spans.{none-in, next-in}
use Rattle.sgt_serial.proofs.operations.Operations.of.Goals as goal

pub loop-place-init : goal.loop-place-init
loop-place-init c =
    ap (λ es. es ++ entries_in c.args.logs.now c.args.self.now c.span-span.result.from c.span-span.result.to)
    c.new-own.ensures.items
    ∙ c.span-span.ensures.entries c.args.logs.now c.requires

pub loop-place-preserved : goal.loop-place-preserved
loop-place-preserved c =
    let logs = c.args.logs.now in
    let o = c.args.self.now in
    let place = c.loop-place.place in
    let to = c.span-span.result.to in
    let own = c.loop-place.own.items in
    let e = c.at-site.result in
    let within : place < to = omega arith in
    let start : place ≤ place = omega arith in
    ap (λ es. es ++ entries_in logs o (place + 1) to) c.in_ok-push.ensures.items
    ∙ append_assoc own (e ∷ []) (entries_in logs o (place + 1) to)
    ∙ ap (λ es. own ++ es) (sym (next-in logs o place to e within (c.at-site.ensures place start))) ∙ c.loop-place.invariant

pub returns : goal.returns
returns c =
    let logs = c.args.logs.now in
    let o = c.args.self.now in
    let place = c.loop-place.place in
    let to = c.span-span.result.to in
    let own = c.loop-place.own.items in
    let end : place ≡ to = omega arith in
    sym (append-nil own) ∙ ap (λ es. own ++ es) (sym (ap (λ n. entries_in logs o n to) end ∙ none-in logs o to))
    ∙ c.loop-place.invariant
