use Rattle.std.proofs.Common.{◌+◌, ◌++◌, Some, drop, sym, ap, ◌∙◌, arith, append_assoc}
use Rattle.std.specs.Prelude.{string_bytes}
use Rattle.std.proofs.lemmas.List.{append-nil, drop_all}
use Rattle.sgt_names.proofs.Lists.{element_at, drop_next}
use Rattle.sgt_explain_transaction.specs.Dealings.{one_text, own_text}
use Rattle.sgt_explain_transaction.proofs.dealings.push_own.Goals as goal

pub loop-one-preserved : goal.loop-one-preserved
loop-one-preserved c =
    let o = c.one-item.result in
    let i = c.loop-one.one-index in
    let own = c.args.own.now in
    let out = string_bytes c.loop-one.out in
    let last = c.loop-one.last in
    let rest = own_text (Some o.site) (drop (i + 1) own) in
    ap (λ t. t ++ rest) c.in_ok-push_one_own.ensures ∙ append_assoc out (one_text last o) rest
    ∙ ap (λ os. out ++ own_text last os) (sym (drop_next own i o (element_at own i o (omega arith) c.one-item.is)))
    ∙ c.loop-one.invariant

pub returns : goal.returns
returns c =
    let out = string_bytes c.loop-one.out in
    let last = c.loop-one.last in
    sym (append-nil out)
    ∙ ap (λ os. out ++ own_text last os) (sym (drop_all c.loop-one.one-index c.args.own.now (omega arith)))
    ∙ c.loop-one.invariant
