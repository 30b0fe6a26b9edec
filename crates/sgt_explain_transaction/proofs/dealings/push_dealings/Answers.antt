use Rattle.std.proofs.Common.{arith, inl, refl, sym, subst, ◌∙◌}
use Rattle.std.specs.List.Sorted.{IsSorted}
use Rattle.std.proofs.lemmas.Bool.{false≢true, true≢false}
use Rattle.sgt_explain_transaction.specs.Found.{item_cmp}
use Rattle.sgt_explain_transaction.proofs.Telling.{shows-by_item, tells-dealings, tells-none, tells-own}
use Rattle.sgt_explain_transaction.proofs.dealings.push_dealings.Goals as goal

pub returns-then-has_none-clause-told : goal.returns-then-has_none-clause-told
returns-then-has_none-clause-told c = inl c.in_ok-push_str.ensures.bytes

pub returns-then-has_none-clause-all : goal.returns-then-has_none-clause-all
returns-then-has_none-clause-all c = λ lines h.
    tells-none c.args.tx lines c.in_ok-own.own.items _ _ (c.has_none.ensures.0 c.if-has_none.true)
    (c.in_ok-own.ensures.all lines h) c.in_ok-push_str.ensures.bytes

pub returns-then-has_none-clause-any : goal.returns-then-has_none-clause-any
returns-then-has_none-clause-any c = λ lines h. (
  λ any. absurd (false≢true any),
  λ some. absurd (some (sym (c.in_ok-own.ensures.all lines h) ∙ c.has_none.ensures.0 c.if-has_none.true)),
)

pub push_conflicts-requires : goal.push_conflicts-requires
push_conflicts-requires c =
    subst (IsSorted item_cmp) (sym c.as_slice-2.ensures.value) c.in_ok-sorted.ensures.rising

pub returns-clause-told : goal.returns-clause-told
returns-clause-told c =
    let own = c.in_ok-own.own.items in
    let found = c.in_ok-count.ensures in
    tells-dealings c.args.tx own c.as_slice.result.now found.0 _ _ _ _ c.in_ok-count.count c.as_slice.ensures.value
    (omega arith) c.in_ok-own.ensures.own c.in_ok-push_own_head.ensures
    (shows-by_item own c.in_ok-sorted.sorted.items c.as_slice-2.result.now found.0 _ _ _ c.as_slice-2.ensures.value
    c.in_ok-sorted.ensures found.2) c.in_ok-push_count.ensures

pub returns-clause-all : goal.returns-clause-all
returns-clause-all c = λ lines before.
    let own = c.in_ok-own.own.items in
    let found = c.in_ok-count.ensures in
    tells-own c.args.tx lines own c.as_slice.result.now found.0 _ _ _ _ c.in_ok-count.count
    (λ none. true≢false (sym (c.has_none.ensures.1 none) ∙ c.if-has_none.false)) c.as_slice.ensures.value (omega arith)
    (c.in_ok-own.ensures.all lines before) (found.1 lines before) c.in_ok-push_own_head.ensures
    (shows-by_item own c.in_ok-sorted.sorted.items c.as_slice-2.result.now found.0 _ _ _ c.as_slice-2.ensures.value
    c.in_ok-sorted.ensures found.2) c.in_ok-push_count.ensures

pub returns-clause-any : goal.returns-clause-any
returns-clause-any c = λ lines h. (
  λ any none. true≢false (sym (c.has_none.ensures.1 (c.in_ok-own.ensures.all lines h ∙ none)) ∙ c.if-has_none.false),
  λ some. refl,
)
