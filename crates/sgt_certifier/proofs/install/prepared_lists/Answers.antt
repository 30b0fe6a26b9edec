use Rattle.std.proofs.Common.{◌≡◌, ◌⊎◌, ℕ, List, [], Contains, arith, subst}
use Rattle.sgt_names.specs.declared.draft.Touch.{Touch}
use Rattle.sgt_names.proofs.Lists.{element_at}
use Rattle.sgt_certifier.specs.Kept.{changed_at}
use Rattle.sgt_certifier.proofs.Changes.{listed, listed_part, listed_all}
use Rattle.sgt_certifier.proofs.install.prepared_lists.Goals as goal

pub loop-part-preserved : goal.loop-part-preserved
loop-part-preserved c =
    let whole = c.args.draft.now.touched in
    let ps = c.touched.result.1.now in
    let next = c.add_lists.new.lists.items in
    let at = element_at ps c.loop-part.part-index c.part-item.result c.loop-part-test.true c.part-item.is in
    record {
      each = c.in_ok-add_lists.ensures.each;
      all = listed_part whole ps c.loop-part.part-index c.part-item.result c.loop-part.lists.items next at
          c.in_ok-add_lists.ensures.kept
          (subst (λ (ts : List Touch). (s : ℕ) → (changed_at ts s ≡ []) ⊎ Contains next (listed whole s))
          c.touched-in-loop-part.ensures.all c.in_ok-add_lists.ensures.all) c.loop-part.invariant.all;
    }

pub returns : goal.returns
returns c = listed_all c.args.draft.now.touched c.touched.result.0.now c.touched.result.1.now c.loop-part.part-index
    c.loop-part.lists.items c.add_lists-2.new.lists.items
    (let end = c.loop-part-test.false in omega (arith, end)) c.in_ok-add_lists-2.ensures.kept
    c.in_ok-add_lists-2.ensures.all c.loop-part.invariant.all c.touched.ensures.all
