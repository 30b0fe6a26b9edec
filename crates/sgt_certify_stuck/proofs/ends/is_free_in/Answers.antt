use Rattle.std.proofs.Common.{List, length, sym, subst}
use Rattle.std.proofs.lemmas.Bool.{true≢false}
use Rattle.sgt_names.specs.declared.entry.Entry.{Entry}
use Rattle.sgt_certify_stuck.specs.Ends.{AllDecided, IsFirstLeft}
use Rattle.sgt_certify_stuck.specs.private.Ends.{IsNextInAll}
use Rattle.sgt_certify_stuck.proofs.StuckSets.{none-left, one-left}
use Rattle.sgt_certify_stuck.proofs.ends.is_free_in.Goals as goal

pub returns-in-Some : goal.returns-in-Some
returns-in-Some c =
    let first = subst (λ (es : List Entry). IsFirstLeft es c.args.decided.now c.in-Some.left.0 c.in-Some.left.1)
    c.as_slice.ensures (rw c.in-Some.is at c.first_left.ensures.some) in (
      λ yes. (c.in-Some.left.0, c.in-Some.left.1, first, c.is_next.ensures.0 yes),
      λ free.
          let one = one-left c.args.log.now.entries c.args.decided.now free.0 free.1 c.in-Some.left.0 c.in-Some.left.1
          free.2 first in
          c.is_next.ensures.1 (subst (IsNextInAll c.args.sites.now c.args.decided.now) one free.3),
    )

pub returns-in-None : goal.returns-in-None
returns-in-None c = (
  λ no. absurd (true≢false (sym no)),
  λ free. absurd (none-left c.args.log.now.entries c.args.decided.now free.0 free.1
      (subst (λ (es : List Entry). AllDecided es c.args.decided.now (length es)) c.as_slice.ensures
      c.in-None.ensures.none) free.2),
)
