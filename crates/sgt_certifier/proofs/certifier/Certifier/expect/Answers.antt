use Rattle.std.proofs.Common.{All, Vec, Global, ap, sym, subst, refl}
use Rattle.sgt_certifier.specs.declared.call.CertifierFault.TheVariants as fault
use Rattle.sgt_certifier.specs.declared.install.Prepared.{Prepared}
use Rattle.sgt_certifier.specs.Counted.{AreCounted, HavePlaces}
use Rattle.sgt_certifier.proofs.Counting.{counted-lists, counted-wider}
use Rattle.sgt_certifier.specs.Kept.{Kept}
use Rattle.sgt_certifier.proofs.Calling.{allowed_with, declines_plain}
use Rattle.sgt_certifier.specs.History.{expect, installs_in, IsAllowed}
use Rattle.sgt_certifier.proofs.certifier.Certifier.expect.Goals as goal

pub invariant_of-self-in_err-place_lists : goal.invariant_of-self-in_err-place_lists
invariant_of-self-in_err-place_lists c =
    let i = c.self.inside in (
      c.self.invariant.0,
      counted-wider i.counts c.place_lists.new.self i.history.items i.expected.items c.place_lists.ensures.widens
          c.self.invariant.1,
    )

pub invariant_of-self-2 : goal.invariant_of-self-2
invariant_of-self-2 c =
    let i = c.self.inside in
    let new = c.place_lists.new.self in
    let placed = subst (All (HavePlaces new)) c.as_slice.ensures.value c.in_ok-place_lists.ensures.ok in (
      c.self.invariant.0,
      subst (AreCounted new i.history.items) (ap (λ (v : Vec Prepared Global). v.items) (sym c.replace.ensures.after))
          (counted-lists i.counts new i.history.items i.expected.items c.in_ok-lists.lists.items
          c.place_lists.ensures.widens placed c.self.invariant.1),
    )

pub returns-in_err-may_withdraw-clause-err : goal.returns-in_err-may_withdraw-clause-err
returns-in_err-may_withdraw-clause-err c =
    let i = c.self.inside in
    let old = c.args.self.now in
    declines_plain c.from_residual.result c.in_err-may_withdraw.field-0.0 i.judge i.history.items i.expected.items old old
    (expect c.args.handle) c.self.view_is tt c.from_residual.ensures.1 c.in_err-may_withdraw.ensures.err_expect refl

pub returns-in_err-lists-clause-err : goal.returns-in_err-lists-clause-err
returns-in_err-lists-clause-err c =
    let i = c.self.inside in
    declines_plain c.from_residual-in_err-lists.result fault.Memory i.judge i.history.items i.expected.items
    c.args.self.now _ (expect c.args.handle) c.self.view_is tt c.from_residual-in_err-lists.ensures.1
    c.in_ok-may_withdraw.ensures.expect c.self.view_is

pub returns-in_err-place_lists-clause-err : goal.returns-in_err-place_lists-clause-err
returns-in_err-place_lists-clause-err c =
    let i = c.self.inside in
    declines_plain c.from_residual-in_err-place_lists.result fault.Memory i.judge i.history.items i.expected.items
    c.args.self.now _ (expect c.args.handle) c.self.view_is tt c.from_residual-in_err-place_lists.ensures.1
    c.in_ok-may_withdraw.ensures.expect c.self.view_is

pub returns-clause-allowed : goal.returns-clause-allowed
returns-clause-allowed c =
    let i = c.self.inside in
    subst (λ (v : Kept). IsAllowed v.state (expect c.args.handle)) c.self.view_is
    (allowed_with i.judge (installs_in i.history.items) (expect c.args.handle) tt
    c.in_ok-may_withdraw.ensures.expect)
