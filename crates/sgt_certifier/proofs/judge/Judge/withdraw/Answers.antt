use Rattle.std.proofs.Common.{◌≡◌, ◌++◌, ◌∷◌, [], length, map, refl, sym, ap, ◌∙◌, subst, arith, true, false}
use Rattle.std.specs.Prelude.{slice_set}
use Rattle.std.proofs.lemmas.Option.{slice_get_within}
use Rattle.std.proofs.lemmas.List.{length-map, map-append}
use Rattle.sgt_certifier.specs.Certifier.{State, withdrawn}
use Rattle.sgt_certifier.specs.History.{IsAllowed, Serves, withdraw}
use Rattle.sgt_certifier.specs.Judged.{ruling_from}
use Rattle.sgt_certifier.specs.Kept.{tx_at}
use Rattle.sgt_certifier.specs.declared.call.Call.TheVariants as call
use Rattle.sgt_certifier.specs.declared.call.CertifierFault.TheVariants as fault
use Rattle.sgt_certifier.specs.declared.ranking.Ruled.TheVariants.{Withdrawn}
use Rattle.sgt_certifier.proofs.Flags.{flag_at, flagged_less}
use Rattle.sgt_certifier.proofs.Replaying.{active_under, no_step}
use Rattle.sgt_certifier.proofs.Judging.{parts_of, Parts, state_of, withdrawn_serves, withdrawn_kept}
use Rattle.sgt_certifier.proofs.judge.Judge.withdraw.Goals as goal

pub index_mut-requires : goal.index_mut-requires
index_mut-requires c =
    let p = parts_of c.self.inside in
    let allowed : IsAllowed (state_of p) (withdraw c.args.handle) =
    subst (λ (v : State). IsAllowed v (withdraw c.args.handle)) (sym c.self.view_is)
    c.in_ok-may_withdraw.ensures.withdraw in
    let active = active_under (state_of p) c.args.handle (allowed fault.Unknown) in
    omega (
      arith,
      slice_get_within p.flags c.args.handle.index true (flag_at p.before p.flags c.args.handle.index active.1),
      c.self.inside.flags.ok,
    )

pub tx_of-tx-requires : goal.tx_of-tx-requires
tx_of-tx-requires c =
    let p = parts_of c.self.inside in
    let allowed : IsAllowed (state_of p) (withdraw c.args.handle) =
    subst (λ (v : State). IsAllowed v (withdraw c.args.handle)) (sym c.self.view_is)
    c.in_ok-may_withdraw.ensures.withdraw in
    let active = active_under (state_of p) c.args.handle (allowed fault.Unknown) in
    let here = c.self.invariant.good.sound.active_here (tx_at p.before c.args.handle) active.1 in
    omega (arith, here.1)

-- the parts once it is withdrawn
abbrev withdrawn_parts : goal.After-push_reserved → Parts
withdrawn_parts c = record (parts_of c.self.inside) {
  flags = slice_set c.self.inside.flags.items c.args.handle.index false;
  rulings =
      map ruling_from c.push_reserved.new.self.items;
}

may : (c : goal.After-push_reserved) → IsAllowed (state_of (parts_of c.self.inside)) (withdraw c.args.handle)
may c = subst (λ (v : State). IsAllowed v (withdraw c.args.handle)) (sym c.self.view_is)
    c.in_ok-may_withdraw.ensures.withdraw

serves : (c : goal.After-push_reserved) → Serves (state_of (parts_of c.self.inside))
    (call.Withdraw c.args.handle c.len-number.result) (state_of (withdrawn_parts c))
serves c =
    let p = parts_of c.self.inside in
    let q = withdrawn_parts c in
    let count : c.len-number.result ≡ length p.rulings =
    omega (
      arith,
      c.len-number.ensures,
      c.reserve.new.self.ok,
      ap length c.in_ok-reserve.ensures.items,
      length-map c.self.inside.rulings.items ruling_from,
    ) in
    let rulings : q.rulings ≡ p.rulings ++ withdrawn (tx_at p.before c.args.handle) ∷ [] =
    ap (map ruling_from) (c.push_reserved.ensures.items
    ∙ ap (λ z. z ++ Withdrawn c.tx_of-tx.result ∷ []) c.in_ok-reserve.ensures.items)
    ∙ (map-append ruling_from c.self.inside.rulings.items (Withdrawn c.tx_of-tx.result ∷ [])
    ∙ ap (λ t. p.rulings ++ withdrawn t ∷ []) c.tx_of-tx.ensures) in
    withdrawn_serves p q c.args.handle c.len-number.result (may c) count refl refl refl refl refl refl refl refl
    rulings refl

pub invariant_of-self-2 : goal.invariant_of-self-2
invariant_of-self-2 c =
    let p = parts_of c.self.inside in
    let active = active_under (state_of p) c.args.handle (may c fault.Unknown) in
    let idle = no_step (state_of p) (λ t. may c (fault.StepOpen t)) in
    withdrawn_kept p (withdrawn_parts c) c.args.handle c.len-number.result _ _ _ _ _ _ c.self.invariant (serves c) idle
    active refl refl refl refl refl

pub returns-clause-ok : goal.returns-clause-ok
returns-clause-ok c =
    subst (λ (v : State). Serves v (call.Withdraw c.args.handle c.len-number.result) (state_of (withdrawn_parts c)))
    c.self.view_is (serves c)

pub overflow_sub-self : goal.overflow_sub-self
overflow_sub-self c =
    let p = parts_of c.self.inside in
    let allowed : IsAllowed (state_of p) (withdraw c.args.handle) =
    subst (λ (v : State). IsAllowed v (withdraw c.args.handle)) (sym c.self.view_is)
    c.in_ok-may_withdraw.ensures.withdraw in
    let active = active_under (state_of p) c.args.handle (allowed fault.Unknown) in
    omega (
      arith,
      c.self.invariant.running,
      flagged_less p.before p.flags c.args.handle.index (flag_at p.before p.flags c.args.handle.index active.1),
    )
