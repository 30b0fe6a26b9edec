use Rattle.std.proofs.Common.{◌≡◌, ℕ, ◌-◌, ◌≤◌, length, refl, sym, ap, ◌∙◌, subst, arith, None, Some, true, false}
use Rattle.std.specs.Prelude.{slice_get, slice_set}
use Rattle.std.proofs.lemmas.Option.{slice_get_within}
use Rattle.sgt_names.specs.Limits.{max_sites}
use Rattle.sgt_certifier.specs.Certifier.{State}
use Rattle.sgt_certifier.specs.Judged.{Ends}
use Rattle.sgt_certifier.proofs.Flags.{flagged_less}
use Rattle.sgt_certifier.proofs.Judging.{parts_of, Parts, state_of, open_place, finished_ends, finished_kept, notes_few}
use Rattle.sgt_certifier.proofs.judge.Judge.finish_step.Goals as goal

pub overflow_sub-place : goal.overflow_sub-place
overflow_sub-place c =
    let p = parts_of c.self.inside in
    let open_tx : p.step ≡ Some c.args.tx = c.in-Some.is
    ∙ ap Some (sym c.number.ensures.is ∙ (c.if-number.false ∙ c.number-2.ensures.is)) in
    let place = open_place p c.args.tx c.self.invariant.good open_tx in
    omega (arith, place.1, c.number-3.ensures.is)

pub overflow_sub-place-2 : goal.overflow_sub-place-2
overflow_sub-place-2 c =
    let p = parts_of c.self.inside in
    let open_tx : p.step ≡ Some c.args.tx = c.in-Some.is
    ∙ ap Some (sym c.number.ensures.is ∙ (c.if-number.false ∙ c.number-2.ensures.is)) in
    let place = open_place p c.args.tx c.self.invariant.good open_tx in
    omega (arith, place.1, c.number-3.ensures.is)

pub index_mut-requires : goal.index_mut-requires
index_mut-requires c =
    let p = parts_of c.self.inside in
    let open_tx : p.step ≡ Some c.args.tx = c.in-Some.is
    ∙ ap Some (sym c.number.ensures.is ∙ (c.if-number.false ∙ c.number-2.ensures.is)) in
    let place = open_place p c.args.tx c.self.invariant.good open_tx in
    let at : c.number-3.result - c.self.inside.before - 1 ≡ place.0 = omega (arith, place.1, c.number-3.ensures.is) in
    omega (arith, at, slice_get_within p.flags place.0 true place.2, c.self.inside.flags.ok)

pub overflow_sub-self : goal.overflow_sub-self
overflow_sub-self c =
    let p = parts_of c.self.inside in
    let open_tx : p.step ≡ Some c.args.tx = c.in-Some.is
    ∙ ap Some (sym c.number.ensures.is ∙ (c.if-number.false ∙ c.number-2.ensures.is)) in
    let place = open_place p c.args.tx c.self.invariant.good open_tx in
    omega (arith, c.self.invariant.running, flagged_less p.before p.flags place.0 place.2)

-- the parts once the step has ended
abbrev ended_parts : goal.After-clear → Parts
ended_parts c = record (parts_of c.self.inside) {
  flags = slice_set c.self.inside.flags.items (c.number-3.result - c.self.inside.before - 1) false;
  step = None;
  noted = c.clear.new.self.items;
}

-- the place of its transaction, whose flag falls
record IsEnded (p q : Parts) (tx : ℕ) : Type 0 where
  place : ℕ
  here : slice_get p.flags place ≡ Some true
  flags : q.flags ≡ slice_set p.flags place false
  ends : Ends (state_of p) tx (state_of q)

ended : (c : goal.After-clear) → IsEnded (parts_of c.self.inside) (ended_parts c) c.args.tx
ended c =
    let p = parts_of c.self.inside in
    let q = ended_parts c in
    let open_tx : p.step ≡ Some c.args.tx = c.in-Some.is
    ∙ ap Some (sym c.number.ensures.is ∙ (c.if-number.false ∙ c.number-2.ensures.is)) in
    let place = open_place p c.args.tx c.self.invariant.good open_tx in
    let at : c.number-3.result - c.self.inside.before - 1 ≡ place.0 = omega (arith, place.1, c.number-3.ensures.is) in
    let flags : q.flags ≡ slice_set p.flags place.0 false = ap (λ k. slice_set c.self.inside.flags.items k false) at in
    record {
      place = place.0;
      here = place.2;
      flags = flags;
      ends = finished_ends p q c.args.tx place.0 open_tx place.1 refl refl refl flags refl refl refl refl refl;
    }

pub invariant_of-self : goal.invariant_of-self
invariant_of-self c =
    let e = ended c in
    finished_kept (parts_of c.self.inside) (ended_parts c) c.args.tx e.place _ _ _ _ _ _ c.self.invariant e.ends refl
    e.flags e.here c.clear.ensures.items refl refl

pub returns-clause-ok : goal.returns-clause-ok
returns-clause-ok c =
    subst (λ (v : State). Ends v c.args.tx (state_of (ended_parts c))) c.self.view_is (ended c).ends

pub returns-clause-few : goal.returns-clause-few
returns-clause-few c =
    subst (λ (v : State). length v.installs ≤ max_sites) c.self.view_is
    (notes_few (parts_of c.self.inside) _ _ _ c.self.invariant)
