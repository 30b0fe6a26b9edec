use Rattle.std.proofs.Common.{◌≡◌, List, Option, Some, refl, sym, ◌∙◌, ap, subst}
use Rattle.std.specs.Prelude.{Any}
use Rattle.std.proofs.lemmas.Option.{slice_get_within}
use Rattle.sgt_edges.specs.declared.edge.Edge.{Edge}
use Rattle.sgt_notation.specs.declared.event.Event.TheVariants.{Decide}
use Rattle.sgt_core_model.specs.declared.reply.CoreFault.TheVariants as fault
use Rattle.sgt_core_machine.specs.declared.machine.Running.{Running}
use Rattle.sgt_core_machine.specs.declared.machine.Place.{Place}
use Rattle.sgt_core_machine.specs.declared.machine.Open.{Open}
use Rattle.sgt_core_machine.specs.declared.machine.Phase.{Phase}
use Rattle.sgt_core_machine.specs.declared.machine.Part.TheVariants.{Due}
use Rattle.sgt_core_machine.specs.Machine.{Parts, parts_of}
use Rattle.sgt_core_machine.specs.private.Decided.{edges_in, MayRuleAt, RulesAt}
use Rattle.sgt_core_machine.proofs.Finding.{not_true}
use Rattle.sgt_core_model.proofs.Runs.{decide_idle}
use Rattle.sgt_core_machine.proofs.Standing.{reached_kept}
use Rattle.sgt_core_machine.proofs.Stepping.{gives_up}
use Rattle.sgt_core_machine.proofs.Ruled.{ruled_open, rules_due, rules_end}
use Rattle.sgt_core_machine.proofs.Unrefused.{may_rule_at}
use Rattle.sgt_core_machine.proofs.machine.Machine.decide_gathered.Goals as goal
use Rattle.sgt_core_machine.proofs.machine.Machine.decide_gathered.Goals.{then-is_due+in-Some+in-Gathering-1, then-is_due+in-Some+in-Committed-1, then-is_due+in-None-1, else-is_due}

pub end-requires-clause-step : goal.end-requires-clause-step
end-requires-clause-step c =
    let m = parts_of c.args.self.now in
    let s = c.requires.stands in
    let new = c.rule.new.certifier in
    let on_table : RulesAt m.certifier new m.table c.args.slot c.edges_of-edges.result c.in-Ok.is_committed =
    subst (λ (t : List (Option Running)). RulesAt m.certifier new t c.args.slot c.edges_of-edges.result
    c.in-Ok.is_committed) c.as_slice.ensures.value c.in-Ok.ensures.ok in
    let rules : RulesAt m.certifier new m.table c.args.slot (edges_in m.step) c.in-Ok.is_committed =
    subst (λ (es : List Edge). RulesAt m.certifier new m.table c.args.slot es c.in-Ok.is_committed)
    (c.edges_of-edges.ensures ∙ ap edges_in c.take.ensures.value) on_table in
    ruled_open m s.0 s.1 c.args.tx c.args.slot c.requires.slot (c.requires.allowed s.0 s.1) new c.in-Ok.is_committed rules

pub end-requires-clause-slot : goal.end-requires-clause-slot
end-requires-clause-slot c = slice_get_within c.args.self.now.running.items c.args.slot _ c.requires.slot.1.1

pub returns-after-is_due-clause-goes : goal.returns-after-is_due-clause-goes
returns-after-is_due-clause-goes c = λ d s.
    let m = parts_of c.args.self.now in
    let new = c.rule.new.certifier in
    let told = c.in-Ok.is_committed in
    let on_table : RulesAt m.certifier new m.table c.args.slot c.edges_of-edges.result told =
    subst (λ (t : List (Option Running)). RulesAt m.certifier new t c.args.slot c.edges_of-edges.result told)
    c.as_slice.ensures.value c.in-Ok.ensures.ok in
    let rules : RulesAt m.certifier new m.table c.args.slot (edges_in m.step) told =
    subst (λ (es : List Edge). RulesAt m.certifier new m.table c.args.slot es told) (c.edges_of-edges.ensures
    ∙ ap edges_in c.take.ensures.value) on_table in
    let may = c.requires.allowed d s in
    let some = λ (is : Rattle.std.specs.Prelude.IsTrue c.is_due.result). subst (Any (λ (p : Place). p.part ≡ Due))
    c.as_slice-in-Ok.ensures.value (c.is_due.ensures.0 is) in
    let held =
    λ (phase : Phase). record m { certifier = new; step = Some (record { tx = c.args.tx; phase = phase }) } in
    elim c.if-is_due.branch [
      | then-is_due+in-Some+in-Gathering-1 w ↦
          rules_due m d s c.args.tx c.args.slot c.requires.slot may new told rules (some w.if-is_due.true)
          (parts_of c.if-is_due.self)
          (ap parts_of w.self-is ∙ ap held w.phase_of.ensures) c.reply_of.result c.reply_of.ensures
      | then-is_due+in-Some+in-Committed-1 w ↦
          rules_due m d s c.args.tx c.args.slot c.requires.slot may new told rules (some w.if-is_due.true)
          (parts_of c.if-is_due.self)
          (ap parts_of w.self-is ∙ ap held w.phase_of.ensures) c.reply_of.result c.reply_of.ensures
      | then-is_due+in-None-1 w ↦
          rules_due m d s c.args.tx c.args.slot c.requires.slot may new told rules (some w.if-is_due.true)
          (parts_of c.if-is_due.self)
          (ap parts_of w.self-is ∙ ap held w.phase_of.ensures) c.reply_of.result c.reply_of.ensures
      | else-is_due w ↦
          let none = λ (any : Any (λ (p : Place). p.part ≡ Due) m.places).
          not_true _ w.if-is_due.false
          (c.is_due.ensures.1 (subst (Any (λ (p : Place). p.part ≡ Due)) (sym c.as_slice-in-Ok.ensures.value)
          any)) in
          rules_end m d s c.args.tx c.args.slot c.requires.slot may new told rules none
          (record m { certifier = new; step = c.take.new.self }) (parts_of c.if-is_due.self)
          (ap (λ (o : Option Open). record m { certifier = new; step = o }) c.take.ensures.after)
          (subst (λ (after : Parts). Rattle.sgt_core_machine.specs.private.Decided.EndsAt
          (record m { certifier = new; step = c.take.new.self }) after c.args.tx c.args.slot)
          (sym (ap parts_of w.self-is)) w.end.ensures)
          c.reply_of.result c.reply_of.ensures
    ]

pub rule-requires-clause-may : goal.rule-requires-clause-may
rule-requires-clause-may c =
    let m = parts_of c.args.self.now in
    let s = c.requires.stands in
    let may = may_rule_at m s.0 s.1 c.args.tx c.args.slot c.requires.slot.0 (c.requires.allowed s.0 s.1) in
    subst (λ (es : List Edge). MayRuleAt m.certifier c.as_slice.result.now c.args.slot es)
    (sym (c.edges_of-edges.ensures ∙ ap edges_in c.take.ensures.value))
    (subst (λ (t : List (Option Running)). MayRuleAt m.certifier t c.args.slot (edges_in m.step))
    (sym c.as_slice.ensures.value) may)

pub returns-in-Err-Memory-clause-goes : goal.returns-in-Err-Memory-clause-goes
returns-in-Err-Memory-clause-goes c = λ d s.
    let m = parts_of c.args.self.now in
    let may = c.requires.allowed d s in
    gives_up m d s c.args.tx (λ other. may fault.StepOpen other)
    (decide_idle d c.args.tx (reached_kept d s.reached) may) (record m {
      certifier = c.rule.new.certifier;
      step =
          c.take.new.self;
    })
    (parts_of c.give_up.new.self) refl c.in-Err-Memory.ensures.err c.give_up.ensures.places c.give_up.ensures.rest
    (Decide c.args.tx) c.refused.result c.refused.ensures (may, refl)
