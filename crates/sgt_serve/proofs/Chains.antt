-- All bundles of a talk are those of runs of the model, one after another.
use Rattle.std.proofs.Common.{◌≡◌, List, [], ◌∷◌, ◌++◌, map, refl, sym, ◌∙◌, ap, inl, inr}
use Rattle.std.proofs.lemmas.List.{append-nil, map-append}
use Rattle.sgt_names.specs.declared.entry.Holding.{Holding}
use Rattle.sgt_notation.specs.declared.event.Event.{Event}
use Rattle.sgt_notation.specs.declared.event.SiteLine.{SiteLine}
use Rattle.sgt_bundle.specs.Parts.{Parts}
use Rattle.sgt_core_model.specs.Core.{CoreState, bundle_of, fresh}
use Rattle.sgt_core_model.specs.Step.{Run}
use Rattle.sgt_core_model.specs.declared.reply.Reply.{Reply}
use Rattle.sgt_core_machine.specs.Cut.{last_values}
use Rattle.sgt_courses.specs.Course.{AreRuns, Numbered, bundles_in}
use Rattle.sgt_courses.proofs.Courses.{course_runs, run_on}
use Rattle.sgt_serve.specs.Ended.{EndsWith, closing_events}
use Rattle.sgt_serve.specs.Talk.{IsTalk, Talk}

-- the last run goes on, ends with no transaction active, and is over
over : (items : List (List Holding)) (ended : List CoreState) (c d : CoreState) (events : List Event)
    (replies : List Reply) → AreRuns items ended c → Run c events replies d → d.certifier.active ≡ []
    → AreRuns items (ended ++ d ∷ []) (fresh (last_values d))
over items [] c d events replies (es, rs, run) more idle =
    ((es ++ events, rs ++ replies, run_on (fresh items) c d es events rs replies run more), idle, ([], [], refl))
over items (e ∷ ended) c d events replies (run, none, runs) more idle =
    (run, none, over (last_values e) ended c d events replies runs more idle)

-- the bundles are those of such runs
abbrev pub AreOfRuns : List (List Holding) → List Parts → Type 0
AreOfRuns items bundles = (ended : List CoreState) × (c : CoreState) × AreRuns items ended c
    × (bundles ≡ map bundle_of ended)

pub talk_runs : (t : Talk) (last : List Numbered) → IsTalk t → EndsWith t.last last
    → AreOfRuns (map (λ (l : SiteLine). l.items) t.sites) (bundles_in (t.bundles ++ last))
talk_runs t last is (inl (begun, none)) =
    let r = course_runs _ t.turns t.bundles t.last is.course in
    (r.0, t.last, r.1, ap bundles_in (ap (λ (ns : List Numbered). t.bundles ++ ns) none ∙ append-nil t.bundles) ∙ r.2)
talk_runs t last is (inr (some, d, closes, idle, number, one)) =
    let items = map (λ (l : SiteLine). l.items) t.sites in
    let r = course_runs items t.turns t.bundles t.last is.course in (
      r.0 ++ d ∷ [],
      fresh (last_values d),
      over items r.0 t.last d (closing_events t.last) closes.0 r.1 closes.1 idle,
      ap bundles_in (ap (λ (ns : List Numbered). t.bundles ++ ns) one)
          ∙ (map-append (λ (n : Numbered). n.bundle) t.bundles (record { number = number; bundle = bundle_of d } ∷ [])
          ∙ (ap (λ (bs : List Parts). bs ++ bundle_of d ∷ []) r.2
          ∙ sym (map-append bundle_of r.0 (d ∷ [])))),
    )
