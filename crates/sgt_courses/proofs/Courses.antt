-- Courses go on, have fronts, and are runs.
use Rattle.std.proofs.Common.{◌≡◌, ◌⊎◌, ◌+◌, ℕ, zero, suc, List, [], ◌∷◌, ◌++◌, length, map, refl, sym, ◌∙◌, ap, subst, inl, inr, append_assoc, All, Some}
use Rattle.std.specs.Prelude.{slice_get}
use Rattle.std.specs.List.{enumerate_from}
use Rattle.std.proofs.lemmas.List.{append-nil}
use Rattle.std.proofs.lemmas.List.Elements.{All-cons, All-nil}
use Rattle.std.proofs.lemmas.Option.{same_Some}
use Rattle.sgt_names.specs.declared.entry.Holding.{Holding}
use Rattle.sgt_names.specs.declared.entry.Entry.{Entry}
use Rattle.sgt_notation.specs.declared.event.Event.{Event}
use Rattle.sgt_notation.specs.declared.event.Event.TheVariants.{Commit as ACommit}
use Rattle.sgt_notation.specs.declared.event.EventLine.{EventLine}
use Rattle.sgt_notation.specs.declared.event.EventLine.TheVariants.{One, ToDecide}
use Rattle.sgt_bundle.specs.Parts.{Parts, FitTogether}
use Rattle.sgt_bundle.specs.Valid.{IsValid}
use Rattle.sgt_bundle.specs.declared.bundle.SiteLog.{SiteLog}
use Rattle.sgt_core_model.specs.Core.{CoreState, fresh, bundle_of, site_log, touched}
use Rattle.sgt_core_model.specs.Step.{MayDecide, MayStep, Run, parts_of_decision, replies_of_decision}
use Rattle.sgt_core_model.specs.Runs.{AreSites, IsAnswer}
use Rattle.sgt_core_model.specs.declared.reply.Reply.{Reply}
use Rattle.sgt_core_model.specs.declared.reply.Reply.TheVariants.{Begun, Value, Kept, Gathered, Yes, No, Installed, Withdrawn, Closed, Fault}
use Rattle.sgt_core_model.proofs.Runs.{runs-kept}
use Rattle.sgt_core_model.proofs.Fitting.{run-same, bundle-fits}
use Rattle.sgt_core_model.proofs.Valid.{valid-bundle}
use Rattle.sgt_core_model.proofs.Total.{decision-run, decision-refused}
use Rattle.sgt_core_machine.specs.Cut.{finals_in, last_values}
use Rattle.sgt_core_machine.proofs.Written.{sites_of_finals}
use Rattle.sgt_core.specs.Replay.{MayAnswer}
use Rattle.sgt_courses.specs.declared.answer.Answer.{Answer}
use Rattle.sgt_courses.specs.declared.answer.Answer.TheVariants.{Replies, Cut, Uncut, Unreadable}
use Rattle.sgt_courses.specs.Course.{AreRuns, Course, IsRunTo, MayTake, Numbered, Turn, bundles_in}
use Rattle.sgt_courses.specs.Chained.{GoOn, items_in}

-- ---- fronts, and one more turn

pub front : (old new : CoreState) (turns more : List Turn) (bundles : List Numbered)
    → Course old (turns ++ more) bundles new
    → (mid : CoreState) × (handed : List Numbered) × (later : List Numbered) × Course old turns handed mid
    × (bundles ≡ handed ++ later) × Course mid more later new
front old new [] more bundles c = (old, [], bundles, (refl, refl), refl, c)
front old new (turn ∷ turns) more bundles (mid, here, rest, take, is, c) =
    let (last, handed, later, course, same, behind) = front mid new turns more rest c in (
      last,
      here ++ handed,
      later,
      (mid, here, handed, take, refl, course),
      is
          ∙ (ap (λ hs. here ++ hs) same ∙ sym (append_assoc here handed later)),
      behind,
    )

pub one_more : (old mid new : CoreState) (turns : List Turn) (bundles handed : List Numbered) (turn : Turn)
    → Course old turns bundles mid
    → MayTake mid turn.asked turn.answer handed new → Course old (turns ++ turn ∷ []) (bundles ++ handed) new
one_more old mid new [] bundles handed turn (none, same) take = (
  new,
  handed,
  [],
  subst (λ c. MayTake c turn.asked turn.answer handed new) same take,
  ap (λ bs. bs ++ handed) none
      ∙ sym (append-nil handed),
  (refl, refl),
)
one_more old mid new (first ∷ turns) bundles handed turn (next, here, rest, one, is, c) take = (
  next,
  here,
  rest ++ handed,
  one,
  ap (λ bs. bs ++ handed) is ∙ append_assoc here rest handed,
  one_more next mid new turns rest handed turn c take,
)

-- ---- runs

pub run_on : (old mid new : CoreState) (events more : List Event) (replies later : List Reply)
    → Run old events replies mid → Run mid more later new → Run old (events ++ more) (replies ++ later) new
run_on old mid new [] more [] later run then = subst (λ c. Run c more later new) run then
run_on old mid new (e ∷ es) more (r ∷ rs) later (next, may, run) then =
    (next, may, run_on next mid new es more rs later run then)
run_on old mid new [] more (r ∷ rs) later run then = absurd run
run_on old mid new (e ∷ es) more [] later run then = absurd run

runs_on : (items : List (List Holding)) (c d : CoreState) (events : List Event) (replies : List Reply)
    → IsRunTo items c → Run c events replies d → IsRunTo items d
runs_on items c d events replies (es, rs, run) more =
    (es ++ events, rs ++ replies, run_on (fresh items) c d es events rs replies run more)

answered : (reply : Reply) → IsAnswer reply ⊎ (IsAnswer reply → ⊥)
answered (Fault f) = inr (λ x. x)
answered (Begun tx) = inl tt
answered (Value v) = inl tt
answered Kept = inl tt
answered Gathered = inl tt
answered Yes = inl tt
answered No = inl tt
answered Installed = inl tt
answered Withdrawn = inl tt
answered (Closed ranks) = inl tt

pub steps_on : (items : List (List Holding)) (c d : CoreState) (event : Event) (reply : Reply) → IsRunTo items c
    → MayStep c event reply d → IsRunTo items d
steps_on items c d event reply run may = runs_on items c d (event ∷ []) (reply ∷ []) run (d, may, refl)

pub replies_on : (items : List (List Holding)) (c d : CoreState) (line : EventLine) (reply : Reply) → IsRunTo items c
    → MayAnswer c line reply d → IsRunTo items d
replies_on items c d (One event) reply run may = steps_on items c d event reply run may
replies_on items c d (ToDecide tx) reply run may = elim (answered reply) [
  | inl told ↦ runs_on items c d (parts_of_decision (touched c tx) tx) (replies_of_decision (touched c tx) reply) run
      (decision-run c tx reply d may told)
  | inr out ↦ steps_on items c d (ACommit tx) reply run (decision-refused c tx reply d may out)
]

abbrev Ran : List (List Holding) → List Numbered → CoreState → Type 0
Ran items bundles c = (ended : List CoreState) × AreRuns items ended c × (bundles_in bundles ≡ map bundle_of ended)

pub are_runs : (items : List (List Holding)) (old : CoreState) (turns : List Turn) (bundles : List Numbered)
    (c : CoreState) → IsRunTo items old → Course old turns bundles c → Ran items bundles c
are_runs items old [] bundles c run (none, same) = ([], subst (IsRunTo items) (sym same) run, ap bundles_in none)
are_runs items old (turn ∷ turns) bundles c run (mid, here, rest, take, is, course) =
    elim turn.answer as (λ a. MayTake old turn.asked a here mid → Ran items bundles c) [
      | Replies reply ↦ λ t.
          let r = are_runs items mid turns rest c (replies_on items old mid t.0.0 reply run t.0.3) course in
          (r.0, r.1, ap bundles_in (is ∙ ap (λ hs. hs ++ rest) t.1) ∙ r.2)
      | Cut number ↦ λ t.
          let begun = subst (IsRunTo (last_values old)) (sym t.1.2) ([], [], refl) in
          let r = are_runs (last_values old) mid turns rest c begun course in (
            old ∷ r.0,
            (run, t.1.0, r.1),
            ap bundles_in (is ∙ ap (λ hs. hs ++ rest) t.1.1)
                ∙ ap (λ bs. bundle_of old ∷ bs) r.2,
          )
      | Uncut fault ↦ λ t.
          let r = are_runs items mid turns rest c (subst (IsRunTo items) (sym t.3) run) course in
          (r.0, r.1, ap bundles_in (is ∙ ap (λ hs. hs ++ rest) t.2) ∙ r.2)
      | Unreadable ↦ λ t.
          let r = are_runs items mid turns rest c (subst (IsRunTo items) (sym t.2) run) course in
          (r.0, r.1, ap bundles_in (is ∙ ap (λ hs. hs ++ rest) t.1) ∙ r.2)
    ] take

pub course_runs : (items : List (List Holding)) (turns : List Turn) (bundles : List Numbered) (c : CoreState)
    → Course (fresh items) turns bundles c → Ran items bundles c
course_runs items turns bundles c course = are_runs items (fresh items) turns bundles c ([], [], refl) course

-- ---- chains

ran_items : (items : List (List Holding)) (c : CoreState) → IsRunTo items c → c.items ≡ items
ran_items items c (es, rs, run) = run-same (fresh items) es rs c run

items_from : (entries : ℕ → List Entry) (k : ℕ) (items : List (List Holding))
    → map (λ (log : SiteLog). log.items) (map (λ (p : ℕ × List Holding). site_log p.1 (entries p.0))
    (enumerate_from k items)) ≡ items
items_from entries k [] = refl
items_from entries k (xs ∷ items) = ap (λ (ys : List (List Holding)). xs ∷ ys) (items_from entries (k + 1) items)

items_there : (c : CoreState) → items_in (bundle_of c) ≡ c.items
items_there c = items_from c.entries 0 c.items

pub all_valid : (items : List (List Holding)) (ended : List CoreState) (c : CoreState) → AreRuns items ended c
    → All IsValid (map bundle_of ended)
all_valid items [] c runs = All-nil IsValid
all_valid items (e ∷ ended) c ((es, rs, run), none, more) =
    All-cons IsValid (bundle_of e) (map bundle_of ended) (valid-bundle e (runs-kept items es rs e run).sound none)
    (all_valid (last_values e) ended c more)

pub all_fit : (items : List (List Holding)) (ended : List CoreState) (c : CoreState) → AreSites items
    → AreRuns items ended c → All FitTogether (map bundle_of ended)
all_fit items [] c sites runs = All-nil FitTogether
all_fit items (e ∷ ended) c sites (run, none, more) =
    let fit : FitTogether (bundle_of e) =
    bundle-fits e (runs-kept items run.0 run.1 e run.2).sound
    (subst AreSites (sym (ran_items items e run)) sites) in
    All-cons FitTogether (bundle_of e) (map bundle_of ended) fit
    (all_fit (last_values e) ended c (sites_of_finals (bundle_of e) fit) more)

-- the first one's items, in the bundles of runs over these
first_there : (items : List (List Holding)) (ended : List CoreState) (c : CoreState) (d : Parts)
    → AreRuns items ended c → slice_get (map bundle_of ended) 0 ≡ Some d → items_in d ≡ items
first_there items [] c d runs at = absurd cc
first_there items (f ∷ ended) c d runs at =
    subst (λ x. items_in x ≡ items) (same_Some (bundle_of f) d at) (items_there f ∙ ran_items items f runs.0)

pub all_go_on : (items : List (List Holding)) (ended : List CoreState) (c : CoreState) → AreRuns items ended c
    → GoOn (map bundle_of ended)
all_go_on items [] c runs n b d at next = absurd cc
all_go_on items (e ∷ ended) c runs zero b d at next =
    first_there (last_values e) ended c d runs.2 next ∙ ap finals_in (same_Some (bundle_of e) b at)
all_go_on items (e ∷ ended) c runs (suc n) b d at next = all_go_on (last_values e) ended c runs.2 n b d at next
