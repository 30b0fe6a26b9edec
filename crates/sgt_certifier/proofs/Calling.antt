-- What a judge tells, said of a certifier's state, which has all installs.
use Rattle.std.proofs.Common.{◌≡◌, ◌⊎◌, ◌+◌, ◌<◌, ◌≤◌, ℕ, suc, List, [], ◌∷◌, ◌++◌, length, append-nil, refl, sym, ◌∙◌, ap, subst, arith, inl, inr, Any, Contains, Some, None}
use Rattle.std.specs.Prelude.{Result, Ok, Err, IfErr, IsErrAnd}
use Rattle.std.proofs.lemmas.Bool.{cases_eq}
use Rattle.std.proofs.lemmas.List.{length_push}
use Rattle.std.proofs.lemmas.Option.{same_Some}
use Rattle.std.proofs.lemmas.List.Elements.{Contains-append_cases, Contains-append_left, Contains-append_right, filter_map-append}
use Rattle.sgt_names.specs.Name.{Name}
use Rattle.sgt_names.proofs.Lists.{option_cases}
use Rattle.sgt_names.specs.Limits.{max_sites}
use Rattle.sgt_edges.specs.declared.edge.Edge.{Edge}
use Rattle.sgt_arena.specs.declared.handle.Handle.{Handle}
use Rattle.sgt_certifier.specs.declared.call.Decided.{Decided}
use Rattle.sgt_certifier.specs.declared.call.Decided.TheVariants.{Committed, Refused}
use Rattle.sgt_certifier.specs.declared.call.Call.{Call}
use Rattle.sgt_certifier.specs.declared.call.Call.TheVariants as call
use Rattle.sgt_certifier.specs.declared.call.CertifierFault.{CertifierFault}
use Rattle.sgt_certifier.specs.declared.call.CertifierFault.TheVariants as fault
use Rattle.sgt_certifier.specs.Certifier.{State, Install, opening}
use Rattle.sgt_certifier.specs.History.{Request, begin, decide, finish, withdraw, close, expect, installed, install_in, installs_in, IsActive, IsAllowed, IsNoted, IsRefused, Fails, Serves, Replays, fault_place, tx_under}
use Rattle.sgt_certifier.specs.declared.install.Prepared.{Prepared}
use Rattle.sgt_certifier.specs.Kept.{Adds, Declines, IsKept, IsTold, KeepsRoom, Kept, state_with}
use Rattle.sgt_certifier.specs.Judged.{Ends, Notes, note_at}
use Rattle.sgt_certifier.proofs.Extending.{runs_on}
use Rattle.sgt_certifier.proofs.Installs.{none_noted}
use Rattle.sgt_certifier.proofs.Members.{cons_here}
use Rattle.sgt_certifier.proofs.Replaying.{active_under, no_step, replays-good}
use Rattle.sgt_certifier.proofs.Judging.{installed_allowed, may_note}
use Rattle.sgt_names.proofs.Elements.{contains-cases, contains-none}

-- no install is asked for
abbrev pub IsPlain : Request → Type 0
IsPlain (installed tx site) = ⊥
IsPlain r = Unit {0}

same_fails : (j : State) (xs : List Install) (r : Request) (f : CertifierFault) → IsPlain r
    → Fails (record j { installs = xs }) r f ≡ Fails j r f
same_fails j xs begin _ plain = refl
same_fails j xs (decide h edges) _ plain = refl
same_fails j xs (finish tx) _ plain = refl
same_fails j xs (withdraw h) _ plain = refl
same_fails j xs close _ plain = refl
same_fails j xs (expect h) _ plain = refl
same_fails j xs (installed tx site) f plain = absurd plain

pub allowed_with : (j : State) (xs : List Install) (r : Request) → IsPlain r → IsAllowed j r
    → IsAllowed (record j { installs = xs }) r
allowed_with j xs r plain allowed f fails = allowed f (subst (λ T. T) (same_fails j xs r f plain) fails)

refused_with : (j : State) (xs : List Install) (r : Request) (f : CertifierFault) → IsPlain r → IsRefused j r f
    → IsRefused (record j { installs = xs }) r f
refused_with j xs r f plain refused = (
  subst (λ T. T) (sym (same_fails j xs r f plain)) refused.0,
  λ g less fails. refused.1 g less (subst (λ T. T) (same_fails j xs r g plain) fails),
)

pub told_with : (j : State) (xs : List Install) (r : Request) (f : CertifierFault) → IsPlain r → IsTold j r f
    → IsTold (record j { installs = xs }) r f
told_with j xs r fault.Memory plain told = allowed_with j xs r plain told
told_with j xs r f plain told = refused_with j xs r f plain told

-- ---- calls that note no install

-- a call that neither notes an install nor ends a step
abbrev pub IsPlainCall : Call → Type 0
IsPlainCall (call.Installed tx site items) = ⊥
IsPlainCall (call.Finish tx) = ⊥
IsPlainCall c = Unit {0}

pub serves_with : (j j2 : State) (xs : List Install) (c : Call) → IsPlainCall c → Serves j c j2
    → Serves (record j { installs = xs }) c (record j2 { installs = xs })
serves_with j j2 xs (call.Begin tx h) plain r =
    (allowed_with j xs begin tt r.0, (r.1.0, r.1.1, ap (λ (s : State). record s { installs = xs }) r.1.2))
serves_with j j2 xs (call.Decide h edges (Committed number)) plain r = (
  allowed_with j xs (decide h edges) tt r.0,
  (
    r.1.0,
    record {
      free = r.1.1.free;
      places = r.1.1.places;
      placed = r.1.1.placed;
      after =
          ap (λ (s : State). record s { installs = xs }) r.1.1.after;
    },
  ),
)
serves_with j j2 xs (call.Decide h edges (Refused number walk)) plain r = (
  allowed_with j xs (decide h edges) tt r.0,
  (r.1.0, record { cycle = r.1.1.cycle; after = ap (λ (s : State). record s { installs = xs }) r.1.1.after }),
)
serves_with j j2 xs (call.Withdraw h number) plain r =
    (allowed_with j xs (withdraw h) tt r.0, (r.1.0, ap (λ (s : State). record s { installs = xs }) r.1.1))
serves_with j j2 xs (call.Close ranks) plain r =
    (allowed_with j xs close tt r.0, (r.1.0, ap (λ (s : State). record s { installs = xs }) r.1.1))
serves_with j j2 xs (call.Finish tx) plain r = absurd plain
serves_with j j2 xs (call.Installed tx site items) plain r = absurd plain

-- a call that notes none leaves the installs
pub same_installs : (calls longer : List Call) (c : Call) → install_in c ≡ None → longer ≡ calls ++ c ∷ []
    → installs_in calls ≡ installs_in longer
same_installs calls longer c none is =
    let empty : installs_in (c ∷ []) ≡ [] = rw none refl in
    sym (ap installs_in is
    ∙ (filter_map-append install_in calls (c ∷ [])
    ∙ (ap (λ xs. installs_in calls ++ xs) empty ∙ append-nil (installs_in calls))))

no_install : (c : Call) → IsPlainCall c → install_in c ≡ None
no_install (call.Begin tx h) plain = refl
no_install (call.Decide h edges reply) plain = refl
no_install (call.Withdraw h number) plain = refl
no_install (call.Close ranks) plain = refl
no_install (call.Finish tx) plain = refl
no_install (call.Installed tx site items) plain = absurd plain

pub plain_serves : (j j2 : State) (calls longer : List Call) (c : Call) → IsPlainCall c → Serves j c j2
    → longer ≡ calls ++ c ∷ [] → Serves (state_with j calls) c (state_with j2 longer)
plain_serves j j2 calls longer c plain serves is =
    subst (λ xs. Serves (state_with j calls) c (record j2 { installs = xs }))
    (same_installs calls longer c (no_install c plain) is) (serves_with j j2 (installs_in calls) c plain serves)

-- the calls with one more, replayed
pub replays_on : (s t : State) (calls longer : List Call) (c : Call) → Replays calls s → Serves s c t
    → longer ≡ calls ++ c ∷ [] → Replays longer t
replays_on s t calls longer c replays serves is =
    subst (λ cs. Replays cs t) (sym is) (runs_on opening calls s c t replays serves)

idle_not : {t : ℕ} (s : State) → s.step ≡ None → s.step ≡ Some t → ⊥
idle_not s idle open_t = let f = sym idle ∙ open_t in cc

-- what is kept while no step is open
pub idle_kept : (j2 : State) (longer : List Call) (room : ℕ) → Replays longer (state_with j2 longer) → j2.step ≡ None
    → IsKept j2 longer room
idle_kept j2 longer room replays idle = record {
  replays = replays;
  noted = λ t open_t. absurd (idle_not j2 idle open_t);
  spare = λ t open_t. absurd (idle_not j2 idle open_t);
}

-- ---- a decision

decided_step : (j j2 : State) (h : Handle) (edges : List Edge) (reply : Decided)
    → Serves j (call.Decide h edges reply) j2 → j2.step ≡ Some (tx_under j h)
decided_step j j2 h edges (Committed number) r = ap (λ (s : State). s.step) r.1.1.after
decided_step j j2 h edges (Refused number walk) r = ap (λ (s : State). s.step) r.1.1.after

pub decided_kept : (j j2 : State) (calls longer : List Call) (h : Handle) (edges : List Edge) (reply : Decided)
    (room room2 : ℕ) → IsKept j calls room → Serves j (call.Decide h edges reply) j2 → j2.installs ≡ []
    → longer ≡ calls ++ call.Decide h edges reply ∷ [] → suc (length longer + max_sites) ≤ room2
    → IsKept j2 longer room2
decided_kept j j2 calls longer h edges reply room room2 kept serves none is spare =
    let s = state_with j calls in
    let good = replays-good calls s kept.replays in
    let idle = no_step j (λ t. serves.0 (fault.StepOpen t)) in
    let active : IsActive s h = active_under j h (λ n. serves.0 fault.Unknown (inl n)) in
    let step = decided_step j j2 h edges reply serves in
    let installs = same_installs calls longer (call.Decide h edges reply) refl is in
    record {
      replays = replays_on s (state_with j2 longer) calls longer (call.Decide h edges reply) kept.replays
          (plain_serves j j2 calls longer (call.Decide h edges reply) tt serves is) is;
      noted = λ t open_t site. (
        λ noted. absurd (contains-none noted.1 (subst (λ xs. Contains xs noted.1) none (noted.0, noted.2, noted.3))),
        λ noted.
            let same : t ≡ tx_under j h = same_Some t (tx_under j h) (sym open_t ∙ step) in
            let was : IsNoted s (tx_under j h) site =
            subst (λ u. IsNoted s u site) same (subst (Any (λ (x : Install). (x.tx ≡ t) × (x.site ≡ site)))
            (sym installs) noted) in
            absurd (none_noted s (tx_under j h) site good.ruled good.installed idle active.1 was),
      );
      spare = λ t open_t. omega (arith, spare);
    }

-- ---- the end of a step

pub ends_serves : (j j2 : State) (calls longer : List Call) (tx : ℕ) → Ends j tx j2
    → longer ≡ calls ++ call.Finish tx ∷ [] → Serves (state_with j calls) (call.Finish tx) (state_with j2 longer)
ends_serves j j2 calls longer tx ends is =
    let xs = installs_in calls in
    subst (λ ys. Serves (state_with j calls) (call.Finish tx) (record j2 { installs = ys }))
    (same_installs calls longer (call.Finish tx) refl is)
    (allowed_with j xs (finish tx) tt ends.allowed, ap (λ (s : State). record s { installs = xs }) ends.after)

-- ---- an install

-- an install that may be noted is one that may be served
pub allowed_note : (j : State) (calls : List Call) (tx site room : ℕ) → IsKept j calls room
    → IsAllowed j (installed tx site) → IsAllowed (state_with j calls) (installed tx site)
allowed_note j calls tx site room kept allowed =
    let may = may_note j tx site allowed in
    installed_allowed (state_with j calls) tx site may.0 (λ noted. may.1 ((kept.noted tx may.0.0 site).1 noted))

pub notes_serves : (j j2 : State) (calls longer : List Call) (tx site : ℕ) (items : List Name) (room : ℕ)
    → IsKept j calls room → Notes j tx site j2 → longer ≡ calls ++ call.Installed tx site items ∷ []
    → Serves (state_with j calls) (call.Installed tx site items) (state_with j2 longer)
notes_serves j j2 calls longer tx site items room kept notes is =
    let one : Install = record { tx = tx; site = site; items = items } in
    let installs : installs_in calls ++ one ∷ [] ≡ installs_in longer =
    sym (ap installs_in is ∙ filter_map-append install_in calls (call.Installed tx site items ∷ [])) in
    subst (λ ys. Serves (state_with j calls) (call.Installed tx site items) (record j2 { installs = ys })) installs (
      allowed_note j calls tx site room kept notes.allowed,
      ap (λ (s : State). record s { installs = installs_in calls ++ one ∷ [] }) notes.after,
    )

abbrev IsOf : ℕ → ℕ → Install → Type 0
IsOf tx site x = (x.tx ≡ tx) × (x.site ≡ site)

noted_left : (xs : List Install) (one : Install) (t site : ℕ) → Any (IsOf t site) xs
    → Any (IsOf t site) (xs ++ one ∷ [])
noted_left xs one t site m = let left = Contains-append_left xs (one ∷ []) m.1 (m.0, m.2, m.3) in
    (left.0, m.1, left.1, left.2, m.4)

noted_right : (xs : List Install) (one : Install) (t site : ℕ) → IsOf t site one → Any (IsOf t site) (xs ++ one ∷ [])
noted_right xs one t site is = let right = Contains-append_right xs (one ∷ []) one (cons_here one []) in
    (right.0, one, right.1, right.2, is)

noted_split : (xs : List Install) (one : Install) (t site : ℕ) → Any (IsOf t site) (xs ++ one ∷ [])
    → Any (IsOf t site) xs ⊎ IsOf t site one
noted_split xs one t site m =
    elim (Contains-append_cases xs (one ∷ []) m.1 (m.0, m.2, m.3)) [
      | inl was ↦ inl (was.0, m.1, was.1, was.2, m.4)
      | inr last ↦ elim (contains-cases one [] m.1 last) [
        | inl e ↦ inr (subst (IsOf t site) (sym e) m.4)
        | inr out ↦ absurd (contains-none m.1 out)
      ]
    ]

pub notes_kept : (j j2 : State) (calls longer : List Call) (tx site : ℕ) (items : List Name) (room room2 : ℕ)
    → IsKept j calls room → Notes j tx site j2 → longer ≡ calls ++ call.Installed tx site items ∷ [] → room2 ≡ room
    → IsKept j2 longer room2
notes_kept j j2 calls longer tx site items room room2 kept notes is room_is =
    let s = state_with j calls in
    let may = may_note j tx site notes.allowed in
    let mine = note_at tx site in
    let one : Install = record { tx = tx; site = site; items = items } in
    let shorter : j2.installs ≡ j.installs ++ mine ∷ [] = ap (λ (x : State). x.installs) notes.after in
    let all : installs_in longer ≡ installs_in calls ++ one ∷ [] = ap installs_in is
    ∙ filter_map-append install_in calls (call.Installed tx site items ∷ []) in
    record {
      replays = replays_on s (state_with j2 longer) calls longer (call.Installed tx site items) kept.replays
          (notes_serves j j2 calls longer tx site items room kept notes is) is;
      noted = λ t open_t k.
          let was : j.step ≡ Some t = sym (ap (λ (x : State). x.step) notes.after) ∙ open_t in
          let tie = kept.noted t was k in (
            λ m. elim (noted_split j.installs mine t k (subst (Any (IsOf t k)) shorter m)) [
              | inl old ↦ subst (Any (IsOf t k)) (sym all) (noted_left (installs_in calls) one t k (tie.0 old))
              | inr last ↦ subst (Any (IsOf t k)) (sym all) (noted_right (installs_in calls) one t k last)
            ],
            λ m. elim (noted_split (installs_in calls) one t k (subst (Any (IsOf t k)) all m)) [
              | inl old ↦ subst (Any (IsOf t k)) (sym shorter) (noted_left j.installs mine t k (tie.1 old))
              | inr last ↦ subst (Any (IsOf t k)) (sym shorter) (noted_right j.installs mine t k last)
            ],
          );
      spare = λ t open_t.
          let was : j.step ≡ Some t = sym (ap (λ (x : State). x.step) notes.after) ∙ open_t in
          omega (
            arith,
            kept.spare t was,
            room_is,
            ap length is,
            length_push calls (call.Installed tx site items),
            ap length shorter,
            length_push j.installs mine,
          );
    }

-- ---- an install that is refused

step_cases : (s : State) (tx : ℕ) → (s.step ≡ Some tx) ⊎ (s.step ≡ Some tx → ⊥)
step_cases s tx =
    elim (option_cases s.step) [
      | inl none ↦ inr (λ e. let f : Some tx ≡ None = sym e ∙ none in cc)
      | inr some ↦ elim (cases_eq some.0 tx) [
        | inl same ↦ inl (some.1 ∙ ap Some same)
        | inr other ↦ inr (λ e. let f : Some some.0 ≡ Some tx = sym some.1 ∙ e in other cc)
      ]
    ]

-- no other fault of an install is there
alone : (s : State) (tx site : ℕ) (g : CertifierFault) → fault_place g < 2 → Fails s (installed tx site) g → ⊥
alone s tx site fault.Unknown less f = omega (arith, less)
alone s tx site _ less f = f

pub told_note : (j : State) (calls : List Call) (tx site room : ℕ) (f : CertifierFault) → f ≡ fault.Unknown
    → IsKept j calls room → IsTold j (installed tx site) f → IsTold (state_with j calls) (installed tx site) f
told_note j calls tx site room f is kept told =
    let s = state_with j calls in
    let mine : IsRefused j (installed tx site) fault.Unknown = subst (IsTold j (installed tx site)) is told in
    let all : IsRefused s (installed tx site) fault.Unknown = (
      elim mine.0 [
        | inl none ↦ inl none
        | inr noted ↦ elim (step_cases j tx) [
          | inl at ↦ inr ((kept.noted tx at site).0 noted)
          | inr out ↦ inl (λ is_open. out is_open.0)
        ]
      ],
      alone s tx site,
    ) in
    subst (IsTold s (installed tx site)) (sym is) all

-- ---- refusals

-- where the request is refused, nothing changes
pub declines : {A : Type 0} (r : Result A CertifierFault) (f : CertifierFault) (old new : Kept) (request : Request)
    → IsErrAnd r (λ e. e ≡ f) → IsTold old.state request f → new ≡ old → IfErr r (λ e. Declines old request e new)
declines (Ok a) f old new request is told same = tt
declines (Err e) f old new request is told same =
    subst (λ g. Declines old request g new) (sym is) (record { told = told; same = same })

-- the view of a certifier by its parts
abbrev pub view_by : State → List Call → List Prepared → Kept
view_by judge calls expected = record { state = state_with judge calls; history = calls; expected = expected }

-- more room is room
pub kept_again : (j j2 : State) (calls calls2 : List Call) (room room2 : ℕ) → j2 ≡ j → calls2 ≡ calls → room ≤ room2
    → IsKept j calls room → IsKept j2 calls2 room2
kept_again j j2 calls calls2 room room2 same same_calls more kept =
    subst (λ x. IsKept x calls2 room2) (sym same) (subst (λ cs. IsKept j cs room2) (sym same_calls) (record {
      replays = kept.replays;
      noted = kept.noted;
      spare = λ t open_t. let was = kept.spare t open_t in omega (arith, was, more);
    }))

-- ---- how a certifier's view goes on

-- it stays as it was
pub same_view : (judge judge2 : State) (calls calls2 : List Call) (expected : List Prepared) (v : Kept) → judge2 ≡ judge
    → calls2 ≡ calls → view_by judge calls expected ≡ v → view_by judge2 calls2 expected ≡ v
same_view judge judge2 calls calls2 expected v same also view =
    ap (λ (j : State). view_by j calls2 expected) same
    ∙ (ap (λ (cs : List Call). view_by judge cs expected) also ∙ view)

-- a request is declined, whose fault the judge told
pub declines_with : {A : Type 0} (r : Result A CertifierFault) (f : CertifierFault) (judge : State) (calls : List Call)
    (expected : List Prepared) (old new : Kept) (request : Request)
    → view_by judge calls expected ≡ old → IsErrAnd r (λ e. e ≡ f) → IsTold (state_with judge calls) request f
    → new ≡ old → IfErr r (λ e. Declines old request e new)
declines_with r f judge calls expected old new request view is told same =
    declines r f old new request is (subst (λ (v : Kept). IsTold v.state request f) view told) same

pub declines_plain : {A : Type 0} (r : Result A CertifierFault) (f : CertifierFault) (judge : State) (calls : List Call)
    (expected : List Prepared) (old new : Kept) (request : Request)
    → view_by judge calls expected ≡ old → IsPlain request → IsErrAnd r (λ e. e ≡ f) → IsTold judge request f
    → new ≡ old → IfErr r (λ e. Declines old request e new)
declines_plain r f judge calls expected old new request view plain is told same =
    declines_with r f judge calls expected old new request view is
    (told_with judge (installs_in calls) request f plain told) same

-- a plain call is added
pub adds_plain : (judge new : State) (calls longer : List Call) (expected : List Prepared) (old : Kept) (c : Call)
    → view_by judge calls expected ≡ old → IsPlainCall c → Serves judge c new → longer ≡ calls ++ c ∷ []
    → KeepsRoom expected c expected → Adds old c (view_by new longer expected)
adds_plain judge new calls longer expected old c view plain serves is room =
    subst (λ (v : Kept). Adds v c (view_by new longer expected)) view
    (record { serves = plain_serves judge new calls longer c plain serves is; history = is; expected = room })

-- and what is kept is kept on, where it leaves no step open
pub plain_kept : (judge new : State) (calls longer : List Call) (c : Call) (room room2 : ℕ) → IsPlainCall c
    → IsKept judge calls room → Serves judge c new → longer ≡ calls ++ c ∷ [] → new.step ≡ None
    → IsKept new longer room2
plain_kept judge new calls longer c room room2 plain kept serves is idle =
    idle_kept new longer room2 (replays_on (state_with judge calls) (state_with new longer) calls longer c kept.replays
    (plain_serves judge new calls longer c plain serves is) is) idle
