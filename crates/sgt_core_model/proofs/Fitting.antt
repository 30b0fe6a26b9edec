-- The logs with the certificate fit together as a bundle.
use Rattle.std.proofs.Common.{◌≡◌, ◌<◌, ℕ, List, [], ◌∷◌, length, map, refl, ◌∙◌, inl, inr, All, Option, Some, None, subst, ap}
use Rattle.std.specs.Prelude.{slice_get, unwrap_or}
use Rattle.std.specs.List.{enumerate_from, AllByRecursion}
use Rattle.std.specs.Ordering.{nat_cmp}
use Rattle.std.specs.Cmp.Lexicographic.{slice_cmp}
use Rattle.std.specs.declared.cmp.Ordering.TheVariants.{Less}
use Rattle.std.proofs.lemmas.Bool.{cases_Bool}
use Rattle.std.proofs.lemmas.List.{length-map}
use Rattle.std.proofs.lemmas.List.Elements.{All-from_recursion}
use Rattle.std.proofs.lemmas.List.FromFn.{length-enumerate_from}
use Rattle.sgt_names.specs.Log.{names, value_at}
use Rattle.sgt_names.specs.declared.entry.Entry.{Entry}
use Rattle.sgt_names.specs.declared.entry.Holding.{Holding}
use Rattle.sgt_names.proofs.Places.{All_at, All-from_at, AllPairs_at, AllPairs-from_at}
use Rattle.sgt_site.specs.State.{AreItems}
use Rattle.sgt_bundle.specs.Parts.{ComesBefore, IsShapedLog, HasStepsWithin, FitTogether}
use Rattle.sgt_bundle.specs.declared.certificate.Step.{Step}
use Rattle.sgt_certifier.specs.Certifier.{Ruling, committed, refused, withdrawn, serial, ranked}
use Rattle.sgt_notation.specs.declared.event.Event.{Event}
use Rattle.sgt_notation.specs.declared.event.Event.TheVariants.{Begin, Read, Put, Add, Gather, Decide, Install, Commit, Withdraw, Close}
use Rattle.sgt_core_model.specs.declared.reply.Reply.{Reply}
use Rattle.sgt_core_model.specs.declared.reply.Reply.TheVariants.{Begun, Value, Kept, Gathered, Yes, No, Installed, Withdrawn, Closed, Fault}
use Rattle.sgt_core_model.specs.declared.reply.CoreFault.TheVariants as fault
use Rattle.sgt_core_model.specs.Core.{CoreState, site_log, bundle_of, look, is_written, closed_if_written}
use Rattle.sgt_core_model.specs.Step.{AfterMemory, Reads, Does, ServesAll, MayStep, Run}
use Rattle.sgt_core_model.specs.Runs.{AreSites}
use Rattle.sgt_core_model.proofs.Kept.{AreAt, IsSound}
use Rattle.sgt_core_model.proofs.Valid.{enumerated}
use Rattle.sgt_names.proofs.Lists.{map_at}

-- ---- the items stay

abbrev Same : CoreState → CoreState → Type 0
Same old new = new.items ≡ old.items

closed-same : (c : CoreState) (i : ℕ) → Same c (closed_if_written c i)
closed-same c i = elim (cases_Bool (is_written c)) [ inl done ↦ rw done refl | inr left ↦ rw left refl ]

reads-same : (c : CoreState) (tx s : ℕ) (x : List ℕ) (v : ℕ) (found : Option ℕ) (new : CoreState)
    → Reads c tx s x v found new → Same c new
reads-same c tx s x v (Some w) new r = ap (λ (d : CoreState). d.items) r.1
reads-same c tx s x v None new r = ap (λ (d : CoreState). d.items) r.2

does-same : (old : CoreState) (event : Event) (reply : Reply) (new : CoreState) → Does old event reply new
    → Same old new
does-same old Begin (Begun tx) new d = ap (λ (c : CoreState). c.items) d.1
does-same old (Read tx s x) (Value v) new d = reads-same old tx s x v (look old tx s x) new d
does-same old (Put tx s x v) Kept new d = ap (λ (c : CoreState). c.items) d
does-same old (Add tx s x v) Kept new d = ap (λ (c : CoreState). c.items) d
does-same old (Gather tx s) Gathered new d = ap (λ (c : CoreState). c.items) d
does-same old (Decide tx) Yes new d = ap (λ (c : CoreState). c.items) d.after ∙ closed-same _ tx
does-same old (Decide tx) No new d = ap (λ (c : CoreState). c.items) d.after ∙ closed-same _ tx
does-same old (Install tx s) Installed new d = ap (λ (c : CoreState). c.items) d ∙ closed-same _ tx
does-same old (Withdraw tx) Withdrawn new d = ap (λ (c : CoreState). c.items) d
does-same old Close (Closed ranks) new d = ap (λ (c : CoreState). c.items) d.1
does-same old _ _ new d = absurd d

all-same : (old : CoreState) (events : List Event) (replies : List Reply) (new : CoreState)
    → ServesAll old events replies new → Same old new
all-same old [] [] new r = ap (λ (c : CoreState). c.items) r
all-same old (event ∷ events) (reply ∷ replies) new r = all-same r.0 events replies new r.2
    ∙ does-same old event reply r.0 r.1.1
all-same old _ _ new r = absurd r

memory-same : (old : CoreState) (event : Event) (new : CoreState) → AfterMemory old event new → Same old new
memory-same old (Read tx s x) new d = ap (λ (c : CoreState). c.items) d.1
memory-same old (Install tx s) new d = absurd d
memory-same old event new d = ap (λ (c : CoreState). c.items) d

step-same : (old : CoreState) (event : Event) (reply : Reply) (new : CoreState) → MayStep old event reply new
    → Same old new
step-same old event (Fault fault.Memory) new r = memory-same old event new r.1
step-same old event (Fault f) new r = ap (λ (c : CoreState). c.items) r.1
step-same old (Commit tx) reply new r = all-same old _ _ new r.1
step-same old event reply new r = does-same old event reply new r.1

pub run-same : (old : CoreState) (events : List Event) (replies : List Reply) (new : CoreState)
    → Run old events replies new → Same old new
run-same old [] [] new r = ap (λ (c : CoreState). c.items) r
run-same old (event ∷ events) (reply ∷ replies) new r = run-same r.0 events replies new r.2
    ∙ step-same old event reply r.0 r.1
run-same old _ _ new r = absurd r

-- ---- the shape of the logs

finals-names : (value : Holding → ℕ) (hs : List Holding)
    → names (map (λ (h : Holding). record { item = h.item; value = value h }) hs) ≡ names hs
finals-names value [] = refl
finals-names value (h ∷ hs) = ap (λ xs. h.item ∷ xs) (finals-names value hs)

log-shape : (items : List Holding) (es : List Entry) → AreItems items → IsShapedLog (site_log items es)
log-shape items es are = record {
  room = are.room;
  rising = AllPairs-from_at ComesBefore (names items) (λ p q x y lt at_x at_y.
      let g = map_at (λ (h : Holding). h.item) items p x at_x in
      let h = map_at (λ (h : Holding). h.item) items q y at_y in
      let less = AllPairs_at (λ (a b : Holding). slice_cmp nat_cmp a.item b.item ≡ Less) items p q g.0 h.0 are.rising
      lt g.1 h.1 in
      subst (λ z. slice_cmp nat_cmp z y ≡ Less) g.2 (subst (λ z. slice_cmp nat_cmp g.0.item z ≡ Less) h.2 less));
  finals = finals-names (λ h. unwrap_or (value_at items es h.item) 0) items;
}

logs-shape : (c : CoreState) → AreSites c.items → All IsShapedLog (bundle_of c).sites
logs-shape c are = All-from_at IsShapedLog (bundle_of c).sites (λ n log at_n.
    let m = map_at (λ (p : ℕ × List Holding). site_log p.1 (c.entries p.0)) (enumerate_from 0 c.items) n log at_n in
    let e = enumerated 0 c.items n m.0 m.1 in
    subst IsShapedLog m.2 (log-shape m.0.1 (c.entries m.0.0) (All_at AreItems c.items n m.0.1 are.each e.1)))

-- ---- the steps of the walks

steps-within : (c : CoreState) (a : ℕ) (walk : List Step) → AreAt c a walk
    → AllByRecursion (λ (step : Step). step.label.site < length c.items) walk
steps-within c a [] at = tt
steps-within c a (step ∷ steps) at = (at.0.site, steps-within c step.to steps at.1)

ruling-within : (c : CoreState) (n : ℕ) (r : Ruling) → IsSound c → slice_get c.certifier.rulings n ≡ Some r
    → HasStepsWithin (length c.items) (ranked (serial c.certifier) r)
ruling-within c n (committed tx) h at_n = tt
ruling-within c n (withdrawn tx) h at_n = tt
ruling-within c n (refused tx walk) h at_n =
    All-from_recursion (λ (step : Step). step.label.site < length c.items) walk
    (steps-within c tx walk (h.walked.walks n tx walk at_n))

decisions-within : (c : CoreState) → IsSound c
    → All (HasStepsWithin (length c.items)) (bundle_of c).certificate.decisions
decisions-within c h = All-from_at (HasStepsWithin (length c.items)) (bundle_of c).certificate.decisions (λ n d at_n.
    let m = map_at (ranked (serial c.certifier)) c.certifier.rulings n d at_n in
    subst (HasStepsWithin (length c.items)) m.2 (ruling-within c n m.0 h m.1))

pub bundle-fits : (c : CoreState) → IsSound c → AreSites c.items → FitTogether (bundle_of c)
bundle-fits c h are = record {
  shape = record {
    some = are.some;
    few = are.few;
    each = length-map (enumerate_from 0 c.items) (λ (p : ℕ × List Holding). site_log p.1 (c.entries p.0))
        ∙ length-enumerate_from 0 c.items;
    logs = logs-shape c are;
  };
  steps = decisions-within c h;
}
