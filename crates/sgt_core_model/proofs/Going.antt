-- Each allowed event has an answer: an event that is one part.
use Rattle.std.proofs.Common.{◌≡◌, ℕ, Bool, true, false, List, [], ◌∷◌, ◌++◌, length, refl, sym, ◌∙◌, ◌⊎◌, inl, inr, Contains, Option, Some, None, subst}
use Rattle.std.specs.Prelude.{suc}
use Rattle.std.proofs.lemmas.Bool.Decides.{not_from_Decides}
use Rattle.std.proofs.lemmas.List.Elements.{Contains-append_right}
use Rattle.sgt_names.specs.Name.{Name}
use Rattle.sgt_names.specs.Draft.{added_to}
use Rattle.sgt_names.specs.Log.{value_at}
use Rattle.sgt_names.specs.declared.entry.Change.TheVariants as change
use Rattle.sgt_names.specs.declared.entry.Entry.TheVariants as entry
use Rattle.sgt_order.specs.Graph.{placed}
use Rattle.sgt_certifier.specs.Certifier.{State, Arc, committed, refused, serial, with_begun, with_withdrawn, with_closed}
use Rattle.sgt_certifier.proofs.Keeping.{uncommitted}
use Rattle.sgt_certifier.proofs.Members.{cons_here}
use Rattle.sgt_notation.specs.declared.event.Event.{Event}
use Rattle.sgt_notation.specs.declared.event.Event.TheVariants.{Begin, Read, Put, Add, Gather, Decide, Install, Commit, Withdraw, Close}
use Rattle.sgt_core_model.specs.declared.reply.Reply.{Reply}
use Rattle.sgt_core_model.specs.declared.reply.Reply.TheVariants.{Begun, Value, Kept, Gathered, Yes, No, Installed, Withdrawn, Closed}
use Rattle.sgt_core_model.specs.declared.reply.CoreFault.TheVariants as fault
use Rattle.sgt_core_model.specs.Core.{CoreState, items_at, change_in, with_entries, only_at, with_change, look, committed_block, refused_block, withdrawn_block, decided, installed}
use Rattle.sgt_core_model.specs.Step.{gathered_in, IsAllowed, ReadsSite, Reads, CommitsAt, RefusesAt, Serves}
use Rattle.sgt_core_model.proofs.Kept.{IsSound, IsKept}
use Rattle.sgt_core_model.proofs.Ordered.{edges-new}
use Rattle.sgt_core_model.proofs.LegalSteps.{only_here}
use Rattle.sgt_core_model.proofs.Changes.{unread}
use Rattle.sgt_core_model.proofs.Runs.{known_item, is_active, decide_idle}
use Rattle.sgt_core_model.proofs.Valid.{valued}
use Rattle.sgt_core_model.proofs.Edges.{edges_of, edges_are}
use Rattle.sgt_core_model.proofs.Reached.{reaches, reaches-Decides, tells}
use Rattle.sgt_core_model.proofs.Cycles.{cycle}

-- a transaction is committed or refused
abbrev pub all_edges : CoreState → ℕ → List Arc
all_edges c i = c.certifier.arcs ++ edges_of c i

abbrev pub IsDecision : CoreState → ℕ → Type 0
IsDecision c i = ((new : CoreState) × CommitsAt c i new) ⊎ ((new : CoreState) × RefusesAt c i new)

unfoldable pub commits_so : (c : CoreState) (i : ℕ) → IsSound c → reaches (all_edges c i) i i ≡ false
    → (new : CoreState) × CommitsAt c i new
commits_so c i h e =
    let all = all_edges c i in
    let places = placed (reaches all i) c.certifier.order i in
    let mid : State = record c.certifier {
      order = places;
      arcs = all;
      step = Some i;
      rulings =
          c.certifier.rulings ++ committed i ∷ [];
    } in (
      decided c i mid (committed_block c i),
      record {
        arcs = edges_of c i;
        certifier = mid;
        edges = edges_are c i h;
        commits = record {
          free = not_from_Decides (reaches all i i) (reaches-Decides all i i) e;
          places = places;
          placed = (reaches all i, tells all c.certifier.order i, refl);
          after = refl;
        };
        after = refl;
      },
    )

unfoldable pub refuses_so : (c : CoreState) (i : ℕ) → IsSound c → c.certifier.step ≡ None
    → Contains c.certifier.active i → reaches (all_edges c i) i i ≡ true
    → (new : CoreState) × RefusesAt c i new
refuses_so c i h none active e =
    let out = uncommitted c.certifier i h.ordered.certifier none active in
    let new_edges = edges-new c i (edges_of c i) (edges_are c i h) in
    let walk =
    cycle c.certifier i (edges_of c i) h.ordered.certifier out new_edges
    ((reaches-Decides (all_edges c i) i i).0 e) in
    let mid : State = record c.certifier { step = Some i; rulings = c.certifier.rulings ++ refused i walk.0 ∷ [] } in (
      decided c i mid (refused_block c i),
      record {
        arcs = edges_of c i;
        walk = walk.0;
        certifier = mid;
        edges = edges_are c i h;
        refuses = record { cycle = walk.1; after = refl };
        after = refl;
      },
    )

unfoldable pub verdict_by : (c : CoreState) (i : ℕ) → IsSound c → c.certifier.step ≡ None
    → Contains c.certifier.active i → (t : Bool) → reaches (all_edges c i) i i ≡ t → IsDecision c i
verdict_by c i h none active false e = inl (commits_so c i h e)
verdict_by c i h none active true e = inr (refuses_so c i h none active e)

unfoldable pub verdict : (c : CoreState) (i : ℕ) → IsSound c → c.certifier.step ≡ None → Contains c.certifier.active i
    → IsDecision c i
verdict c i h none active = verdict_by c i h none active (reaches (all_edges c i) i i) refl

-- what is read at the site is found
abbrev pub after_read : CoreState → ℕ → ℕ → Name → ℕ → CoreState
after_read c tx s x u = with_entries c (only_at s (entry.Read tx x u ∷ []))

unfoldable pub looked : (c : CoreState) (tx s : ℕ) (x : Name) (u : ℕ) → value_at (items_at c s) (c.entries s) x ≡ Some u
    → (o : Option ℕ) → look (after_read c tx s x u) tx s x ≡ o → (v : ℕ) × (new : CoreState) × ReadsSite c tx s x v new
looked c tx s x u value (Some v) e = (v, after_read c tx s x u, (u, value, refl, e))
looked c tx s x u value None e =
    let r = entry.Read tx x u in
    let logged : Contains (c.entries s ++ only_at s (r ∷ []) s) r =
    Contains-append_right (c.entries s) (only_at s (r ∷ []) s) r
    (subst (λ es. Contains es r) (sym (only_here s (r ∷ []))) (cons_here r [])) in
    absurd (unread (after_read c tx s x u) tx s x e r logged refl refl)

unfoldable pub valued_by : (c : CoreState) (tx s : ℕ) (x : Name) → IsAllowed c (Read tx s x) → (o : Option ℕ)
    → value_at (items_at c s) (c.entries s) x ≡ o
    → (v : ℕ) × (new : CoreState) × ReadsSite c tx s x v new
valued_by c tx s x allowed (Some u) e = looked c tx s x u e (look (after_read c tx s x u) tx s x) refl
valued_by c tx s x allowed None e =
    let u = valued (items_at c s) (c.entries s) x (known_item c s x (allowed fault.UnknownItem)) in
    let f : Some u.0 ≡ None = sym u.1 ∙ e in
    absurd cc

unfoldable pub reads_site : (c : CoreState) (tx s : ℕ) (x : Name) → IsAllowed c (Read tx s x)
    → (v : ℕ) × (new : CoreState) × ReadsSite c tx s x v new
reads_site c tx s x allowed = valued_by c tx s x allowed (value_at (items_at c s) (c.entries s) x) refl

unfoldable pub reads : (c : CoreState) (tx s : ℕ) (x : Name) (found : Option ℕ) → IsAllowed c (Read tx s x)
    → (v : ℕ) × (new : CoreState) × Reads c tx s x v found new
reads c tx s x (Some w) allowed = (w, c, (refl, refl))
reads c tx s x None allowed = reads_site c tx s x allowed

-- a decision with its reply
unfoldable pub decides : (c : CoreState) (tx : ℕ) → IsKept c → IsAllowed c (Decide tx)
    → (reply : Reply) × (new : CoreState) × Serves c (Decide tx) reply new
decides c tx k allowed =
    elim (verdict c tx k.sound (decide_idle c tx k allowed) (is_active c (Decide tx) tx allowed refl)) [
      | inl r ↦ (Yes, r.0, (allowed, r.1))
      | inr r ↦ (No, r.0, (allowed, r.1))
    ]

-- an event that is no whole commit
abbrev pub IsPart : Event → Type 0
IsPart (Commit tx) = ⊥
IsPart event = Unit {0}

unfoldable pub goes_on : (c : CoreState) (event : Event) → IsKept c → IsPart event → IsAllowed c event
    → (reply : Reply) × (new : CoreState) × Serves c event reply new
goes_on c Begin k part allowed = (
  Begun (suc c.certifier.begun),
  record c { certifier = with_begun c.certifier },
  (allowed, (refl, refl)),
)
goes_on c (Read tx s x) k part allowed =
    let r = reads c tx s x (look c tx s x) allowed in
    (Value r.0, r.1, (allowed, r.2))
goes_on c (Put tx s x v) k part allowed = (Kept, with_change c tx s x (change.Put v), (allowed, refl))
goes_on c (Add tx s x v) k part allowed = (
  Kept,
  with_change c tx s x (added_to (change_in (c.changes tx s) x) v),
  (allowed, refl),
)
goes_on c (Gather tx s) k part allowed =
    (Gathered, record c { step = Some (record { tx = tx; gathered = s ∷ gathered_in c.step }) }, (allowed, refl))
goes_on c (Decide tx) k part allowed = decides c tx k allowed
goes_on c (Install tx s) k part allowed = (Installed, installed c tx s, (allowed, refl))
goes_on c (Commit tx) k part allowed = absurd part
goes_on c (Withdraw tx) k part allowed = (
  Withdrawn,
  record (with_entries c (withdrawn_block c tx)) { certifier = with_withdrawn c.certifier tx },
  (allowed, refl),
)
goes_on c Close k part allowed =
    (Closed (length (serial c.certifier)), record c { certifier = with_closed c.certifier }, (allowed, (refl, refl)))
