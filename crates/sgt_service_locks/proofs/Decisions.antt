-- What a decision does to the certifier, and the installs that follow it.
use Rattle.std.proofs.Common.{◌≡◌, ◌+◌, ◌≤◌, ℕ, List, [], ◌∷◌, ◌++◌, length, Some, refl, sym, ap, ◌∙◌, subst, arith, inl, inr, length-append}
use Rattle.std.specs.Prelude.{Contains}
use Rattle.std.proofs.lemmas.List.Elements.{Contains-append_cases}
use Rattle.std.proofs.lemmas.List.Quantifiers.{Any-push}
use Rattle.sgt_names.specs.Name.{Name}
use Rattle.sgt_names.specs.declared.draft.Touch.{Touch}
use Rattle.sgt_arena.specs.declared.handle.Handle.{Handle}
use Rattle.sgt_edges.specs.declared.edge.Edge.{Edge}
use Rattle.sgt_certifier.specs.Certifier.{State, Install, ruled, committed, refused, withdrawn}
use Rattle.sgt_certifier.specs.History.{IsNoted, IsInstalling, Replays, tx_under, installed, finish}
use Rattle.sgt_certifier.specs.Kept.{Kept, Adds, Declines, IsExpected}
use Rattle.sgt_certifier.specs.declared.call.Decided.{Decided}
use Rattle.sgt_certifier.specs.declared.call.Decided.TheVariants.{Committed, Refused}
use Rattle.sgt_certifier.specs.declared.call.Call.TheVariants as call
use Rattle.sgt_certifier.specs.declared.call.CertifierFault.{CertifierFault}
use Rattle.sgt_certifier.specs.declared.call.CertifierFault.TheVariants as fault
use Rattle.sgt_certifier.proofs.Members.{placed_self}
use Rattle.sgt_certifier.proofs.Replaying.{no_step, active_under, replays-good}
use Rattle.sgt_certifier.proofs.Installs.{none_noted}
use Rattle.sgt_workers.specs.declared.ticket.Ending.TheVariants as ending
use Rattle.sgt_service_locks.specs.Guarded.{decision_count, ticket_of, AwaitsInstalls, IsDecided}
use Rattle.sgt_names.proofs.Elements.{contains-cases, contains-none}

pub decided_step : (old new : Kept) (h : Handle) (edges : List Edge) (reply : Decided)
    → Adds old (call.Decide h edges reply) new
    → new.state.step ≡ Some (tx_under old.state h)
decided_step old new h edges (Committed number) a = ap (λ (s : State). s.step) a.serves.1.1.after
decided_step old new h edges (Refused number walk) a = ap (λ (s : State). s.step) a.serves.1.1.after

pub decided_awaits : (old new : Kept) (h : Handle) (edges : List Edge) (reply : Decided) (tx : ℕ) (touched : List Touch)
    → Adds old (call.Decide h edges reply) new → Replays old.history old.state → tx_under old.state h ≡ tx
    → ((site : ℕ) → IsExpected old.expected touched site) → (ticket_of tx reply).verdict ≡ ending.Committed
    → AwaitsInstalls new tx touched 0
decided_awaits old new h edges (Refused number walk) tx touched a r named room verdict = cc
decided_awaits old new h edges (Committed number) tx touched a r named room verdict =
    let i : ℕ = tx_under old.state h in
    let good = replays-good old.history old.state r in
    let none = no_step old.state (λ t. a.serves.0 (fault.StepOpen t)) in
    let active = active_under old.state h (λ n. a.serves.0 fault.Unknown (inl n)) in
    let commits = a.serves.1.1 in
    let here : Contains commits.places i =
    subst (λ ps. Contains ps i) (sym commits.placed.2) (placed_self commits.placed.0 old.state.order i) in
    let order : Contains new.state.order i = subst (λ (s : State). Contains s.order i) (sym commits.after) here in
    let step : new.state.step ≡ Some i = ap (λ (s : State). s.step) commits.after in
    subst (λ t. AwaitsInstalls new t touched 0) named (record {
      installing = (step, order);
      unnoted = λ site _ n. none_noted old.state i site good.ruled good.installed none active.1
          (subst (λ (s : State). IsNoted s i site) commits.after n);
      expected = λ site _. subst (λ e. IsExpected e touched site) (sym a.expected) (room site);
    })

pub later : (k : Kept) (tx : ℕ) (touched : List Touch) (m n : ℕ) → m ≤ n → AwaitsInstalls k tx touched m
    → AwaitsInstalls k tx touched n
later k tx touched m n le w = record {
  installing = w.installing;
  unnoted = λ site above. w.unnoted site (omega (arith, le, above));
  expected = λ site above. w.expected site (omega (arith, le, above));
}

pub noted_awaits : (old new : Kept) (tx site : ℕ) (items : List Name) (touched : List Touch)
    → Adds old (call.Installed tx site items) new
    → AwaitsInstalls old tx touched site → AwaitsInstalls new tx touched (site + 1)
noted_awaits old new tx site items touched a w =
    let one : Install = record { tx = tx; site = site; items = items } in
    let after = a.serves.1 in
    record {
      installing = subst (λ (s : State). IsInstalling s tx) (sym after) w.installing;
      unnoted = λ s above n.
          let m : IsNoted (record old.state { installs = old.state.installs ++ one ∷ [] }) tx s =
          subst (λ (t : State). IsNoted t tx s) after n in
          elim (Contains-append_cases old.state.installs (one ∷ []) m.1 (m.0, m.2, m.3)) [
            | inl was ↦ w.unnoted s (omega (arith, above)) (was.0, m.1, was.1, was.2, m.4)
            | inr last ↦ elim (contains-cases one [] m.1 last) [
              | inl e ↦ let at : site ≡ s = ap (λ (x : Install). x.site) e ∙ m.4.1 in absurd (omega (arith, at, above))
              | inr none ↦ contains-none m.1 none
            ]
          ];
      expected =
          λ s above. a.expected touched s (λ e. absurd (omega (arith, e, above))) (w.expected s (omega (arith, above)));
    }
