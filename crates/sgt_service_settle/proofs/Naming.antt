-- The names that a history gives, window by window.
use Rattle.std.proofs.Common.{◌≡◌, ◌≤◌, ℕ, suc, ◌+◌, List, [], ◌∷◌, ◌++◌, length, take, drop, Some, refl, sym, ap, ◌∙◌, subst, arith, inl, inr, Contains}
use Rattle.std.specs.Prelude.{slice_get, Vec}
use Rattle.std.specs.declared.alloc.Global.{Global}
use Rattle.std.proofs.lemmas.Option.{same_Some, none-some}
use Rattle.std.proofs.lemmas.List.{length_push}
use Rattle.sgt_arena.specs.declared.handle.Handle.{Handle}
use Rattle.sgt_order.proofs.Handles.{same_handle}
use Rattle.sgt_order.proofs.Lists.{get_push_cases}
use Rattle.sgt_certifier.specs.declared.call.Decided.TheVariants.{Committed, Refused}
use Rattle.sgt_certifier.specs.declared.call.Call.{Call}
use Rattle.sgt_certifier.specs.declared.call.Call.TheVariants as call
use Rattle.sgt_certifier.specs.Certifier.{State, opening}
use Rattle.sgt_certifier.specs.History.{Serves, RunsFrom}
use Rattle.sgt_service_settle.specs.private.Words.{At, Pushed}
use Rattle.sgt_service_settle.specs.private.Index.{AreNamed}
use Rattle.sgt_service_settle.proofs.Lists.{push_contains, push_old, push_new}
use Rattle.sgt_service_settle.proofs.Rowing.{at_pushed, pushed_old, pushed_last}
use Rattle.sgt_names.proofs.Elements.{get-push_last, contains-none}
use Rattle.sgt_names.proofs.Lists.{front_at, take_next, drop_next}

-- the windows name what began in the calls that were seen, which lead to this state
pub record IsNaming (seen : List Call) (s : State) (windows : List (Vec ℕ Global)) : Type 0 where
  pub generations : length windows ≡ suc s.generation
  pub window : s.before ≤ s.begun
  pub row : (r : Vec ℕ Global) → slice_get windows s.generation ≡ Some r → s.before + length r.items ≡ s.begun
  pub names : AreNamed seen windows

-- and the calls that are still to come lead on
pub record IsNamingOf (history : List Call) (n : ℕ) (windows : List (Vec ℕ Global)) : Type 0 where
  pub now : State
  pub last : State
  pub rest : RunsFrom now (drop n history) last
  pub naming : IsNaming (take n history) now windows

pub naming_none : (row : Vec ℕ Global) → row.items ≡ [] → IsNaming [] opening ([] ++ row ∷ [])
naming_none row none = record {
  generations = refl;
  window = omega arith;
  row = λ r at. let same : row ≡ r = same_Some row r at in let empty : length r.items ≡ 0 =
      ap length (sym (ap (λ v. v.items) same) ∙ none) in omega (arith, empty);
  names = λ h tx. (
    λ at. elim (get_push_cases [] row at.0 h.generation at.1) [
      | inl early ↦ absurd (none-some at.0 early)
      | inr last ↦ absurd (none-some tx (ap (λ xs. slice_get xs h.index) (sym none ∙ ap (λ v. v.items) last.1) ∙ at.2))
    ],
    λ named. absurd (contains-none (call.Begin tx h) named),
  );
}

pub runs_next : (s t : State) (calls : List Call) (n : ℕ) (c : Call) → slice_get calls n ≡ Some c
    → RunsFrom s (drop n calls) t → (next : State) × Serves s c next × RunsFrom next (drop (n + 1) calls) t
runs_next s t calls n c at r = let on : RunsFrom s (c ∷ drop (n + 1) calls) t =
    subst (λ cs. RunsFrom s cs t) (drop_next calls n c at) r in on

pub begun_naming : (seen : List Call) (s next : State) (tx : ℕ) (h : Handle) (windows new : List (Vec ℕ Global))
    (k : ℕ) → Serves s (call.Begin tx h) next → IsNaming seen s windows → k ≡ s.generation → Pushed windows k tx new
    → length new ≡ length windows → IsNaming (seen ++ call.Begin tx h ∷ []) next new
begun_naming seen s next tx h windows new k serves n is_k p long =
    let does = serves.1 in
    let after = does.2 in
    let generation : next.generation ≡ s.generation = ap (λ (x : State). x.generation) after in
    let begun : next.begun ≡ suc s.begun = ap (λ (x : State). x.begun) after in
    let before : next.before ≡ s.before = ap (λ (x : State). x.before) after in
    let whole : s.before + length p.before.items ≡ s.begun = n.row p.before (ap (slice_get windows) (sym is_k)
    ∙ p.was) in
    let index : h.index ≡ length p.before.items = let i = ap (λ (x : Handle). x.index) does.1 in
    omega (arith, i, whole, n.window) in
    let place : h.generation ≡ k = ap (λ (x : Handle). x.generation) does.1 ∙ sym is_k in
    record {
      generations = long ∙ (n.generations ∙ ap suc (sym generation));
      window = omega (arith, begun, before, n.window);
      row = λ r at.
          let same : p.after ≡ r =
          same_Some p.after r (sym p.now ∙ (ap (slice_get new) (is_k ∙ sym generation) ∙ at)) in
          let more : length r.items ≡ length p.before.items + 1 = ap (λ v. length v.items) (sym same)
          ∙ (ap length p.more ∙ length_push p.before.items tx) in
          omega (arith, more, begun, before, whole);
      names = λ g m. (
        λ at. elim (at_pushed windows k tx new p g.generation g.index m at) [
          | inl old ↦ push_old seen (call.Begin tx h) (call.Begin m g) ((n.names g m).0 old)
          | inr last ↦
              let same : h ≡ g = same_handle h g (index ∙ sym last.1) (place ∙ sym last.0) in
              subst (λ x. Contains (seen ++ call.Begin tx h ∷ []) (call.Begin m x)) same
              (subst (λ x. Contains (seen ++ call.Begin tx h ∷ []) (call.Begin x h)) last.2
              (push_new seen (call.Begin tx h)))
        ],
        λ named. elim (push_contains seen (call.Begin tx h) (call.Begin m g) named) [
          | inl old ↦ pushed_old windows k tx new p g.generation g.index m ((n.names g m).1 old)
          | inr last ↦
              let is_tx : tx ≡ m = cc in
              let is_h : h ≡ g = cc in
              let here : At new h.generation h.index tx =
              subst (λ i. At new h.generation i tx) (sym index)
              (subst (λ j. At new j (length p.before.items) tx) (sym place) (pushed_last windows k tx new p)) in
              subst (λ x. At new g.generation g.index x) is_tx
              (subst (λ (x : Handle). At new x.generation x.index tx) is_h here)
        ],
      );
    }

pub closed_naming : (seen : List Call) (s next : State) (ranks : ℕ) (windows : List (Vec ℕ Global))
    (row : Vec ℕ Global) → Serves s (call.Close ranks) next → IsNaming seen s windows → row.items ≡ []
    → IsNaming (seen ++ call.Close ranks ∷ []) next (windows ++ row ∷ [])
closed_naming seen s next ranks windows row serves n none =
    let after = serves.1.1 in
    let generation : next.generation ≡ suc s.generation = ap (λ (x : State). x.generation) after in
    let begun : next.begun ≡ s.begun = ap (λ (x : State). x.begun) after in
    let before : next.before ≡ s.begun = ap (λ (x : State). x.before) after in
    let long : length (windows ++ row ∷ []) ≡ length windows + 1 = length_push windows row in
    record {
      generations = omega (arith, long, n.generations, generation);
      window = omega (arith, begun, before);
      row = λ r at.
          let place : length windows ≡ next.generation = n.generations ∙ sym generation in
          let same : row ≡ r = same_Some row r (sym (get-push_last windows row)
          ∙ (ap (slice_get (windows ++ row ∷ [])) place ∙ at)) in
          let empty : length r.items ≡ 0 = ap length (sym (ap (λ v. v.items) same) ∙ none) in
          omega (arith, empty, begun, before);
      names = λ g m. (
        λ at. elim (get_push_cases windows row at.0 g.generation at.1) [
          | inl early ↦ push_old seen (call.Close ranks) (call.Begin m g) ((n.names g m).0 (at.0, early, at.2))
          | inr last ↦ absurd (none-some m (ap (λ xs. slice_get xs g.index) (sym none ∙ ap (λ v. v.items) last.1)
              ∙ at.2))
        ],
        λ named. elim (push_contains seen (call.Close ranks) (call.Begin m g) named) [
          | inl old ↦ let at = (n.names g m).1 old in (at.0, front_at windows (row ∷ []) g.generation at.0 at.1, at.2)
          | inr last ↦ absurd cc
        ],
      );
    }

-- the call neither begins a transaction nor closes the window
abbrev pub IsOther : Call → Type 0
IsOther (call.Begin tx h) = ⊥
IsOther (call.Close ranks) = ⊥
IsOther _ = Unit {0}

same_window : (s : State) (c : Call) (next : State) → IsOther c → Serves s c next
    → (next.begun ≡ s.begun) × (next.before ≡ s.before) × (next.generation ≡ s.generation)
same_window s (call.Begin tx h) next o r = absurd o
same_window s (call.Decide h edges (Committed number)) next o r = let a = r.1.1.after in
    (ap (λ (x : State). x.begun) a, ap (λ (x : State). x.before) a, ap (λ (x : State). x.generation) a)
same_window s (call.Decide h edges (Refused number walk)) next o r = let a = r.1.1.after in
    (ap (λ (x : State). x.begun) a, ap (λ (x : State). x.before) a, ap (λ (x : State). x.generation) a)
same_window s (call.Finish tx) next o r = let a = r.1 in
    (ap (λ (x : State). x.begun) a, ap (λ (x : State). x.before) a, ap (λ (x : State). x.generation) a)
same_window s (call.Withdraw h number) next o r = let a = r.1.1 in
    (ap (λ (x : State). x.begun) a, ap (λ (x : State). x.before) a, ap (λ (x : State). x.generation) a)
same_window s (call.Close ranks) next o r = absurd o
same_window s (call.Installed tx site items) next o r = let a = r.1 in
    (ap (λ (x : State). x.begun) a, ap (λ (x : State). x.before) a, ap (λ (x : State). x.generation) a)

not_begin : (c : Call) (m : ℕ) (g : Handle) → IsOther c → c ≡ call.Begin m g → ⊥
not_begin c m g o same = subst IsOther same o

pub other_naming : (seen : List Call) (s next : State) (c : Call) (windows : List (Vec ℕ Global)) → IsOther c
    → Serves s c next → IsNaming seen s windows → IsNaming (seen ++ c ∷ []) next windows
other_naming seen s next c windows o serves n =
    let same = same_window s c next o serves in
    record {
      generations = n.generations ∙ ap suc (sym same.2);
      window = omega (arith, same.0, same.1, n.window);
      row = λ r at. let was = n.row r (ap (slice_get windows) (sym same.2) ∙ at) in omega (arith, was, same.0, same.1);
      names = λ g m. (
        λ at. push_old seen c (call.Begin m g) ((n.names g m).0 at),
        λ named. elim (push_contains seen c (call.Begin m g) named) [
          | inl old ↦ (n.names g m).1 old
          | inr last ↦ absurd (not_begin c m g o last)
        ],
      );
    }

other_of : (c : Call) → ((tx : ℕ) (h : Handle) → c ≡ call.Begin tx h → ⊥) → ((ranks : ℕ) → c ≡ call.Close ranks → ⊥)
    → IsOther c
other_of (call.Begin tx h) begun closed = absurd (begun tx h refl)
other_of (call.Decide h edges reply) begun closed = tt
other_of (call.Finish tx) begun closed = tt
other_of (call.Withdraw h number) begun closed = tt
other_of (call.Close ranks) begun closed = absurd (closed ranks refl)
other_of (call.Installed tx site items) begun closed = tt

-- ---- one more call

pub naming_begun : (history : List Call) (n : ℕ) (windows new : List (Vec ℕ Global)) (c : Call) (tx : ℕ) (h : Handle)
    (k : ℕ) → IsNamingOf history n windows → slice_get history n ≡ Some c → c ≡ call.Begin tx h
    → k + 1 ≡ length windows → Pushed windows k tx new → length new ≡ length windows → IsNamingOf history (n + 1) new
naming_begun history n windows new c tx h k i here is place p long =
    let step = runs_next i.now i.last history n c here i.rest in
    let serves : Serves i.now (call.Begin tx h) step.0 = subst (λ x. Serves i.now x step.0) is step.1 in
    let next = begun_naming (take n history) i.now step.0 tx h windows new k serves i.naming
    (omega (arith, place, i.naming.generations)) p long in
    let longer : take (n + 1) history ≡ take n history ++ call.Begin tx h ∷ [] =
    take_next history n (call.Begin tx h) (here ∙ ap Some is) in
    record {
      now = step.0;
      last = i.last;
      rest = step.2;
      naming =
          subst (λ seen. IsNaming seen step.0 new) (sym longer) next;
    }

pub naming_closed : (history : List Call) (n : ℕ) (windows : List (Vec ℕ Global)) (row : Vec ℕ Global) (c : Call)
    (ranks : ℕ) → IsNamingOf history n windows → slice_get history n ≡ Some c → c ≡ call.Close ranks → row.items ≡ []
    → IsNamingOf history (n + 1) (windows ++ row ∷ [])
naming_closed history n windows row c ranks i here is none =
    let step = runs_next i.now i.last history n c here i.rest in
    let serves : Serves i.now (call.Close ranks) step.0 = subst (λ x. Serves i.now x step.0) is step.1 in
    let next = closed_naming (take n history) i.now step.0 ranks windows row serves i.naming none in
    let longer : take (n + 1) history ≡ take n history ++ call.Close ranks ∷ [] =
    take_next history n (call.Close ranks) (here ∙ ap Some is) in
    record {
      now = step.0;
      last = i.last;
      rest = step.2;
      naming =
          subst (λ seen. IsNaming seen step.0 (windows ++ row ∷ [])) (sym longer) next;
    }

pub naming_other : (history : List Call) (n : ℕ) (windows : List (Vec ℕ Global)) (c : Call)
    → IsNamingOf history n windows → slice_get history n ≡ Some c → ((tx : ℕ) (h : Handle) → c ≡ call.Begin tx h → ⊥)
    → ((ranks : ℕ) → c ≡ call.Close ranks → ⊥) → IsNamingOf history (n + 1) windows
naming_other history n windows c i here begun closed =
    let step = runs_next i.now i.last history n c here i.rest in
    let next = other_naming (take n history) i.now step.0 c windows (other_of c begun closed) step.1 i.naming in
    record {
      now = step.0;
      last = i.last;
      rest = step.2;
      naming =
          subst (λ seen. IsNaming seen step.0 windows) (sym (take_next history n c here)) next;
    }

pub naming_opens : (history : List Call) (s : State) (windows : List (Vec ℕ Global)) (row : Vec ℕ Global)
    → RunsFrom opening history s → windows ≡ [] ++ row ∷ [] → row.items ≡ [] → IsNamingOf history 0 windows
naming_opens history s windows row runs is none = record {
  now = opening;
  last = s;
  rest = runs;
  naming = subst (IsNaming (take 0 history) opening) (sym is) (naming_none row none);
}
