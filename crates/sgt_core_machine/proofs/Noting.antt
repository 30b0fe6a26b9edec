-- What the judge has noted, as each step leaves it.
use Rattle.std.proofs.Common.{◌≡◌, ℕ, List, [], ◌∷◌, None, Some, sym, ◌∙◌, subst, inl, inr, Any, Contains}
use Rattle.std.proofs.lemmas.List.Elements.{Contains-append_cases, Contains-append_left, Contains-append_right}
use Rattle.std.proofs.lemmas.Option.{same_Some}
use Rattle.sgt_names.specs.Name.{Name}
use Rattle.sgt_certifier.specs.Certifier.{State, Install, committed, serial, with_install}
use Rattle.sgt_certifier.specs.History.{IsNoted}
use Rattle.sgt_certifier.specs.Sound.{IsRuled}
use Rattle.sgt_certifier.proofs.Members.{cons_here}
use Rattle.sgt_core_machine.specs.Machine.{HasNoted}
use Rattle.sgt_names.proofs.Elements.{contains-cases, contains-none}

abbrev IsOf : ℕ → ℕ → Install → Type 0
IsOf tx site x = (x.tx ≡ tx) × (x.site ≡ site)

-- nothing is noted
pub same_noted : (s t s2 t2 : State) → HasNoted s t → s2.step ≡ s.step → s2.installs ≡ s.installs
    → t2.installs ≡ t.installs
    → ((i : ℕ) → Contains (serial t) i → Contains (serial t2) i) → HasNoted s2 t2
same_noted s t s2 t2 h step mine all grows = record {
  open_step =
      λ tx o site n. subst (Any (IsOf tx site)) (sym mine)
      (h.open_step tx (sym step ∙ o) site (subst (Any (IsOf tx site)) all n));
  committed = λ i m. grows i.tx (h.committed i (subst (λ xs. Contains xs i) all m));
}

-- no step is open any more
pub ended_noted : (s t s2 t2 : State) → HasNoted s t → s2.step ≡ None → t2.installs ≡ t.installs
    → ((i : ℕ) → Contains (serial t) i → Contains (serial t2) i) → HasNoted s2 t2
ended_noted s t s2 t2 h idle all grows = record {
  open_step = λ tx o site n. absurd (let f : None ≡ Some tx = sym idle ∙ o in cc);
  committed = λ i m. grows i.tx (h.committed i (subst (λ xs. Contains xs i) all m));
}

-- who is active while no step is open has no install
pub none_of : (s t : State) (i site : ℕ) → HasNoted s t → IsRuled t → t.step ≡ None → Contains t.active i
    → IsNoted t i site → ⊥
none_of s t i site h ruled idle active n =
    let member = subst (Contains (serial t)) n.4.0 (h.committed n.1 (n.0, n.2, n.3)) in
    let r = ruled.from_serial i member in
    let open_i = ruled.ended r.0 (committed i) r.1 active in
    absurd (let f : None ≡ Some i = sym idle ∙ open_i in cc)

-- the step of a transaction opens that has no install
pub ruled_noted : (s t s2 t2 : State) (i : ℕ) → HasNoted s t → s2.step ≡ Some i → t2.installs ≡ t.installs
    → ((site : ℕ) → IsNoted t i site → ⊥)
    → ((j : ℕ) → Contains (serial t) j → Contains (serial t2) j) → HasNoted s2 t2
ruled_noted s t s2 t2 i h step all none grows = record {
  open_step = λ tx o site n.
      let same : tx ≡ i = same_Some tx i (sym o ∙ step) in
      absurd (none site (subst (λ u. IsNoted t u site) same (subst (Any (IsOf tx site)) all n)));
  committed = λ j m. grows j.tx (h.committed j (subst (λ xs. Contains xs j) all m));
}

-- an install is noted
pub install_noted : (s t : State) (tx site : ℕ) (items : List Name) → HasNoted s t → Contains (serial t) tx
    → HasNoted (with_install s tx site []) (with_install t tx site items)
install_noted s t tx site items h member =
    let mine : Install = record { tx = tx; site = site; items = [] } in
    let one : Install = record { tx = tx; site = site; items = items } in
    record {
      open_step = λ u o at n. elim (Contains-append_cases t.installs (one ∷ []) n.1 (n.0, n.2, n.3)) [
        | inl was ↦
            let m = h.open_step u o at (was.0, n.1, was.1, was.2, n.4) in
            let left = Contains-append_left s.installs (mine ∷ []) m.1 (m.0, m.2, m.3) in
            (left.0, m.1, left.1, left.2, m.4)
        | inr last ↦ elim (contains-cases one [] n.1 last) [
          | inl e ↦
              let right = Contains-append_right s.installs (mine ∷ []) mine (cons_here mine []) in
              let is : IsOf u at one = subst (IsOf u at) (sym e) n.4 in
              (right.0, mine, right.1, right.2, is)
          | inr none ↦ absurd (contains-none n.1 none)
        ]
      ];
      committed = λ i m. elim (Contains-append_cases t.installs (one ∷ []) i m) [
        | inl was ↦ h.committed i was
        | inr last ↦ elim (contains-cases one [] i last) [
          | inl e ↦ subst (λ (x : Install). Contains (serial t) x.tx) e member
          | inr none ↦ absurd (contains-none i none)
        ]
      ];
    }
