-- A committed transaction among others.
use Rattle.std.proofs.Common.{◌≡◌, ◌≢◌, ◌⊎◌, ℕ, ◌+◌, ◌-◌, ◌<◌, ◌≤◌, suc, List, [], ◌∷◌, Bool, Option, Some, get_or, length, map, take, drop, refl, sym, ap, ◌∙◌, subst, arith, inl, inr, All, Contains}
use Rattle.std.specs.Prelude.{slice_get, ◌==◌, if◌then◌else◌}
use Rattle.std.specs.List.{filter_map}
use Rattle.std.proofs.lemmas.Bool.{cases_Bool, eq-eqb, eqb-true}
use Rattle.std.proofs.lemmas.List.{take_all}
use Rattle.std.proofs.lemmas.List.Elements.{All-map, All-contains, All-more, All-weaker, Contains-push_cases}
use Rattle.std.proofs.lemmas.List.Sorted.{All-permutation, Contains-permutation}
use Rattle.std.proofs.lemmas.Option.{slice_get-get_or, same_Some}
use Rattle.sgt_names.proofs.Elements.{get-mapped}
use Rattle.sgt_names.proofs.Lists.{take_next}
use Rattle.sgt_names.proofs.Places.{Contains_at, Contains-from_at, slice_get-drop, slice_get-take_at}
use Rattle.sgt_bundle.specs.Certificate.{IsCommitted, decided_tx}
use Rattle.sgt_bundle.specs.declared.certificate.Decision.{Decision}
use Rattle.sgt_bundle.specs.declared.certificate.Decision.TheVariants.{Commit}
use Rattle.sgt_draw.specs.Gathering.{AddsWanted, IsScene}
use Rattle.sgt_draw.specs.Node.{node}
use Rattle.sgt_draw.specs.Private.{numbered_in, row_node}
use Rattle.sgt_draw.specs.Sheet.{Adds, Shown}
use Rattle.sgt_draw.specs.Wanted.{AreAround, AreOne, decision_on}
use Rattle.sgt_draw.specs.declared.node.Fate.TheVariants.{Committed, Asked}
use Rattle.sgt_draw.specs.declared.node.Node.{Node}
use Rattle.sgt_draw.specs.declared.scene.Numbered.{Numbered}
use Rattle.sgt_draw.specs.declared.scene.Scene.{Scene}
use Rattle.sgt_draw.proofs.Ranked.{are-committed, has-committed}

-- it was committed
abbrev IsOne : List Decision → Numbered → Type 0
IsOne ds c = (n : ℕ) × IsCommitted ds n c.tx c.number

abbrev IsOther : ℕ → List Decision → Node → Type 0
IsOther tx ds n = (n ≡ node Asked tx) ⊎ ((number : ℕ) × (rank : ℕ) × (n ≡ node Committed n.tx)
    × IsCommitted ds number n.tx rank)

one-other : (tx : ℕ) (ds : List Decision) (c : Numbered) → IsOne ds c → IsOther tx ds (row_node (Some tx) c)
one-other tx ds c is = elim (cases_Bool (tx == c.tx)) [
  | inl hit ↦ inl (ap (λ (b : Bool). node (if b then Asked else Committed) c.tx) hit
      ∙ ap (node Asked) (sym (eqb-true tx c.tx hit)))
  | inr miss ↦ inr (is.0, c.number, ap (λ (b : Bool). node (if b then Asked else Committed) c.tx) miss, is.1)
]

pub around : (tx : ℕ) (ds : List Decision) (c : Numbered) (cs : List Numbered) → c.tx ≡ tx → Contains cs c
    → All (IsOne ds) cs → AreAround tx ds (map (row_node (Some tx)) cs)
around tx ds c cs same there all =
    let at = Contains_at cs c there in
    let own : row_node (Some tx) c ≡ node Asked tx =
    ap (λ (b : Bool). node (if b then Asked else Committed) c.tx) (eq-eqb tx c.tx (sym same)) ∙ ap (node Asked) same in record {
      own = Contains-from_at (map (row_node (Some tx)) cs) at.0 (node Asked tx)
          (get-mapped (row_node (Some tx)) cs at.0 c at.1 ∙ ap Some own);
      others = All-map (IsOther tx ds) (row_node (Some tx)) cs
          (All-weaker (IsOne ds) (λ (d : Numbered). IsOther tx ds (row_node (Some tx) d)) (one-other tx ds) cs all);
    }

-- all in a scene are committed, and who is committed is there
pub all-committed : (most : ℕ) (ds : List Decision) (scene : Scene) → IsScene most ds scene
    → All (IsOne ds) scene.committed.items
all-committed most ds scene is =
    All-permutation (IsOne ds) (filter_map (numbered_in most) ds) scene.committed.items is.all
    (λ k d lt. (let h = are-committed most ds k d lt in (h.0, h.2)))

pub committed-there : (most : ℕ) (ds : List Decision) (scene : Scene) (n tx rank : ℕ) → IsScene most ds scene
    → rank < most → IsCommitted ds n tx rank → Contains scene.committed.items (record { tx = tx; number = rank })
committed-there most ds scene n tx rank is lt at =
    Contains-permutation (filter_map (numbered_in most) ds) scene.committed.items (record { tx = tx; number = rank })
    is.all (has-committed most ds n tx rank lt at)

-- who is there is not none of them
pub not-none : (cs : List Numbered) (tx rank : ℕ) → Contains cs (record { tx = tx; number = rank })
    → All (λ (c : Numbered). c.tx ≢ tx) cs → ⊥
not-none cs tx rank there none =
    All-contains (λ (c : Numbered). c.tx ≢ tx) cs (record { tx = tx; number = rank }) none there refl

-- those among committed ones are committed
pub among : (ds : List Decision) (whole cs : List Numbered) → All (IsOne ds) whole → All (Contains whole) cs
    → All (IsOne ds) cs
among ds whole cs all part =
    All-weaker (Contains whole) (IsOne ds) (λ c there. All-contains (IsOne ds) whole c all there) cs part

-- a window with a place in it
pub in-window : (places : List ℕ) (place at begin end : ℕ) → slice_get places at ≡ Some place → begin ≤ at → at < end
    → Contains (take (end - begin) (drop begin places)) place
in-window places place at begin end is low high =
    let e : begin + (at - begin) ≡ at = omega (arith, low) in
    let there : slice_get (drop begin places) (at - begin) ≡ Some place =
    slice_get-drop places begin (at - begin) ∙ ap (slice_get places) e ∙ is in
    Contains-from_at (take (end - begin) (drop begin places)) (at - begin) place
    (slice_get-take_at (drop begin places) (end - begin) (at - begin) place (omega (arith, low, high)) there)

-- the first decision on a transaction is one of the decisions
pub decision-there : (tx : ℕ) (ds : List Decision) (d : Decision) → decision_on tx ds ≡ Some d
    → (n : ℕ) × (slice_get ds n ≡ Some d) × (decided_tx d ≡ tx)
decision-there tx [] d is = absurd cc
decision-there tx (e ∷ ds) d is = elim (cases_Bool (decided_tx e == tx)) [
  | inl hit ↦ (let same = same_Some e d (sym (ap (λ (b : Bool). if b then Some e else decision_on tx ds) hit) ∙ is) in
      (0, ap Some same, ap decided_tx (sym same) ∙ eqb-true (decided_tx e) tx hit))
  | inr miss ↦ (let h = decision-there tx ds d (sym (ap (λ (b : Bool). if b then Some e else decision_on tx ds) miss) ∙ is) in
      (suc h.0, h.1, h.2))
]

-- ---- what is picked

-- one more place
pub own-next : (places : List ℕ) (i : ℕ) (whole old new : List Numbered) → i < length places
    → ((p : ℕ) (c : Numbered) → Contains (take i places) p → slice_get whole p ≡ Some c → Contains old c)
    → ((c : Numbered) → slice_get whole (get_or places i 0) ≡ Some c → Contains new c)
    → ((c : Numbered) → Contains old c → Contains new c)
    → (p : ℕ) (c : Numbered) → Contains (take (i + 1) places) p → slice_get whole p ≡ Some c → Contains new c
own-next places i whole old new within before now kept p c there at =
    let x = get_or places i 0 in
    let more = take_next places i x (slice_get-get_or places i 0 within) in
    elim (Contains-push_cases (take i places) x p (subst (λ (ps : List ℕ). Contains ps p) more there)) [
      | inl early ↦ kept c (before p c early at)
      | inr last ↦ now c (ap (slice_get whole) last ∙ at)
    ]

pub own-all : (places : List ℕ) (i : ℕ) (whole new : List Numbered) → length places ≤ i
    → ((p : ℕ) (c : Numbered) → Contains (take i places) p → slice_get whole p ≡ Some c → Contains new c)
    → (p : ℕ) (c : Numbered) → Contains places p → slice_get whole p ≡ Some c → Contains new c
own-all places i whole new all before p c there at =
    before p c (subst (λ (ps : List ℕ). Contains ps p) (sym (take_all i places all)) there) at

pub once-next : (ends : List ℕ) (i : ℕ) (old new : List ℕ) → i < length ends → All (Contains old) (take i ends)
    → Contains new (get_or ends i 0) → ((p : ℕ) → Contains old p → Contains new p)
    → All (Contains new) (take (i + 1) ends)
once-next ends i old new within all added kept =
    All-more (Contains new) ends i 0 within (All-weaker (Contains old) (Contains new) kept (take i ends) all) added

-- ---- the decision on a transaction

-- the nodes that are wanted of one
pub wanted-one : (is_dot : Bool) (tx : ℕ) (ds : List Decision) (o : Option Decision) (nodes : List Node)
    (old new : Shown) → decision_on tx ds ≡ o → AreOne is_dot tx ds o nodes → Adds nodes old new
    → AddsWanted is_dot (Some tx) ds old new
wanted-one is_dot tx ds o nodes old new is are adds =
    (nodes, subst (λ (p : Option Decision). AreOne is_dot tx ds p nodes) (sym is) are, adds)

-- it is committed, where that decision commits it
pub committed-is : (tx : ℕ) (ds : List Decision) (d : Decision) (t rank : ℕ) → decision_on tx ds ≡ Some d
    → d ≡ Commit t rank → (n : ℕ) × IsCommitted ds n tx rank
committed-is tx ds d t rank on is =
    let h = decision-there tx ds d on in
    (h.0, h.1 ∙ ap Some is ∙ ap (λ (u : ℕ). Some (Commit u rank)) (sym (ap decided_tx is) ∙ h.2))
