-- Decisions that are added one by one.
use Rattle.std.proofs.Common.{◌≡◌, ℕ, zero, suc, ◌+◌, ◌<◌, ◌≤◌, List, [], ◌∷◌, ◌++◌, Bool, true, false, Option, Some, None, length, map, take, refl, sym, ap, ap₂, ◌∙◌, subst, arith, inl, inr, append-nil}
use Rattle.std.specs.Prelude.{slice_get, nat_lt, if◌then◌else◌}
use Rattle.std.specs.List.{cons_option, filter, filter_map, flat_map}
use Rattle.std.specs.Option.{option_map_or}
use Rattle.std.proofs.lemmas.Bool.{cases_Bool}
use Rattle.std.proofs.lemmas.Bool.Decides.{nat_tests}
use Rattle.std.proofs.lemmas.List.{length-append, length-take, take_all, take-append-le}
use Rattle.std.proofs.lemmas.List.Elements.{filter_map-append}
use Rattle.sgt_names.proofs.Lists.{take_next}
use Rattle.sgt_bundle.specs.Certificate.{is_refusal}
use Rattle.sgt_bundle.specs.declared.certificate.Decision.{Decision}
use Rattle.sgt_draw.specs.Gathering.{AddsDecision, HoldsAll, IsScene, with_option}
use Rattle.sgt_draw.specs.Node.{node}
use Rattle.sgt_draw.specs.Private.{IsRanked, numbered_in, refusals_from, refused_at, row_node, scene_nodes, with_next}
use Rattle.sgt_draw.specs.Wanted.{all_nodes, most_drawn, refused_nodes, withdrawn_in}
use Rattle.sgt_draw.specs.declared.node.Fate.TheVariants.{Committed, Withdrawn}
use Rattle.sgt_draw.specs.declared.node.Node.{Node}
use Rattle.sgt_draw.specs.declared.scene.Numbered.{Numbered}
use Rattle.sgt_draw.specs.declared.scene.Scene.{Scene}
use Rattle.sgt_draw.proofs.Ranked.{ranked}

less : (a b : ℕ) → nat_lt a b ≡ true → a < b
less a b h = grind (arith, nat_tests)

no-less : (a b : ℕ) → nat_lt a b ≡ false → b ≤ a
no-less a b h = grind (arith, nat_tests)

longer : {A : Type 0} (xs : List A) (x : A) (m : ℕ) → length xs < m → length (xs ++ x ∷ []) ≤ m
longer xs x m lt = let size = length-append xs (x ∷ []) in omega (arith, size, lt)

pub next-taken : {A : Type 0} (most : ℕ) (xs : List A) (x : A) → with_next most (take most xs) x ≡ take most (xs ++ x ∷ [])
next-taken {A = A} most xs x =
    let size = length-take most xs in
    elim (cases_Bool (nat_lt (length (take most xs)) most)) [
      | inl hit ↦
          let lt = less (length (take most xs)) most hit in
          let few : length xs ≤ most = omega (arith, size, lt) in
          let more : length (xs ++ x ∷ []) ≤ most = longer xs x most (omega (arith, size, lt)) in
          rw hit (ap (λ (ys : List A). ys ++ x ∷ []) (take_all most xs few) ∙ sym (take_all most (xs ++ x ∷ []) more))
      | inr miss ↦
          let ge = no-less (length (take most xs)) most miss in
          rw miss (sym (take-append-le most xs (x ∷ []) (omega (arith, size, ge))))
    ]

by_option : {A : Type 0} (most : ℕ) (xs : List A) (o : Option A)
    → with_option most (take most xs) o ≡ take most (xs ++ cons_option o [])
by_option most xs None = ap (take most) (sym (append-nil xs))
by_option most xs (Some x) = next-taken most xs x

option-taken : {A : Type 0} (most : ℕ) (xs : List A) (f : Decision → Option A) (d : Decision)
    → with_option most (take most xs) (f d) ≡ take most (xs ++ filter_map f (d ∷ []))
option-taken most xs f d = by_option most xs (f d)

refusals-push : (k : ℕ) (ds : List Decision) (d : Decision)
    → refusals_from k (ds ++ d ∷ []) ≡ refusals_from k ds ++ (if is_refusal d then (k + length ds) ∷ [] else [])
refusals-push k [] d = let e : k ≡ k + 0 = omega arith in
    ap (λ (n : ℕ). if is_refusal d then n ∷ [] else []) e
refusals-push k (e ∷ ds) d =
    let on : k + 1 + length ds ≡ k + suc (length ds) = omega arith in
    let more = refusals-push (k + 1) ds d
    ∙ ap (λ (n : ℕ). refusals_from (k + 1) ds ++ (if is_refusal d then n ∷ [] else [])) on in
    elim (cases_Bool (is_refusal e)) [
      | inl hit ↦ rw hit (ap (λ (ns : List ℕ). k ∷ ns) more)
      | inr miss ↦ rw miss more
    ]

refusals-next : (most : ℕ) (ds : List Decision) (d : Decision)
    → (if is_refusal d then with_next most (take most (refusals_from 0 ds)) (length ds) else take most (refusals_from 0 ds))
    ≡ take most (refusals_from 0 (ds ++ d ∷ []))
refusals-next most ds d =
    let push = refusals-push 0 ds d in
    let place : 0 + length ds ≡ length ds = omega arith in
    elim (cases_Bool (is_refusal d)) [
      | inl hit ↦
          rw hit (next-taken most (refusals_from 0 ds) (length ds)
          ∙ ap (take most) (sym (push ∙ ap (λ (b : Bool). refusals_from 0 ds ++ (if b then (0 + length ds) ∷ [] else [])) hit
          ∙ ap (λ (n : ℕ). refusals_from 0 ds ++ n ∷ []) place)))
      | inr miss ↦
          rw miss (ap (take most) (sym (push ∙ ap (λ (b : Bool). refusals_from 0 ds ++ (if b then (0 + length ds) ∷ [] else [])) miss
          ∙ append-nil (refusals_from 0 ds))))
    ]

-- one more decision
pub holds-next : (most n : ℕ) (ds : List Decision) (d : Decision) (old new : Scene) → slice_get ds n ≡ Some d
    → length (take n ds) ≡ n → HoldsAll most (take n ds) old → AddsDecision most n d old new
    → HoldsAll most (take (n + 1) ds) new
holds-next most n ds d old new at long holds adds =
    let more = take_next ds n d at in
    let front = take n ds in
    subst (λ (xs : List Decision). HoldsAll most xs new) (sym more) (record {
      committed = adds.committed ∙ ap (λ (cs : List Numbered). cs ++ filter_map (numbered_in most) (d ∷ [])) holds.committed
          ∙ sym (filter_map-append (numbered_in most) front (d ∷ []));
      refusals = adds.refusals
          ∙ ap (λ (ns : List ℕ). if is_refusal d then with_next most ns n else ns) holds.refusals
          ∙ ap (λ (k : ℕ). if is_refusal d then with_next most (take most (refusals_from 0 front)) k else take most (refusals_from 0 front)) (sym long)
          ∙ refusals-next most front d;
      withdrawn = adds.withdrawn
          ∙ ap (λ (txs : List ℕ). with_option most txs (withdrawn_in d)) holds.withdrawn
          ∙ option-taken most (filter_map withdrawn_in front) withdrawn_in d
          ∙ ap (take most) (sym (filter_map-append withdrawn_in front (d ∷ [])));
    })

take-none : {A : Type 0} (m : ℕ) (xs : List A) → xs ≡ [] → take m xs ≡ []
take-none zero xs none = refl
take-none (suc m) xs none = ap (take (suc m)) none

-- none so far
pub holds-none : (most : ℕ) (scene : Scene) → scene.committed.items ≡ [] → scene.refusals.items ≡ []
    → scene.withdrawn.items ≡ [] → HoldsAll most [] scene
holds-none most scene a b c = record {
  committed = a;
  refusals = b ∙ sym (take-none most (refusals_from 0 []) refl);
  withdrawn = c ∙ sym (take-none most (filter_map withdrawn_in []) refl);
}

-- by rank
pub is-scene : (most : ℕ) (ds : List Decision) (old new : Scene) → HoldsAll most ds old
    → IsRanked old.committed.items new.committed.items → new.refusals.items ≡ old.refusals.items
    → new.withdrawn.items ≡ old.withdrawn.items → IsScene most ds new
is-scene most ds old new holds is same same' =
    let by : IsRanked (filter_map (numbered_in most) ds) new.committed.items =
    subst (λ (cs : List Numbered). IsRanked cs new.committed.items) holds.committed is in record {
      all = by.all;
      committed = ranked most ds new.committed.items by;
      refusals = same ∙ holds.refusals;
      withdrawn = same' ∙ holds.withdrawn;
    }

-- ---- the nodes of a scene

rows : (cs : List Numbered) → map (row_node None) cs ≡ map (node Committed) (map (λ (c : Numbered). c.tx) cs)
rows [] = refl
rows (c ∷ cs) = ap (λ (ns : List Node). node Committed c.tx ∷ ns) (rows cs)

-- the decisions of these numbers are those that refuse
refused-all : (is_dot : Bool) (all : List Decision) (most k : ℕ) (ds : List Decision)
    → ((i : ℕ) → slice_get all (k + i) ≡ slice_get ds i)
    → flat_map (refused_at is_dot all) (take most (refusals_from k ds))
    ≡ flat_map (refused_nodes is_dot) (take most (filter is_refusal ds))
refused-all is_dot all zero k ds at = refl
refused-all is_dot all (suc most) k [] at = refl
refused-all is_dot all (suc most) k (d ∷ ds) at =
    let here : slice_get all k ≡ Some d = (let e : k ≡ k + 0 = omega arith in ap (slice_get all) e ∙ at 0) in
    let later : (i : ℕ) → slice_get all (k + 1 + i) ≡ slice_get ds i =
    λ i. (let e : k + 1 + i ≡ k + suc i = omega arith in ap (slice_get all) e ∙ at (suc i)) in
    elim (cases_Bool (is_refusal d)) [
      | inl hit ↦
          rw hit (ap₂ (λ (a : List Node) (b : List Node). a ++ b)
          (ap (λ (o : Option Decision). option_map_or (refused_nodes is_dot) o []) here)
          (refused-all is_dot all most (k + 1) ds later))
      | inr miss ↦ rw miss (refused-all is_dot all (suc most) (k + 1) ds later)
    ]

pub scene-all : (is_dot : Bool) (ds : List Decision) (scene : Scene) → IsScene most_drawn ds scene
    → scene_nodes is_dot ds scene ≡ all_nodes is_dot ds
scene-all is_dot ds scene is =
    ap₂ (λ (a : List Node) (b : List Node). a ++ b)
    (rows scene.committed.items ∙ ap (map (node Committed)) is.committed)
    (ap₂ (λ (a : List Node) (b : List Node). a ++ b)
    (ap (flat_map (refused_at is_dot ds)) is.refusals
    ∙ refused-all is_dot ds most_drawn 0 ds (λ i. (let e : 0 + i ≡ i = omega arith in ap (slice_get ds) e)))
    (ap (map (node Withdrawn)) is.withdrawn))
