-- The edges between committed transactions, and what the history says of them.
use Rattle.std.proofs.Common.{◌≡◌, ◌↔◌, ◌+◌, ℕ, List, [], ◌∷◌, ◌++◌, take, length, Option, Some, refl, sym, ap, ◌∙◌, subst, inl, inr, Contains}
use Rattle.std.specs.Prelude.{slice_get, Vec}
use Rattle.std.specs.declared.alloc.Global.{Global}
use Rattle.std.proofs.lemmas.Option.{same_Some, slice_get_within}
use Rattle.sgt_names.proofs.Places.{Contains_at, Contains-from_at}
use Rattle.sgt_arena.specs.declared.handle.Handle.{Handle}
use Rattle.sgt_certifier.specs.Certifier.{Ruling}
use Rattle.sgt_certifier.specs.declared.call.Call.{Call}
use Rattle.sgt_service_settle.specs.Told.{handed_in}
use Rattle.sgt_service_settle.specs.declared.handed.Handed.{Handed}
use Rattle.sgt_service_settle.specs.declared.link.Arc.{Arc}
use Rattle.sgt_service_settle.specs.declared.link.Cut.{Cut}
use Rattle.sgt_service_settle.specs.declared.link.Link.{Link}
use Rattle.sgt_service_settle.specs.declared.index.Index.{Index}
use Rattle.sgt_service_settle.specs.private.Search.{Hold, LinksBy, AreEnds, Passes}
use Rattle.sgt_service_settle.specs.private.Words.{AreBySite}
use Rattle.sgt_service_settle.specs.private.Index.{Names, AreNamed, AreCommits, IsEnd, IsLinkOf, AreLinks, LinkedBy, CarriesBy, IsIndex}
use Rattle.sgt_service_settle.proofs.Lists.{push_contains, push_old, push_new}
use Rattle.sgt_names.proofs.Elements.{contains-none}
use Rattle.sgt_names.proofs.Lists.{take_next}

pub names_same : (windows : List (Vec ℕ Global)) (h : Handle) (a b : ℕ) → Names windows h a → Names windows h b → a ≡ b
names_same windows h a b first second =
    let row : first.0 ≡ second.0 = same_Some first.0 second.0 (sym first.1 ∙ second.1) in
    same_Some a b (sym first.2 ∙ (ap (λ v. slice_get v.items h.index) row ∙ second.2))

link_is : (windows : List (Vec ℕ Global)) (commits : List (Option ℕ)) (h : Handed) (l m : Link)
    → IsLinkOf windows commits h l → IsLinkOf windows commits h m → l ≡ m
link_is windows commits h l m first second =
    let from = names_same windows h.edge.from l.from m.from first.from.0 second.from.0 in
    let to = names_same windows h.edge.to l.to m.to first.to.0 second.to.0 in
    let label = first.label ∙ sym second.label in
    let number = first.number ∙ sym second.number in
    λ i. record { from = from i; to = to i; label = label i; number = number i }

pub links_none : (windows : List (Vec ℕ Global)) (commits : List (Option ℕ)) (handed : List Handed)
    → AreLinks windows commits (take 0 handed) []
links_none windows commits handed l = (λ c. absurd (contains-none l c), λ k. absurd (contains-none k.0 k.1))

pub links_hit : (windows : List (Vec ℕ Global)) (commits : List (Option ℕ)) (handed : List Handed) (n : ℕ)
    (h : Handed) (links : List Link) (l : Link) → slice_get handed n ≡ Some h → IsLinkOf windows commits h l
    → AreLinks windows commits (take n handed) links → AreLinks windows commits (take (n + 1) handed) (links ++ l ∷ [])
links_hit windows commits handed n h links l here is old m = (
  λ c. elim (push_contains links l m c) [
    | inl early ↦
        let k = (old m).0 early in
        (k.0, subst (λ hs. Contains hs k.0) (sym (take_next handed n h here)) (push_old (take n handed) h k.0 k.1), k.2)
    | inr last ↦ (
      h,
      subst (λ hs. Contains hs h) (sym (take_next handed n h here)) (push_new (take n handed) h),
      subst (IsLinkOf windows commits h) last is,
    )
  ],
  λ k. elim (push_contains (take n handed) h k.0 (subst (λ hs. Contains hs k.0) (take_next handed n h here) k.1)) [
    | inl early ↦ push_old links l m ((old m).1 (k.0, early, k.2))
    | inr last ↦
        let mine : IsLinkOf windows commits h m = subst (λ x. IsLinkOf windows commits x m) (sym last) k.2 in
        subst (Contains (links ++ l ∷ [])) (link_is windows commits h l m is mine) (push_new links l)
  ],
)

pub links_miss : (windows : List (Vec ℕ Global)) (commits : List (Option ℕ)) (handed : List Handed) (n : ℕ)
    (h : Handed) (links : List Link) → slice_get handed n ≡ Some h → ((l : Link) → IsLinkOf windows commits h l → ⊥)
    → AreLinks windows commits (take n handed) links → AreLinks windows commits (take (n + 1) handed) links
links_miss windows commits handed n h links here none old m = (
  λ c.
      let k = (old m).0 c in
      (k.0, subst (λ hs. Contains hs k.0) (sym (take_next handed n h here)) (push_old (take n handed) h k.0 k.1), k.2),
  λ k. elim (push_contains (take n handed) h k.0 (subst (λ hs. Contains hs k.0) (take_next handed n h here) k.1)) [
    | inl early ↦ (old m).1 (k.0, early, k.2)
    | inr last ↦ absurd (none m (subst (λ x. IsLinkOf windows commits x m) (sym last) k.2))
  ],
)

-- ---- the whole index

pub are_ends : (windows : List (Vec ℕ Global)) (commits : List (Option ℕ)) (handed : List Handed) (links : List Link)
    → AreLinks windows commits handed links → AreEnds links (length commits)
are_ends windows commits handed links are n l at =
    let k = (are l).0 (Contains-from_at links n l at) in (
      slice_get_within commits l.from (Some k.2.from.1.0) k.2.from.1.1,
      slice_get_within commits l.to (Some k.2.to.1.0) k.2.to.1.1,
    )

-- the links of the list are those of the index
pub links_indexed : (index : Index) (links : List Link)
    → AreLinks index.windows.items index.commits.items (handed_in index.history.now) links → (cut : Cut) (a b : ℕ)
    → LinksBy links cut a b ↔ LinkedBy index cut a b
links_indexed index links are cut a b = (
  λ e. (e.1, (are e.1).0 (Contains-from_at links e.0 e.1 e.2), e.3, e.4, e.5),
  λ k. let at = Contains_at links k.0 ((are k.0).1 k.1) in (at.0, k.0, at.1, k.2, k.3, k.4),
)

-- rows that have the edges of R have those of S, where these are the same
pub hold_same : (rows : List (Vec Arc Global)) (R S : Cut → ℕ → ℕ → Type 0)
    → ((cut : Cut) (a b : ℕ) → R cut a b ↔ S cut a b) → Hold rows R → Hold rows S
hold_same rows R S same hold cut a b =
    (λ r. (same cut a b).0 ((hold cut a b).0 r), λ s. (hold cut a b).1 ((same cut a b).1 s))

links_carry : (history : List Call) (rulings : List Ruling) (index : Index) → AreNamed history index.windows.items
    → AreCommits rulings index.commits.items → index.history.now ≡ history → (cut : Cut) (a b : ℕ)
    → LinkedBy index cut a b ↔ CarriesBy history rulings cut a b
links_carry history rulings index names by is cut a b =
    let windows = index.windows.items in
    let commits = index.commits.items in (
      λ e.
          let l : Link = e.0 in
          let h : Handed = e.1.0 in
          let link : IsLinkOf windows commits h l = e.1.2 in
          let passes : Passes cut h.edge.label h.number =
          subst (λ n. Passes cut h.edge.label n) link.number (subst (λ x. Passes cut x l.number) link.label e.4) in
          let from : IsEnd windows commits h.edge.from a = subst (IsEnd windows commits h.edge.from) e.2 link.from in
          let to : IsEnd windows commits h.edge.to b = subst (IsEnd windows commits h.edge.to) e.3 link.to in
          record {
            handed = h;
            is = subst (λ calls. Contains (handed_in calls) h) is e.1.1;
            early = passes.early;
            here = passes.site;
            item = passes.item;
            from = (names h.edge.from a).0 from.0;
            to = (names h.edge.to b).0 to.0;
            first = (from.1.0, (by a from.1.0).0 from.1.1);
            second = (to.1.0, (by b to.1.0).0 to.1.1);
          },
      λ c.
          let l : Link = record { from = a; to = b; label = c.handed.edge.label; number = c.handed.number } in
          let link : IsLinkOf windows commits c.handed l = record {
            from = ((names c.handed.edge.from a).1 c.from, (c.first.0, (by a c.first.0).1 c.first.1));
            to = ((names c.handed.edge.to b).1 c.to, (c.second.0, (by b c.second.0).1 c.second.1));
            label = refl;
            number = refl;
          } in (
            l,
            (c.handed, subst (λ calls. Contains (handed_in calls) c.handed) (sym is) c.is, link),
            refl,
            refl,
            record { site = c.here; item = c.item; early = c.early },
          ),
    )

pub whole_index : (history : List Call) (rulings : List Ruling) (index : Index) → AreNamed history index.windows.items
    → AreCommits rulings index.commits.items → index.history.now ≡ history
    → AreBySite (handed_in index.history.now) index.sited.items → IsIndex history rulings index
whole_index history rulings index names by is sited = record {
  names = names;
  commits = by;
  calls = is;
  links = links_carry history rulings index names by is;
  paired = sited;
}
