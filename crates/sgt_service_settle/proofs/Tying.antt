-- The edges at a site by their items, and those that are conflicts of its log.
use Rattle.std.proofs.Common.{◌≡◌, ◌↔◌, ◌⊎◌, ◌+◌, ℕ, List, [], ◌∷◌, ◌++◌, Bool, false, Option, None, Some, Result, Ok, Err, IfOk, MatchOption, take, length, sym, subst, inl, inr, Contains, Vec}
use Rattle.std.specs.Prelude.{slice_get, IsTrue}
use Rattle.std.specs.declared.alloc.Global.{Global}
use Rattle.std.proofs.lemmas.Bool.{cases_Bool}
use Rattle.sgt_names.specs.Log.{Conflicts}
use Rattle.sgt_names.specs.declared.entry.Entry.{Entry}
use Rattle.sgt_names.specs.declared.entry.Holding.{Holding}
use Rattle.sgt_names.specs.declared.entry.Label.{Label}
use Rattle.sgt_service_settle.specs.declared.handed.Handed.{Handed}
use Rattle.sgt_service_settle.specs.declared.index.Index.{Index}
use Rattle.sgt_service_settle.specs.declared.link.Link.{Link}
use Rattle.sgt_service_settle.specs.private.Words.{Pushed}
use Rattle.sgt_service_settle.specs.private.Index.{IsHandedIn, IsLinkOf, IsLoggedBy}
use Rattle.sgt_service_settle.specs.private.Sites.{AreLogged}
use Rattle.sgt_service_settle.specs.private.Places.{IsShown, AreShown, IsTied, IsAdded, IsTieAdded, AreTied}
use Rattle.sgt_service_settle.proofs.Lists.{push_contains, push_old, push_new}
use Rattle.sgt_service_settle.proofs.Rowing.{pushed_old, pushed_last}
use Rattle.sgt_names.proofs.Elements.{contains-none}
use Rattle.sgt_names.proofs.Lists.{take_next}

-- these edges stand in the rows or among the others, which are some of them
pub record AreTiedOf (index : Index) (edges : List Handed) (rows : List (Vec Link Global))
    (others : List Handed) : Type 0 where
  pub each : (h : Handed) → Contains edges h → IsTied index rows h ⊎ Contains others h
  pub some : (h : Handed) → Contains others h → Contains edges h

pub tied_none : (index : Index) (edges : List Handed) (rows : List (Vec Link Global))
    → AreTiedOf index (take 0 edges) rows []
tied_none index edges rows = record {
  each = λ h has. absurd (contains-none h has);
  some =
      λ h has. absurd (contains-none h has);
}

tied_kept : (index : Index) (rows new : List (Vec Link Global)) (k : ℕ) (l : Link) (h : Handed) → Pushed rows k l new
    → IsTied index rows h → IsTied index new h
tied_kept index rows new k l h pushed is = (is.0, is.1, is.2, pushed_old rows k l new pushed is.0 is.1 is.2 is.3, is.4)

-- the edge of a link that was added
pub tie_added : {E : Type 0} (index : Index) (items : List Holding) (h : Handed) (l : Link)
    (old new : List (Vec Link Global)) (r : Result (Option ℕ) E)
    → IsLinkOf index.windows.items index.commits.items h l
    → IfOk r (λ placed. MatchOption placed (new ≡ old) (IsAdded items l old new))
    → IfOk r (λ placed. MatchOption placed (new ≡ old) (IsTieAdded index items h old new))
tie_added index items h l old new (Ok (Some at)) is added = record { link = l; is = is; added = added }
tie_added index items h l old new (Ok None) is same = same
tie_added index items h l old new (Err e) is t = tt

-- one more that was added to a row
pub tied_hit : (index : Index) (items : List Holding) (edges others : List Handed) (n at : ℕ) (h : Handed)
    (rows new : List (Vec Link Global)) → slice_get edges n ≡ Some h → IsTieAdded index items h rows new at
    → AreTiedOf index (take n edges) rows others → AreTiedOf index (take (n + 1) edges) new others
tied_hit index items edges others n at h rows new here tie are =
    let more = take_next edges n h here in
    let p = tie.added.pushed in
    record {
      each = λ g has. elim (push_contains (take n edges) h g (subst (λ hs. Contains hs g) more has)) [
        | inl early ↦ elim (are.each g early) [
          | inl tied ↦ inl (tied_kept index rows new at tie.link g p tied)
          | inr other ↦ inr other
        ]
        | inr last ↦ inl (subst (IsTied index new) last (
          at,
          length p.before.items,
          tie.link,
          pushed_last rows at tie.link new p,
          tie.is,
        ))
      ];
      some = λ g has. subst (λ hs. Contains hs g) (sym more) (push_old (take n edges) h g (are.some g has));
    }

-- one more of the others
pub tied_miss : (index : Index) (edges others : List Handed) (n : ℕ) (h : Handed) (rows : List (Vec Link Global))
    → slice_get edges n ≡ Some h → AreTiedOf index (take n edges) rows others
    → AreTiedOf index (take (n + 1) edges) rows (others ++ h ∷ [])
tied_miss index edges others n h rows here are =
    let more = take_next edges n h here in
    record {
      each = λ g has. elim (push_contains (take n edges) h g (subst (λ hs. Contains hs g) more has)) [
        | inl early ↦ elim (are.each g early) [ inl tied ↦ inl tied | inr other ↦ inr (push_old others h g other) ]
        | inr last ↦ inr (subst (Contains (others ++ h ∷ [])) last (push_new others h))
      ];
      some = λ g has. subst (λ hs. Contains hs g) (sym more) (elim (push_contains others h g has) [
        | inl old ↦ push_old (take n edges) h g (are.some g old)
        | inr last ↦ subst (Contains (take n edges ++ h ∷ [])) last (push_new (take n edges) h)
      ]);
    }

-- all edges at the site
pub tied_all : (index : Index) (site : ℕ) (edges others : List Handed) (rows : List (Vec Link Global))
    → ((h : Handed) → Contains edges h ↔ (IsHandedIn index h × (h.edge.label.site ≡ site)))
    → AreTiedOf index edges rows others → AreTied index site rows others
tied_all index site edges others rows is are = record {
  each = λ h has at. are.each h ((is h).1 (has, at));
  some = λ h has. (is h).0 (are.some h has);
}

-- ---- conflicts of the log

link_logged : (index : Index) (log : List Entry) (h : Handed) (l : Link)
    → IsLinkOf index.windows.items index.commits.items h l → IsShown log l → IsLoggedBy index.windows.items log h.edge
link_logged index log h l is shown =
    (l.from, l.to, is.from.0, is.to.0, subst (λ (x : Label). Conflicts log x.kind x.item l.from l.to) is.label shown)

-- the edges at the site are conflicts where those that weren't shown are
pub left_logged : (index : Index) (site : ℕ) (log : List Entry) (rows : List (Vec Link Global))
    (others edges left : List Handed) (shown : Bool) → AreTied index site rows others
    → (IsTrue shown → AreShown log rows)
    → ((h : Handed) → Contains edges h ↔ (IsHandedIn index h × (h.edge.label.site ≡ site)))
    → (IsTrue shown → left ≡ others) → (shown ≡ false → left ≡ edges)
    → AreLogged index.windows.items left log ↔ ((h : Handed) → IsHandedIn index h
    → h.edge.label.site ≡ site → IsLoggedBy index.windows.items log h.edge)
left_logged index site log rows others edges left shown tied rows_shown are is_others is_edges =
    elim (cases_Bool shown) [
      | inl is ↦ (
        λ logged h has at. elim (tied.each h has at) [
          | inl t ↦ link_logged index log h t.2 t.4 (rows_shown is t.0 t.1 t.2 t.3)
          | inr other ↦ logged h (subst (λ hs. Contains hs h) (sym (is_others is)) other)
        ],
        λ all h has. let k = tied.some h (subst (λ hs. Contains hs h) (is_others is) has) in all h k.0 k.1,
      )
      | inr is ↦ (
        λ logged h has at. logged h (subst (λ hs. Contains hs h) (sym (is_edges is)) ((are h).1 (has, at))),
        λ all h has. let k = (are h).0 (subst (λ hs. Contains hs h) (is_edges is) has) in all h k.0 k.1,
      )
    ]
