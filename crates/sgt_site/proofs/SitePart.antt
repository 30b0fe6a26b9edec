-- What a draft touches at one site.
use Rattle.std.proofs.Common.{◌≡◌, ℕ, Bool, List, [], ◌∷◌, refl, sym, ap, ◌∙◌, subst, arith, inl, inr, All, Some}
use Rattle.std.specs.Prelude.{slice_get, filter, IsSome, ◌==◌, ◌↔◌}
use Rattle.std.specs.declared.cmp.Ordering.TheVariants.{Less}
use Rattle.std.proofs.lemmas.Bool.{cases_Bool, cases_lt}
use Rattle.std.proofs.lemmas.Option.{same_Some}
use Rattle.sgt_names.specs.Name.{Name}
use Rattle.sgt_names.specs.Ordered.{IsAt, IsGapFor}
use Rattle.sgt_names.specs.Draft.{AreRising, at_site, kept_in, writing_in, place_of, place_cmp}
use Rattle.sgt_names.specs.declared.draft.Touch.{Touch}
use Rattle.sgt_names.proofs.Lists.{Any_at, Any-from_at}
use Rattle.sgt_names.proofs.Places.{AllPairs_at}
use Rattle.sgt_names.proofs.Touched.{less_apart, greater_apart}
use Rattle.sgt_site.specs.State.{SiteState, KeepsReads}
use Rattle.sgt_site.specs.Refused.{IsHere, MayPledge, RefusesPledge}
use Rattle.sgt_site.specs.private.Cells.{KeepsItem}
use Rattle.sgt_site.specs.declared.fault.SiteFault.{SiteFault}
use Rattle.sgt_site.specs.declared.fault.SiteFault.TheVariants.{UnknownItem, ReadTwice, Ended, Memory, NotPledged, BadItems, PledgeOpen, DraftDiffers}

-- ---- the part of the part

pub filter-again : {A : Type 0} (p : A → Bool) (xs : List A) → filter p (filter p xs) ≡ filter p xs
filter-again p [] = refl
filter-again p (x ∷ xs) = elim (cases_Bool (p x)) [
  | inl hit ↦ rw (hit, hit) (ap (λ ys. x ∷ ys) (filter-again p xs))
  | inr miss ↦ rw miss (filter-again p xs)
]

-- a pledge is allowed by what of the draft is at the site
pub may-near : (s : SiteState) (tx : ℕ) (ts near : List Touch) → at_site s.number near ≡ at_site s.number ts
    → MayPledge s tx near → MayPledge s tx ts
may-near s tx ts near same may = record {
  known = subst (λ part. All (λ c. IsHere s c.0) (writing_in part)) same may.known;
  active = may.active;
  free = may.free;
  same = subst (λ part. KeepsReads s.entries tx (kept_in part)) same may.same;
}

module _ (s : SiteState) (tx : ℕ) (ts here : List Touch) (is : here ≡ at_site s.number ts) where
  again : at_site s.number here ≡ at_site s.number ts
  again = ap (at_site s.number) is ∙ filter-again (λ (t : Touch). t.site == s.number) ts

  abbrev Known : List Touch → Type 0
  Known part = All (λ c. IsHere s c.0) (writing_in part)

  abbrev Same : List Touch → Type 0
  Same part = KeepsReads s.entries tx (kept_in part)

  -- a pledge is allowed and refused by what is touched at the site
  pub may-whole : MayPledge s tx here → MayPledge s tx ts
  may-whole may = may-near s tx ts here again may

  pub refuses-whole : (f : SiteFault) → RefusesPledge s tx here f → RefusesPledge s tx ts f
  refuses-whole UnknownItem refused = λ known. refused (subst Known (sym again) known)
  refuses-whole ReadTwice refused = refused
  refuses-whole Ended refused = (subst Known again refused.0, refused.1)
  refuses-whole Memory refused = may-whole refused
  refuses-whole NotPledged refused = refused
  refuses-whole BadItems refused = refused
  refuses-whole PledgeOpen refused = ((subst Known again refused.0.0, refused.0.1), refused.1)
  refuses-whole DraftDiffers refused = (
    ((subst Known again refused.0.0.0, refused.0.0.1), refused.0.1),
    λ same. refused.1 (subst Same (sym again) same),
  )

-- ---- a read that is kept

pub keeps-found : (ts : List Touch) (n : ℕ) (x : Name) (k : ℕ) (t : Touch) → AreRising ts → IsAt place_of ts (n, x) k
    → slice_get ts k ≡ Some t → IsSome t.seen ↔ KeepsItem ts n x
keeps-found ts n x k t rising at here = (
  λ seen. Any-from_at (λ (u : Touch). (u.site ≡ n) × IsSome u.seen × (u.item ≡ x)) ts k t here
      (ap (λ (p : ℕ × Name). p.0) (at.is t here), seen, ap (λ (p : ℕ × Name). p.1) (at.is t here)),
  λ kept.
      let u = Any_at (λ (u : Touch). (u.site ≡ n) × IsSome u.seen × (u.item ≡ x)) ts kept in
      let place : place_of u.1 ≡ (n, x) = λ i. (u.3.0 i, u.3.2 i) in
      subst (λ (v : Touch). IsSome v.seen) (one u.0 u.1 u.2 place) u.3.1,
)
  where
    one : (m : ℕ) (u : Touch) → slice_get ts m ≡ Some u → place_of u ≡ (n, x) → u ≡ t
    one m u there place = elim (cases_lt m k) [
      | inl lt ↦ absurd
          (less_apart (place_of u) (place_of t)
          (AllPairs_at (λ a b. place_cmp (place_of a) (place_of b) ≡ Less) ts m k u t rising lt there here) (place
          ∙ sym (at.is t here)))
      | inr le ↦ elim (cases_lt k m) [
        | inl more ↦ absurd
            (less_apart (place_of t) (place_of u)
            (AllPairs_at (λ a b. place_cmp (place_of a) (place_of b) ≡ Less) ts k m t u rising more here there)
            (at.is t here ∙ sym place))
        | inr less ↦ same_Some u t (sym there ∙ ap (slice_get ts) (omega (arith, le, less)) ∙ here)
      ]
    ]

pub keeps-none : (ts : List Touch) (n : ℕ) (x : Name) (k : ℕ) → IsGapFor place_of place_cmp ts (n, x) k
    → KeepsItem ts n x → ⊥
keeps-none ts n x k gap kept =
    let u = Any_at (λ (u : Touch). (u.site ≡ n) × IsSome u.seen × (u.item ≡ x)) ts kept in
    let place : place_of u.1 ≡ (n, x) = λ i. (u.3.0 i, u.3.2 i) in
    elim (cases_lt u.0 k) [
      | inl lt ↦ absurd (less_apart (place_of u.1) (n, x) (gap.before u.0 u.1 lt u.2) place)
      | inr le ↦ absurd (greater_apart (place_of u.1) (n, x) (gap.after u.0 u.1 le u.2) place)
    ]
