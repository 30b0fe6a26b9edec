-- Inputs that begin with sites and go on with others, as events or scripts: of all lines it is known whether such an
-- input may begin with them.
use Rattle.std.proofs.Common.{◌≡◌, ℕ, suc, ◌+◌, ◌<◌, ◌≤◌, List, [], ◌∷◌, ◌++◌, length, map, take, refl, sym, ap, ap₂, ◌∙◌, subst, arith, inl, inr}
use Rattle.std.specs.Prelude.{All, drop}
use Rattle.std.specs.List.{range_with_len}
use Rattle.std.proofs.lemmas.Bool.{cases_eq}
use Rattle.std.proofs.lemmas.List.{length-append, length-map, take-append-drop}
use Rattle.std.proofs.lemmas.List.Elements.{All-cons, All-head, All-nil, All-tail}
use Rattle.sgt_names.proofs.Elements.{drop-front, length-take_within, take-front}
use Rattle.sgt_names.proofs.Lists.{heads, tails}
use Rattle.sgt_names.specs.Limits.{max_sites}
use Rattle.sgt_notation.specs.Events.{IsSiteLine, site_text}
use Rattle.sgt_notation.specs.declared.event.SiteLine.{SiteLine}
use Rattle.sgt_notation.proofs.Decidable.{Decidable, decidable-as, decidable-both, decidable-most, decidable-text, searched-below}
use Rattle.sgt_notation.proofs.OneSite.{site-one}
use Rattle.sgt_input.specs.Taking.{BeginsSo}
use Rattle.sgt_input.proofs.SearchedSites.{searched-site_lines}
use Rattle.sgt_input.proofs.Unreadable.{IsPlain}

-- sites numbered from 0, and behind them others that may stand over these sites, no more of them than may be there
pub record IsSited {A : Type 0} (Is : List SiteLine → A → Type 0) (Many : List SiteLine → ℕ → Type 0)
    (ss : List SiteLine) (es : List A) : Type 0 where
  pub few : length ss ≤ max_sites
  pub numbered : map (λ l. l.site) ss ≡ range_with_len 0 (length ss)
  pub each : All IsSiteLine ss
  pub others : All (Is ss) es
  pub count : Many ss (length es)

-- their lines
abbrev pub lines_with : {I A : Type 0} → (I → List SiteLine) → (I → List A) → (A → List ℕ) → I → List (List ℕ)
lines_with sites others text i = map site_text (sites i) ++ map text (others i)

-- A kind of inputs: what begins one is what is sited so, and can be put together of its two parts. The texts of the
-- others are short lines, each of one of them and of no site, and can be searched for.
pub record IsKind {I A : Type 0} (Begun : I → Type 0) (sites : I → List SiteLine) (others : I → List A)
    (text : A → List ℕ) (Is : List SiteLine → A → Type 0) (Many : List SiteLine → ℕ → Type 0) : Type 0 where
  pub to : (i : I) → Begun i → IsSited Is Many (sites i) (others i)
  pub from : (i : I) → IsSited Is Many (sites i) (others i) → Begun i
  pub make : List SiteLine → List A → I
  pub sites-made : (ss : List SiteLine) (es : List A) → sites (make ss es) ≡ ss
  pub others-made : (ss : List SiteLine) (es : List A) → others (make ss es) ≡ es
  pub same : (i j : I) → sites i ≡ sites j → others i ≡ others j → i ≡ j
  pub plain : (ss : List SiteLine) (e : A) → Is ss e → IsPlain (text e)
  pub one : (ss ts : List SiteLine) (e f : A) → Is ss e → Is ts f → text e ≡ text f → e ≡ f
  pub apart : (ss : List SiteLine) (l : SiteLine) (e : A) → Is ss e → site_text l ≡ text e → ⊥
  pub found : (ss : List SiteLine) (x : List ℕ) → Decidable ((e : A) × Is ss e × (x ≡ text e))
  pub none : (ss : List SiteLine) → Many ss 0
  pub fewer : (ss : List SiteLine) (m n : ℕ) → m ≤ n → Many ss n → Many ss m
  pub room : (ss : List SiteLine) (n : ℕ) → Decidable (Many ss n)
  pub somewhere : (es : List A) → All (Is []) es → Many [] (length es) → es ≡ []

-- ---- lines of sites

-- the lines are those of sites that are numbered from k
abbrev AreSites : ℕ → List (List ℕ) → Type 0
AreSites k xs = (ss : List SiteLine) × All IsSiteLine ss × (map (λ l. l.site) ss ≡ range_with_len k (length ss))
    × (xs ≡ map site_text ss)

abbrev IsSiteAt : ℕ → List ℕ → SiteLine → Type 0
IsSiteAt k x l = (l.site ≡ k) × (x ≡ site_text l)

site-found : (k : ℕ) (x : List ℕ) → Decidable ((l : SiteLine) × IsSiteLine l × IsSiteAt k x l)
site-found k x =
    searched-site_lines (IsSiteAt k x) (λ l. decidable-both (cases_eq l.site k) (decidable-text x (site_text l)))

known-sites : (k : ℕ) (xs : List (List ℕ)) → Decidable (AreSites k xs)
known-sites k [] = inl ([], All-nil IsSiteLine, refl, refl)
known-sites k (x ∷ xs) = both (site-found k x) (known-sites (k + 1) xs)
  where
    first : AreSites k (x ∷ xs) → (l : SiteLine) × IsSiteLine l × IsSiteAt k x l
    first ([], all, number, text) = absurd cc
    first (l ∷ ss, all, number, text) = (l, All-head IsSiteLine l ss all, (heads _ _ _ _ number, heads _ _ _ _ text))

    later : AreSites k (x ∷ xs) → AreSites (k + 1) xs
    later ([], all, number, text) = absurd cc
    later (l ∷ ss, all, number, text) = (ss, All-tail IsSiteLine l ss all, tails _ _ _ _ number, tails _ _ _ _ text)

    both : Decidable ((l : SiteLine) × IsSiteLine l × IsSiteAt k x l) → Decidable (AreSites (k + 1) xs)
        → Decidable (AreSites k (x ∷ xs))
    both (inr never) rest = inr (λ is. never (first is))
    both (inl l) (inr never) = inr (λ is. never (later is))
    both (inl (l, is, at)) (inl (ss, all, number, text)) =
        inl (l ∷ ss, All-cons IsSiteLine l ss is all, ap₂ (λ n ns. n ∷ ns) at.0 number, ap₂ (λ y ys. y ∷ ys) at.1 text)

sites-same : (ss ts : List SiteLine) → All IsSiteLine ss → All IsSiteLine ts → map site_text ss ≡ map site_text ts
    → ss ≡ ts
sites-same [] [] a b e = refl
sites-same [] (t ∷ ts) a b e = absurd cc
sites-same (s ∷ ss) [] a b e = absurd cc
sites-same (s ∷ ss) (t ∷ ts) a b e =
    ap₂ (λ l ls. l ∷ ls) (site-one s t (All-head IsSiteLine s ss a) (All-head IsSiteLine t ts b) (heads _ _ _ _ e))
    (sites-same ss ts (All-tail IsSiteLine s ss a) (All-tail IsSiteLine t ts b) (tails _ _ _ _ e))

module _ {I A : Type 0} {Begun : I → Type 0} {sites : I → List SiteLine} {others : I → List A} {text : A → List ℕ}
    {Is : List SiteLine → A → Type 0} {Many : List SiteLine → ℕ → Type 0}
    (kind : IsKind Begun sites others text Is Many) where
  abbrev Begins : List (List ℕ) → Type 0
  Begins lines = BeginsSo Begun (lines_with sites others text) lines

  -- what is sited so can be put together
  pub begins-made : (xs : List (List ℕ)) (ss : List SiteLine) (es : List A) → IsSited Is Many ss es
      → xs ≡ map site_text ss ++ map text es → Begins xs
  begins-made xs ss es is same =
      let i = kind.make ss es in
      let there = kind.sites-made ss es in
      let also = kind.others-made ss es in (
        i,
        kind.from i (subst (λ (ts : List SiteLine). IsSited Is Many ts (others i)) (sym there)
            (subst (λ (fs : List A). IsSited Is Many ss fs) (sym also) is)),
        same ∙ ap₂ (λ (ts : List SiteLine) (fs : List A). map site_text ts ++ map text fs) (sym there) (sym also),
      )

  -- ---- lines of others

  abbrev AreOthers : List SiteLine → List (List ℕ) → Type 0
  AreOthers ss xs = (es : List A) × All (Is ss) es × (xs ≡ map text es)

  first-other : (ss : List SiteLine) (x : List ℕ) (xs : List (List ℕ)) → AreOthers ss (x ∷ xs)
      → (e : A) × Is ss e × (x ≡ text e)
  first-other ss x xs ([], all, same) = absurd cc
  first-other ss x xs (e ∷ es, all, same) = (e, All-head (Is ss) e es all, heads _ _ _ _ same)

  later-others : (ss : List SiteLine) (x : List ℕ) (xs : List (List ℕ)) → AreOthers ss (x ∷ xs) → AreOthers ss xs
  later-others ss x xs ([], all, same) = absurd cc
  later-others ss x xs (e ∷ es, all, same) = (es, All-tail (Is ss) e es all, tails _ _ _ _ same)

  both-others : (ss : List SiteLine) (x : List ℕ) (xs : List (List ℕ)) → Decidable ((e : A) × Is ss e × (x ≡ text e))
      → Decidable (AreOthers ss xs)
      → Decidable (AreOthers ss (x ∷ xs))
  both-others ss x xs (inr never) rest = inr (λ is. never (first-other ss x xs is))
  both-others ss x xs (inl e) (inr never) = inr (λ is. never (later-others ss x xs is))
  both-others ss x xs (inl (e, is, at)) (inl (es, all, same)) =
      inl (e ∷ es, All-cons (Is ss) e es is all, ap₂ (λ y ys. y ∷ ys) at same)

  known-others : (ss : List SiteLine) (xs : List (List ℕ)) → Decidable (AreOthers ss xs)
  known-others ss [] = inl ([], All-nil (Is ss), refl)
  known-others ss (x ∷ xs) = both-others ss x xs (kind.found ss x) (known-others ss xs)

  -- ---- the two parts

  -- the lines are those of sites, and then of others over these
  abbrev ArePartsOf : (fs bs : List (List ℕ)) → Type 0
  ArePartsOf fs bs = (s : AreSites 0 fs) × AreOthers s.0 bs × Many s.0 (length bs)

  known-parts : (fs bs : List (List ℕ)) → Decidable (ArePartsOf fs bs)
  known-parts fs bs = from (known-sites 0 fs)
    where
      from : Decidable (AreSites 0 fs) → Decidable (ArePartsOf fs bs)
      from (inr never) = inr (λ p. never p.0)
      from (inl s) =
          decidable-as (λ (es : AreOthers s.0 bs × Many s.0 (length bs)). (s, es.0, es.1))
          (λ p. subst (λ (ss : List SiteLine). AreOthers ss bs × Many ss (length bs))
          (sites-same p.0.0 s.0 p.0.1 s.1 (sym p.0.3 ∙ s.3)) (p.1, p.2))
          (decidable-both (known-others s.0 bs) (kind.room s.0 (length bs)))

  -- the first n lines are those of sites, and the others those of others
  record Splits (xs : List (List ℕ)) (n : ℕ) : Type 0 where
    parts : ArePartsOf (take n xs) (drop n xs)
    few : n ≤ max_sites

  known-split : (xs : List (List ℕ)) (n : ℕ) → Decidable (Splits xs n)
  known-split xs n =
      decidable-as (λ p. record { parts = p.0; few = p.1 }) (λ s. (s.parts, s.few))
      (decidable-both (known-parts (take n xs) (drop n xs)) (decidable-most n max_sites))

  begins-from : (xs : List (List ℕ)) (n : ℕ) → n ≤ length xs → Splits xs n → Begins xs
  begins-from xs n within s =
      let (ss, each, numbered, fronts) = s.parts.0 in
      let (es, all, backs) = s.parts.1 in
      let many = ap length fronts in
      let mapped = length-map ss site_text in
      let taken = length-take_within n xs within in
      begins-made xs ss es (record {
        few = omega (arith, s.few, within, many, mapped, taken);
        numbered = numbered;
        each = each;
        others = all;
        count = subst (Many ss) (ap length backs ∙ length-map es text) s.parts.2;
      }) (sym (take-append-drop n xs) ∙ ap₂ (λ (fs bs : List (List ℕ)). fs ++ bs) fronts backs)

  splits-of : (xs : List (List ℕ)) (i : I) → Begun i → xs ≡ lines_with sites others text i
      → Splits xs (length (sites i))
  splits-of xs i begun same =
      let is = kind.to i begun in
      let fs = map site_text (sites i) in
      let bs = map text (others i) in
      let n = length (sites i) in
      let long : length fs ≡ n = length-map (sites i) site_text in
      let front : take n xs ≡ fs = ap (take n) same ∙ ap (λ k. take k (fs ++ bs)) (sym long) ∙ take-front fs bs in
      let behind : drop n xs ≡ bs = ap (drop n) same ∙ ap (λ k. drop k (fs ++ bs)) (sym long) ∙ drop-front fs bs in
      record {
        parts = (
          (sites i, is.each, is.numbered, front),
          (others i, is.others, behind),
          subst (Many (sites i)) (sym (ap length behind ∙ length-map (others i) text)) is.count,
        );
        few = is.few;
      }

  pub known-begins : (xs : List (List ℕ)) → Decidable (Begins xs)
  known-begins xs =
      decidable-as (λ r. begins-from xs r.0 (at-most r.0 r.1) r.2)
      (λ b. (length (sites b.0), below b.0 b.2, splits-of xs b.0 b.1 b.2))
      (searched-below (suc (length xs)) (Splits xs) (known-split xs))
    where
      at-most : (n : ℕ) → n < suc (length xs) → n ≤ length xs
      at-most n lt = omega (arith, lt)

      below : (i : I) → xs ≡ lines_with sites others text i → length (sites i) < suc (length xs)
      below i same =
          let all = ap length same in
          let sum = length-append (map site_text (sites i)) (map text (others i)) in
          let mapped = length-map (sites i) site_text in
          omega (arith, all, sum, mapped)
