-- Inputs that begin with sites and go on with others: no two have one text; bytes are the lines of one or have a first
-- line that can't be read; and what one more line can be.
use Rattle.std.proofs.Common.{◌≡◌, ◌≢◌, ℕ, ◌+◌, ◌≤◌, List, [], ◌∷◌, ◌++◌, length, map, refl, sym, ap, ap₂, ◌∙◌, subst, arith, inl, inr, ◌⊎◌, append_assoc, Option, IfSome}
use Rattle.std.specs.Prelude.{All, false, true}
use Rattle.std.specs.List.{AllByRecursion, range_with_len}
use Rattle.std.proofs.lemmas.List.{append-nil, length-append}
use Rattle.std.proofs.lemmas.List.Elements.{All-cons, All-head, All-nil, All-push, All-tail}
use Rattle.sgt_names.proofs.Elements.{map-push}
use Rattle.sgt_names.proofs.Lists.{heads, tails}
use Rattle.sgt_notation.specs.Events.{IsSiteLine, site_text}
use Rattle.sgt_notation.specs.Spelling.{text_of_lines}
use Rattle.sgt_notation.specs.declared.event.SiteLine.{SiteLine}
use Rattle.sgt_notation.specs.declared.fault.NotationFault.{NotationFault}
use Rattle.sgt_notation.proofs.OneSite.{site-one}
use Rattle.sgt_input.specs.Sites.{TakesSite}
use Rattle.sgt_input.specs.Stopping.{IsTaken}
use Rattle.sgt_input.specs.Taking.{BeginsSo, Continues, HasLines}
use Rattle.sgt_input.specs.Unreadable.{IsFirstUnreadable}
use Rattle.sgt_input.proofs.Keeping.{spelled}
use Rattle.sgt_input.proofs.Lines.{texts-one}
use Rattle.sgt_input.proofs.ReadOrNot.{read-or_not}
use Rattle.sgt_input.proofs.Sited.{IsKind, IsSited, begins-made, known-begins, lines_with}
use Rattle.sgt_input.proofs.SiteLines.{last-number, more-numbers, site-plain}
use Rattle.sgt_input.proofs.Unreadable as any
use Rattle.sgt_input.proofs.Unreadable.{AreInputs, IsPlain, nonempty, plain-no_lf}

-- ---- the lines that such an input begins with

-- the sites, numbered from n, and the others whose lines come first. There is none of these before all sites are there
record IsFront {A : Type 0} (Is : A → Type 0) (text : A → List ℕ) (n : ℕ) (ss : List SiteLine) (es : List A)
    (xs : List (List ℕ)) : Type 0 where
  sites : List SiteLine
  others : List A
  lines : xs ≡ map site_text sites ++ map text others
  few : length sites ≤ length ss
  fewer : length others ≤ length es
  numbered : map (λ l. l.site) sites ≡ range_with_len n (length sites)
  each : All IsSiteLine sites
  are : All Is others
  whole : (others ≡ []) ⊎ (sites ≡ ss)

module _ {A : Type 0} (Is : A → Type 0) (text : A → List ℕ) where
  front-others : (es : List A) (xs zs : List (List ℕ)) → All Is es → map text es ≡ xs ++ zs
      → (fs : List A) × All Is fs × (xs ≡ map text fs) × (length fs ≤ length es)
  front-others es [] zs a e = ([], All-nil Is, refl, omega arith)
  front-others [] (x ∷ xs) zs a e = absurd cc
  front-others (f ∷ es) (x ∷ xs) zs a e =
      let rest = front-others es xs zs (All-tail Is f es a) (tails _ _ _ _ e) in (
        f ∷ rest.0,
        All-cons Is f rest.0 (All-head Is f es a) rest.1,
        ap₂ (λ (y : List ℕ) (ys : List (List ℕ)). y ∷ ys) (sym (heads _ _ _ _ e)) rest.2,
        omega (arith, rest.3),
      )

  front-lines : (n : ℕ) (ss : List SiteLine) (es : List A) (xs zs : List (List ℕ))
      → map (λ l. l.site) ss ≡ range_with_len n (length ss)
      → All IsSiteLine ss → All Is es → map site_text ss ++ map text es ≡ xs ++ zs → IsFront Is text n ss es xs
  front-lines n [] es xs zs number a b e =
      let f = front-others es xs zs b e in
      record {
        sites = [];
        others = f.0;
        lines = f.2;
        few = omega arith;
        fewer = f.3;
        numbered = refl;
        each =
            All-nil IsSiteLine;
        are = f.1;
        whole = inr refl;
      }
  front-lines n (s ∷ ss) es [] zs number a b e =
      record {
        sites = [];
        others = [];
        lines = refl;
        few = omega arith;
        fewer = omega arith;
        numbered = refl;
        each =
            All-nil IsSiteLine;
        are = All-nil Is;
        whole = inl refl;
      }
  front-lines n (s ∷ ss) es (x ∷ xs) zs number a b e =
      let f = front-lines (n + 1) ss es xs zs (tails _ _ _ _ number) (All-tail IsSiteLine s ss a) b (tails _ _ _ _ e) in
      record {
        sites = s ∷ f.sites;
        others = f.others;
        lines = ap₂ (λ (y : List ℕ) (ys : List (List ℕ)). y ∷ ys) (sym (heads _ _ _ _ e)) f.lines;
        few = omega (arith, f.few);
        fewer = f.fewer;
        numbered = ap₂ (λ (k : ℕ) (ks : List ℕ). k ∷ ks) (heads _ _ _ _ number) f.numbered;
        each = All-cons IsSiteLine s f.sites (All-head IsSiteLine s ss a) f.each;
        are = f.are;
        whole = one_more s ss f.sites f.others f.whole;
      }
    where
      one_more : (s : SiteLine) (ss ts : List SiteLine) (fs : List A) → (fs ≡ []) ⊎ (ts ≡ ss)
          → (fs ≡ []) ⊎ (s ∷ ts ≡ s ∷ ss)
      one_more s ss ts fs (inl none) = inl none
      one_more s ss ts fs (inr same) = inr (ap (λ ls. s ∷ ls) same)

module _ {I A : Type 0} {Begun : I → Type 0} {sites : I → List SiteLine} {others : I → List A} {text : A → List ℕ}
    {Is : List SiteLine → A → Type 0} {Many : List SiteLine → ℕ → Type 0}
    (kind : IsKind Begun sites others text Is Many) where
  abbrev lines_of : I → List (List ℕ)
  lines_of i = lines_with sites others text i

  abbrev Begins : List (List ℕ) → Type 0
  Begins lines = BeginsSo Begun lines_of lines

  -- a whole input has a site
  abbrev IsWhole : I → Type 0
  IsWhole i = Begun i × (sites i ≢ [])

  abbrev Spells : List ℕ → I → Type 0
  Spells bytes i = IsWhole i × (bytes ≡ text_of_lines (lines_of i))

  begins-front : (xs zs : List (List ℕ)) → Begins (xs ++ zs) → Begins xs
  begins-front xs zs (i, begun, e) =
      let is = kind.to i begun in
      let f = front-lines (Is (sites i)) text 0 (sites i) (others i) xs zs is.numbered is.each is.others (sym e) in
      begins-made kind xs f.sites f.others (record {
        few = omega (arith, is.few, f.few);
        numbered = f.numbered;
        each = f.each;
        others = over f.whole f.are;
        count = many f.whole (kind.fewer (sites i) (length f.others) (length (others i)) f.fewer is.count);
      }) f.lines
    where
      over : {ss ts : List SiteLine} {fs : List A} → (fs ≡ []) ⊎ (ts ≡ ss) → All (Is ss) fs → All (Is ts) fs
      over {ss} {ts} {fs} (inl none) all = subst (λ (es : List A). All (Is ts) es) (sym none) (All-nil (Is ts))
      over {ss} {ts} {fs} (inr same) all = subst (λ (ls : List SiteLine). All (Is ls) fs) (sym same) all

      many : {ss ts : List SiteLine} {fs : List A} → (fs ≡ []) ⊎ (ts ≡ ss) → Many ss (length fs) → Many ts (length fs)
      many {ss} {ts} {fs} (inl none) count =
          subst (λ (es : List A). Many ts (length es)) (sym none) (kind.none ts)
      many {ss} {ts} {fs} (inr same) count = subst (λ (ls : List SiteLine). Many ls (length fs)) (sym same) count

  -- ---- each of them is short, and has no LF

  lines-plain : (over ss : List SiteLine) (es : List A) → All IsSiteLine ss → All (Is over) es
      → AllByRecursion IsPlain (map site_text ss ++ map text es)
  lines-plain over [] [] a b = tt
  lines-plain over [] (e ∷ es) a b =
      (kind.plain over e (All-head (Is over) e es b), lines-plain over [] es a (All-tail (Is over) e es b))
  lines-plain over (s ∷ ss) es a b =
      (site-plain s (All-head IsSiteLine s ss a), lines-plain over ss es (All-tail IsSiteLine s ss a) b)

  whole-plain : (i : I) → Begun i → AllByRecursion IsPlain (lines_of i)
  whole-plain i begun =
      let is = kind.to i begun in
      lines-plain (sites i) (sites i) (others i) is.each is.others

  -- no line at all is the begin of an input
  pub none-begins : Begins []
  none-begins =
      begins-made kind [] [] [] (record {
        few = omega arith;
        numbered = refl;
        each = All-nil IsSiteLine;
        others = All-nil (Is []);
        count = kind.none [];
      }) refl

  -- nor does it have any line where nothing is kept
  pub nothing-kept : (i : I) → sites i ≡ [] → others i ≡ [] → HasLines Begun lines_of i []
  nothing-kept i none empty =
      let P : List SiteLine → List A → Type 0 = λ ss es. IsSited Is Many ss es in (
        kind.from i (subst (λ (ss : List SiteLine). P ss (others i)) (sym none)
            (subst (λ (es : List A). P [] es) (sym empty) (record {
              few = omega arith;
              numbered = refl;
              each = All-nil IsSiteLine;
              others = All-nil (Is []);
              count = kind.none [];
            }))),
        sym (ap₂ (λ (ss : List SiteLine) (es : List A). map site_text ss ++ map text es) none empty),
      )

  are-inputs : AreInputs Begins
  are-inputs = record {
    none = none-begins;
    front = begins-front;
    plain = λ xs (i, begun, e). subst (AllByRecursion IsPlain) (sym e) (whole-plain i begun);
  }

  -- ---- what bytes are read as

  pub lines-one_fault : (bytes : List ℕ) (n m : ℕ) (f g : NotationFault) → IsFirstUnreadable Begins bytes n f
      → IsFirstUnreadable Begins bytes m g → (n ≡ m) × (f ≡ g)
  lines-one_fault = any.lines-one_fault Begins are-inputs

  has_line : (ss : List SiteLine) (es : List A) → ss ≢ [] → map site_text ss ++ map text es ≢ []
  has_line [] es some none = some refl
  has_line (s ∷ ss) es some none = nonempty _ _ none

  pub input-no_fault : (bytes : List ℕ) (i : I) (n : ℕ) (f : NotationFault) → Spells bytes i
      → IsFirstUnreadable Begins bytes n f → ⊥
  input-no_fault bytes i n f spells =
      any.input-no_fault Begins are-inputs bytes (lines_of i) n f (i, spells.0.0, refl)
      (has_line (sites i) (others i) spells.0.1) spells.1

  -- lines that an input may begin with, of which there are some, are those of an input
  pub has_site : (i : I) → Begun i → lines_of i ≢ [] → sites i ≢ []
  has_site i begun some empty =
      some (ap₂ (λ (ss : List SiteLine) (es : List A). map site_text ss ++ map text es) empty
      (behind (sites i) (others i) empty (kind.to i begun)))
    where
      behind : (ss : List SiteLine) (es : List A) → ss ≡ [] → IsSited Is Many ss es → es ≡ []
      behind ss es none is =
          kind.somewhere es (subst (λ (ls : List SiteLine). All (Is ls) es) none is.others)
          (subst (λ (ls : List SiteLine). Many ls (length es)) none is.count)

  -- what was taken of an input, of which there is some, is the whole of it
  pub whole-input : (i : I) (lines : List (List ℕ)) (told : Option (List ℕ)) → Begun i → lines ≡ lines_of i
      → lines ≢ []
      → IfSome told (λ bytes. bytes ≡ text_of_lines lines) → IsWhole i × IfSome told (λ bytes. Spells bytes i)
  whole-input i lines told begun same some read =
      let whole : IsWhole i = (begun, has_site i begun (λ none. some (same ∙ none))) in
      (whole, spelled Begun lines_of (IsWhole i) told lines i whole same read)

  -- and so is what was kept, as it is handed out
  pub kept-input : (kept i : I) (told : Option (List ℕ)) → sites i ≡ sites kept → others i ≡ others kept
      → IsTaken Begins (HasLines Begun lines_of kept) told
      → IsWhole i × IfSome told (λ bytes. Spells bytes i)
  kept-input kept i told there also taken =
      subst (λ (j : I). IsWhole j × IfSome told (λ bytes. Spells bytes j)) (kind.same kept i (sym there) (sym also))
      (whole-input kept taken.lines told taken.taken.0 taken.taken.1 taken.some taken.text)

  pub input-or_fault : (bytes : List ℕ)
      → ((i : I) × Spells bytes i) ⊎ ((n : ℕ) × (f : NotationFault) × IsFirstUnreadable Begins bytes n f)
  input-or_fault bytes =
      elim (read-or_not Begins (known-begins kind) bytes none-begins) [
        | inl (lines, (i, begun, same), some, read) ↦
            inl (i, ((begun, has_site i begun (λ none. some (same ∙ none))), read ∙ ap text_of_lines same))
        | inr fault ↦ inr fault
      ]

  -- ---- one text

  -- the lines are those of one list of sites and one list of others
  lines-one : (over too ss ts : List SiteLine) (es fs : List A) → All IsSiteLine ss → All IsSiteLine ts
      → All (Is over) es → All (Is too) fs
      → map site_text ss ++ map text es ≡ map site_text ts ++ map text fs → (ss ≡ ts) × (es ≡ fs)
  lines-one over too [] [] [] [] a b c d e = (refl, refl)
  lines-one over too [] [] [] (f ∷ fs) a b c d e = absurd cc
  lines-one over too [] [] (x ∷ es) [] a b c d e = absurd cc
  lines-one over too [] [] (x ∷ es) (f ∷ fs) a b c d e =
      let head = kind.one over too x f (All-head (Is over) x es c) (All-head (Is too) f fs d) (heads _ _ _ _ e) in
      let rest = lines-one over too [] [] es fs a b (All-tail (Is over) x es c) (All-tail (Is too) f fs d)
      (tails _ _ _ _ e) in
      (refl, ap₂ (λ (y : A) (ys : List A). y ∷ ys) head rest.1)
  lines-one over too [] (t ∷ ts) [] fs a b c d e = absurd cc
  lines-one over too [] (t ∷ ts) (x ∷ es) fs a b c d e =
      absurd (kind.apart over t x (All-head (Is over) x es c) (sym (heads _ _ _ _ e)))
  lines-one over too (s ∷ ss) [] es [] a b c d e = absurd cc
  lines-one over too (s ∷ ss) [] es (f ∷ fs) a b c d e =
      absurd (kind.apart too s f (All-head (Is too) f fs d) (heads _ _ _ _ e))
  lines-one over too (s ∷ ss) (t ∷ ts) es fs a b c d e =
      let head = site-one s t (All-head IsSiteLine s ss a) (All-head IsSiteLine t ts b) (heads _ _ _ _ e) in
      let rest = lines-one over too ss ts es fs (All-tail IsSiteLine s ss a) (All-tail IsSiteLine t ts b) c d
      (tails _ _ _ _ e) in
      (ap₂ (λ (y : SiteLine) (ys : List SiteLine). y ∷ ys) head rest.0, rest.1)

  pub inputs-one : (bytes : List ℕ) (i j : I) → Spells bytes i → Spells bytes j → i ≡ j
  inputs-one bytes i j (a, one) (b, two) =
      let lines = texts-one (lines_of i) (lines_of j) (plain-no_lf (lines_of i) (whole-plain i a.0))
      (plain-no_lf (lines_of j) (whole-plain j b.0)) (sym one ∙ two) in
      let is = kind.to i a.0 in
      let too = kind.to j b.0 in
      let same = lines-one (sites i) (sites j) (sites i) (sites j) (others i) (others j) is.each too.each is.others
      too.others lines in
      kind.same i j same.0 same.1

  -- ---- one more line

  -- it is one site more, where there is no other
  record IsNextSite (ss : List SiteLine) (es : List A) (line : List ℕ) (ts : List SiteLine) : Type 0 where
    site : SiteLine
    is : IsSiteLine site
    line_is : line ≡ site_text site
    more : ts ≡ ss ++ site ∷ []
    none : es ≡ []

  -- it is one other more
  record IsNextOther (over ss : List SiteLine) (es : List A) (line : List ℕ) (ts : List SiteLine) (fs : List A) : Type 0
    where
      other : A
      is : Is over other
      line_is : line ≡ text other
      kept : ts ≡ ss
      more : fs ≡ es ++ other ∷ []

  others-more : (over too : List SiteLine) (es fs : List A) (line : List ℕ) → All (Is over) es → All (Is too) fs
      → map text es ++ line ∷ [] ≡ map text fs → IsNextOther too [] es line [] fs
  others-more over too [] [] line a b e = absurd cc
  others-more over too [] (f ∷ []) line a b e =
      record { other = f; is = All-head (Is too) f [] b; line_is = heads _ _ _ _ e; kept = refl; more = refl }
  others-more over too [] (f ∷ g ∷ fs) line a b e = let rest = tails _ _ _ _ e in absurd cc
  others-more over too (x ∷ es) [] line a b e = absurd cc
  others-more over too (x ∷ es) (f ∷ fs) line a b e =
      let head = kind.one over too x f (All-head (Is over) x es a) (All-head (Is too) f fs b) (heads _ _ _ _ e) in
      let rest = others-more over too es fs line (All-tail (Is over) x es a) (All-tail (Is too) f fs b)
      (tails _ _ _ _ e) in
      record {
        other = rest.other;
        is = rest.is;
        line_is = rest.line_is;
        kept = refl;
        more = ap₂ (λ (y : A) (ys : List A). y ∷ ys) (sym head) rest.more;
      }

  lines-more : (over too ss ts : List SiteLine) (es fs : List A) (line : List ℕ) → All IsSiteLine ss
      → All IsSiteLine ts → All (Is over) es → All (Is too) fs
      → (map site_text ss ++ map text es) ++ line ∷ [] ≡ map site_text ts ++ map text fs
      → IsNextSite ss es line ts ⊎ IsNextOther too ss es line ts fs
  lines-more over too [] [] es fs line a b c d e = inr (others-more over too es fs line c d e)
  lines-more over too [] (t ∷ []) [] fs line a b c d e =
      inl (record {
        site = t;
        is = All-head IsSiteLine t [] b;
        line_is = heads _ _ _ _ e;
        more = refl;
        none = refl;
      })
  lines-more over too [] (t ∷ u ∷ ts) [] fs line a b c d e = let rest = tails _ _ _ _ e in absurd cc
  lines-more over too [] (t ∷ ts) (x ∷ es) fs line a b c d e =
      absurd (kind.apart over t x (All-head (Is over) x es c) (sym (heads _ _ _ _ e)))
  lines-more over too (s ∷ ss) [] es [] line a b c d e = absurd cc
  lines-more over too (s ∷ ss) [] es (f ∷ fs) line a b c d e =
      absurd (kind.apart too s f (All-head (Is too) f fs d) (heads _ _ _ _ e))
  lines-more over too (s ∷ ss) (t ∷ ts) es fs line a b c d e =
      let head = site-one s t (All-head IsSiteLine s ss a) (All-head IsSiteLine t ts b) (heads _ _ _ _ e) in
      longer head (lines-more over too ss ts es fs line (All-tail IsSiteLine s ss a) (All-tail IsSiteLine t ts b) c d
      (tails _ _ _ _ e))
    where
      longer : s ≡ t → IsNextSite ss es line ts ⊎ IsNextOther too ss es line ts fs
          → IsNextSite (s ∷ ss) es line (t ∷ ts) ⊎ IsNextOther too (s ∷ ss) es line (t ∷ ts) fs
      longer head (inl n) =
          inl (record {
            site = n.site;
            is = n.is;
            line_is = n.line_is;
            more = ap₂ (λ (y : SiteLine) (ys : List SiteLine). y ∷ ys) (sym head) n.more;
            none = n.none;
          })
      longer head (inr n) =
          inr (record {
            other = n.other;
            is = n.is;
            line_is = n.line_is;
            kept = ap₂ (λ (y : SiteLine) (ys : List SiteLine). y ∷ ys) (sym head) n.kept;
            more = n.more;
          })

  -- a site is kept
  pub took-site : (old new : I) (line : List ℕ) → others old ≡ [] → others new ≡ others old
      → TakesSite (sites old) line (sites new) true → Continues Begun lines_of old line new true
  took-site old new line none kept (l, is, number, same, more) begun =
      let was = kind.to old begun in
      let size : length (sites new) ≡ length (sites old) + 1 = ap length more ∙ length-append (sites old) (l ∷ []) in
      let low = is.site in
      let empty : others new ≡ [] = kept ∙ none in (
        kind.from new (record {
          few = omega arith;
          numbered = subst (λ (ss : List SiteLine). map (λ k. k.site) ss ≡ range_with_len 0 (length ss)) (sym more)
              (more-numbers 0 (sites old) l was.numbered (omega arith));
          each = subst (λ (ss : List SiteLine). All IsSiteLine ss) (sym more)
              (All-push IsSiteLine (sites old) l was.each is);
          others = subst (λ (es : List A). All (Is (sites new)) es) (sym empty) (All-nil (Is (sites new)));
          count = subst (λ (es : List A). Many (sites new) (length es)) (sym empty) (kind.none (sites new));
        }),
        ap₂ (λ (ss : List SiteLine) (es : List A). map site_text ss ++ map text es) more empty
            ∙ append-nil (map site_text (sites old ++ l ∷ []))
            ∙ map-push site_text (sites old) l
            ∙ ap (λ (t : List ℕ). map site_text (sites old) ++ t ∷ []) (sym same)
            ∙ ap (λ (ls : List (List ℕ)). ls ++ line ∷ []) (sym (append-nil (map site_text (sites old))))
            ∙ ap (λ (es : List A). (map site_text (sites old) ++ map text es) ++ line ∷ []) (sym none),
      )

  -- one of the others is kept
  pub took-other : (old new : I) (line : List ℕ) (e : A) → sites new ≡ sites old → Is (sites old) e
      → line ≡ text e → others new ≡ others old ++ e ∷ [] → (Begun old → Many (sites old) (length (others new)))
      → Continues Begun lines_of old line new true
  took-other old new line e kept is same more room begun =
      let was = kind.to old begun in (
        kind.from new (subst (λ (ss : List SiteLine). IsSited Is Many ss (others new)) (sym kept) (record {
          few = was.few;
          numbered = was.numbered;
          each = was.each;
          others = subst (λ (es : List A). All (Is (sites old)) es) (sym more)
              (All-push (Is (sites old)) (others old) e was.others is);
          count = room begun;
        })),
        ap₂ (λ (ss : List SiteLine) (es : List A). map site_text ss ++ map text es) kept more
            ∙ ap (λ (ls : List (List ℕ)). map site_text (sites old) ++ ls) (map-push text (others old) e)
            ∙ ap (λ (t : List ℕ). map site_text (sites old) ++ (map text (others old) ++ t ∷ [])) (sym same)
            ∙ sym (append_assoc (map site_text (sites old)) (map text (others old)) (line ∷ [])),
      )

  -- a line that spells neither may not stand there
  pub took-none : (old : I) (line : List ℕ)
      → (others old ≡ [] → (l : SiteLine) → IsSiteLine l → l.site ≡ length (sites old) → line ≢ site_text l)
      → ((e : A) → Is (sites old) e → Many (sites old) (length (others old) + 1) → line ≢ text e)
      → Continues Begun lines_of old line old false
  took-none old line no_site no_other begun (whole, also, same) =
      let was = kind.to old begun in
      let is = kind.to whole also in
      stands is (lines-more (sites old) (sites whole) (sites old) (sites whole) (others old) (others whole) line
      was.each is.each was.others is.others same)
    where
      stands : IsSited Is Many (sites whole) (others whole) → IsNextSite (sites old) (others old) line (sites whole)
          ⊎ IsNextOther (sites whole) (sites old) (others old) line (sites whole) (others whole) → ⊥
      stands is (inl n) =
          let number : n.site.site ≡ 0 + length (sites old) = last-number 0 (sites old) n.site
          (subst (λ (ss : List SiteLine). map (λ k. k.site) ss ≡ range_with_len 0 (length ss)) n.more is.numbered) in
          no_site n.none n.site n.is (omega arith) n.line_is
      stands is (inr n) =
          let count = subst (Many (sites whole)) (ap length n.more ∙ length-append (others old) (n.other ∷ [])) is.count
          in
          no_other n.other (subst (λ (ss : List SiteLine). Is ss n.other) n.kept n.is)
          (subst (λ (ss : List SiteLine). Many ss (length (others old) + 1)) n.kept count) n.line_is
