-- What a line keeps behind whole sections it keeps behind any others of as many sites, but for the walks.
use Rattle.std.proofs.Common.{◌≡◌, ◌≢◌, ℕ, ◌+◌, ◌<◌, Bool, List, [], ◌∷◌, ◌++◌, length, Some, None, refl, sym, ap, ap₂, ◌∙◌, subst, arith, inl, inr, zero-add, All, Contains}
use Rattle.std.specs.Prelude.{fold}
use Rattle.std.specs.List.{filter_map, last_or}
use Rattle.std.specs.Option.{ForSome}
use Rattle.std.proofs.lemmas.Bool.{cases_order}
use Rattle.std.proofs.lemmas.List.{append-nil, length-append}
use Rattle.std.proofs.lemmas.List.Elements.{All-append}
use Rattle.std.proofs.lemmas.List.Sums.{fold-append}
use Rattle.std.proofs.lemmas.Option.{none-some}
use Rattle.sgt_names.specs.Name.{Name}
use Rattle.sgt_names.specs.Entry.{tx_of, item_of, IsEnd, Repeats}
use Rattle.sgt_names.specs.Log.{names, value_at, AllEnded}
use Rattle.sgt_names.specs.declared.entry.Entry.{Entry}
use Rattle.sgt_names.specs.declared.entry.Entry.TheVariants as entry
use Rattle.sgt_names.specs.declared.entry.Holding.{Holding}
use Rattle.sgt_names.proofs.Places.{All_at, All-from_at}
use Rattle.sgt_names.proofs.Lists.{heads, back_at, last_or-append}
use Rattle.sgt_notation.specs.Spelling.{line_text}
use Rattle.sgt_notation.specs.declared.SectionLine.{SectionLine}
use Rattle.sgt_notation.specs.declared.SectionLine.TheVariants.{Site, Initial, Logged, Final, End}
use Rattle.sgt_bundle.specs.Parts.{IsShapedLog}
use Rattle.sgt_bundle.specs.Valid.{EndInOrder, RiseInRank}
use Rattle.sgt_bundle.specs.Text.{Begins, sections_from}
use Rattle.sgt_bundle.specs.declared.bundle.SiteLog.{SiteLog}
use Rattle.sgt_bundle.specs.declared.certificate.Certificate.{Certificate}
use Rattle.sgt_audit.specs.declared.faults.Fault.{Fault}
use Rattle.sgt_audit.specs.declared.faults.Fault.TheVariants as fault
use Rattle.sgt_audit.specs.Faults.{fault_number, section_with, open_section, initial_in, logged_in, items_in, entries_in, IsLineIn, Keeps, whole, last, Rule, within}
use Rattle.sgt_audit.proofs.FaultNumbers.{number-one}
use Rattle.sgt_audit.proofs.Lone.{kept-7}
use Rattle.sgt_audit.proofs.Least.{IsClosed}
use Rattle.sgt_audit.proofs.LinePlaces.{no_cons}
use Rattle.sgt_audit.proofs.MayFollow.{split-whole, sections-append, regroup}
use Rattle.sgt_audit.proofs.OpenLogs.{whole-closed}

pub all-tail : {A : Type 0} (P : A → Type 0) (xs ys : List A) → All P (xs ++ ys) → All P ys
all-tail P xs ys all = All-from_at P ys (λ n y at. All_at P (xs ++ ys) (length xs + n) y all (back_at xs ys n ∙ at))

-- ---- the first line of a section

abbrev StartsAt : ℕ → List SectionLine → SectionLine → Type 0
StartsAt k [] l = l ≡ Site k
StartsAt k (x ∷ own) l = x ≡ Site k

starts : (k : ℕ) (tail : List SiteLog) (own more : List SectionLine) (l : SectionLine)
    → sections_from k tail ≡ own ++ l ∷ more → StartsAt k own l
starts k [] own more l e = absurd (no_cons own more l e)
starts k (t ∷ tail) [] more l e = sym (heads (Site k) l _ more e)
starts k (t ∷ tail) (x ∷ own) more l e = sym (heads (Site k) x _ (own ++ l ∷ more) e)

-- ---- lines that have the same section open

module _ (c : Certificate) (a b : List SectionLine) (opened : open_section a ≡ open_section b)
    (ends : last_or None a ≡ last_or None b) where
  items-same : items_in a ≡ items_in b
  items-same = ap (filter_map initial_in) opened

  entries-same : entries_in a ≡ entries_in b
  entries-same = ap (filter_map logged_in) opened

  abbrev Moves : SectionLine → Type 0
  Moves line = Begins c.sites (a ++ line ∷ []) → Begins c.sites (b ++ line ∷ [])

  read-alike : (e : Entry) → Keeps c a (Logged e) fault.ReadValue → Keeps c b (Logged e) fault.ReadValue
  read-alike (entry.Read tx x v) h = sym (ap₂ (λ is es. value_at is es x) items-same entries-same) ∙ h
  read-alike (entry.Write tx x v) h = tt
  read-alike (entry.Add tx x v) h = tt
  read-alike (entry.Want tx x v) h = tt
  read-alike (entry.WantAdd tx x v) h = tt
  read-alike (entry.Commit tx) h = tt
  read-alike (entry.Refuse tx) h = tt
  read-alike (entry.Withdraw tx) h = tt

  logged-alike : (e : Entry) → Moves (Logged e) → (f : Fault) → Keeps c a (Logged e) f → Keeps c b (Logged e) f
  logged-alike e moves fault.Section h = moves h
  logged-alike e moves fault.Item h = subst (λ is. ForSome (item_of e) (Contains (names is))) items-same h
  logged-alike e moves fault.Twice h = subst (All (λ f. (x : Name) → Repeats x f e → ⊥)) entries-same h
  logged-alike e moves fault.ReadValue h = read-alike e h
  logged-alike e moves fault.RankOrder h = subst (All (λ f. RiseInRank c.decisions f e)) entries-same h
  logged-alike e moves fault.Block h = λ g last. h g (ends ∙ last)
  logged-alike e moves fault.End h = (h.0, subst (All (λ f. IsEnd f → tx_of f ≢ tx_of e)) entries-same h.1)
  logged-alike e moves fault.DecisionOrder h = subst (All (λ f. EndInOrder c.decisions f e)) entries-same h
  logged-alike e moves _ h = tt

  final-alike : (x : Holding) → Moves (Final x) → (f : Fault) → Keeps c a (Final x) f → Keeps c b (Final x) f
  final-alike x moves fault.Section h = moves h
  final-alike x moves fault.Block h = λ g last. h g (ends ∙ last)
  final-alike x moves fault.NotEnded h = subst AllEnded entries-same h
  final-alike x moves fault.Final h = sym (ap₂ (λ is es. value_at is es x.item) items-same entries-same) ∙ h
  final-alike x moves _ h = tt

  end-alike : Moves End → (f : Fault) → f ≢ fault.WalkStep → Keeps c a End f → Keeps c b End f
  end-alike moves fault.Section other h = moves h
  end-alike moves fault.Block other h = λ g last. h g (ends ∙ last)
  end-alike moves fault.NotEnded other h = subst AllEnded entries-same h
  end-alike moves fault.WalkStep other h = absurd (other refl)
  end-alike moves _ other h = tt

  initial-alike : (x : Holding) → Moves (Initial x) → (f : Fault) → Keeps c a (Initial x) f → Keeps c b (Initial x) f
  initial-alike x moves fault.Section h = moves h
  initial-alike x moves fault.Block h = λ g last. h g (ends ∙ last)
  initial-alike x moves _ h = tt

  site-alike : (k : ℕ) → Moves (Site k) → (f : Fault) → Keeps c a (Site k) f → Keeps c b (Site k) f
  site-alike k moves fault.Section h = moves h
  site-alike k moves fault.Block h = λ g last. h g (ends ∙ last)
  site-alike k moves _ h = tt

  line-alike : (line : SectionLine) → Moves line → (f : Fault) → f ≢ fault.WalkStep → Keeps c a line f
      → Keeps c b line f
  line-alike (Site k) moves f other h = site-alike k moves f h
  line-alike (Initial x) moves f other h = initial-alike x moves f h
  line-alike (Logged e) moves f other h = logged-alike e moves f h
  line-alike (Final x) moves f other h = final-alike x moves f h
  line-alike End moves f other h = end-alike moves f other h

-- the section that is open behind its first line, whatever stands in front
opened-at : (front own : List SectionLine) (k : ℕ) → open_section (front ++ Site k ∷ own) ≡ fold section_with [] own
opened-at front own k = fold-append section_with [] front (Site k ∷ own)

ends-at : (front own : List SectionLine) (x : SectionLine) → last_or None (front ++ x ∷ own) ≡ last_or (Some x) own
ends-at front own x = last_or-append None front (x ∷ own)

-- ---- a site line between sections

closed-site : (c : Certificate) (before : List SectionLine) (k : ℕ) → IsClosed before → (f : Fault)
    → (fault_number f ≡ 7 → ⊥) → Keeps c before (Site k) f
closed-site c before k closed fault.Section not = absurd (not refl)
closed-site c before k closed fault.Block not = λ g last is_open. absurd (closed g last)
closed-site c before k closed _ not = tt

module _ (ws vs : List SiteLog) (len : length ws ≡ length vs) (shaped : All IsShapedLog vs) where
  abbrev front : List SectionLine
  front = sections_from 0 ws

  abbrev other : List SectionLine
  other = sections_from 0 vs

  pub begins-moved : (n : ℕ) (own : List SectionLine) (l : SectionLine) → Begins n ((front ++ own) ++ l ∷ [])
      → Begins n ((other ++ own) ++ l ∷ [])
  begins-moved n own l (logs, more, shape, e) =
      let split = split-whole 0 ws logs (own ++ l ∷ more) (e ∙ regroup front own more l) in
      let tail = split.0 in (
        vs ++ tail,
        more,
        record {
          some = shape.some;
          few = shape.few;
          each = length-append vs tail ∙ ap (λ n. n + length tail) (sym len) ∙ sym (length-append ws tail)
              ∙ ap length (sym split.1) ∙ shape.each;
          logs = All-append IsShapedLog vs tail shaped
              (all-tail IsShapedLog ws tail (subst (All IsShapedLog) split.1 shape.logs));
        },
        sections-append 0 vs tail
            ∙ ap (λ (ls : List SectionLine). other ++ ls) (ap (λ j. sections_from (0 + j) tail) (sym len) ∙ split.2)
            ∙ sym (regroup other own more l),
      )

  begins-starts : (n : ℕ) (own : List SectionLine) (l : SectionLine) → Begins n ((front ++ own) ++ l ∷ [])
      → StartsAt (length ws) own l
  begins-starts n own l (logs, more, shape, e) =
      let split = split-whole 0 ws logs (own ++ l ∷ more) (e ∙ regroup front own more l) in
      subst (λ j. StartsAt j own l) (zero-add (length ws)) (starts (0 + length ws) split.0 own more l split.2)

  other-closed : IsClosed (other ++ [])
  other-closed = subst IsClosed (sym (append-nil other)) (whole-closed 0 [] vs (λ e h. none-some (Logged e) h))

  open-moved : (c : Certificate) (k : ℕ) (own : List SectionLine) (l : SectionLine) (f : Fault) → StartsAt k own l
      → f ≢ fault.WalkStep → (fault_number f ≡ 7 → ⊥) → Keeps c (front ++ own) l f → Keeps c (other ++ own) l f
  open-moved c k [] l f is not seven h =
      subst (λ m. Keeps c (other ++ []) m f) (sym is) (closed-site c (other ++ []) k other-closed f seven)
  open-moved c k (x ∷ own) l f is not seven h =
      let opened = subst (λ y. open_section (front ++ y ∷ own) ≡ open_section (other ++ y ∷ own)) (sym is)
      (opened-at front own k ∙ sym (opened-at other own k)) in
      let ends = ends-at front own x ∙ sym (ends-at other own x) in
      line-alike c (front ++ x ∷ own) (other ++ x ∷ own) opened ends l (begins-moved c.sites (x ∷ own) l) f not h

  -- a rule, where F7 is kept if its number is greater
  pub line-moved : (c : Certificate) (own : List SectionLine) (l : SectionLine) (f : Fault) → f ≢ fault.WalkStep
      → (7 < fault_number f → Begins c.sites ((front ++ own) ++ l ∷ [])) → Keeps c (front ++ own) l f
      → Keeps c (other ++ own) l f
  line-moved c own l f not begins h =
      elim (cases_order (fault_number f) 7) [
        | inl same ↦
            let seven = number-one f fault.Section same in
            subst (λ g. Keeps c (front ++ own) l g → Keeps c (other ++ own) l g) (sym seven)
            (begins-moved c.sites own l) h
        | inr (inl less) ↦ kept-7 c (other ++ own) l f less
        | inr (inr more) ↦ open-moved c (length ws) own l f (begins-starts c.sites own l (begins more)) not
            (λ e. absurd (omega arith)) h
      ]

  pub rule-last : (second : Bool) (c : Certificate) (own : List SectionLine) (l : List ℕ) (f : Fault)
      → Rule (within second c (front ++ own)) (last l) f → Rule (within second c (other ++ own)) (last l) f
  rule-last second c own l fault.Notation h = h
  rule-last second c own l fault.Truncated h = h
  rule-last second c own l _ h = tt

  abbrev pub Kept7 : Bool → Certificate → List SectionLine → List ℕ → Type 0
  Kept7 second c own l = (line : SectionLine) → IsLineIn second line → l ≡ line_text line
      → Begins c.sites ((front ++ own) ++ line ∷ [])

  pub rule-whole : (second : Bool) (c : Certificate) (own : List SectionLine) (l : List ℕ) (f : Fault)
      → f ≢ fault.WalkStep → (7 < fault_number f → Kept7 second c own l)
      → Rule (within second c (front ++ own)) (whole l) f → Rule (within second c (other ++ own)) (whole l) f
  rule-whole second c own l fault.Notation not begins h = h
  rule-whole second c own l f not begins h =
      λ line is same. line-moved c own line f not (λ more. begins more line is same) (h line is same)
