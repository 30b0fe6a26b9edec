-- The counts of the sites, place by place.
use Rattle.std.proofs.Common.{◌≡◌, ℕ, suc, ◌<◌, ◌≤◌, ◌+◌, true, false, ◌==◌, nat_lt, ◌≢◌, All, None, add-one, List, [], ◌∷◌, length, set, Some, refl, sym, ap, ◌∙◌, arith, inl, inr}
use Rattle.std.specs.Prelude.{slice_get, count_by, filter, Option}
use Rattle.std.proofs.lemmas.Bool.{cases_Bool, cases_lt, eq-eqb, eqb-true, ne_eqb, lt-ltb, le-ltb}
use Rattle.std.proofs.lemmas.List.{length-set}
use Rattle.std.proofs.lemmas.List.Elements.{All-nil, All-cons}
use Rattle.std.proofs.lemmas.List.Sums.{length-filter}
use Rattle.std.proofs.lemmas.Option.{slice_get_within, same_Some}
use Rattle.sgt_site.proofs.Inserts.{get_set_same, get_set_other}
use Rattle.sgt_site.proofs.SitePart.{filter-again}
use Rattle.sgt_names.specs.Draft.{at_site, writing_in}
use Rattle.sgt_names.specs.declared.draft.Touch.{Touch}
use Rattle.sgt_names.specs.declared.entry.Change.{Change}
use Rattle.sgt_workers.specs.declared.ticket.Ending.{Ending}
use Rattle.sgt_workers.specs.declared.ticket.Ending.TheVariants.{Committed, Refused, Withdrawn}
use Rattle.sgt_service_locks.specs.Counts.{AreCounted, only_at, with_others, below, block_length, is_at, is_changed_at}
use Rattle.sgt_service_agreement.specs.declared.counts.EntryCounts.{EntryCounts}

pub counted_set : (f : EntryCounts → EntryCounts) (cs : List EntryCounts) (n : ℕ) (c : EntryCounts)
    → slice_get cs n ≡ Some c → AreCounted (only_at n f) cs (set cs n (f c))
counted_set f cs n c at = (
  length-set cs n (f c),
  λ site d there. elim (cases_Bool (site == n)) [
    | inl hit ↦
        let e : n ≡ site = sym (eqb-true site n hit) in
        let same : c ≡ d = same_Some c d (sym at ∙ (ap (slice_get cs) e ∙ there)) in
        let put : slice_get (set cs n (f c)) n ≡ Some (f c) = get_set_same cs n (f c) (slice_get_within cs n c at) in
        rw hit (ap (slice_get (set cs n (f c))) (sym e) ∙ (put ∙ ap (λ k. Some (f k)) same))
    | inr miss ↦
        let apart : site ≡ n → ⊥ = λ e. (let t : (site == n) ≡ true = eq-eqb site n e in cc) in
        rw miss (get_set_other cs n site (f c) apart ∙ there)
  ],
)

pub counted_past : (f : EntryCounts → EntryCounts) (cs : List EntryCounts) (n : ℕ) → length cs ≤ n
    → AreCounted (only_at n f) cs cs
counted_past f cs n past = (
  refl,
  λ site d there. elim (cases_Bool (site == n)) [
    | inl hit ↦
        let e : site ≡ n = eqb-true site n hit in
        let within : site < length cs = slice_get_within cs site d there in
        absurd (omega arith)
    | inr miss ↦ rw miss there
  ],
)

-- ---- site after site

abbrev Gains : (ℕ → ℕ) → List EntryCounts → List EntryCounts → Type 0
Gains lengths old new = AreCounted (λ s. with_others (lengths s)) old new

pub gains_zero : (cs : List EntryCounts) (n k : ℕ) → k ≡ 0 → AreCounted (only_at n (with_others k)) cs cs
gains_zero cs n k zero_k = (
  refl,
  λ site d there. elim (cases_Bool (site == n)) [
    | inl hit ↦ rw (hit, zero_k) there
    | inr miss ↦ rw miss there
  ],
)

pub gains_next : (lengths : ℕ → ℕ) (n : ℕ) (old mid new : List EntryCounts) → Gains (below n lengths) old mid
    → AreCounted (only_at n (with_others (lengths n))) mid new → Gains (below (n + 1) lengths) old new
gains_next lengths n old mid new before here = (
  here.0 ∙ before.0,
  λ site d there.
      let was = before.1 site d there in
      elim (cases_lt site n) [
        | inl less ↦
            let front : nat_lt site n ≡ true = lt-ltb site n less in
            let next : nat_lt site (n + 1) ≡ true = lt-ltb site (n + 1) (omega arith) in
            let miss : (site == n) ≡ false = ne_eqb site n (λ e. absurd (omega arith)) in
            rw next (rw miss at (here.1 site (with_others (lengths site) d) (rw front at was)))
        | inr more ↦
            let past : nat_lt site n ≡ false = le-ltb site n more in
            elim (cases_Bool (site == n)) [
              | inl hit ↦
                  let e : site ≡ n = eqb-true site n hit in
                  let next : nat_lt site (n + 1) ≡ true = lt-ltb site (n + 1) (omega arith) in
                  rw (next, e) (rw e at (rw hit at (here.1 site d (rw past at was))))
              | inr miss ↦
                  let apart : site ≡ n → ⊥ = λ e. (let t : (site == n) ≡ true = eq-eqb site n e in cc) in
                  let next : nat_lt site (n + 1) ≡ false = le-ltb site (n + 1) (omega (arith, more, apart)) in
                  rw next (rw miss at (here.1 site d (rw past at was)))
            ]
      ],
)

pub gains_all : (lengths : ℕ → ℕ) (n : ℕ) (old new : List EntryCounts) → ((s : ℕ) → n ≤ s → lengths s ≡ 0)
    → Gains (below n lengths) old new → Gains lengths old new
gains_all lengths n old new none gains = (
  gains.0,
  λ site d there.
      let was = gains.1 site d there in
      elim (cases_lt site n) [
        | inl less ↦ let front : nat_lt site n ≡ true = lt-ltb site n less in (rw front at was)
        | inr past ↦ let back : nat_lt site n ≡ false = le-ltb site n past in rw (none site past) (rw back at was)
      ],
)

-- ---- the blocks

pub block_none : (verdict : Ending) (touched : List Touch) → touched ≡ [] → block_length verdict touched ≡ 0
block_none Committed touched e = rw e refl
block_none Refused touched e = rw e refl
block_none Withdrawn touched e = rw e refl

-- a block of no entries is of a site that is not touched
pub block_empty : (verdict : Ending) (touched : List Touch) → block_length verdict touched ≡ 0 → touched ≡ []
block_empty verdict [] e = refl
block_empty Committed (t ∷ ts) e = absurd (omega (arith, e))
block_empty Refused (t ∷ ts) e = absurd (omega (arith, e))
block_empty Withdrawn (t ∷ ts) e = absurd (omega (arith, e))

-- how many items are changed at the site
changes_hit : (s : ℕ) (t : Touch) (ts : List Touch) (c : Option Change) → t.change ≡ c → (t.site == s) ≡ true
    → length (filter (is_changed_at s) ts) ≡ length (writing_in (filter (is_at s) ts))
    → length (filter (is_changed_at s) (t ∷ ts)) ≡ length (writing_in (filter (is_at s) (t ∷ ts)))
changes_hit s t ts None e hit ih = rw (hit, e) ih
changes_hit s t ts (Some c) e hit ih = rw (hit, e) (ap suc ih)

changes_filter : (s : ℕ) (ts : List Touch)
    → length (filter (is_changed_at s) ts) ≡ length (writing_in (filter (is_at s) ts))
changes_filter s [] = refl
changes_filter s (t ∷ ts) = elim (cases_Bool (t.site == s)) [
  | inl hit ↦ changes_hit s t ts t.change refl hit (changes_filter s ts)
  | inr miss ↦ rw miss (changes_filter s ts)
]

-- no item is touched at the site where none is counted
pub none_at : (s : ℕ) (ts : List Touch) (n : ℕ) → n ≡ count_by (is_at s) ts → n ≡ 0 → at_site s ts ≡ []
none_at s ts n items none = empty (at_site s ts) (length-filter (is_at s) ts ∙ (sym items ∙ none))
  where
    empty : (xs : List Touch) → length xs ≡ 0 → xs ≡ []
    empty [] e = refl
    empty (x ∷ xs) e = absurd (omega (arith, e))

-- what is counted among the items of the site is counted among all
pub block_here : (v : Ending) (s : ℕ) (ts here : List Touch) (n : ℕ) → n ≡ block_length v (at_site s here)
    → here ≡ at_site s ts → n ≡ block_length v (at_site s ts)
block_here v s ts here n is part = is ∙ ap (λ (us : List Touch). block_length v (at_site s us)) part
    ∙ ap (block_length v) (filter-again (is_at s) ts)

pub block_at_none : (v : Ending) (s : ℕ) (ts : List Touch) (n : ℕ) → n ≡ count_by (is_at s) ts → n ≡ 0
    → 0 ≡ block_length v (at_site s ts)
block_at_none v s ts n items none = sym (block_none v (at_site s ts) (none_at s ts n items none))

pub block_at_end : (v : Ending) (s : ℕ) (ts : List Touch) (n : ℕ) → n ≡ count_by (is_at s) ts → n ≢ 0 → v ≡ Withdrawn
    → 1 ≡ block_length v (at_site s ts)
block_at_end v s ts n items some is =
    sym (ended v (at_site s ts) is (λ e. some (items ∙ (sym (length-filter (is_at s) ts) ∙ e))))
  where
    ended : (v : Ending) (xs : List Touch) → v ≡ Withdrawn → (length xs ≡ 0 → ⊥) → block_length v xs ≡ 1
    ended Withdrawn (t ∷ ts) e some = refl
    ended Withdrawn [] e some = absurd (some refl)
    ended Committed xs e some = absurd (let f : Committed ≡ Withdrawn = e in cc)
    ended Refused xs e some = absurd (let f : Refused ≡ Withdrawn = e in cc)

pub block_at_some : (v : Ending) (s : ℕ) (ts : List Touch) (n k : ℕ) → n ≡ count_by (is_at s) ts → n ≢ 0
    → (v ≡ Withdrawn → ⊥)
    → k ≡ count_by (is_changed_at s) ts → k + 1 ≡ block_length v (at_site s ts)
block_at_some v s ts n k items some other changes =
    ap (λ (j : ℕ). j + 1) (changes ∙ (sym (length-filter (is_changed_at s) ts) ∙ changes_filter s ts))
    ∙ sym (ended v (at_site s ts) other (λ e. some (items ∙ (sym (length-filter (is_at s) ts) ∙ e))))
  where
    ended : (v : Ending) (xs : List Touch) → (v ≡ Withdrawn → ⊥) → (length xs ≡ 0 → ⊥)
        → block_length v xs ≡ length (writing_in xs) + 1
    ended Withdrawn xs e some = absurd (e refl)
    ended Committed (t ∷ ts) e some = sym (add-one (length (writing_in (t ∷ ts))))
    ended Committed [] e some = absurd (some refl)
    ended Refused (t ∷ ts) e some = sym (add-one (length (writing_in (t ∷ ts))))
    ended Refused [] e some = absurd (some refl)
