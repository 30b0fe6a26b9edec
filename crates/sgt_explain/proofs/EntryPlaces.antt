-- Where the entries of logs stand among the lines of their sections.
use Rattle.std.proofs.Common.{◌≡◌, ℕ, zero, suc, ◌+◌, ◌≤◌, List, [], ◌∷◌, ◌++◌, length, map, take, Option, Some, None, inl, inr, refl, sym, ap, ◌∙◌, arith, length-append}
use Rattle.std.specs.Prelude.{fold, slice_get, option_map, unwrap_or, ◌⊎◌}
use Rattle.std.specs.List.{AllByRecursion}
use Rattle.std.proofs.lemmas.List.{length-map, take-append-le}
use Rattle.std.proofs.lemmas.List.Sums.{fold-append}
use Rattle.std.proofs.lemmas.Option.{same_Some, none-some, slice_get_within, slice_get-map}
use Rattle.sgt_names.proofs.Lists.{front_at, back_at, map_at, AllByRecursion-append}
use Rattle.sgt_names.specs.declared.entry.Entry.{Entry}
use Rattle.sgt_names.specs.declared.entry.Holding.{Holding}
use Rattle.sgt_notation.specs.declared.SectionLine.{SectionLine}
use Rattle.sgt_notation.specs.declared.SectionLine.TheVariants.{Site, Initial, Logged, Final, End}
use Rattle.sgt_bundle.specs.Text.{section_lines, sections_from}
use Rattle.sgt_bundle.specs.declared.bundle.SiteLog.{SiteLog}
use Rattle.sgt_audit.proofs.SectionLines.{NotSite, AllByRecursion-map, inner}
use Rattle.sgt_explain_lines.specs.Numbered.{with_site, open_site}
use Rattle.sgt_explain_lines.specs.Sited.{StandsAt, site_at}
use Rattle.sgt_explain_lines.specs.declared.section.Logged.{Logged as LoggedEntry}
use Rattle.sgt_bundle.proofs.OneText.{logged-one}
use Rattle.sgt_audit.proofs.KeptLines.{final-logged}

-- an element of two lists in a row is one of the first, or of the second
get-append : {A : Type 0} (xs ys : List A) (n : ℕ) (a : A) → slice_get (xs ++ ys) n ≡ Some a
    → (slice_get xs n ≡ Some a) ⊎ ((m : ℕ) × (n ≡ length xs + m) × (slice_get ys m ≡ Some a))
get-append [] ys n a at = inr (n, omega arith, at)
get-append (x ∷ xs) ys zero a at = inl at
get-append (x ∷ xs) ys (suc n) a at =
    elim (get-append xs ys n a at) [
      | inl front ↦ inl front
      | inr back ↦ (let e = back.1 in inr (back.0, omega (arith, e), back.2))
    ]

take-behind : {A : Type 0} (xs ys : List A) (n : ℕ) → take (length xs + n) (xs ++ ys) ≡ xs ++ take n ys
take-behind [] ys n = ap (λ m. take m ys) (let e : 0 + n ≡ n = omega arith in e)
take-behind (x ∷ xs) ys n =
    ap (λ m. take m (x ∷ (xs ++ ys))) (let e : suc (length xs) + n ≡ suc (length xs + n) = omega arith in e)
    ∙ ap (λ zs. x ∷ zs) (take-behind xs ys n)

site-logged : (k : ℕ) (e : Entry) → Some (Site k) ≡ Some (Logged e) → ⊥
site-logged k e same = cc

initial-logged : (h : Holding) (e : Entry) → Initial h ≡ Logged e → ⊥
initial-logged h e same = cc

end-logged : (n : ℕ) (e : Entry) → slice_get (End ∷ []) n ≡ Some (Logged e) → ⊥
end-logged zero e same = cc
end-logged (suc n) e same = none-some (Logged e) same

-- ---- one section

abbrev listed : SiteLog → List SectionLine
listed log = map Initial log.items

abbrev entered : SiteLog → List SectionLine
entered log = map Logged log.entries

abbrev finished : SiteLog → List SectionLine
finished log = map Final log.finals

abbrev body : SiteLog → List SectionLine
body log = inner log.items log.entries log.finals ++ End ∷ []

-- an entry of a section is one of the log
in-section : (k : ℕ) (log : SiteLog) (n : ℕ) (e : Entry) → slice_get (section_lines k log) n ≡ Some (Logged e)
    → (j : ℕ) × (slice_get log.entries j ≡ Some e) × (n ≡ suc (length log.items) + j)
in-section k log zero e at = absurd (site-logged k e at)
in-section k log (suc n) e at =
    let long : length (listed log) ≡ length log.items = length-map log.items Initial in
    elim (get-append (listed log ++ entered log ++ finished log) (End ∷ []) n (Logged e) at) [
      | inr last ↦ absurd (end-logged last.0 e last.2)
      | inl most ↦ elim (get-append (listed log ++ entered log) (finished log) n (Logged e) most) [
        | inr final ↦ (let f = map_at Final log.finals final.0 (Logged e) final.2 in absurd (final-logged f.0 e f.2))
        | inl begun ↦ elim (get-append (listed log) (entered log) n (Logged e) begun) [
          | inl item ↦ (let f = map_at Initial log.items n (Logged e) item in absurd (initial-logged f.0 e f.2))
          | inr there ↦ (let f = map_at Logged log.entries there.0 (Logged e) there.2 in
              let place = there.1 in
              (there.0, f.1 ∙ ap Some (logged-one f.0 e f.2), omega (arith, long, place)))
        ]
      ]
    ]

-- and an entry of the log is one of the section
of-section : (k : ℕ) (log : SiteLog) (j : ℕ) (e : Entry) → slice_get log.entries j ≡ Some e
    → slice_get (section_lines k log) (suc (length log.items) + j) ≡ Some (Logged e)
of-section k log j e at =
    let long : length (listed log) ≡ length log.items = length-map log.items Initial in
    let place : suc (length log.items) + j ≡ suc (length (listed log) + j) = omega (arith, long) in
    let there : slice_get (entered log) j ≡ Some (Logged e) = slice_get-map Logged log.entries j
    ∙ ap (option_map Logged) at in
    let behind : slice_get (listed log ++ entered log) (length (listed log) + j) ≡ Some (Logged e) =
    back_at (listed log) (entered log) j ∙ there in
    ap (slice_get (section_lines k log)) place
    ∙ front_at (listed log ++ entered log ++ finished log) (End ∷ []) (length (listed log) + j) (Logged e)
    (front_at (listed log ++ entered log) (finished log) (length (listed log) + j) (Logged e) behind)

body-plain : (log : SiteLog) → AllByRecursion NotSite (body log)
body-plain log =
    AllByRecursion-append NotSite (listed log ++ entered log ++ finished log) (End ∷ [])
    (AllByRecursion-append NotSite (listed log ++ entered log) (finished log)
    (AllByRecursion-append NotSite (listed log) (entered log) (AllByRecursion-map NotSite Initial (λ h. tt) log.items)
    (AllByRecursion-map NotSite Logged (λ e. tt) log.entries))
    (AllByRecursion-map NotSite Final (λ h. tt) log.finals))
    (tt, tt)

plain-take : (m : ℕ) (ys : List SectionLine) → AllByRecursion NotSite ys → AllByRecursion NotSite (take m ys)
plain-take zero ys h = tt
plain-take (suc m) [] h = tt
plain-take (suc m) (y ∷ ys) h = (h.0, plain-take m ys h.1)

pub site-kept : (o : Option ℕ) (ys : List SectionLine) → AllByRecursion NotSite ys → fold with_site o ys ≡ o
site-kept o [] h = refl
site-kept o (Site k ∷ ys) h = absurd h.0
site-kept o (Initial x ∷ ys) h = site-kept o ys h.1
site-kept o (Logged e ∷ ys) h = site-kept o ys h.1
site-kept o (Final x ∷ ys) h = site-kept o ys h.1
site-kept o (End ∷ ys) h = site-kept o ys h.1

open-section : (k : ℕ) (log : SiteLog) (rest : List SectionLine) (m : ℕ) (o : Option ℕ)
    → m ≤ length log.items + length log.entries
    → fold with_site o (take (suc m) (section_lines k log ++ rest)) ≡ Some k
open-section k log rest m o few =
    let one : length (listed log) ≡ length log.items = length-map log.items Initial in
    let two : length (entered log) ≡ length log.entries = length-map log.entries Logged in
    let a = length-append (listed log) (entered log) in
    let b = length-append (listed log ++ entered log) (finished log) in
    let c = length-append (listed log ++ entered log ++ finished log) (End ∷ []) in
    ap (fold with_site (Some k)) (take-append-le m (body log) rest (omega (arith, few, one, two, a, b, c)))
    ∙ site-kept (Some k) (take m (body log)) (plain-take m (body log) (body-plain log))

-- ---- all sections

-- how many lines stand before the entries of a site
abbrev pub start : ℕ → List SiteLog → ℕ → ℕ
start k [] s = 0
start k (log ∷ logs) zero = suc (length log.items)
start k (log ∷ logs) (suc s) = length (section_lines k log) + start (suc k) logs s

pub record IsLoggedAt (k : ℕ) (logs : List SiteLog) (n : ℕ) (e : Entry) : Type 0 where
  pub site : ℕ
  pub j : ℕ
  pub log : SiteLog
  pub at : slice_get logs site ≡ Some log
  pub there : slice_get log.entries j ≡ Some e
  pub place : n ≡ start k logs site + j

logged-at : (k : ℕ) (logs : List SiteLog) (n : ℕ) (e : Entry) → slice_get (sections_from k logs) n ≡ Some (Logged e)
    → IsLoggedAt k logs n e
logged-at k [] n e at = absurd (none-some (Logged e) at)
logged-at k (l ∷ logs) n e at =
    elim (get-append (section_lines k l) (sections_from (suc k) logs) n (Logged e) at) [
      | inl here ↦ (let f = in-section k l n e here in record {
        site = 0;
        j = f.0;
        log = l;
        at = refl;
        there =
            f.1;
        place = f.2;
      })
      | inr later ↦ (let f = logged-at (suc k) logs later.0 e later.2 in
          let first = later.1 in
          let place = f.place in
          record {
            site = suc f.site;
            j = f.j;
            log = f.log;
            at = f.at;
            there = f.there;
            place =
                omega (arith, first, place);
          })
    ]

line-of : (k : ℕ) (logs : List SiteLog) (s : ℕ) (log : SiteLog) (j : ℕ) (e : Entry) → slice_get logs s ≡ Some log
    → slice_get log.entries j ≡ Some e
    → slice_get (sections_from k logs) (start k logs s + j) ≡ Some (Logged e)
line-of k [] s log j e at there = absurd (none-some log at)
line-of k (l ∷ logs) zero log j e at there =
    front_at (section_lines k l) (sections_from (suc k) logs) (suc (length l.items) + j) (Logged e)
    (of-section k l j e (ap (λ (g : SiteLog). slice_get g.entries j) (same_Some l log at) ∙ there))
line-of k (l ∷ logs) (suc s) log j e at there =
    let place : length (section_lines k l) + start (suc k) logs s + j ≡ length (section_lines k l) +
    (start (suc k) logs s + j) = omega arith in
    ap (slice_get (section_lines k l ++ sections_from (suc k) logs)) place
    ∙ back_at (section_lines k l) (sections_from (suc k) logs) (start (suc k) logs s + j)
    ∙ line-of (suc k) logs s log j e at there

open-at : (k : ℕ) (logs : List SiteLog) (s : ℕ) (log : SiteLog) (j : ℕ) (o : Option ℕ) → slice_get logs s ≡ Some log
    → j ≤ length log.entries
    → fold with_site o (take (start k logs s + j) (sections_from k logs)) ≡ Some (k + s)
open-at k [] s log j o at few = absurd (none-some log at)
open-at k (l ∷ logs) zero log j o at few =
    let all = section_lines k l ++ sections_from (suc k) logs in
    let place : suc (length l.items) + j ≡ suc (length l.items + j) = omega arith in
    let same = ap (λ (g : SiteLog). length g.entries) (same_Some l log at) in
    let first : k ≡ k + 0 = omega arith in
    ap (λ m. fold with_site o (take m all)) place
    ∙ open-section k l (sections_from (suc k) logs) (length l.items + j) o (omega (arith, few, same))
    ∙ ap Some first
open-at k (l ∷ logs) (suc s) log j o at few =
    let one = section_lines k l in
    let rest = sections_from (suc k) logs in
    let place : length one + start (suc k) logs s + j ≡ length one + (start (suc k) logs s + j) = omega arith in
    let next : suc k + s ≡ k + suc s = omega arith in
    ap (λ m. fold with_site o (take m (one ++ rest))) place
    ∙ ap (fold with_site o) (take-behind one rest (start (suc k) logs s + j))
    ∙ fold-append with_site o one (take (start (suc k) logs s + j) rest)
    ∙ open-at (suc k) logs s log j (fold with_site o one) at few ∙ ap Some next

-- ---- the lines before an end

-- the entry of this place of a site's log, in the line of this number
pub record IsLogPlace (logs : List SiteLog) (site : ℕ) (l : LoggedEntry) : Type 0 where
  pub log : SiteLog
  pub j : ℕ
  pub at : slice_get logs site ≡ Some log
  pub there : slice_get log.entries j ≡ Some l.entry
  pub line : l.line ≡ start 0 logs site + j + 3

module _ (logs : List SiteLog) (before : List SectionLine) (all : sections_from 0 logs ≡ before ++ End ∷ []) where
  same-front : (n : ℕ) → n ≤ length before → take n (sections_from 0 logs) ≡ take n before
  same-front n few = ap (take n) all ∙ take-append-le n before (End ∷ []) few

  site-of : (s : ℕ) (log : SiteLog) (j n : ℕ) → slice_get logs s ≡ Some log → j ≤ length log.entries
      → n ≡ start 0 logs s + j → n ≤ length before → site_at before n ≡ s
  site-of s log j n at few place within =
      let first : 0 + s ≡ s = omega arith in
      ap (λ (ls : List SectionLine). unwrap_or (open_site ls) 0) (sym (same-front n within)
      ∙ ap (λ m. take m (sections_from 0 logs)) place)
      ∙ ap (λ o. unwrap_or o 0) (open-at 0 logs s log j None at few) ∙ first

  -- an entry of the lines is one of the log of its site
  pub stands-in : (site : ℕ) (l : LoggedEntry) → StandsAt before site l → IsLogPlace logs site l
  stands-in site l stands =
      let n = stands.place in
      let at : slice_get (sections_from 0 logs) n ≡ Some (Logged l.entry) =
      ap (λ (ls : List SectionLine). slice_get ls n) all
      ∙ front_at before (End ∷ []) n (Logged l.entry) stands.there in
      let f = logged-at 0 logs n l.entry at in
      let inside = slice_get_within f.log.entries f.j l.entry f.there in
      let within = slice_get_within before n (Logged l.entry) stands.there in
      let same : f.site ≡ site =
      sym (site-of f.site f.log f.j n f.at (omega (arith, inside)) f.place (omega (arith, within)))
      ∙ stands.inside in
      let place = f.place ∙ ap (λ s. start 0 logs s + f.j) same in
      let counted = stands.counted in
      record {
        log = f.log;
        j = f.j;
        at = ap (slice_get logs) (sym same) ∙ f.at;
        there = f.there;
        line = omega (arith, counted, place);
      }

  -- and each entry of a log stands in the lines
  pub log-stands : (site : ℕ) (log : SiteLog) (j : ℕ) (e : Entry) → slice_get logs site ≡ Some log
      → slice_get log.entries j ≡ Some e
      → StandsAt before site (record { line = start 0 logs site + j + 3; entry = e })
  log-stands site log j e at there =
      let n = start 0 logs site + j in
      let line : slice_get (before ++ End ∷ []) n ≡ Some (Logged e) =
      ap (λ (ls : List SectionLine). slice_get ls n) (sym all) ∙ line-of 0 logs site log j e at there in
      let here = in-front n e line in
      let inside = slice_get_within log.entries j e there in
      let within = slice_get_within before n (Logged e) here in
      record {
        place = n;
        there = here;
        counted = refl;
        inside = site-of site log j n at (omega (arith, inside)) refl (omega (arith, within));
      }
    where
      in-front : (n : ℕ) (e : Entry) → slice_get (before ++ End ∷ []) n ≡ Some (Logged e)
          → slice_get before n ≡ Some (Logged e)
      in-front n e at = elim (get-append before (End ∷ []) n (Logged e) at) [
        | inl front ↦ front
        | inr last ↦ absurd (end-logged last.0 e last.2)
      ]
