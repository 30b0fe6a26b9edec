-- The entries of the lines, line by line.
use Rattle.std.proofs.Common.{◌≡◌, ◌≢◌, ℕ, ◌+◌, ◌-◌, ◌<◌, ◌≤◌, List, [], ◌∷◌, ◌++◌, take, drop, Option, None, inl, inr, refl, sym, ap, ap₂, ◌∙◌, arith, take_all}
use Rattle.std.specs.List.{filter_map, enumerate_from, cons_option}
use Rattle.std.proofs.lemmas.List.{append-nil}
use Rattle.sgt_names.specs.declared.entry.Entry.{Entry}
use Rattle.sgt_notation.specs.Spelling.{line_text, text_of_lines, HasNoLf, IsLine}
use Rattle.sgt_notation.specs.declared.SectionLine.{SectionLine}
use Rattle.sgt_notation.specs.declared.SectionLine.TheVariants.{Site, Initial, Logged, Final, End}
use Rattle.sgt_explain_lines.specs.Numbered.{entry_in, site_behind}
use Rattle.sgt_explain_lines.specs.Sited.{HasLines, site_at}
use Rattle.sgt_explain_lines.proofs.Siting.{all_lines, IsGone, gone-none, gone-step, gone-all, gone-end, site-next, taken-next}
use Rattle.sgt_explain_transaction.specs.declared.dealings.Own.{Own}
use Rattle.sgt_explain_transaction.specs.Dealings.{entry_from, entry_at, entries_of}
use Rattle.sgt_explain_transaction.specs.Found.{AreEntriesBefore}

-- the entries of the first of these lines
abbrev pub entries_before : List SectionLine → ℕ → List Own
entries_before lines n = filter_map (entry_at lines) (enumerate_from 0 (take n lines))

entry-site : (site line : ℕ) (one : SectionLine)
    → entry_from (site_behind site one) line (entry_in one) ≡ entry_from site line (entry_in one)
entry-site site line (Site k) = refl
entry-site site line (Initial h) = refl
entry-site site line (Logged e) = refl
entry-site site line (Final h) = refl
entry-site site line End = refl

-- before the line of this number these are the entries
pub record IsRead (bytes : List ℕ) (end line : ℕ) (rest : List ℕ) (site : ℕ) (read : List Own) : Type 0 where
  pub early : end ≤ 3 → read ≡ []
  pub gone : (lines : List SectionLine) (h : HasLines bytes end lines) → IsGone bytes end lines h line rest site
  pub all : (lines : List SectionLine) → HasLines bytes end lines → read ≡ entries_before lines (line - 3)

pub read-none : (bytes : List ℕ) (end : ℕ) → IsRead bytes end 1 bytes 0 []
read-none bytes end = record {
  early = λ _. refl;
  gone = λ lines h. gone-none bytes end lines h;
  all = λ lines h. refl;
}

-- the line is cut off, and its entry and its site are read
pub record IsCutAndRead (line site site' : ℕ) (rest text behind : List ℕ) (found : Option Entry) : Type 0 where
  pub cuts : (one more : List ℕ) → HasNoLf one → rest ≡ one ++ 10 ∷ more → (text ≡ one) × (behind ≡ more)
  pub head : line ≤ 2 → (found ≡ None) × (site' ≡ site)
  pub section : 2 < line → (read : SectionLine) → IsLine read → text ≡ line_text read
      → (found ≡ entry_in read) × (site' ≡ site_behind site read)

-- what is known behind one more line
pub record IsLineMore (bytes : List ℕ) (end : ℕ) (lines : List SectionLine) (h : HasLines bytes end lines)
    (line : ℕ) (behind : List ℕ) (site : ℕ) (read : List Own) : Type 0 where
  pub left : behind ≡ text_of_lines (drop (line + 1 - 1) (all_lines bytes end lines h)) ++ h.rest
  pub inside : site ≡ site_at lines (line + 1 - 3)
  pub all : read ≡ entries_before lines (line + 1 - 3)

pub record IsReadNext (bytes : List ℕ) (end line : ℕ) (behind : List ℕ) (site : ℕ) (read : List Own) : Type 0 where
  pub early : end ≤ 3 → read ≡ []
  pub next : (lines : List SectionLine) (h : HasLines bytes end lines)
      → IsLineMore bytes end lines h line behind site read

line-more : (bytes : List ℕ) (end : ℕ) (lines : List SectionLine) (h : HasLines bytes end lines)
    (line site site' : ℕ) (rest text behind : List ℕ) (read : List Own) (found : Option Entry)
    → IsGone bytes end lines h line rest site → read ≡ entries_before lines (line - 3) → 1 ≤ line → line < end
    → IsCutAndRead line site site' rest text behind found
    → IsLineMore bytes end lines h line behind site' (read ++ cons_option (entry_from site' line found) [])
line-more bytes end lines h line site site' rest text behind read found gone all low less cut =
    elim (gone-step bytes end lines h line rest site text behind gone low less cut.cuts) [
      | inl s ↦ (let two = s.low in
          let here : line - 3 ≡ line + 1 - 3 = omega (arith, two) in
          let e = cut.head two in
          record {
            left = s.left;
            inside = e.1 ∙ gone.inside ∙ ap (site_at lines) here;
            all = ap (λ o. read ++ cons_option (entry_from site' line o) []) e.0 ∙ append-nil read ∙ all
                ∙ ap (entries_before lines) here;
          })
      | inr s ↦ (let high = s.high in
          let n = line - 3 in
          let next : n + 1 ≡ line + 1 - 3 = omega (arith, high) in
          let counted : line ≡ n + 3 = omega (arith, high) in
          let e = cut.section high s.one s.is s.spelled in
          let at = e.1 ∙ ap (λ k. site_behind k s.one) gone.inside in
          let one : entry_from site' line found ≡ entry_at lines (n, s.one) =
          ap₂ (λ k o. entry_from k line o) at e.0 ∙ entry-site (site_at lines n) line s.one
          ∙ ap (λ m. entry_from (site_at lines n) m (entry_in s.one)) counted in
          record {
            left = s.left;
            inside = at ∙ sym (site-next lines n s.one s.there) ∙ ap (site_at lines) next;
            all = ap₂ (λ os o. os ++ cons_option o []) all one
                ∙ sym (taken-next (entry_at lines) lines n s.one s.there) ∙ ap (entries_before lines) next;
          })
    ]

pub read-step : (bytes : List ℕ) (end line site site' : ℕ) (rest text behind : List ℕ) (read : List Own)
    (found : Option Entry) → IsRead bytes end line rest site read → 1 ≤ line → line < end
    → IsCutAndRead line site site' rest text behind found
    → IsReadNext bytes end line behind site' (read ++ cons_option (entry_from site' line found) [])
read-step bytes end line site site' rest text behind read found is low less cut = record {
  early = λ three. ap₂ (λ os o. os ++ cons_option (entry_from site' line o) []) (is.early three)
      (cut.head (omega (arith, less, three))).0;
  next = λ lines h. line-more bytes end lines h line site site' rest text behind read found (is.gone lines h)
      (is.all lines h) low less cut;
}

pub read-next : (bytes : List ℕ) (end line : ℕ) (behind : List ℕ) (site : ℕ) (read : List Own)
    → IsReadNext bytes end line behind site read → behind ≢ [] → IsRead bytes end (line + 1) behind site read
read-next bytes end line behind site read is some = record {
  early = is.early;
  gone = λ lines h. (let next = is.next lines h in
      record { left = next.left; inside = next.inside; more = λ _. some });
  all = λ lines h. (is.next lines h).all;
}

-- where nothing is left, these are all
pub read-over : (bytes : List ℕ) (end line : ℕ) (behind : List ℕ) (site : ℕ) (read : List Own) → 1 ≤ line
    → IsReadNext bytes end line behind site read → behind ≡ [] → AreEntriesBefore bytes end read
read-over bytes end line behind site read low is none lines (inl early) =
    is.early early.1 ∙ ap entries_of (sym early.0)
read-over bytes end line behind site read low is none lines (inr h) =
    let next = is.next lines h in
    next.all ∙ ap (λ ls. filter_map (entry_at lines) (enumerate_from 0 ls))
    (take_all (line + 1 - 3) lines (gone-all bytes end lines h line behind low next.left none))

pub read-whole : (bytes : List ℕ) (end line : ℕ) (rest : List ℕ) (site : ℕ) (read : List Own)
    → IsRead bytes end line rest site read → end ≤ line → AreEntriesBefore bytes end read
read-whole bytes end line rest site read is most lines (inl early) = is.early early.1 ∙ ap entries_of (sym early.0)
read-whole bytes end line rest site read is most lines (inr h) =
    is.all lines h ∙ ap (λ ls. filter_map (entry_at lines) (enumerate_from 0 ls))
    (take_all (line - 3) lines (gone-end bytes end lines h line most))
