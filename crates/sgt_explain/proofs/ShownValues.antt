-- What is shown of a value that a line gives its item, by the section before that line.
use Rattle.std.proofs.Common.{◌≡◌, ◌≢◌, ℕ, suc, zero, List, [], ◌∷◌, ◌++◌, Option, Some, None, refl, sym, ap, ap₂, ◌∙◌, subst, arith, inl, inr, Contains}
use Rattle.std.specs.Prelude.{cond, slice_get, unwrap_or, IfSome, IfNone, IsSomeAnd, All}
use Rattle.std.specs.Str.{bytes_eq}
use Rattle.std.proofs.lemmas.Bool.{cases_Bool}
use Rattle.std.proofs.lemmas.Option.{same_Some, none-some}
use Rattle.std.proofs.lemmas.Slice.Eq.{bytes_eq-Decides}
use Rattle.sgt_names.proofs.Lists.{All-from_map}
use Rattle.sgt_names.proofs.Places.{Contains_at}
use Rattle.sgt_names.specs.Name.{Name}
use Rattle.sgt_names.specs.Entry.{tx_of}
use Rattle.sgt_names.specs.Log.{names, value_in, value_at}
use Rattle.sgt_names.specs.declared.entry.Entry.{Entry}
use Rattle.sgt_names.specs.declared.entry.Entry.TheVariants.{Read}
use Rattle.sgt_names.specs.declared.entry.Holding.{Holding}
use Rattle.sgt_notation.specs.Spelling.{line_text, HasNoLf}
use Rattle.sgt_notation.specs.declared.SectionLine.{SectionLine}
use Rattle.sgt_notation.specs.declared.SectionLine.TheVariants.{Logged, Final}
use Rattle.sgt_bundle.specs.Certificate.{IsCommitted, IsDecidedOnce}
use Rattle.sgt_bundle.specs.Valid.{RiseInRank}
use Rattle.sgt_bundle.specs.declared.certificate.Decision.{Decision}
use Rattle.sgt_bundle.specs.Text.{certificate_text, IsCertificate}
use Rattle.sgt_bundle.specs.declared.certificate.Certificate.{Certificate}
use Rattle.sgt_audit.specs.declared.faults.Fault.TheVariants as fault
use Rattle.sgt_audit.specs.Faults.{items_in, entries_in, Keeps, bytes_of, FirstFault}
use Rattle.sgt_explain_lines.specs.Numbered.{HasLine, IsSectionOf, logged_in, numbered_entries}
use Rattle.sgt_explain_lines.specs.Values.{holdings_of, entries_of, last_change, stated_as, HadUntil}
use Rattle.sgt_explain_lines.specs.declared.section.Logged.{Logged as LoggedEntry}
use Rattle.sgt_explain_lines.specs.declared.section.Section.{Section}
use Rattle.sgt_explain_lines.specs.declared.values.Misvalued.{Misvalued}
use Rattle.sgt_explain_decisions.specs.Against.{StandAgainst, IsFirstAgainst}
use Rattle.sgt_explain_decisions.specs.declared.order.RanksShown.{RanksShown}
use Rattle.sgt_explain.specs.Shown.{lines_before, decisions_before, ShowsValue, ShowsRead, ShowsFinal, ShowsRanks, read_in, final_in}
use Rattle.sgt_explain.proofs.FaultyLine.{FaultyLine, items-same, entries-same, read-line, final-line, rank-line}
use Rattle.sgt_explain.proofs.ListedItems.{final-listed}

-- an item that is listed has a value
listed-at : (hs : List Holding) (x : Name) (n : ℕ) → slice_get (names hs) n ≡ Some x → value_in hs x ≡ None → ⊥
listed-at [] x n at none = none-some x at
listed-at (h ∷ hs) x zero at none =
    none-some h.value (sym none
    ∙ ap (λ b. cond b (Some h.value) (value_in hs x)) ((bytes_eq-Decides h.item x).1 (same_Some h.item x at)))
listed-at (h ∷ hs) x (suc n) at none =
    elim (cases_Bool (bytes_eq h.item x)) [
      | inl hit ↦ none-some h.value (sym none ∙ ap (λ b. cond b (Some h.value) (value_in hs x)) hit)
      | inr miss ↦ listed-at hs x n at (sym (ap (λ b. cond b (Some h.value) (value_in hs x)) miss) ∙ none)
    ]

listed : (hs : List Holding) (x : Name) → Contains (names hs) x → value_in hs x ≡ None → ⊥
listed hs x has none = let at = Contains_at (names hs) x has in listed-at hs x at.0 at.1 none

-- ---- the parts of a line

read-parts : (line : SectionLine) (o : ℕ × Name × ℕ) → Some o ≡ read_in line → line ≡ Logged (Read o.0 o.1 o.2)
read-parts (Logged (Read t x v)) o e =
    ap (λ (p : ℕ × Name × ℕ). Logged (Read p.0 p.1 p.2)) (same_Some (t, x, v) o (sym e))
read-parts l o e = absurd (none-some o (sym e))

-- a line that is no read keeps the rule of reads
no-read : (c : Certificate) (before : List SectionLine) (line : SectionLine) → None ≡ read_in line
    → Keeps c before line fault.ReadValue
no-read c before (Logged (Read t x v)) e = absurd (none-some (t, x, v) e)
no-read c before l e = tt

final-parts : (line : SectionLine) (o : Name × ℕ) → Some o ≡ final_in line
    → line ≡ Final (record { item = o.0; value = o.1 })
final-parts (Final h) o e =
    ap (λ (p : Name × ℕ). Final (record { item = p.0; value = p.1 })) (same_Some (h.item, h.value) o (sym e))
final-parts l o e = absurd (none-some o (sym e))

no-final : (c : Certificate) (before : List SectionLine) (line : SectionLine) → None ≡ final_in line
    → Keeps c before line fault.Final
no-final c before (Final h) e = absurd (none-some (h.item, h.value) e)
no-final c before l e = tt

-- ---- the value that is shown

shows-value : (before : List SectionLine) (section : Section) (m : Misvalued) → IsSectionOf before section
    → m.site ≡ unwrap_or section.site 0
    → value_at (holdings_of section.items.items) (entries_of section.entries.items) m.item ≡ Some m.made.value
    → m.made.by ≡ last_change m.item section.entries.items
    → (m.made.by ≡ None → Contains section.items.items (stated_as m.made.listed m.item m.made.value))
    → (m.made.value ≢ m.given
    → HadUntil (value_in (holdings_of section.items.items) m.item) section.entries.items m.item m.given m.until)
    → (value_at (items_in before) (entries_in before) m.item ≡ Some m.given → ⊥) → ShowsValue before m
shows-value before section m is site value by listed until broken =
    let items : holdings_of section.items.items ≡ items_in before = ap holdings_of is.items ∙ items-same before in
    let entries : entries_of section.entries.items ≡ entries_in before = ap entries_of is.entries
    ∙ entries-same before in
    let there : value_at (items_in before) (entries_in before) m.item ≡ Some m.made.value =
    ap₂ (λ hs es. value_at hs es m.item) (sym items) (sym entries) ∙ value in
    let other : m.made.value ≢ m.given = λ e. broken (there ∙ ap Some e) in
    record {
      site = site ∙ ap (λ o. unwrap_or o 0) is.site;
      value = there;
      other = other;
      by = by ∙ ap (last_change m.item) is.entries;
      listed = λ none. subst (λ ls. Contains ls (stated_as m.made.listed m.item m.made.value)) is.items (listed none);
      until = subst (λ hs. HadUntil (value_in hs m.item) (numbered_entries before) m.item m.given m.until) items
          (subst (λ ls. HadUntil (value_in (holdings_of section.items.items) m.item) ls m.item m.given m.until)
          is.entries (until other));
    }

-- ---- F10

module _ (bytes : List ℕ) (n : ℕ) (first : FirstFault bytes n fault.ReadValue) where
  found : FaultyLine bytes n fault.ReadValue first.stage first.next
  found = read-line bytes n first

  pub no-line : ((before : List SectionLine) (l : SectionLine) → HasLine bytes n before l → None ≡ Some l) → ⊥
  no-line reads = none-some found.line (reads found.before found.line found.has)

  module _ (line : SectionLine) (reads : (before : List SectionLine) (l : SectionLine) → HasLine bytes n before l
      → Some line ≡ Some l) where
    same_line : line ≡ found.line
    same_line = same_Some line found.line (reads found.before found.line found.has)

    pub some-read : None ≡ read_in line → ⊥
    some-read none = found.broken (no-read found.c found.before found.line (none ∙ ap read_in same_line))

    module _ (section : Section) (are : (before : List SectionLine) (l : SectionLine) → HasLine bytes n before l
        → IsSectionOf before section) (tx : ℕ) (x : Name) (v : ℕ) (read : Some (tx, x, v) ≡ read_in line) where
      line-is : found.line ≡ Logged (Read tx x v)
      line-is = sym same_line ∙ read-parts line (tx, x, v) read

      section-is : IsSectionOf found.before section
      section-is = are found.before found.line found.has

      pub some-value : value_in (holdings_of section.items.items) x ≡ None → ⊥
      some-value none =
          let known = subst (λ l. Keeps found.c found.before l fault.Item) line-is (found.known (omega arith)) in
          listed (items_in found.before) x (known x refl)
          (ap (λ hs. value_in hs x) (sym (ap holdings_of section-is.items ∙ items-same found.before)) ∙ none)

      pub shows-read : (m : Misvalued) → (m.item ≡ x) × (m.given ≡ v) → m.site ≡ unwrap_or section.site 0
          → value_at (holdings_of section.items.items) (entries_of section.entries.items) m.item ≡ Some m.made.value
          → m.made.by ≡ last_change m.item section.entries.items
          → (m.made.by ≡ None → Contains section.items.items (stated_as m.made.listed m.item m.made.value))
          → (m.made.value ≢ m.given
          → HadUntil (value_in (holdings_of section.items.items) m.item) section.entries.items m.item m.given
          m.until)
          → ShowsRead (lines_before first.stage) (bytes_of first.next) tx m
      shows-read m same site value by listed until =
          let is : found.line ≡ Logged (Read tx m.item m.given) = line-is
          ∙ ap₂ (λ y w. Logged (Read tx y w)) (sym same.0) (sym same.1) in
          let broken = subst (λ l. Keeps found.c found.before l fault.ReadValue → ⊥) is found.broken in
          subst (λ s. ShowsRead (lines_before s) (bytes_of first.next) tx m) (sym found.at) (record {
            read = ap bytes_of found.comes ∙ ap line_text is;
            there = shows-value found.before section m section-is site value by listed until broken;
          })

-- ---- F16

module _ (bytes : List ℕ) (n : ℕ) (first : FirstFault bytes n fault.Final) where
  found_final : FaultyLine bytes n fault.Final first.stage first.next
  found_final = final-line bytes n first

  pub no-final_line : ((before : List SectionLine) (l : SectionLine) → HasLine bytes n before l → None ≡ Some l) → ⊥
  no-final_line reads = none-some found_final.line (reads found_final.before found_final.line found_final.has)

  module _ (line : SectionLine) (reads : (before : List SectionLine) (l : SectionLine) → HasLine bytes n before l
      → Some line ≡ Some l) where
    same_final : line ≡ found_final.line
    same_final = same_Some line found_final.line (reads found_final.before found_final.line found_final.has)

    pub some-final : None ≡ final_in line → ⊥
    some-final none =
        found_final.broken (no-final found_final.c found_final.before found_final.line (none ∙ ap final_in same_final))

    module _ (section : Section) (are : (before : List SectionLine) (l : SectionLine) → HasLine bytes n before l
        → IsSectionOf before section)
        (x : Name) (v : ℕ) (final : Some (x, v) ≡ final_in line) where
      final-is : found_final.line ≡ Final (record { item = x; value = v })
      final-is = sym same_final ∙ final-parts line (x, v) final

      final_section-is : IsSectionOf found_final.before section
      final_section-is = are found_final.before found_final.line found_final.has

      pub some-final_value : value_in (holdings_of section.items.items) x ≡ None → ⊥
      some-final_value none =
          let begun = subst (λ l. Keeps found_final.c found_final.before l fault.Section) final-is found_final.begun in
          listed (items_in found_final.before) x
          (final-listed found_final.c.sites found_final.before (record { item = x; value = v }) begun)
          (ap (λ hs. value_in hs x) (sym (ap holdings_of final_section-is.items ∙ items-same found_final.before))
          ∙ none)

      pub shows-final : (m : Misvalued) → (m.item ≡ x) × (m.given ≡ v) → m.site ≡ unwrap_or section.site 0
          → value_at (holdings_of section.items.items) (entries_of section.entries.items) m.item ≡ Some m.made.value
          → m.made.by ≡ last_change m.item section.entries.items
          → (m.made.by ≡ None → Contains section.items.items (stated_as m.made.listed m.item m.made.value))
          → (m.made.value ≢ m.given
          → HadUntil (value_in (holdings_of section.items.items) m.item) section.entries.items m.item m.given
          m.until)
          → ShowsFinal (lines_before first.stage) (bytes_of first.next) m
      shows-final m same site value by listed until =
          let is : found_final.line ≡ Final (record { item = m.item; value = m.given }) =
          final-is ∙ ap₂ (λ y w. Final (record { item = y; value = w })) (sym same.0) (sym same.1) in
          let broken = subst (λ l. Keeps found_final.c found_final.before l fault.Final → ⊥) is found_final.broken in
          subst (λ s. ShowsFinal (lines_before s) (bytes_of first.next) m) (sym found_final.at) (record {
            final = ap bytes_of found_final.comes ∙ ap line_text is;
            there = shows-value found_final.before section m final_section-is site value by listed until broken;
          })

-- ---- F11

pub logged-parts : (n : ℕ) (l : SectionLine) (o : LoggedEntry) → Some o ≡ logged_in (n, l)
    → (l ≡ Logged o.entry) × (o.line ≡ n)
logged-parts n (Logged e) o eq =
    let same = same_Some (record { line = n; entry = e }) o (sym eq) in
    (ap (λ (g : LoggedEntry). Logged g.entry) same, sym (ap (λ (g : LoggedEntry). g.line) same))
logged-parts n l o eq = absurd (none-some o (sym eq))

module _ (bytes : List ℕ) (n : ℕ) (first : FirstFault bytes n fault.RankOrder) where
  found_ranks : FaultyLine bytes n fault.RankOrder first.stage first.next
  found_ranks = rank-line bytes n first

  pub shows-ranks : (section : Section) (d : Certificate) (logged : LoggedEntry) (shown : RanksShown)
      → ((before : List SectionLine) (l : SectionLine) → HasLine bytes n before l → IsSectionOf before section)
      → ((front : List ℕ) (c : Certificate) (rest : List ℕ) → HasNoLf front → IsCertificate c
      → bytes ≡ front ++ 10 ∷ (certificate_text c ++ 10 ∷ rest) → Some d ≡ Some c)
      → ((before : List SectionLine) (l : SectionLine) → HasLine bytes n before l → Some logged ≡ logged_in (n, l))
      → shown.site ≡ unwrap_or section.site 0 → Contains section.entries.items shown.first.logged
      → shown.second.logged ≡ logged
      → IsCommitted d.decisions shown.first.number (tx_of shown.first.logged.entry) shown.first.rank
      → IsCommitted d.decisions shown.second.number (tx_of shown.second.logged.entry) shown.second.rank
      → StandAgainst shown.first shown.second shown.kind shown.item
      → (IsDecidedOnce d.decisions → IsFirstAgainst d.decisions section.entries.items shown.first.logged logged.entry)
      → ShowsRanks (decisions_before first.stage) (lines_before first.stage) (bytes_of first.next) n shown
  shows-ranks section d logged shown are one at site among same one-rank other-rank stand earlier =
      let is = are found_ranks.before found_ranks.line found_ranks.has in
      let cert = found_ranks.certified in
      let decisions : d.decisions ≡ found_ranks.c.decisions =
      ap (λ (k : Certificate). k.decisions)
      (same_Some d found_ranks.c (one cert.0 found_ranks.c cert.1 cert.2 found_ranks.kept.spelled cert.3)) in
      let parts = logged-parts n found_ranks.line logged (at found_ranks.before found_ranks.line found_ranks.has) in
      subst (λ s. ShowsRanks (decisions_before s) (lines_before s) (bytes_of first.next) n shown) (sym found_ranks.at)
      (record {
        site = site ∙ ap (λ o. unwrap_or o 0) is.site;
        entry = ap bytes_of found_ranks.comes ∙ ap line_text parts.0
            ∙ ap (λ (g : LoggedEntry). line_text (Logged g.entry)) (sym same);
        counted = ap (λ (g : LoggedEntry). g.line) same ∙ parts.1;
        among = subst (λ es. Contains es shown.first.logged) is.entries among;
        first = subst (λ ds. IsCommitted ds shown.first.number (tx_of shown.first.logged.entry) shown.first.rank)
            decisions one-rank;
        second = subst (λ ds. IsCommitted ds shown.second.number (tx_of shown.second.logged.entry) shown.second.rank)
            decisions other-rank;
        stand = stand;
        earlier =
            let once : IsDecidedOnce d.decisions =
            subst IsDecidedOnce (sym decisions) (found_ranks.kept.itself fault.DecidedTwice) in
            subst (λ e. IsFirstAgainst found_ranks.c.decisions (numbered_entries found_ranks.before)
            shown.first.logged e) (ap (λ (g : LoggedEntry). g.entry) (sym same))
            (subst (λ es. IsFirstAgainst found_ranks.c.decisions es shown.first.logged logged.entry) is.entries
            (subst (λ ds. IsFirstAgainst ds section.entries.items shown.first.logged logged.entry) decisions
            (earlier once)));
      })

  -- an entry that stands against none before it keeps the ranks
  rises : (before : List SectionLine) (e : Entry) (ds : List Decision)
      → All (λ (l : LoggedEntry). RiseInRank ds l.entry e) (numbered_entries before)
      → All (λ f. RiseInRank ds f e) (entries_in before)
  rises before e ds all =
      subst (All (λ f. RiseInRank ds f e)) (entries-same before)
      (All-from_map (λ f. RiseInRank ds f e) (λ (l : LoggedEntry). l.entry) (numbered_entries before) all)

  pub no-certificate : ((front : List ℕ) (c : Certificate) (rest : List ℕ) → HasNoLf front → IsCertificate c
      → bytes ≡ front ++ 10 ∷ (certificate_text c ++ 10 ∷ rest) → None ≡ Some c) → ⊥
  no-certificate one = let cert = found_ranks.certified in
      none-some found_ranks.c (one cert.0 found_ranks.c cert.1 cert.2 found_ranks.kept.spelled cert.3)

  no-logged : (c : Certificate) (before : List SectionLine) (l : SectionLine) → None ≡ logged_in (n, l)
      → Keeps c before l fault.RankOrder
  no-logged c before (Logged e) none = absurd (none-some (record { line = n; entry = e }) none)
  no-logged c before l none = tt

  pub no-entry : ((before : List SectionLine) (l : SectionLine) → HasLine bytes n before l → None ≡ logged_in (n, l))
      → ⊥
  no-entry at =
      found_ranks.broken (no-logged found_ranks.c found_ranks.before found_ranks.line
      (at found_ranks.before found_ranks.line found_ranks.has))

  pub shows-ranks-found : (section : Section) (d : Certificate) (logged : LoggedEntry) (found : Option RanksShown)
      → ((before : List SectionLine) (l : SectionLine) → HasLine bytes n before l → IsSectionOf before section)
      → ((front : List ℕ) (c : Certificate) (rest : List ℕ) → HasNoLf front → IsCertificate c
      → bytes ≡ front ++ 10 ∷ (certificate_text c ++ 10 ∷ rest) → Some d ≡ Some c)
      → ((before : List SectionLine) (l : SectionLine) → HasLine bytes n before l → Some logged ≡ logged_in (n, l))
      → IfSome found (λ s. s.site ≡ unwrap_or section.site 0)
      → IfSome found (λ s. Contains section.entries.items s.first.logged)
      → IfSome found (λ s. s.second.logged ≡ logged)
      → IfSome found (λ s. IsCommitted d.decisions s.first.number (tx_of s.first.logged.entry) s.first.rank)
      → IfSome found (λ s. IsCommitted d.decisions s.second.number (tx_of s.second.logged.entry) s.second.rank)
      → IfSome found (λ s. StandAgainst s.first s.second s.kind s.item)
      → (IsDecidedOnce d.decisions
      → IfSome found (λ s. IsFirstAgainst d.decisions section.entries.items s.first.logged logged.entry))
      → (IsDecidedOnce d.decisions
      → IfNone found (All (λ (l : LoggedEntry). RiseInRank d.decisions l.entry logged.entry) section.entries.items))
      → IsSomeAnd found (ShowsRanks (decisions_before first.stage) (lines_before first.stage) (bytes_of first.next) n)
  shows-ranks-found section d logged (Some shown) are one at site among same one-rank other-rank stand earlier none =
      shows-ranks section d logged shown are one at site among same one-rank other-rank stand earlier
  shows-ranks-found section d logged None are one at site among same one-rank other-rank stand earlier none =
      let before = found_ranks.before in
      let is = are before found_ranks.line found_ranks.has in
      let cert = found_ranks.certified in
      let c = found_ranks.c in
      let same_c : d ≡ c = same_Some d c (one cert.0 c cert.1 cert.2 found_ranks.kept.spelled cert.3) in
      let decisions : d.decisions ≡ c.decisions = ap (λ (k : Certificate). k.decisions) same_c in
      let once : IsDecidedOnce d.decisions =
      subst IsDecidedOnce (sym decisions) (found_ranks.kept.itself fault.DecidedTwice) in
      let all = subst (λ es. All (λ (l : LoggedEntry). RiseInRank d.decisions l.entry logged.entry) es) is.entries
      (none once) in
      let rise = subst (λ ds. All (λ f. RiseInRank ds f logged.entry) (entries_in before)) decisions
      (rises before logged.entry d.decisions all) in
      let line : found_ranks.line ≡ Logged logged.entry =
      (logged-parts n found_ranks.line logged (at before found_ranks.line found_ranks.has)).0 in
      found_ranks.broken (subst (λ l. Keeps c before l fault.RankOrder) (sym line) rise)
