-- What is shown of an entry by the lines before it in its section.
use Rattle.std.proofs.Common.{◌≡◌, ℕ, ◌-◌, ◌<◌, ◌⊎◌, List, [], ◌∷◌, ◌++◌, length, Option, Some, None, inl, inr, refl, sym, ap, ◌∙◌, subst, arith, rules, length-append}
use Rattle.std.specs.Prelude.{Result, Ok, Err, OnOk, slice_get, unwrap_or}
use Rattle.std.specs.List.{last_or, filter_map}
use Rattle.std.proofs.lemmas.List.Elements.{filter_map-append}
use Rattle.std.proofs.lemmas.List.Sums.{fold-append}
use Rattle.std.proofs.lemmas.Option.{same_Some, none-some}
use Rattle.sgt_names.proofs.Lists.{option_cases, within_at}
use Rattle.sgt_names.proofs.Places.{All-from_at}
use Rattle.sgt_names.specs.Name.{Name}
use Rattle.sgt_names.specs.Entry.{item_of, Reads, Writes, Repeats}
use Rattle.sgt_names.specs.declared.entry.Entry.{Entry}
use Rattle.sgt_names.specs.declared.entry.Entry.TheVariants.{Read, Write, Add, Want, WantAdd, Commit, Refuse, Withdraw}
use Rattle.sgt_notation.specs.Spelling.{line_text}
use Rattle.sgt_notation.specs.declared.SectionLine.{SectionLine}
use Rattle.sgt_notation.specs.declared.SectionLine.TheVariants.{Logged}
use Rattle.sgt_bundle.specs.declared.certificate.Certificate.{Certificate}
use Rattle.sgt_audit.specs.declared.faults.Fault.{Fault}
use Rattle.sgt_audit.specs.declared.faults.Fault.TheVariants as fault
use Rattle.sgt_audit.specs.Faults.{section_with, open_section, entries_in, Keeps, FirstFault, bytes_of}
use Rattle.sgt_audit.specs.Faults.{logged_in as entry_in}
use Rattle.sgt_explain_lines.specs.Beside.{ShowsNearest, ShowsTwice, ShowsBlock}
use Rattle.sgt_explain_lines.specs.Numbered.{HasLine, IsSectionOf, logged_in, numbered_items, numbered_entries}
use Rattle.sgt_explain_lines.specs.Values.{entries_of}
use Rattle.sgt_explain_lines.specs.declared.section.Logged.{Logged as LoggedEntry}
use Rattle.sgt_explain_lines.specs.declared.section.Stated.{Stated}
use Rattle.sgt_explain_lines.specs.declared.section.Section.{Section}
use Rattle.sgt_explain.specs.Lines.{ShowsUnlisted, ShowsRepeating, ShowsCut}
use Rattle.sgt_explain.specs.Shown.{lines_before}
use Rattle.sgt_explain.proofs.FaultyLine.{FaultyLine, entries-same, item-line, twice-line, block-line}
use Rattle.sgt_explain.proofs.ShownValues.{logged-parts}

-- ---- an entry of no item

no-reads : (x : Name) (e : Entry) → item_of e ≡ None → Reads x e → ⊥
no-reads x (Read tx y v) none is = none-some y (sym none)
no-reads x (Write tx y v) none is = is
no-reads x (Add tx y v) none is = is
no-reads x (Want tx y v) none is = is
no-reads x (WantAdd tx y v) none is = is
no-reads x (Commit tx) none is = is
no-reads x (Refuse tx) none is = is
no-reads x (Withdraw tx) none is = is

no-writes : (x : Name) (e : Entry) → item_of e ≡ None → Writes x e → ⊥
no-writes x (Read tx y v) none is = is
no-writes x (Write tx y v) none is = none-some y (sym none)
no-writes x (Add tx y v) none is = none-some y (sym none)
no-writes x (Want tx y v) none is = none-some y (sym none)
no-writes x (WantAdd tx y v) none is = none-some y (sym none)
no-writes x (Commit tx) none is = is
no-writes x (Refuse tx) none is = is
no-writes x (Withdraw tx) none is = is

repeats-none : (f e : Entry) → item_of e ≡ None → (x : Name) → Repeats x f e → ⊥
repeats-none f e none x repeats = elim repeats.1 [
  | inl reads ↦ no-reads x e none reads.1
  | inr writes ↦ no-writes x e none writes.1
]

item-keeps : (c : Certificate) (before : List SectionLine) (e : Entry) → item_of e ≡ None
    → Keeps c before (Logged e) fault.Item
item-keeps c before (Read tx y v) none = absurd (none-some y (sym none))
item-keeps c before (Write tx y v) none = absurd (none-some y (sym none))
item-keeps c before (Add tx y v) none = absurd (none-some y (sym none))
item-keeps c before (Want tx y v) none = absurd (none-some y (sym none))
item-keeps c before (WantAdd tx y v) none = absurd (none-some y (sym none))
item-keeps c before (Commit tx) none = search rules
item-keeps c before (Refuse tx) none = search rules
item-keeps c before (Withdraw tx) none = search rules

twice-keeps : (c : Certificate) (before : List SectionLine) (e : Entry) → item_of e ≡ None
    → Keeps c before (Logged e) fault.Twice
twice-keeps c before e none = All-from_at (λ (f : Entry). (x : Name) → Repeats x f e
    → ⊥) (entries_in before) (λ k f at. repeats-none f e none)

-- ---- F8 and F9

no-item_line : (n : ℕ) (c : Certificate) (before : List SectionLine) (l : SectionLine) → None ≡ logged_in (n, l)
    → Keeps c before l fault.Item
no-item_line n c before (Logged e) none = absurd (none-some (record { line = n; entry = e }) none)
no-item_line n c before l none = tt

no-twice_line : (n : ℕ) (c : Certificate) (before : List SectionLine) (l : SectionLine) → None ≡ logged_in (n, l)
    → Keeps c before l fault.Twice
no-twice_line n c before (Logged e) none = absurd (none-some (record { line = n; entry = e }) none)
no-twice_line n c before l none = tt

-- the entry of a line, with its item
record HasEntry (n : ℕ) (f : Fault) (c : Certificate) (before : List SectionLine) (line : SectionLine)
    (logged : LoggedEntry) : Type 0 where
  is : line ≡ Logged logged.entry
  counted : logged.line ≡ n
  item : Name
  on : item_of logged.entry ≡ Some item

has-entry : (n : ℕ) (f : Fault) (c : Certificate) (before : List SectionLine) (line : SectionLine)
    (logged : LoggedEntry) → (Keeps c before line f → ⊥)
    → Some logged ≡ logged_in (n, line) → (item_of logged.entry ≡ None → Keeps c before (Logged logged.entry) f)
    → HasEntry n f c before line logged
has-entry n f c before line logged broken at keeps =
    let parts = logged-parts n line logged at in
    elim (option_cases (item_of logged.entry)) [
      | inl none ↦ absurd (broken (subst (λ l. Keeps c before l f) (sym parts.0) (keeps none)))
      | inr some ↦ record { is = parts.0; counted = parts.1; item = some.0; on = some.1 }
    ]

module _ (bytes : List ℕ) (n : ℕ) (first : FirstFault bytes n fault.Item) where
  here : FaultyLine bytes n fault.Item first.stage first.next
  here = item-line bytes n first

  pub item-entry : ((before : List SectionLine) (l : SectionLine) → HasLine bytes n before l
      → None ≡ logged_in (n, l)) → ⊥
  item-entry at = here.broken (no-item_line n here.c here.before here.line (at here.before here.line here.has))

  pub shows-unlisted : {T E : Type 0} (r : Result T E) (section : Section) (logged : LoggedEntry) (old new : List ℕ)
      → ((before : List SectionLine) (l : SectionLine) → HasLine bytes n before l → IsSectionOf before section)
      → ((before : List SectionLine) (l : SectionLine) → HasLine bytes n before l → Some logged ≡ logged_in (n, l))
      → ((x : Name) → item_of logged.entry ≡ Some x
      → OnOk r (ShowsNearest section.items.items x (unwrap_or section.site 0) logged old new))
      → OnOk r (ShowsUnlisted (lines_before first.stage) (bytes_of first.next) n old new)
  shows-unlisted (Err e) section logged old new are at shows = tt
  shows-unlisted (Ok t) section logged old new are at shows =
      let is = are here.before here.line here.has in
      let e = has-entry n fault.Item here.c here.before here.line logged here.broken
      (at here.before here.line here.has) (item-keeps here.c here.before logged.entry) in
      subst (λ s. ShowsUnlisted (lines_before s) (bytes_of first.next) n old new) (sym here.at) (record {
        logged = logged;
        item = e.item;
        entry = record { spelled = ap bytes_of here.comes ∙ ap line_text e.is; counted = e.counted };
        on = e.on;
        told = subst (λ k. ShowsNearest (numbered_items here.before) e.item k logged old new)
            (ap (λ o. unwrap_or o 0) is.site)
            (subst (λ (hs : List Stated). ShowsNearest hs e.item (unwrap_or section.site 0) logged old new) is.items
            (shows e.item e.on));
      })

module _ (bytes : List ℕ) (n : ℕ) (first : FirstFault bytes n fault.Twice) where
  there : FaultyLine bytes n fault.Twice first.stage first.next
  there = twice-line bytes n first

  pub twice-entry : ((before : List SectionLine) (l : SectionLine) → HasLine bytes n before l
      → None ≡ logged_in (n, l)) → ⊥
  twice-entry at = there.broken (no-twice_line n there.c there.before there.line (at there.before there.line there.has))

  pub shows-repeating : {T E : Type 0} (r : Result T E) (section : Section) (logged : LoggedEntry) (old new : List ℕ)
      → ((before : List SectionLine) (l : SectionLine) → HasLine bytes n before l → IsSectionOf before section)
      → ((before : List SectionLine) (l : SectionLine) → HasLine bytes n before l → Some logged ≡ logged_in (n, l))
      → ((x : Name) → item_of logged.entry ≡ Some x
      → OnOk r (ShowsTwice section.entries.items x (unwrap_or section.site 0) logged old new))
      → OnOk r (ShowsRepeating (lines_before first.stage) (bytes_of first.next) n old new)
  shows-repeating (Err e) section logged old new are at shows = tt
  shows-repeating (Ok t) section logged old new are at shows =
      let is = are there.before there.line there.has in
      let e = has-entry n fault.Twice there.c there.before there.line logged there.broken
      (at there.before there.line there.has) (twice-keeps there.c there.before logged.entry) in
      subst (λ s. ShowsRepeating (lines_before s) (bytes_of first.next) n old new) (sym there.at) (record {
        logged = logged;
        item = e.item;
        entry = record { spelled = ap bytes_of there.comes ∙ ap line_text e.is; counted = e.counted };
        on = e.on;
        told = subst (λ k. ShowsTwice (numbered_entries there.before) e.item k logged old new)
            (ap (λ o. unwrap_or o 0) is.site)
            (subst (λ (ls : List LoggedEntry). ShowsTwice ls e.item (unwrap_or section.site 0) logged old new)
            is.entries (shows e.item e.on));
      })

-- ---- F12

last-split : (o : Option SectionLine) (ls : List SectionLine) (l : SectionLine) → last_or o ls ≡ Some l
    → (ls ≡ []) ⊎ ((front : List SectionLine) × (ls ≡ front ++ l ∷ []))
last-split o [] l e = inl refl
last-split o (x ∷ xs) l e =
    elim (last-split (Some x) xs l e) [
      | inl none ↦ inr (
        [],
        ap (λ ys. x ∷ ys) none
            ∙ ap (λ y. y ∷ []) (same_Some x l (sym (ap (last_or (Some x)) none) ∙ e)),
      )
      | inr some ↦ inr (x ∷ some.0, ap (λ ys. x ∷ ys) some.1)
    ]

entries-more : (front : List SectionLine) (f : Entry) → entries_in (front ++ Logged f ∷ []) ≡ entries_in front ++ f ∷ []
entries-more front f = ap (filter_map entry_in) (fold-append section_with [] front (Logged f ∷ []))
    ∙ filter_map-append entry_in (open_section front) (Logged f ∷ [])

last-entry : (before : List SectionLine) (f : Entry) → last_or None before ≡ Some (Logged f)
    → numbered_entries before ≡ [] → ⊥
last-entry before f e none =
    elim (last-split None before (Logged f) e) [
      | inl nothing ↦ none-some (Logged f) (sym (ap (last_or None) nothing) ∙ e)
      | inr some ↦ (let long = ap length (sym (entries-more some.0 f) ∙ sym (ap entries_in some.1)
          ∙ sym (entries-same before) ∙ ap entries_of none) in
          let more = length-append (entries_in some.0) (f ∷ []) in
          omega (arith, long, more))
    ]

list-cases : {A : Type 0} (xs : List A) → (xs ≡ []) ⊎ (0 < length xs)
list-cases [] = inl refl
list-cases (x ∷ xs) = inr (omega arith)

module _ (bytes : List ℕ) (n : ℕ) (first : FirstFault bytes n fault.Block) where
  cut : FaultyLine bytes n fault.Block first.stage first.next
  cut = block-line bytes n first

  pub shows-cut : {T E : Type 0} (r : Result T E) (section : Section) (text : List ℕ) (old new : List ℕ)
      → ((before : List SectionLine) (l : SectionLine) → HasLine bytes n before l → IsSectionOf before section)
      → text ≡ bytes_of first.next
      → ((last : LoggedEntry) → slice_get section.entries.items (length section.entries.items - 1) ≡ Some last
      → OnOk r (ShowsBlock last n text old new))
      → OnOk r (ShowsCut (lines_before first.stage) (bytes_of first.next) n old new)
  shows-cut (Err e) section text old new are same shows = tt
  shows-cut (Ok t) section text old new are same shows =
      let is = are cut.before cut.line cut.has in
      let entries = numbered_entries cut.before in
      elim (list-cases entries) [
        | inl none ↦ absurd (cut.broken (λ f at opens. absurd (last-entry cut.before f at none)))
        | inr some ↦ (let last = within_at entries (length entries - 1) (omega (arith, some)) in
            let at : slice_get section.entries.items (length section.entries.items - 1) ≡ Some last.0 =
            ap (λ (ls : List LoggedEntry). slice_get ls (length ls - 1)) is.entries ∙ last.1 in
            subst (λ s. ShowsCut (lines_before s) (bytes_of first.next) n old new) (sym cut.at) (record {
              last = last.0;
              at = last.1;
              told = subst (λ t. ShowsBlock last.0 n t old new) same (shows last.0 at);
            }))
      ]
