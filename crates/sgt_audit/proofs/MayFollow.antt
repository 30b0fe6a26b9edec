-- What may follow the sections as far as they were read: exactly what begins some sections with them.
use Rattle.std.proofs.Common.{◌≡◌, ℕ, suc, ◌+◌, ◌-◌, List, [], ◌∷◌, ◌++◌, length, map, take, drop, replicate, Option, Some, None, Bool, IsTrue, refl, sym, ap, ap₂, ◌∙◌, subst, arith, inl, inr, ◌⊎◌, append_assoc, zero-add, add-zero, add-one, All, AllPairs}
use Rattle.std.specs.Prelude.{◌↔◌, slice_get}
use Rattle.std.proofs.lemmas.List.{append-nil, map-append, length-map, length-append, drop-map, take-append-drop, take_all, length-replicate}
use Rattle.std.proofs.lemmas.List.Quantifiers.{all_pairs_push}
use Rattle.std.proofs.lemmas.List.Elements.{All-append, All-replicate, All-cons, All-push}
use Rattle.std.proofs.lemmas.Option.{slice_get_within}
use Rattle.sgt_names.proofs.Places.{All-from_at, All_at, AllPairs_at, take-next}
use Rattle.sgt_names.specs.Log.{names}
use Rattle.sgt_names.specs.declared.entry.Entry.{Entry}
use Rattle.sgt_names.specs.declared.entry.Holding.{Holding}
use Rattle.sgt_names.proofs.Lists.{heads, tails, list_cases, middle_at, front_at}
use Rattle.sgt_notation.specs.declared.SectionLine.{SectionLine}
use Rattle.sgt_notation.specs.declared.SectionLine.TheVariants.{Site, Initial, Logged, Final, End}
use Rattle.sgt_bundle.specs.Parts.{ComesBefore, IsShapedLog, IsShaped}
use Rattle.sgt_bundle.specs.Text.{section_lines, sections_from, Begins, AreSections}
use Rattle.sgt_bundle.specs.declared.bundle.SiteLog.{SiteLog}
use Rattle.sgt_bundle.proofs.OneText.{section-one, initial-one, logged-one, final-one, section_spread}
use Rattle.sgt_audit.specs.Reading.{Begun, open_lines, lines_read, IsOpenLog, HasRoomFor, IsBegun}
use Rattle.sgt_audit.specs.private.Following.{Fits, FitsBetween, MayFollow, with_line, no_log, with_next}
use Rattle.sgt_audit.proofs.LinePlaces.{no_cons}

-- ---- whole logs in front

pub split-whole : (k : ℕ) (ws logs : List SiteLog) (rest : List SectionLine)
    → sections_from k logs ≡ sections_from k ws ++ rest → (more : List SiteLog) × (logs ≡ ws ++ more)
    × (sections_from (k + length ws) more ≡ rest)
split-whole k [] logs rest e = (logs, refl, ap (λ j. sections_from j logs) (add-zero k) ∙ e)
split-whole k (w ∷ ws) [] rest e = absurd cc
split-whole k (w ∷ ws) (l ∷ ls) rest e =
    let one = section-one k l w (sections_from (suc k) ls) (sections_from (suc k) ws ++ rest) (e
    ∙ append_assoc (section_lines k w) (sections_from (suc k) ws) rest) in
    let later = split-whole (suc k) ws ls rest one.1 in
    let place : k + suc (length ws) ≡ suc k + length ws = omega arith in
    (later.0, ap₂ (λ z zs. z ∷ zs) one.0 later.1, ap (λ j. sections_from j later.0) place ∙ later.2)

pub sections-append : (k : ℕ) (ws more : List SiteLog)
    → sections_from k (ws ++ more) ≡ sections_from k ws ++ sections_from (k + length ws) more
sections-append k [] more = ap (λ j. sections_from j more) (sym (add-zero k))
sections-append k (w ∷ ws) more =
    let place : suc k + length ws ≡ k + suc (length ws) = omega arith in
    ap (λ (ls : List SectionLine). section_lines k w ++ ls) (sections-append (suc k) ws more
    ∙ ap (λ j. sections_from (suc k) ws ++ sections_from j more) place)
    ∙ sym (append_assoc (section_lines k w) (sections_from (suc k) ws) (sections_from (k + suc (length ws)) more))

-- ---- the lines of one section, kind after kind

-- lines that begin otherwise
abbrev NotFrom : {A B : Type 0} → (A → B) → List B → Type 0
NotFrom {A} {B} f us = (a : A) (rest : List B) → us ≡ f a ∷ rest → ⊥

-- the second list of one kind is a beginning of the first
prefix-map : {A B : Type 0} (f : A → B) → ((a b : A) → f a ≡ f b → a ≡ b) → (xs ys : List A) (us vs : List B)
    → NotFrom f us → map f xs ++ us ≡ map f ys ++ vs
    → (zs : List A) × (xs ≡ ys ++ zs) × (map f zs ++ us ≡ vs)
prefix-map f one xs [] us vs h e = (xs, refl, e)
prefix-map f one [] (y ∷ ys) us vs h e = absurd (h y (map f ys ++ vs) e)
prefix-map f one (x ∷ xs) (y ∷ ys) us vs h e =
    let more = prefix-map f one xs ys us vs h (tails (f x) (f y) (map f xs ++ us) (map f ys ++ vs) e) in
    (more.0, ap₂ (λ z zs. z ∷ zs) (one x y (heads (f x) (f y) (map f xs ++ us) (map f ys ++ vs) e)) more.1, more.2)

-- and is all of it, where what follows begins otherwise
all-map : {A B : Type 0} (f : A → B) (zs : List A) (us vs : List B) → NotFrom f vs → map f zs ++ us ≡ vs
    → (zs ≡ []) × (us ≡ vs)
all-map f [] us vs h e = (refl, e)
all-map f (z ∷ zs) us vs h e = absurd (h z (map f zs ++ us) (sym e))

-- lines behind the items, behind the entries
after_items : (entries : List Entry) (finals : List Holding) (rest : List SectionLine) → NotFrom Initial rest
    → NotFrom Initial (map Logged entries ++ (map Final finals ++ rest))
after_items [] [] rest h a more e = h a more e
after_items [] (f ∷ finals) rest h a more e = absurd cc
after_items (x ∷ entries) finals rest h a more e = absurd cc

after_entries : (finals : List Holding) (rest : List SectionLine) → NotFrom Logged rest
    → NotFrom Logged (map Final finals ++ rest)
after_entries [] rest h a more e = h a more e
after_entries (f ∷ finals) rest h a more e = absurd cc

end-not : {A : Type 0} (f : A → SectionLine) → ((a : A) → End ≡ f a → ⊥) → (rest : List SectionLine)
    → NotFrom f (End ∷ rest)
end-not f apart rest a more e = apart a (heads End (f a) rest more e)

end-initial : (a : Holding) → End ≡ Initial a → ⊥
end-initial a e = cc

pub end-logged : (a : Entry) → End ≡ Logged a → ⊥
end-logged a e = cc

end-final : (a : Holding) → End ≡ Final a → ⊥
end-final a e = cc

-- a whole section that begins with the items, entries and finals of another
module _ (l : SiteLog) (log : SiteLog) (rest behind : List SectionLine)
    (e : map Initial l.items ++ (map Logged l.entries ++ (map Final l.finals ++ (End ∷ rest))) ≡ map Initial log.items
    ++ (map Logged log.entries ++ (map Final log.finals ++ behind))) where
  items-begin : (zs : List Holding) × (l.items ≡ log.items ++ zs)
      × (map Initial zs ++ (map Logged l.entries ++ (map Final l.finals ++ (End ∷ rest))) ≡ map Logged log.entries ++
      (map Final log.finals ++ behind))
  items-begin =
      prefix-map Initial initial-one l.items log.items (map Logged l.entries ++ (map Final l.finals ++ (End ∷ rest)))
      (map Logged log.entries ++ (map Final log.finals ++ behind))
      (after_items l.entries l.finals (End ∷ rest) (end-not Initial end-initial rest)) e

  module _ (no_item : NotFrom Initial (map Logged log.entries ++ (map Final log.finals ++ behind))) where
    items-are : (l.items ≡ log.items)
        × (map Logged l.entries ++ (map Final l.finals ++ (End ∷ rest)) ≡ map Logged log.entries ++
        (map Final log.finals ++ behind))
    items-are =
        let more = all-map Initial items-begin.0 (map Logged l.entries ++ (map Final l.finals ++ (End ∷ rest)))
        (map Logged log.entries ++ (map Final log.finals ++ behind)) no_item items-begin.2 in
        (items-begin.1 ∙ ap (λ (zs : List Holding). log.items ++ zs) more.0 ∙ append-nil log.items, more.1)

    entries-begin : (zs : List Entry) × (l.entries ≡ log.entries ++ zs)
        × (map Logged zs ++ (map Final l.finals ++ (End ∷ rest)) ≡ map Final log.finals ++ behind)
    entries-begin = prefix-map Logged logged-one l.entries log.entries (map Final l.finals ++ (End ∷ rest))
        (map Final log.finals ++ behind) (after_entries l.finals (End ∷ rest) (end-not Logged end-logged rest))
        items-are.1

    module _ (no_entry : NotFrom Logged (map Final log.finals ++ behind)) where
      finals-begin : (zs : List Holding) × (l.finals ≡ log.finals ++ zs) × (map Final zs ++ (End ∷ rest) ≡ behind)
      finals-begin =
          let more =
          all-map Logged entries-begin.0 (map Final l.finals ++ (End ∷ rest)) (map Final log.finals ++ behind)
          no_entry entries-begin.2 in
          prefix-map Final final-one l.finals log.finals (End ∷ rest) behind (end-not Final end-final rest) more.1

-- what stands behind is the next final, or the end
next-final : (zs : List Holding) (rest more : List SectionLine) (line : SectionLine)
    → map Final zs ++ (End ∷ rest) ≡ line ∷ more
    → ((zs ≡ []) × (line ≡ End)) ⊎ ((h : Holding) × (hs : List Holding) × (zs ≡ h ∷ hs) × (line ≡ Final h))
next-final [] rest more line e = inl (refl, sym (heads End line rest more e))
next-final (h ∷ hs) rest more line e =
    inr (h, hs, refl, sym (heads (Final h) line (map Final hs ++ (End ∷ rest)) more e))

-- ---- what may follow an open section

all-before : {A : Type 0} (R : A → A → Type 0) (xs : List A) (y : A) (ys : List A) → AllPairs R (xs ++ y ∷ ys)
    → All (λ x. R x y) xs
all-before R xs y ys pairs =
    All-from_at (λ x. R x y) xs (λ n x at. AllPairs_at R (xs ++ y ∷ ys) n (length xs) x y pairs
    (slice_get_within xs n x at) (front_at xs (y ∷ ys) n x at) (middle_at xs y ys))

module _ (l : SiteLog) (log : SiteLog) (rest more : List SectionLine) (shaped : IsShapedLog l) where
  abbrev Goes : SectionLine → Type 0
  Goes line = map Initial l.items ++ (map Logged l.entries ++ (map Final l.finals ++ (End ∷ rest))) ≡ map Initial
      log.items ++ (map Logged log.entries ++ (map Final log.finals ++ (line ∷ more)))

  -- the line is a final or the end, where it is neither an item nor an entry, or a final stands before it
  finals-goes : (line : SectionLine) → Goes line
      → NotFrom Initial (map Logged log.entries ++ (map Final log.finals ++ (line ∷ more)))
      → NotFrom Logged (map Final log.finals ++ (line ∷ more))
      → (l.items ≡ log.items) × ((zs : List Holding) × (l.finals ≡ log.finals ++ zs)
      × (((zs ≡ []) × (line ≡ End)) ⊎ ((h : Holding) × (hs : List Holding) × (zs ≡ h ∷ hs) × (line ≡ Final h))))
  finals-goes line e no_item no_entry =
      let finals = finals-begin l log rest (line ∷ more) e no_item no_entry in (
        (items-are l log rest (line ∷ more) e no_item).0,
        (finals.0, finals.1, next-final finals.0 rest more line finals.2),
      )

  -- so it is none of the other lines
  finals-only : (line : SectionLine) → Goes line
      → NotFrom Initial (map Logged log.entries ++ (map Final log.finals ++ (line ∷ more)))
      → NotFrom Logged (map Final log.finals ++ (line ∷ more))
      → (line ≡ End → ⊥) → ((h : Holding) → line ≡ Final h → ⊥) → ⊥
  finals-only line e no_item no_entry not_end not_final =
      elim (finals-goes line e no_item no_entry).1.2 [ inl last ↦ not_end last.1 | inr next ↦ not_final next.0 next.3 ]

  site-follows : (k : ℕ) → Goes (Site k) → ⊥
  site-follows k e =
      finals-only (Site k) e
      (after_items log.entries log.finals (Site k ∷ more)
      (λ h rs e. other-initial h (heads (Site k) (Initial h) more rs e)))
      (after_entries log.finals (Site k ∷ more) (λ h rs e. other-logged h (heads (Site k) (Logged h) more rs e)))
      other-end other-final
    where
      other-initial : (h : Holding) → Site k ≡ Initial h → ⊥
      other-initial h e = cc

      other-logged : (h : Entry) → Site k ≡ Logged h → ⊥
      other-logged h e = cc

      other-end : Site k ≡ End → ⊥
      other-end e = cc

      other-final : (h : Holding) → Site k ≡ Final h → ⊥
      other-final h e = cc

  module _ (h : Holding) (e : Goes (Initial h)) where
    no_entry : NotFrom Logged (map Final log.finals ++ (Initial h ∷ more))
    no_entry =
        after_entries log.finals (Initial h ∷ more)
        (λ x rs same. initial-logged x (heads (Initial h) (Logged x) more rs same))
      where
        initial-logged : (x : Entry) → Initial h ≡ Logged x → ⊥
        initial-logged x same = cc

    initial-only : NotFrom Initial (map Logged log.entries ++ (map Final log.finals ++ (Initial h ∷ more))) → ⊥
    initial-only no_item = finals-only (Initial h) e no_item no_entry initial-end initial-final
      where
        initial-end : Initial h ≡ End → ⊥
        initial-end same = cc

        initial-final : (x : Holding) → Initial h ≡ Final x → ⊥
        initial-final x same = cc

    initial-no_entries : log.entries ≡ []
    initial-no_entries = elim (list_cases log.entries) [
      | inl none ↦ none
      | inr some ↦ absurd
          (initial-only (subst (λ es. NotFrom Initial (map Logged es ++ (map Final log.finals ++ (Initial h ∷ more))))
          (sym some.2)
          (λ a rs same. logged-initial a
          (heads (Logged some.0) (Initial a) (map Logged some.1 ++ (map Final log.finals ++ (Initial h ∷ more))) rs
          same))))
    ]
      where
        logged-initial : {x : Entry} (a : Holding) → Logged x ≡ Initial a → ⊥
        logged-initial a same = cc

    initial-no_finals : log.finals ≡ []
    initial-no_finals = elim (list_cases log.finals) [
      | inl none ↦ none
      | inr some ↦ absurd
          (initial-only
          (subst (λ fs. NotFrom Initial (map Logged log.entries ++ (map Final fs ++ (Initial h ∷ more)))) (sym some.2)
          (after_items log.entries [] (Final some.0 ∷ (map Final some.1 ++ (Initial h ∷ more)))
          (λ a rs same. final-initial a (heads (Final some.0) (Initial a) (map Final some.1 ++ (Initial h ∷ more))
          rs same)))))
    ]
      where
        final-initial : {x : Holding} (a : Holding) → Final x ≡ Initial a → ⊥
        final-initial a same = cc

    -- the item stands next in the whole section
    initial-next : (zs : List Holding) × (l.items ≡ log.items ++ h ∷ zs)
    initial-next =
        let begin = items-begin l log rest (Initial h ∷ more) e in
        let here = begin.2
        ∙ ap₂ (λ (es : List Entry) (fs : List Holding). map Logged es ++ (map Final fs ++ (Initial h ∷ more)))
        initial-no_entries initial-no_finals in
        elim (list_cases begin.0) [
          | inl none ↦ absurd (after_items l.entries l.finals (End ∷ rest) (end-not Initial end-initial rest) h more
              (subst (λ (zs : List Holding). map Initial zs ++
              (map Logged l.entries ++ (map Final l.finals ++ (End ∷ rest))) ≡ Initial h ∷ more) none here))
          | inr some ↦
              let first =
              subst (λ (zs : List Holding). map Initial zs ++
              (map Logged l.entries ++ (map Final l.finals ++ (End ∷ rest))) ≡ Initial h ∷ more) some.2 here in
              let same =
              initial-one some.0 h
              (heads (Initial some.0) (Initial h)
              (map Initial some.1 ++ (map Logged l.entries ++ (map Final l.finals ++ (End ∷ rest)))) more first) in
              (some.1, begin.1 ∙ ap (λ (zs : List Holding). log.items ++ zs) (some.2 ∙ ap (λ z. z ∷ some.1) same))
        ]

    initial-follows : Fits log (Initial h)
    initial-follows =
        let next = initial-next in (
          initial-no_entries,
          initial-no_finals,
          omega (arith, shaped.room, ap length next.1, length-append log.items (h ∷ next.0)),
          all-before ComesBefore (names log.items) h.item (names next.0)
              (subst (AllPairs ComesBefore) (ap names next.1
              ∙ map-append (λ (h : Holding). h.item) log.items (h ∷ next.0)) shaped.rising),
        )

  logged-follows : (x : Entry) → Goes (Logged x) → log.finals ≡ []
  logged-follows x e = elim (list_cases log.finals) [
    | inl none ↦ none
    | inr some ↦ absurd (finals-only (Logged x) e
        (after_items log.entries log.finals (Logged x ∷ more)
        (λ a rs same. logged-initial a (heads (Logged x) (Initial a) more rs same)))
        (subst (λ fs. NotFrom Logged (map Final fs ++ (Logged x ∷ more))) (sym some.2)
        (λ a rs same. final-logged a (heads (Final some.0) (Logged a) (map Final some.1 ++ (Logged x ∷ more)) rs
        same)))
        logged-end logged-final)
  ]
    where
      logged-initial : (a : Holding) → Logged x ≡ Initial a → ⊥
      logged-initial a same = cc

      final-logged : {h : Holding} (a : Entry) → Final h ≡ Logged a → ⊥
      final-logged a same = cc

      logged-end : Logged x ≡ End → ⊥
      logged-end same = cc

      logged-final : (a : Holding) → Logged x ≡ Final a → ⊥
      logged-final a same = cc

  final-goes : (h : Holding) → Goes (Final h)
      → (l.items ≡ log.items) × ((zs : List Holding) × (l.finals ≡ log.finals ++ zs)
      × (((zs ≡ []) × (Final h ≡ End)) ⊎ ((x : Holding) × (hs : List Holding) × (zs ≡ x ∷ hs)
      × (Final h ≡ Final x))))
  final-goes h e =
      finals-goes (Final h) e
      (after_items log.entries log.finals (Final h ∷ more)
      (λ a rs same. final-initial a (heads (Final h) (Initial a) more rs same)))
      (after_entries log.finals (Final h ∷ more)
      (λ a rs same. final-logged a (heads (Final h) (Logged a) more rs same)))
    where
      final-initial : (a : Holding) → Final h ≡ Initial a → ⊥
      final-initial a same = cc

      final-logged : (a : Entry) → Final h ≡ Logged a → ⊥
      final-logged a same = cc

  final-follows : (h : Holding) → Goes (Final h) → Fits log (Final h)
  final-follows h e =
      let goes = final-goes h e in
      elim goes.1.2 [
        | inl last ↦ absurd (final-end last.1)
        | inr next ↦
            let same = final-one h next.0 next.3 in
            let finals = goes.1.1 ∙ ap (λ (zs : List Holding). log.finals ++ zs) (next.2
            ∙ ap (λ z. z ∷ next.1) (sym same)) in
            let listed = ap names (sym goes.0) ∙ sym shaped.finals ∙ ap names finals
            ∙ map-append (λ (h : Holding). h.item) log.finals (h ∷ next.1) in
            ap₂ slice_get listed (sym (length-map log.finals (λ (h : Holding). h.item)))
            ∙ middle_at (names log.finals) h.item (names next.1)
      ]
    where
      final-end : Final h ≡ End → ⊥
      final-end same = cc

  end-follows : Goes End → Fits log End
  end-follows e =
      let goes =
      finals-goes End e (after_items log.entries log.finals (End ∷ more) (end-not Initial end-initial more))
      (after_entries log.finals (End ∷ more) (end-not Logged end-logged more)) in
      elim goes.1.2 [
        | inl last ↦
            let finals = goes.1.1 ∙ ap (λ (zs : List Holding). log.finals ++ zs) last.0 ∙ append-nil log.finals in
            ap length (sym finals) ∙ sym (length-map l.finals (λ (h : Holding). h.item)) ∙ ap length shaped.finals
            ∙ length-map l.items (λ (h : Holding). h.item) ∙ ap length goes.0
        | inr next ↦ absurd (end-final next.0 next.3)
      ]

  follows : (line : SectionLine) → Goes line → Fits log line
  follows (Site k) e = site-follows k e
  follows (Initial h) e = initial-follows h e
  follows (Logged x) e = logged-follows x e
  follows (Final h) e = final-follows h e
  follows End e = end-follows e

-- ---- what may follow all that was read

pub regroup : (front opened more : List SectionLine) (line : SectionLine)
    → ((front ++ opened) ++ line ∷ []) ++ more ≡ front ++ (opened ++ line ∷ more)
regroup front opened more line = simp append_assoc

spread : (k : ℕ) (log : SiteLog) (behind : List SectionLine)
    → open_lines k (Some log) ++ behind ≡ Site k ∷
    (map Initial log.items ++ (map Logged log.entries ++ (map Final log.finals ++ behind)))
spread k log behind = simp append_assoc

module _ (sites : ℕ) (whole : List SiteLog) (line : SectionLine) (logs : List SiteLog) (more : List SectionLine)
    (shaped : IsShaped sites logs) where
  -- the section that goes on
  follow-open : (log l : SiteLog) (ls : List SiteLog) → IsShapedLog l
      → sections_from (0 + length whole) (l ∷ ls) ≡ open_lines (length whole) (Some log) ++ line ∷ more → Fits log line
  follow-open log l ls shape e =
      let rest = sections_from (suc (0 + length whole)) ls in
      follows l log rest more shape line (tails (Site (0 + length whole)) (Site (length whole))
      (map Initial l.items ++ (map Logged l.entries ++ (map Final l.finals ++ (End ∷ rest))))
      (map Initial log.items ++ (map Logged log.entries ++ (map Final log.finals ++ (line ∷ more))))
      (sym (section_spread (0 + length whole) l rest) ∙ e ∙ spread (length whole) log (line ∷ more)))

  follow-between : (line : SectionLine) (l : SiteLog) (ls : List SiteLog) (current : Option SiteLog)
      → logs ≡ whole ++ l ∷ ls → sections_from (0 + length whole) (l ∷ ls) ≡ line ∷ more
      → FitsBetween (record { sites = sites; whole = whole; current = current }) line
  follow-between (Site k) l ls current all e =
      let same =
      site-one (0 + length whole) k
      (heads (Site (0 + length whole)) (Site k) _ more
      (sym (section_spread (0 + length whole) l (sections_from (suc (0 + length whole)) ls)) ∙ e)) in
      (omega arith, omega (arith, shaped.each, ap length all, length-append whole (l ∷ ls)))
    where
      site-one : (j k : ℕ) → Site j ≡ Site k → k ≡ j
      site-one j k h = cc
  follow-between (Initial h) l ls current all e = absurd cc
  follow-between (Logged h) l ls current all e = absurd cc
  follow-between (Final h) l ls current all e = absurd cc
  follow-between End l ls current all e = absurd cc

-- a line that begins some sections behind what was read may follow
follow-at : (sites : ℕ) (whole : List SiteLog) (current : Option SiteLog) (line : SectionLine) (logs : List SiteLog)
    (more : List SectionLine) → IsShaped sites logs → (tail : List SiteLog) → logs ≡ whole ++ tail
    → sections_from (0 + length whole) tail ≡ open_lines (length whole) current ++ line ∷ more
    → MayFollow (record { sites = sites; whole = whole; current = current }) current line
follow-at sites whole current line logs more shaped [] all e =
    absurd (no_cons (open_lines (length whole) current) more line e)
follow-at sites whole None line logs more shaped (l ∷ ls) all e =
    follow-between sites whole line logs more shaped line l ls None all e
follow-at sites whole (Some log) line logs more shaped (l ∷ ls) all e =
    let shape = All_at IsShapedLog logs (length whole) l shaped.logs (ap (λ ms. slice_get ms (length whole)) all
    ∙ middle_at whole l ls) in
    follow-open sites whole line logs more shaped log l ls shape e

pub begins-follow : (b : Begun) (line : SectionLine) → Begins b.sites (lines_read b ++ line ∷ [])
    → MayFollow b b.current line
begins-follow b line (logs, more, shaped, e) =
    let split = split-whole 0 b.whole logs (open_lines (length b.whole) b.current ++ line ∷ more) (e
    ∙ regroup (sections_from 0 b.whole) (open_lines (length b.whole) b.current) more line) in
    follow-at b.sites b.whole b.current line logs more shaped split.0 split.1 split.2

-- ---- what was read begins some sections

-- the open log with finals for all of its items
abbrev completed : SiteLog → SiteLog
completed log = record log { finals = log.finals ++ drop (length log.finals) log.items }

completed-shaped : (log : SiteLog) → IsOpenLog log → IsShapedLog (completed log)
completed-shaped log o = record {
  room = o.room;
  rising = o.rising;
  finals = map-append (λ (h : Holding). h.item) log.finals (drop (length log.finals) log.items)
      ∙ ap₂ (λ (xs ys : List (List ℕ)). xs ++ ys) o.finals
      (sym (drop-map (λ (h : Holding). h.item) (length log.finals) log.items))
      ∙ take-append-drop (length log.finals) (names log.items);
}

grouped : (xs cs ds : List SectionLine) (y : SectionLine) (rest : List SectionLine)
    → ((xs ++ (cs ++ ds)) ++ y ∷ []) ++ rest ≡ (xs ++ cs) ++ (ds ++ y ∷ rest)
grouped xs cs ds y rest = simp append_assoc

completed-lines : (k : ℕ) (log : SiteLog) (rest : List SectionLine)
    → section_lines k (completed log) ++ rest ≡ open_lines k (Some log) ++
    (map Final (drop (length log.finals) log.items) ++ (End ∷ rest))
completed-lines k log rest =
    ap (λ fs. (Site k ∷ map Initial log.items ++ map Logged log.entries ++ fs ++ End ∷ []) ++ rest)
    (map-append Final log.finals (drop (length log.finals) log.items))
    ∙ grouped (Site k ∷ map Initial log.items ++ map Logged log.entries) (map Final log.finals)
    (map Final (drop (length log.finals) log.items)) End rest

-- the logs that are still to come, as if they were empty
abbrev filling : Begun → Option SiteLog → List SiteLog
filling b None = replicate (b.sites - length b.whole) no_log
filling b (Some log) = completed log ∷ replicate (b.sites - length b.whole - 1) no_log

no_log-shaped : IsShapedLog no_log
no_log-shaped = record { room = omega arith; rising = λ i j d lt within. absurd (omega arith); finals = refl }

filling-shaped : (b : Begun) → (current : Option SiteLog) → HasRoomFor b current → All IsShapedLog (filling b current)
filling-shaped b None room = All-replicate IsShapedLog (b.sites - length b.whole) no_log no_log-shaped
filling-shaped b (Some log) room =
    All-cons IsShapedLog (completed log) (replicate (b.sites - length b.whole - 1) no_log)
    (completed-shaped log room.1) (All-replicate IsShapedLog (b.sites - length b.whole - 1) no_log no_log-shaped)

filling-length : (b : Begun) (current : Option SiteLog) → HasRoomFor b current
    → length b.whole + length (filling b current) ≡ b.sites
filling-length b None room = omega (arith, length-replicate (b.sites - length b.whole) no_log)
filling-length b (Some log) room = omega (arith, room.0, length-replicate (b.sites - length b.whole - 1) no_log)

filling-lines : (b : Begun) (k : ℕ) (current : Option SiteLog)
    → (more : List SectionLine) × (sections_from k (filling b current) ≡ open_lines k current ++ more)
filling-lines b k None = (sections_from k (filling b None), refl)
filling-lines b k (Some log) =
    let rest = sections_from (suc k) (replicate (b.sites - length b.whole - 1) no_log) in
    (map Final (drop (length log.finals) log.items) ++ (End ∷ rest), completed-lines k log rest)

pub begun-begins : (b : Begun) → IsBegun b → Begins b.sites (lines_read b)
begun-begins b is =
    let fill = filling b b.current in
    let lines = filling-lines b (0 + length b.whole) b.current in (
      b.whole ++ fill,
      lines.0,
      record {
        some = is.some;
        few = is.few;
        each = length-append b.whole fill ∙ filling-length b b.current is.room;
        logs = All-append IsShapedLog b.whole fill is.logs (filling-shaped b b.current is.room);
      },
      sections-append 0 b.whole fill ∙ ap (λ (ls : List SectionLine). sections_from 0 b.whole ++ ls) (lines.1
          ∙ ap (λ k. open_lines k b.current ++ lines.0) (zero-add (length b.whole)))
          ∙ sym (append_assoc (sections_from 0 b.whole) (open_lines (length b.whole) b.current) lines.0),
    )

-- ---- one more line

one-initial : (s x : SectionLine) (xs ys zs : List SectionLine) → ys ≡ [] → zs ≡ []
    → s ∷ (xs ++ x ∷ []) ++ ys ++ zs ≡ (s ∷ xs ++ ys ++ zs) ++ x ∷ []
one-initial s x xs [] [] none nothing =
    append-nil ((s ∷ (xs ++ x ∷ [])) ++ []) ∙ append-nil (s ∷ (xs ++ x ∷ []))
    ∙ sym (ap (λ (ls : List SectionLine). ls ++ x ∷ []) (append-nil ((s ∷ xs) ++ []) ∙ append-nil (s ∷ xs)))
one-initial s x xs (b ∷ ys) zs none nothing = absurd cc
one-initial s x xs [] (c ∷ zs) none nothing = absurd cc

one-logged : (s x : SectionLine) (xs ys zs : List SectionLine) → zs ≡ []
    → s ∷ xs ++ (ys ++ x ∷ []) ++ zs ≡ (s ∷ xs ++ ys ++ zs) ++ x ∷ []
one-logged s x xs ys [] nothing = simp (append_assoc, append-nil)
one-logged s x xs ys (c ∷ zs) nothing = absurd cc

one-final : (s x : SectionLine) (xs ys zs : List SectionLine)
    → s ∷ xs ++ ys ++ (zs ++ x ∷ []) ≡ (s ∷ xs ++ ys ++ zs) ++ x ∷ []
one-final s x xs ys zs = simp append_assoc

initial-end : (h : Holding) → Initial h ≡ End → ⊥
initial-end h e = cc

logged-end : (e : Entry) → Logged e ≡ End → ⊥
logged-end h e = cc

final-end : (h : Holding) → Final h ≡ End → ⊥
final-end h e = cc

no_log-open : IsOpenLog no_log
no_log-open = record { room = omega arith; rising = λ i j d lt within. absurd (omega arith); finals = refl }

fits-lines : (k : ℕ) (log : SiteLog) (line : SectionLine) → Fits log line → (line ≡ End → ⊥)
    → open_lines k (Some (with_line log line)) ≡ open_lines k (Some log) ++ line ∷ []
fits-lines k log (Site j) f not_end = absurd f
fits-lines k log (Initial h) f not_end =
    ap (λ (ls : List SectionLine). Site k ∷ ls ++ map Logged log.entries ++ map Final log.finals)
    (map-append Initial log.items (h ∷ []))
    ∙ one-initial (Site k) (Initial h) (map Initial log.items) (map Logged log.entries) (map Final log.finals)
    (ap (map Logged) f.0) (ap (map Final) f.1)
fits-lines k log (Logged e) f not_end =
    ap (λ (ls : List SectionLine). Site k ∷ map Initial log.items ++ ls ++ map Final log.finals)
    (map-append Logged log.entries (e ∷ []))
    ∙ one-logged (Site k) (Logged e) (map Initial log.items) (map Logged log.entries) (map Final log.finals)
    (ap (map Final) f)
fits-lines k log (Final h) f not_end =
    ap (λ (ls : List SectionLine). Site k ∷ map Initial log.items ++ map Logged log.entries ++ ls)
    (map-append Final log.finals (h ∷ []))
    ∙ one-final (Site k) (Final h) (map Initial log.items) (map Logged log.entries) (map Final log.finals)
fits-lines k log End f not_end = absurd (not_end refl)

-- the open log stays one
fits-open : (log : SiteLog) (line : SectionLine) → Fits log line → (line ≡ End → ⊥) → IsOpenLog log
    → IsOpenLog (with_line log line)
fits-open log (Site j) f not_end o = absurd f
fits-open log (Initial h) f not_end o = record {
  room = omega (arith, f.2, length-append log.items (h ∷ []));
  rising = subst (AllPairs ComesBefore) (sym (map-append (λ (h : Holding). h.item) log.items (h ∷ [])))
      (all_pairs_push ComesBefore (names log.items) h.item o.rising f.3);
  finals = subst (λ fs. names fs ≡ take (length fs) (names (log.items ++ h ∷ []))) (sym f.1) refl;
}
fits-open log (Logged e) f not_end o = record { room = o.room; rising = o.rising; finals = o.finals }
fits-open log (Final h) f not_end o = record {
  room = o.room;
  rising = o.rising;
  finals = map-append (λ (h : Holding). h.item) log.finals (h ∷ [])
      ∙ ap (λ (ns : List (List ℕ)). ns ++ h.item ∷ []) o.finals
      ∙ sym (take-next (names log.items) (length log.finals) h.item f)
      ∙ ap (λ n. take n (names log.items)) (sym (length-append log.finals (h ∷ []) ∙ add-one (length log.finals)));
}
fits-open log End f not_end o = absurd (not_end refl)

-- and is a whole one at its end
ended-log : (log : SiteLog) → length log.finals ≡ length log.items → IsOpenLog log → IsShapedLog log
ended-log log e o = record {
  room = o.room;
  rising = o.rising;
  finals = o.finals
      ∙ take_all (length log.finals) (names log.items)
      (omega (arith, e, length-map log.items (λ (h : Holding). h.item)));
}

more-lines : (b : Begun) (log : SiteLog) (line : SectionLine) → b.current ≡ Some log → Fits log line → (line ≡ End → ⊥)
    → sections_from 0 b.whole ++ open_lines (length b.whole) (Some (with_line log line)) ≡ lines_read b ++ line ∷ []
more-lines b log line is f not_end =
    ap (λ (ls : List SectionLine). sections_from 0 b.whole ++ ls) (fits-lines (length b.whole) log line f not_end)
    ∙ sym (append_assoc (sections_from 0 b.whole) (open_lines (length b.whole) (Some log)) (line ∷ []))
    ∙ ap (λ o. (sections_from 0 b.whole ++ open_lines (length b.whole) o) ++ line ∷ []) (sym is)

pub next-lines : (b : Begun) (current : Option SiteLog) (line : SectionLine) → b.current ≡ current
    → MayFollow b current line → lines_read (with_next b current line) ≡ lines_read b ++ line ∷ []
next-lines b None (Site k) is f =
    ap (λ j. sections_from 0 b.whole ++ Site j ∷ []) (sym f.0)
    ∙ ap (λ (ls : List SectionLine). ls ++ Site k ∷ []) (sym (append-nil (sections_from 0 b.whole)))
    ∙ ap (λ o. (sections_from 0 b.whole ++ open_lines (length b.whole) o) ++ Site k ∷ []) (sym is)
next-lines b None (Initial h) is f = absurd f
next-lines b None (Logged h) is f = absurd f
next-lines b None (Final h) is f = absurd f
next-lines b None End is f = absurd f
next-lines b (Some log) (Site k) is f = absurd f
next-lines b (Some log) (Initial h) is f = more-lines b log (Initial h) is f (initial-end h)
next-lines b (Some log) (Logged h) is f = more-lines b log (Logged h) is f (logged-end h)
next-lines b (Some log) (Final h) is f = more-lines b log (Final h) is f (final-end h)
next-lines b (Some log) End is f =
    append-nil (sections_from 0 (b.whole ++ log ∷ [])) ∙ sections-append 0 b.whole (log ∷ [])
    ∙ ap (λ (ls : List SectionLine). sections_from 0 b.whole ++ ls)
    (append-nil (section_lines (0 + length b.whole) log)
    ∙ ap (λ k. section_lines k log) (zero-add (length b.whole)))
    ∙ sym (append_assoc (sections_from 0 b.whole) (open_lines (length b.whole) (Some log)) (End ∷ []))
    ∙ ap (λ o. (sections_from 0 b.whole ++ open_lines (length b.whole) o) ++ End ∷ []) (sym is)

pub next-begun : (b : Begun) (current : Option SiteLog) (line : SectionLine) → IsBegun b → HasRoomFor b current
    → MayFollow b current line → IsBegun (with_next b current line)
next-begun b None (Site k) is room f = record {
  some = is.some;
  few = is.few;
  logs = is.logs;
  room =
      (omega arith, no_log-open);
}
next-begun b None (Initial h) is room f = absurd f
next-begun b None (Logged h) is room f = absurd f
next-begun b None (Final h) is room f = absurd f
next-begun b None End is room f = absurd f
next-begun b (Some log) (Site k) is room f = absurd f
next-begun b (Some log) (Initial h) is room f = record {
  some = is.some;
  few = is.few;
  logs = is.logs;
  room =
      (room.0, fits-open log (Initial h) f (initial-end h) room.1);
}
next-begun b (Some log) (Logged h) is room f = record {
  some = is.some;
  few = is.few;
  logs = is.logs;
  room =
      (room.0, fits-open log (Logged h) f (logged-end h) room.1);
}
next-begun b (Some log) (Final h) is room f = record {
  some = is.some;
  few = is.few;
  logs = is.logs;
  room =
      (room.0, fits-open log (Final h) f (final-end h) room.1);
}
next-begun b (Some log) End is room f = record {
  some = is.some;
  few = is.few;
  logs = All-push IsShapedLog b.whole log is.logs (ended-log log f room.1);
  room = omega (arith, room.0, length-append b.whole (log ∷ []));
}

-- ---- all sections

pub whole-sections : (b : Begun) → IsBegun b → (b.current ≡ None) → (length b.whole ≡ b.sites)
    → AreSections b.sites (lines_read b)
whole-sections b is none all = (
  b.whole,
  record { some = is.some; few = is.few; each = all; logs = is.logs },
  sym (append-nil (sections_from 0 b.whole))
      ∙ ap (λ o. sections_from 0 b.whole ++ open_lines (length b.whole) o) (sym none),
)

no_line : (l : SiteLog) (k : ℕ) (rest : List SectionLine) → section_lines k l ++ rest ≡ [] → ⊥
no_line l k rest e = cc

-- an open section is not all of one
not-ended : (k j : ℕ) (l log : SiteLog) (rest : List SectionLine)
    → section_lines j l ++ rest ≡ open_lines k (Some log) → ⊥
not-ended k j l log rest e =
    let e1 = sym (section_spread j l rest) ∙ e ∙ sym (append-nil (open_lines k (Some log))) ∙ spread k log [] in
    let e2 = tails (Site j) (Site k)
    (map Initial l.items ++ (map Logged l.entries ++ (map Final l.finals ++ (End ∷ rest))))
    (map Initial log.items ++ (map Logged log.entries ++ (map Final log.finals ++ []))) e1 in
    let finals =
    finals-begin l log rest [] e2
    (after_items log.entries log.finals [] (λ a rs same. nothing (Initial a) rs same))
    (after_entries log.finals [] (λ a rs same. nothing (Logged a) rs same)) in
    no_cons (map Final finals.0) rest End (sym finals.2)
  where
    nothing : (x : SectionLine) (rs : List SectionLine) → [] ≡ x ∷ rs → ⊥
    nothing x rs same = cc

ended-at : (current : Option SiteLog) (whole logs tail : List SiteLog) → logs ≡ whole ++ tail
    → sections_from (0 + length whole) tail ≡ open_lines (length whole) current → (current ≡ None) × (whole ≡ logs)
ended-at None whole logs [] all e = (refl, sym (all ∙ append-nil whole))
ended-at None whole logs (l ∷ ls) all e =
    absurd (no_line l (0 + length whole) (sections_from (suc (0 + length whole)) ls) e)
ended-at (Some log) whole logs [] all e = absurd cc
ended-at (Some log) whole logs (l ∷ ls) all e =
    absurd (not-ended (length whole) (0 + length whole) l log (sections_from (suc (0 + length whole)) ls) e)

-- sections that are all that was read are the whole logs
pub sections-whole : (b : Begun) (logs : List SiteLog) → sections_from 0 logs ≡ lines_read b
    → (b.current ≡ None) × (b.whole ≡ logs)
sections-whole b logs e = let split = split-whole 0 b.whole logs (open_lines (length b.whole) b.current) e in
    ended-at b.current b.whole logs split.0 split.1 split.2

pub are-sections : (b : Begun) → AreSections b.sites (lines_read b) → (b.current ≡ None) × (length b.whole ≡ b.sites)
are-sections b (logs, shaped, all) = let same = sections-whole b logs all in (same.0, ap length same.1 ∙ shaped.each)

-- ---- for a line that begins some sections behind what was read

pub follow-decides : (b : Begun) → IsBegun b → (line : SectionLine) (r : Bool) → IsTrue r ↔ MayFollow b b.current line
    → IsTrue r ↔ Begins b.sites (lines_read b ++ line ∷ [])
follow-decides b is line r test = (
  λ h.
      let f = test.0 h in
      subst (Begins b.sites) (next-lines b b.current line refl f)
      (begins-sites b b.current line
      (begun-begins (with_next b b.current line) (next-begun b b.current line is is.room f))),
  λ begins. test.1 (begins-follow b line begins),
)
  where
    begins-sites : (b : Begun) (current : Option SiteLog) (line : SectionLine)
        → Begins (with_next b current line).sites (lines_read (with_next b current line))
        → Begins b.sites (lines_read (with_next b current line))
    begins-sites b None line h = h
    begins-sites b (Some log) line h = h

module _ (b : Begun) (is : IsBegun b) (line : SectionLine) (begins : Begins b.sites (lines_read b ++ line ∷ []))
    (current : Option SiteLog) (here : b.current ≡ current) where
  follow : MayFollow b current line
  follow = subst (λ o. MayFollow b o line) here (begins-follow b line begins)

  pub added-begun : IsBegun (with_next b current line)
  added-begun = next-begun b current line is (subst (HasRoomFor b) here is.room) follow

  pub added-lines : lines_read (with_next b current line) ≡ lines_read b ++ line ∷ []
  added-lines = next-lines b current line here follow
