-- What is kept of the sites, against the rules of a line, and after one more line.
use Rattle.std.proofs.Common.{◌≡◌, ◌≢◌, ℕ, ◌+◌, List, [], ◌∷◌, ◌++◌, length, Option, Some, None, Bool, true, false, IsTrue, refl, sym, ap, ◌∙◌, subst, arith, inl, inr, All, AllPairs, Contains}
use Rattle.std.specs.Prelude.{◌↔◌, not, slice_get, is_some, IfSome, IfNone}
use Rattle.std.specs.Option.{ForSome}
use Rattle.std.specs.Ordering.{nat_cmp}
use Rattle.std.specs.Cmp.Lexicographic.{slice_cmp}
use Rattle.std.specs.declared.cmp.Ordering.TheVariants.{Less, Equal}
use Rattle.std.proofs.lemmas.Bool.{false≢true}
use Rattle.std.proofs.lemmas.Cmp.{nat_list_cmp_total, tied_itself}
use Rattle.std.proofs.lemmas.List.{length_push}
use Rattle.std.proofs.lemmas.Option.{none-some, same_Some}
use Rattle.sgt_names.proofs.Places.{All_at, All-from_at, AllPairs_at, AllPairs-from_at, Contains-from_at}
use Rattle.sgt_names.proofs.Lists.{option_cases}
use Rattle.sgt_names.specs.Name.{Name}
use Rattle.sgt_names.specs.Entry.{item_of, Reads, Writes, Repeats, Clash}
use Rattle.sgt_names.specs.Log.{names, value_at}
use Rattle.sgt_names.specs.declared.entry.Entry.{Entry}
use Rattle.sgt_names.specs.declared.entry.Entry.TheVariants as entry
use Rattle.sgt_names.specs.declared.entry.Holding.{Holding}
use Rattle.sgt_names.specs.declared.entry.Kind.{Kind}
use Rattle.sgt_names.specs.declared.entry.Kind.TheVariants.{Wr, Rw, Ww}
use Rattle.sgt_notation.specs.declared.SectionLine.{SectionLine}
use Rattle.sgt_notation.specs.declared.SectionLine.TheVariants.{Site, Initial, Logged, Final, End}
use Rattle.sgt_bundle.specs.Parts.{ComesBefore}
use Rattle.sgt_bundle.specs.Valid.{IsDecided, RiseInRank, EndInOrder}
use Rattle.sgt_bundle.specs.declared.bundle.SiteLog.{SiteLog}
use Rattle.sgt_bundle.specs.declared.certificate.Decision.{Decision}
use Rattle.sgt_audit_decisions.specs.Decided.{Decides, IsFound}
use Rattle.sgt_audit_cells.specs.Tracks.{TracksOpen, IsReadyFor, IsPlaceAmong, IsNumberOf}
use Rattle.sgt_audit_cells.specs.declared.state.SiteState.{SiteState}
use Rattle.sgt_audit_cells.proofs.Tracking.{ready-next}
use Rattle.sgt_bundle.specs.declared.certificate.Certificate.{Certificate}
use Rattle.sgt_audit.specs.declared.faults.Fault.TheVariants as fault
use Rattle.sgt_audit.specs.Faults.{Allows, Keeps}
use Rattle.sgt_audit.specs.declared.place.OpenPlace.{OpenPlace}
use Rattle.sgt_audit.specs.Kept.{IsOpenPlace, TracksCurrent, Tracks}
use Rattle.sgt_audit.proofs.OpenLogs.{has_open}
use Rattle.sgt_audit.specs.Reading.{Begun, HasRoomFor, lines_read}
use Rattle.sgt_audit.specs.private.Following.{Fits, MayFollow, with_next}
use Rattle.sgt_audit.specs.private.Judging.{AdmitsLine, KeptBelow, IsLegalRead}
use Rattle.sgt_audit.specs.private.Known.{IsKnownOf, IsKnownLine}
use Rattle.sgt_audit.specs.declared.known.Known.{Known}

-- ---- the rules

-- an entry whose item has a place
pub listed-there : (ns : List Name) (e : Entry) (o : Option ℕ) (place : ℕ) → o ≡ Some place → IsPlaceAmong ns e o
    → IsTrue true ↔ ForSome (item_of e) (Contains ns)
listed-there ns e o place is among =
    let at = subst (IsPlaceAmong ns e) is among in
    (λ h y on. subst (Contains ns) (same_Some at.0 y (sym at.2 ∙ on)) (Contains-from_at ns place at.0 at.1), λ h. refl)

-- one whose item has none, or that has no item
pub listed-missing : (ns : List Name) (e : Entry) (o : Option ℕ) (r : Bool) → o ≡ None → is_some (item_of e) ≡ not r
    → IsPlaceAmong ns e o → IsTrue r ↔ ForSome (item_of e) (Contains ns)
listed-missing ns e o r is some among =
    let miss = subst (IsPlaceAmong ns e) is among in
    elim (option_cases (item_of e)) [
      | inl none ↦ (λ h x on. absurd (none-some x (sym none ∙ on)), λ h. not-false r (sym some ∙ ap is_some none))
      | inr named ↦ (
        λ h. absurd (false≢true (ap not (sym h) ∙ sym some ∙ ap is_some named.1)),
        λ all. absurd (miss named.0 named.1 (all named.0 named.1)),
      )
    ]
  where
    not-false : (r : Bool) → not r ≡ false → IsTrue r
    not-false true h = refl
    not-false false h = absurd (false≢true (sym h))

pub placed-at : (ns : List Name) (e : Entry) (o : Option ℕ) (place : ℕ) → o ≡ Some place → IsPlaceAmong ns e o
    → (x : Name) × (slice_get ns place ≡ Some x) × (item_of e ≡ Some x)
placed-at ns e o place is among = subst (IsPlaceAmong ns e) is among

-- where it is listed, it has a place or no item
pub placed-none : (ns : List Name) (e : Entry) (o : Option ℕ) → o ≡ None → ForSome (item_of e) (Contains ns)
    → IsPlaceAmong ns e o → item_of e ≡ None
placed-none ns e o is listed among =
    elim (option_cases (item_of e)) [
      | inl none ↦ none
      | inr some ↦ absurd (subst (IsPlaceAmong ns e) is among some.0 some.1 (listed some.0 some.1))
    ]

pub legal-at : (items : List Holding) (entries : List Entry) (e : Entry) (tx : ℕ) (item : Name) (value : ℕ) (r : Bool)
    (place : ℕ) → e ≡ entry.Read tx item value
    → (x : Name) × (slice_get (names items) place ≡ Some x) × (item_of e ≡ Some x)
    → ((x : Name) → slice_get (names items) place ≡ Some x → IsTrue r ↔ (value_at items entries x ≡ Some value))
    → IsTrue r ↔ IsLegalRead items entries e
legal-at items entries e tx item value r place is at decides =
    subst (λ f. IsTrue r ↔ IsLegalRead items entries f) (sym is)
    (decides item (at.1 ∙ ap Some (same_Some at.0 item (sym at.2 ∙ ap item_of is))))

-- an end repeats nothing and conflicts with nothing
end-no_read : (e : Entry) (x : Name) → item_of e ≡ None → Reads x e → ⊥
end-no_read (entry.Read t y v) x none r = absurd cc
end-no_read _ x none r = r

end-no_write : (e : Entry) (x : Name) → item_of e ≡ None → Writes x e → ⊥
end-no_write (entry.Write t y v) x none w = absurd cc
end-no_write (entry.Add t y v) x none w = absurd cc
end-no_write (entry.Want t y v) x none w = absurd cc
end-no_write (entry.WantAdd t y v) x none w = absurd cc
end-no_write _ x none w = w

pub end-first : (entries : List Entry) (e : Entry) → item_of e ≡ None
    → IsTrue true ↔ All (λ f. (x : Name) → Repeats x f e → ⊥) entries
end-first entries e none = (
  λ h. All-from_at (λ f. (x : Name) → Repeats x f e
      → ⊥) entries (λ n f at x r. elim r.1 [
        | inl reads ↦ end-no_read e x none reads.1
        | inr writes ↦ end-no_write e x none writes.1
      ]),
  λ h. refl,
)

no-clash : (kind : Kind) (x : Name) (f e : Entry) → item_of e ≡ None → Clash kind x f e → ⊥
no-clash Wr x f e none c = end-no_read e x none c.1
no-clash Rw x f e none c = end-no_write e x none c.1
no-clash Ww x f e none c = end-no_write e x none c.1

pub end-in_rank : (ds : List Decision) (entries : List Entry) (e : Entry) → item_of e ≡ None
    → IsTrue true ↔ All (λ f. RiseInRank ds f e) entries
end-in_rank ds entries e none = (
  λ h. All-from_at (λ f. RiseInRank ds f e) entries
      (λ n f at kind x i j r s clash. absurd (no-clash kind x f e none clash)),
  λ h. refl,
)

pub order-free : (ds : List Decision) (entries : List Entry) (e : Entry) → ((number : ℕ) → IsDecided ds e number → ⊥)
    → IsTrue true ↔ All (λ f. EndInOrder ds f e) entries
order-free ds entries e none = (
  λ h. All-from_at (λ f. EndInOrder ds f e) entries (λ n f at ends_f ends_e i j by_f by_e. absurd (none j by_e)),
  λ h. refl,
)

pub number-is : (ds : List Decision) (tx : ℕ) (o : Option ℕ) → IfSome o (λ number. Decides ds number tx)
    → IfNone o ((number : ℕ) → Decides ds number tx → ⊥) → IsNumberOf ds tx o
number-is ds tx None some none = none
number-is ds tx (Some number) some none = some

pub suiting-at : (ds : List Decision) (e : Entry) (o : Option ℕ) (n : ℕ) → o ≡ Some n → IsFound (IsDecided ds e) o
    → IsDecided ds e n
suiting-at ds e o n is found = subst (IsFound (IsDecided ds e)) is found

pub suiting-none : (ds : List Decision) (e : Entry) (o : Option ℕ) → o ≡ None → IsFound (IsDecided ds e) o → (n : ℕ)
    → IsDecided ds e n → ⊥
suiting-none ds e o is found = subst (IsFound (IsDecided ds e)) is found

-- a final value that fits is of the item at the place of the next
pub at_finals : (log : SiteLog) (p : OpenPlace) (h : Holding) → IsOpenPlace log p → Fits log (Final h)
    → slice_get (names log.items) p.finals ≡ Some h.item
at_finals log p h is fits = subst (λ n. slice_get (names log.items) n ≡ Some h.item) (sym is.finals) fits

pub open-tracked : (ds : List Decision) (b : Begun) (s : SiteState) (log : SiteLog) → b.current ≡ Some log
    → Tracks ds b s → TracksOpen ds log.items log.entries s
open-tracked ds b s log here t = (subst (λ o. TracksCurrent ds (length b.whole) o s) here t).1

-- what is known of a line
pub known-none : (ds : List Decision) (s : SiteState) (line : SectionLine) → ((e : Entry) → line ≡ Logged e → ⊥)
    → IsKnownLine ds s line None
known-none ds s (Logged e) not = absurd (not e refl)
known-none ds s (Site k) not = tt
known-none ds s (Initial h) not = tt
known-none ds s (Final h) not = tt
known-none ds s End not = tt

-- a line that is no entry is one of each format
pub allows-plain : (second : Bool) (line : SectionLine) → ((e : Entry) → line ≡ Logged e → ⊥) → Allows second line
allows-plain second (Logged e) not = absurd (not e refl)
allows-plain second (Site k) not = tt
allows-plain second (Initial h) not = tt
allows-plain second (Final h) not = tt
allows-plain second End not = tt

pub known-entry : (ds : List Decision) (s : SiteState) (line : SectionLine) (o : Option Known) (e : Entry) (k : Known)
    → line ≡ Logged e → o ≡ Some k → IsKnownLine ds s line o → IsKnownOf ds s e k
known-entry ds s line o e k is some known =
    subst (IsKnownLine ds s (Logged e)) some (subst (λ l. IsKnownLine ds s l o) is known)

pub known-missing : (ds : List Decision) (s : SiteState) (line : SectionLine) (o : Option Known) (e : Entry)
    → line ≡ Logged e → o ≡ None → IsKnownLine ds s line o → ⊥
known-missing ds s line o e is none known =
    subst (IsKnownLine ds s (Logged e)) none (subst (λ l. IsKnownLine ds s l o) is known)

-- ---- names that rise are apart

pub less-equal : Less ≡ Equal → ⊥
less-equal e = cc

pub before-apart : (x y : Name) → ComesBefore x y → x ≢ y
before-apart x y less same = less-equal (sym less ∙ ap (slice_cmp nat_cmp x) (sym same)
    ∙ tied_itself nat_list_cmp_total x)

pub names-apart : (ns : List Name) → AllPairs ComesBefore ns → AllPairs (λ x y. x ≢ y) ns
names-apart ns rise =
    AllPairs-from_at (λ x y. x ≢ y) ns
    (λ p q x y lt at_p at_q. before-apart x y (AllPairs_at ComesBefore ns p q x y rise lt at_p at_q))

-- ---- one more line

module _ (ds : List Decision) (b : Begun) (old new : SiteState) where
  -- of the open section, or of none
  abbrev pub Enters : Option SiteLog → SectionLine → Type 0
  Enters o line = HasRoomFor b o → MayFollow b o line → AdmitsLine ds o line → TracksCurrent ds (length b.whole) o old
      → Tracks ds (with_next b o line) new

  pub site-entered : (o : Option SiteLog) (k : ℕ) → new.section ≡ k + 1
      → (IsReadyFor ds (k + 1) old → TracksOpen ds [] [] new) → Enters o (Site k)
  site-entered None k section tracks room fits admits ready =
      (section ∙ ap (λ n. n + 1) fits.0, tracks (subst (λ n. IsReadyFor ds (n + 1) old) (sym fits.0) ready))
  site-entered (Some log) k section tracks room fits admits before = absurd fits

  pub item-entered : (o : Option SiteLog) (h : Holding) → new.section ≡ old.section
      → ((items : List Holding) → All (λ x. x ≢ h.item) (names items) → TracksOpen ds items [] old
      → TracksOpen ds (items ++ h ∷ []) [] new) → Enters o (Initial h)
  item-entered None h section tracks room fits admits ready = absurd fits
  item-entered (Some log) h section tracks room fits admits before = (
    section ∙ before.0,
    subst (λ es. TracksOpen ds (log.items ++ h ∷ []) es new) (sym fits.0)
        (tracks log.items
        (All-from_at (λ x. x ≢ h.item) (names log.items)
        (λ n x at. before-apart x h.item (All_at (λ x. ComesBefore x h.item) (names log.items) n x fits.3 at)))
        (subst (λ es. TracksOpen ds log.items es old) fits.0 before.1)),
  )

  pub entry-entered : (o : Option SiteLog) (e : Entry) → new.section ≡ old.section
      → ((items : List Holding) (entries : List Entry) → AllPairs (λ x y. x ≢ y) (names items)
      → ForSome (item_of e) (Contains (names items)) → ((number : ℕ) × IsDecided ds e number)
      → TracksOpen ds items entries old → TracksOpen ds items (entries ++ e ∷ []) new)
      → Enters o (Logged e)
  entry-entered None e section tracks room fits admits ready = absurd fits
  entry-entered (Some log) e section tracks room fits admits before = (
    section ∙ before.0,
    tracks log.items log.entries (names-apart (names log.items) room.1.rising) admits.0
        admits.1 before.1,
  )

  pub final-entered : (o : Option SiteLog) (h : Holding) → new ≡ old → Enters o (Final h)
  final-entered None h same room fits admits ready = absurd fits
  final-entered (Some log) h same room fits admits before =
      (ap (λ s. s.section) same ∙ before.0, subst (TracksOpen ds log.items log.entries) (sym same) before.1)

  pub end-entered : (o : Option SiteLog) → new ≡ old → Enters o End
  end-entered None same room fits admits ready = absurd fits
  end-entered (Some log) same room fits admits before =
      subst (IsReadyFor ds (length (b.whole ++ log ∷ []) + 1)) (sym same)
      (subst (λ n. IsReadyFor ds n old) (ap (λ n. n + 1) (before.0 ∙ sym (length_push b.whole log)))
      (ready-next ds log.items log.entries old before.1))

-- ---- the next line of a text

pub admits : (c : Certificate) (b : Begun) (o : Option SiteLog) (line : SectionLine) → b.current ≡ o
    → KeptBelow (Keeps c (lines_read b) line) 17 → AdmitsLine c.decisions o line
admits c b (Some log) (Logged e) here kept = (
  subst (λ items. ForSome (item_of e) (Contains (names items))) (has_open b log here).items
      (kept fault.Item (omega arith)),
  (kept fault.End (omega arith)).0,
)
admits c b (Some log) (Site k) here kept = tt
admits c b (Some log) (Initial h) here kept = tt
admits c b (Some log) (Final h) here kept = tt
admits c b (Some log) End here kept = tt
admits c b None line here kept = tt
