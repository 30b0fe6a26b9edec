-- Lines of logs that were read, and what follows them.
use Rattle.std.proofs.Common.{◌≡◌, ◌≢◌, ℕ, suc, ◌+◌, ◌<◌, ◌≤◌, Bool, true, false, List, [], ◌∷◌, ◌++◌, length, map, Option, Some, None, refl, sym, ap, ◌∙◌, subst, arith, append_assoc, inl, inr, take, drop, ◌-◌, All, Contains}
use Rattle.std.specs.Prelude.{slice_get}
use Rattle.std.specs.List.{filter_map}
use Rattle.std.specs.Option.{ForSome}
use Rattle.std.proofs.lemmas.Bool.{cases_order}
use Rattle.std.proofs.lemmas.List.{append-nil, length-append, length-map}
use Rattle.std.proofs.lemmas.List.Elements.{All-append, All-cons, All-nil, All-push, filter_map-append}
use Rattle.std.proofs.lemmas.Option.{same_Some}
use Rattle.sgt_names.specs.Entry.{item_of}
use Rattle.sgt_names.specs.Limits.{max_line, max_sites}
use Rattle.sgt_names.specs.Log.{names}
use Rattle.sgt_names.specs.declared.entry.Entry.{Entry}
use Rattle.sgt_names.proofs.Lists.{back_at, front_at, middle_at, within_at}
use Rattle.sgt_names.proofs.Places.{All_at, All-from_at, slice_get-take_at, split_at}
use Rattle.sgt_notation.specs.Lines.{IsLongerThan}
use Rattle.sgt_notation.specs.Spelling.{HasNoLf, line_text, text_of_lines}
use Rattle.sgt_notation.specs.declared.SectionLine.{SectionLine}
use Rattle.sgt_notation.specs.declared.SectionLine.TheVariants.{Site, Initial, Logged, Final, End}
use Rattle.sgt_bundle.specs.Text.{AreSections, format_line}
use Rattle.sgt_bundle.specs.Valid.{IsDecided}
use Rattle.sgt_bundle.specs.declared.bundle.SiteLog.{SiteLog}
use Rattle.sgt_bundle.specs.declared.certificate.Decision.{Decision}
use Rattle.sgt_audit.specs.declared.faults.Fault.{Fault}
use Rattle.sgt_audit.specs.declared.faults.Fault.TheVariants as fault
use Rattle.sgt_audit.specs.Faults.{Breaks, IsLineIn, Piece, whole, last, ComesNext, bytes_of, fault_number, logged_in, Rule, start}
use Rattle.sgt_audit.specs.Reading.{Begun, lines_read}
use Rattle.sgt_audit.specs.private.Following.{MayFollow, with_next}
use Rattle.sgt_audit.specs.private.Judging.{AdmitsLine}
use Rattle.sgt_audit.proofs.LinePlaces.{cut_append, last_cut, no_cons}
use Rattle.sgt_audit.proofs.MayFollow.{next-begun, next-lines}
use Rattle.sgt_audit.proofs.OpenLogs.{has_open}
use Rattle.sgt_audit.proofs.Places.{next-sites}
use Rattle.sgt_audit.proofs.ReaderAtStage.{piece}
use Rattle.sgt_certify_logs.specs.Sound.{SpellsSoundLogs}
use Rattle.sgt_certify_faults.specs.Faults.{AreKept, IsFaultless, IsFirstFault, KeepsAlone, RuleAlone, behind, lines_of}
use Rattle.sgt_certify_faults.specs.Faults as front
use Rattle.sgt_certify_faults.specs.private.Asked.{AreDecidedAsAsked}
use Rattle.sgt_certify_faults.specs.private.Judging.{TellsLineOdds}
use Rattle.sgt_certify_faults.specs.private.Reading.{IsReadTo}
use Rattle.sgt_certify_faults.proofs.FirstFaults.{first-fault, no-fault, sound-text}
use Rattle.sgt_certify_faults.proofs.Odds.{tells-odds}
use Rattle.sgt_notation.proofs.Texts.{line_front}

-- ---- one more line

pub text-more : (xs : List SectionLine) (x : SectionLine) (rest : List ℕ)
    → text_of_lines (map line_text (xs ++ x ∷ [])) ++ rest ≡ text_of_lines (map line_text xs) ++
    (line_text x ++ 10 ∷ rest)
text-more [] x rest = line_front (line_text x) [] rest
text-more (y ∷ ys) x rest =
    line_front (line_text y) (map line_text (ys ++ x ∷ [])) rest
    ∙ ap (λ (t : List ℕ). line_text y ++ 10 ∷ t) (text-more ys x rest)
    ∙ sym (line_front (line_text y) (map line_text ys) (line_text x ++ 10 ∷ rest))

pub kept-push : (second : Bool) (xs : List SectionLine) (line : SectionLine) → AreKept second xs
    → IsLineIn second line → ((f : Fault) → KeepsAlone xs line f) → AreKept second (xs ++ line ∷ [])
kept-push second xs line kept is keeps earlier later l cut =
    elim (cut_append xs (line ∷ []) earlier later l cut) [
      | inl within ↦ kept earlier within.0 l within.1
      | inr behind_all ↦
          let m = last_cut line behind_all.0 later l behind_all.2 in
          let same : earlier ≡ xs = behind_all.1 ∙ ap (λ (ys : List SectionLine). xs ++ ys) m.1 ∙ append-nil xs in
          subst (λ (k : SectionLine). IsLineIn second k × ((f : Fault) → KeepsAlone earlier k f)) m.0
          (is, λ f. subst (λ (ys : List SectionLine). KeepsAlone ys line f) (sym same) (keeps f))
    ]

pub kept-each : (second : Bool) (xs : List SectionLine) → AreKept second xs → All (IsLineIn second) xs
kept-each second xs kept =
    All-from_at (IsLineIn second) xs (λ n l at. (kept (take n xs) (drop (suc n) xs) l (split_at xs n l at)).0)

pub none-read : (second : Bool) (bytes : List ℕ)
    → IsReadTo second bytes 0 (record { sites = max_sites; whole = []; current = None }) bytes
none-read second bytes = record {
  begun = record { some = omega arith; few = omega arith; logs = λ k d lt. absurd (omega arith); room = omega arith };
  sites = refl;
  kept = λ earlier later l e. absurd (no_cons earlier later l e);
  text = refl;
  many = refl;
}

pub one-read : (second : Bool) (bytes : List ℕ) (count : ℕ) (b : Begun) (rest after : List ℕ) (line : SectionLine)
    → IsReadTo second bytes count b rest → rest ≡ line_text line ++ 10 ∷ after
    → IsLineIn second line → ((f : Fault) → KeepsAlone (lines_read b) line f) → MayFollow b b.current line
    → IsReadTo second bytes (count + 1) (with_next b b.current line) after
one-read second bytes count b rest after line r cut is keeps follows =
    let lines = next-lines b b.current line refl follows in
    record {
      begun = next-begun b b.current line r.begun r.begun.room follows;
      sites = next-sites b b.current line ∙ r.sites;
      kept = subst (AreKept second) (sym lines) (kept-push second (lines_read b) line r.kept is keeps);
      text = r.text ∙ ap (λ (t : List ℕ). text_of_lines (map line_text (lines_read b)) ++ t) cut
          ∙ sym (text-more (lines_read b) line after)
          ∙ ap (λ ls. text_of_lines (map line_text ls) ++ after) (sym lines);
      many = ap length lines ∙ length-append (lines_read b) (line ∷ []) ∙ ap (λ n. n + 1) r.many;
    }

-- the entries so far are decided still
pub decided-more : (ds : List Decision) (b : Begun) (line : SectionLine) → MayFollow b b.current line
    → All (λ e. (number : ℕ) × IsDecided ds e number) (filter_map logged_in (lines_read b))
    → ((e : Entry) → line ≡ Logged e → (number : ℕ) × IsDecided ds e number)
    → All (λ e. (number : ℕ) × IsDecided ds e number)
    (filter_map logged_in (lines_read (with_next b b.current line)))
decided-more ds b line follows all own =
    subst (All (λ e. (number : ℕ) × IsDecided ds e number))
    (sym (ap (filter_map logged_in) (next-lines b b.current line refl follows)
    ∙ filter_map-append logged_in (lines_read b) (line ∷ [])))
    (All-append (λ e. (number : ℕ) × IsDecided ds e number) (filter_map logged_in (lines_read b))
    (filter_map logged_in (line ∷ [])) all (of-line line own))
  where
    of-line : (line : SectionLine) → ((e : Entry) → line ≡ Logged e → (number : ℕ) × IsDecided ds e number)
        → All (λ e. (number : ℕ) × IsDecided ds e number) (filter_map logged_in (line ∷ []))
    of-line (Logged e) own =
        All-cons (λ e. (number : ℕ) × IsDecided ds e number) e [] (own e refl)
        (All-nil (λ e. (number : ℕ) × IsDecided ds e number))
    of-line (Site k) own = All-nil (λ e. (number : ℕ) × IsDecided ds e number)
    of-line (Initial h) own = All-nil (λ e. (number : ℕ) × IsDecided ds e number)
    of-line (Final h) own = All-nil (λ e. (number : ℕ) × IsDecided ds e number)
    of-line End own = All-nil (λ e. (number : ℕ) × IsDecided ds e number)

-- a line that keeps every rule, and is decided, is admitted
pub admits : (ds : List Decision) (b : Begun) (current : Option SiteLog) (line : SectionLine) → b.current ≡ current
    → ((f : Fault) → KeepsAlone (lines_read b) line f)
    → ((e : Entry) → line ≡ Logged e → (number : ℕ) × IsDecided ds e number) → AdmitsLine ds current line
admits ds b (Some log) (Logged e) here keeps own = (
  subst (λ items. ForSome (item_of e) (Contains (names items))) (has_open b log here).items (keeps fault.Item),
  own e refl,
)
admits ds b (Some log) (Site k) here keeps own = tt
admits ds b (Some log) (Initial h) here keeps own = tt
admits ds b (Some log) (Final h) here keeps own = tt
admits ds b (Some log) End here keeps own = tt
admits ds b None line here keeps own = tt

-- what the decisions tell of the next line
pub line-tells : (second : Bool) (bytes : List ℕ) (ds : List Decision) (count : ℕ) (b : Begun) (rest after : List ℕ)
    (line : SectionLine) → AreDecidedAsAsked second bytes ds → IsReadTo second bytes count b rest
    → All (λ e. (number : ℕ) × IsDecided ds e number) (filter_map logged_in (lines_read b)) → IsLineIn second line
    → rest ≡ line_text line ++ 10 ∷ after → TellsLineOdds ds (lines_read b) line
line-tells second bytes ds count b rest after (Logged e) are r decided is cut =
    tells-odds second bytes ds are (lines_read b) e after
    (All-push (IsLineIn second) (lines_read b) (Logged e) (kept-each second (lines_read b) r.kept) is)
    (r.text ∙ ap (λ (t : List ℕ). text_of_lines (map line_text (lines_read b)) ++ t) cut
    ∙ sym (text-more (lines_read b) (Logged e) after)) decided
line-tells second bytes ds count b rest after (Site k) are r decided is cut = tt
line-tells second bytes ds count b rest after (Initial h) are r decided is cut = tt
line-tells second bytes ds count b rest after (Final h) are r decided is cut = tt
line-tells second bytes ds count b rest after End are r decided is cut = tt

-- ---- what comes next

pub line-comes : (rest line after more : List ℕ) → HasNoLf line → rest ≡ line ++ 10 ∷ after
    → ComesNext (rest ++ more) (whole line)
line-comes rest line after more one cut = (
  after ++ more,
  ap (λ (t : List ℕ). t ++ more) cut
      ∙ append_assoc line (10 ∷ after) more,
  one,
)

pub end-comes : (rest more : List ℕ) → HasNoLf rest → more ≡ [] → ComesNext (rest ++ more) (last rest)
end-comes rest more none nothing = (ap (λ (t : List ℕ). rest ++ t) nothing ∙ append-nil rest, none)

-- a line that begins in front of one that is too long is too long
long-comes : (rest more : List ℕ) (next : Piece) → HasNoLf rest → IsLongerThan max_line more
    → ComesNext (rest ++ more) next → max_line < length (bytes_of next)
long-comes rest more (last l) none long (is, one) = omega (arith, ap length is, length-append rest more, long.0)
long-comes rest more (whole l) none long (after, is, one) =
    elim (cases_order max_line (length l)) [
      | inl same ↦ absurd (early (omega (arith, same)))
      | inr (inl less) ↦ less
      | inr (inr early_lf) ↦ absurd (early (omega (arith, early_lf)))
    ]
  where
    lf_at : slice_get (rest ++ more) (length l) ≡ Some 10
    lf_at = ap (λ (t : List ℕ). slice_get t (length l)) is ∙ middle_at l 10 after

    in_rest : length l < length rest → ⊥
    in_rest lt =
        let x = within_at rest (length l) lt in
        All_at (λ b. b ≢ 10) rest (length l) x.0 none x.1
        (same_Some x.0 10 (sym (front_at rest more (length l) x.0 x.1) ∙ lf_at))

    in_more : (k : ℕ) → length l ≡ length rest + k → k < max_line + 1 → ⊥
    in_more k place lt =
        let at : slice_get more k ≡ Some 10 = sym (back_at rest more k) ∙ ap (slice_get (rest ++ more)) (sym place)
        ∙ lf_at in
        absurd (All_at (λ b. b ≢ 10) (take (max_line + 1) more) k 10 long.1
        (slice_get-take_at more (max_line + 1) k 10 lt at) refl)

    early : length l ≤ max_line → ⊥
    early le = elim (cases_order (length l) (length rest)) [
      | inl same ↦ in_more 0 (omega (arith, same)) (omega arith)
      | inr (inl less) ↦ in_rest less
      | inr (inr more_left) ↦ in_more (length l - length rest) (omega (arith, more_left)) (omega (arith, le))
    ]

pub long-next : (rest more : List ℕ) → HasNoLf rest → IsLongerThan max_line more
    → (next : Piece) × ComesNext (rest ++ more) next × (max_line < length (bytes_of next))
long-next rest more none long = let p = piece (rest ++ more) in (p.0, p.1, long-comes rest more p.0 none long p.1)

-- ---- the first fault

pub whole-text : (second : Bool) (bytes more : List ℕ) (count : ℕ) (b : Begun) (rest : List ℕ)
    → IsReadTo second bytes count b rest
    → format_line second ++ 10 ∷ (bytes ++ more) ≡ text_of_lines (lines_of (behind second (lines_read b))) ++
    (rest ++ more)
whole-text second bytes more count b rest r =
    ap (λ (t : List ℕ). format_line second ++ 10 ∷ t) (ap (λ (t : List ℕ). t ++ more) r.text
    ∙ append_assoc (text_of_lines (map line_text (lines_read b))) rest more)
    ∙ sym (line_front (format_line second) (map line_text (lines_read b)) (rest ++ more))

-- what is broken behind the lines is the first fault of the whole text
pub behind-first : (second : Bool) (bytes more : List ℕ) (count : ℕ) (b : Begun) (rest : List ℕ)
    → IsReadTo second bytes count b rest → (next : Piece) (f : Fault) → ComesNext (rest ++ more) next
    → Breaks (RuleAlone (behind second (lines_read b)) next) f → (n : ℕ) → n ≡ count + 2
    → IsFirstFault (format_line second ++ 10 ∷ (bytes ++ more)) n f
behind-first second bytes more count b rest r next f comes breaks n number =
    first-fault (format_line second ++ 10 ∷ (bytes ++ more)) (behind second (lines_read b)) (rest ++ more) next r.kept
    (kept-each second (lines_read b) r.kept) comes (whole-text second bytes more count b rest r)
    n f (omega (arith, number, r.many, length-map (lines_read b) line_text)) breaks

-- no fault at the end
pub ends-faultless : (second : Bool) (bytes : List ℕ) (count : ℕ) (b : Begun) (rest : List ℕ)
    → IsReadTo second bytes count b rest → rest ≡ []
    → ((f : Fault) → RuleAlone (behind second (lines_read b)) (last []) f)
    → IsFaultless (format_line second ++ 10 ∷ bytes)
ends-faultless second bytes count b rest r empty keeps =
    no-fault (format_line second ++ 10 ∷ bytes) (behind second (lines_read b)) rest (last []) r.kept
    (kept-each second (lines_read b) r.kept)
    (subst (λ t. ComesNext t (last [])) (sym empty) (refl, All-nil (λ x. x ≡ 10 → ⊥)))
    (ap (λ (t : List ℕ). format_line second ++ 10 ∷ t) r.text
    ∙ sym (line_front (format_line second) (map line_text (lines_read b)) rest)) empty keeps

pub ends-sound : (second : Bool) (bytes : List ℕ) (count : ℕ) (b : Begun) (rest : List ℕ) (sites : ℕ)
    → IsReadTo second bytes count b rest → rest ≡ [] → AreSections sites (lines_read b)
    → SpellsSoundLogs (format_line second ++ 10 ∷ bytes)
ends-sound second bytes count b rest sites r empty sections =
    subst SpellsSoundLogs
    (sym (ap (λ (t : List ℕ). format_line second ++ 10 ∷ t) (r.text
    ∙ ap (λ (t : List ℕ). text_of_lines (map line_text (lines_read b)) ++ t) empty
    ∙ append-nil (text_of_lines (map line_text (lines_read b))))))
    (sound-text second (lines_read b) sites r.kept sections)

-- where the first line says no format
first-kept : (next : Piece) (f : Fault) → fault_number f < 1 → RuleAlone front.none next f
first-kept next f lt = absurd (omega (arith, fault-some f, lt))
  where
    fault-some : (f : Fault) → 1 ≤ fault_number f
    fault-some fault.Format = omega arith
    fault-some fault.Notation = omega arith
    fault-some fault.Certificate = omega arith
    fault-some fault.Ranks = omega arith
    fault-some fault.DecidedTwice = omega arith
    fault-some fault.WalkShape = omega arith
    fault-some fault.Section = omega arith
    fault-some fault.Item = omega arith
    fault-some fault.Twice = omega arith
    fault-some fault.ReadValue = omega arith
    fault-some fault.RankOrder = omega arith
    fault-some fault.Block = omega arith
    fault-some fault.End = omega arith
    fault-some fault.DecisionOrder = omega arith
    fault-some fault.NotEnded = omega arith
    fault-some fault.Final = omega arith
    fault-some fault.WalkStep = omega arith
    fault-some fault.Truncated = omega arith
    fault-some fault.Trailing = omega arith

at-first : (text : List ℕ) (next : Piece) (f : Fault) → ComesNext text next → Breaks (RuleAlone front.none next) f
    → IsFirstFault text 1 f
at-first text next f comes breaks = first-fault text front.none text next tt tt comes refl 1 f refl breaks

pub first-line : (text line after more : List ℕ) → HasNoLf line → text ≡ line ++ 10 ∷ after
    → ((second : Bool) → line ≡ format_line second → ⊥) → IsFirstFault (text ++ more) 1 fault.Format
first-line text line after more one cut other =
    at-first (text ++ more) (whole line) fault.Format (line-comes text line after more one cut)
    (record { broken = λ rule. other rule.0 rule.1; least = first-kept (whole line) })

pub first-end : (text more : List ℕ) → HasNoLf text → more ≡ [] → length text ≤ max_line
    → IsFirstFault (text ++ more) 1 fault.Truncated
first-end text more one nothing short =
    at-first (text ++ more) (last text) fault.Truncated (end-comes text more one nothing)
    (record { broken = λ rule. rule; least = below })
  where
    below : (g : Fault) → fault_number g < 18 → RuleAlone front.none (last text) g
    below fault.Format lt = short
    below fault.Truncated lt = absurd (omega arith)
    below _ lt = tt

long-first : (next : Piece) → max_line < length (bytes_of next) → Rule start next fault.Format → ⊥
long-first (whole l) long (false, is) = absurd (omega (arith, ap length is, long))
long-first (whole l) long (true, is) = absurd (omega (arith, ap length is, long))
long-first (last l) long short = absurd (omega (arith, short, long))

pub first-long : (text more : List ℕ) → HasNoLf text → (next : Piece) → ComesNext (text ++ more) next
    → max_line < length (bytes_of next) → IsFirstFault (text ++ more) 1 fault.Format
first-long text more one next comes long =
    at-first (text ++ more) next fault.Format comes (record { broken = long-first next long; least = first-kept next })

pub nothing-decided_yet : (ds : List Decision)
    → All (λ e. (number : ℕ) × IsDecided ds e number)
    (filter_map logged_in (lines_read (record { sites = max_sites; whole = []; current = None })))
nothing-decided_yet ds = All-nil (λ e. (number : ℕ) × IsDecided ds e number)
