-- A text has at most one first fault, and none where it spells a valid bundle.
use Rattle.std.proofs.Common.{◌≡◌, ◌≢◌, ℕ, ◌+◌, Bool, List, [], ◌∷◌, ◌++◌, map, length, refl, sym, ap, ap₂, ◌∙◌, subst, subst₂, arith, inl, inr, ◌⊎◌, append_assoc}
use Rattle.std.specs.List.{AllByRecursion}
use Rattle.std.proofs.lemmas.Bool.{cases_order}
use Rattle.std.proofs.lemmas.List.{append-nil}
use Rattle.std.proofs.lemmas.List.Elements.{recursion_from_All}
use Rattle.sgt_notation.specs.Spelling.{line_text, text_of_lines, HasNoLf, IsLine}
use Rattle.sgt_notation.proofs.OneSpelling.{HasNot, cut_at_byte, line-one, line-one_line}
use Rattle.sgt_notation.specs.declared.SectionLine.{SectionLine}
use Rattle.sgt_bundle.specs.Text.{certificate_text, format_line, sections_from, IsCertificate, AreSections}
use Rattle.sgt_bundle.specs.declared.certificate.Certificate.{Certificate}
use Rattle.sgt_bundle.proofs.Reading.{certificate-one}
use Rattle.sgt_bundle.proofs.OneLine.{certificate-one_line}
use Rattle.sgt_bundle.proofs.OneText.{format-one_line, sections-one}
use Rattle.sgt_audit.specs.declared.faults.Fault.{Fault}
use Rattle.sgt_audit.specs.declared.faults.Fault.TheVariants as fault
use Rattle.sgt_audit.specs.Faults.{fault_number, IsLineIn, Keeps, KeepsItself, AllKept, Stage, start, headed, within, complete, lines_so_far, IsFaultless, Piece, whole, last, ComesNext, Rule, Breaks, FirstFault, HasNoFault, bytes_of, reach}
use Rattle.sgt_audit.proofs.FaultNumbers.{number-one}
use Rattle.sgt_audit.proofs.Formats.{format-one}
use Rattle.sgt_notation.proofs.Texts.{has_no_lf, line_front}

-- ---- the next piece

-- a text that goes on with a line feed is not what stands behind the last one
pub has_lf : (xs ys : List ℕ) → HasNoLf (xs ++ 10 ∷ ys) → ⊥
has_lf xs ys h = go xs ys (recursion_from_All (λ b. b ≢ 10) (xs ++ 10 ∷ ys) h)
  where
    go : (xs ys : List ℕ) → AllByRecursion (λ b. b ≢ 10) (xs ++ 10 ∷ ys) → ⊥
    go [] ys h = h.0 refl
    go (x ∷ xs) ys h = go xs ys h.1

-- where a line stands, that line comes next
pub comes_line : (l more rest : List ℕ) (p : Piece) → HasNot 10 l → rest ≡ l ++ 10 ∷ more → ComesNext rest p
    → p ≡ whole l
comes_line l more rest (whole m) h e (after, is, one) =
    ap whole (cut_at_byte 10 m l after more (has_no_lf m one) h (sym is ∙ e)).0
comes_line l more rest (last m) h e (is, one) = absurd (has_lf l more (subst HasNoLf (sym is ∙ e) one))

pub one_piece : (rest : List ℕ) (p q : Piece) → ComesNext rest p → ComesNext rest q → p ≡ q
one_piece rest p (whole m) comes (more, is, one) = comes_line m more rest p (has_no_lf m one) is comes
one_piece rest (whole l) (last m) (more, is, one) comes =
    sym (comes_line l more rest (last m) (has_no_lf l one) is comes)
one_piece rest (last l) (last m) (is, one) (as_is, none) = ap last (sym is ∙ as_is)

-- ---- lines of one text

-- the second list of lines has one more behind the first, which comes next there
pub record Beyond (xs ys : List SectionLine) (rest : List ℕ) : Type 0 where
  pub line : SectionLine
  pub more : List SectionLine
  pub after : List ℕ
  pub cut : ys ≡ xs ++ line ∷ more
  pub next : rest ≡ line_text line ++ 10 ∷ after

abbrev pub Compared : List SectionLine → List SectionLine → List ℕ → List ℕ → Type 0
Compared xs ys r s = ((xs ≡ ys) × (r ≡ s)) ⊎ (Beyond xs ys r ⊎ Beyond ys xs s)

beyond-more : (x y : SectionLine) (xs ys : List SectionLine) (r : List ℕ) → x ≡ y → Beyond xs ys r
    → Beyond (x ∷ xs) (y ∷ ys) r
beyond-more x y xs ys r same b = record {
  line = b.line;
  more = b.more;
  after = b.after;
  cut =
      ap₂ (λ z zs. z ∷ zs) (sym same) b.cut;
  next = b.next;
}

pub compare : (xs ys : List SectionLine) (r s : List ℕ) → AllByRecursion IsLine xs → AllByRecursion IsLine ys
    → text_of_lines (map line_text xs) ++ r ≡ text_of_lines (map line_text ys) ++ s → Compared xs ys r s
compare [] [] r s h g e = inl (refl, e)
compare [] (y ∷ ys) r s h g e =
    inr (inl (record {
      line = y;
      more = ys;
      after = text_of_lines (map line_text ys) ++ s;
      cut = refl;
      next = e
          ∙ line_front (line_text y) (map line_text ys) s;
    }))
compare (x ∷ xs) [] r s h g e =
    inr (inr (record {
      line = x;
      more = xs;
      after = text_of_lines (map line_text xs) ++ r;
      cut = refl;
      next = sym e
          ∙ line_front (line_text x) (map line_text xs) r;
    }))
compare (x ∷ xs) (y ∷ ys) r s h g e =
    let e1 = sym (line_front (line_text x) (map line_text xs) r) ∙ e ∙ line_front (line_text y) (map line_text ys) s in
    let cut = cut_at_byte 10 (line_text x) (line_text y) (text_of_lines (map line_text xs) ++ r)
    (text_of_lines (map line_text ys) ++ s) (line-one_line x h.0) (line-one_line y g.0) e1 in
    let same = line-one x y h.0 g.0 cut.0 in
    elim (compare xs ys r s h.1 g.1 cut.1) [
      | inl both ↦ inl (ap₂ (λ z zs. z ∷ zs) same both.0, both.1)
      | inr (inl b) ↦ inr (inl (beyond-more x y xs ys r same b))
      | inr (inr b) ↦ inr (inr (beyond-more y x ys xs s (sym same) b))
    ]

pub each_line : (P : SectionLine → Type 0) (xs : List SectionLine)
    → ((earlier later : List SectionLine) (l : SectionLine) → xs ≡ earlier ++ l ∷ later → P l) → AllByRecursion P xs
each_line P [] h = tt
each_line P (x ∷ xs) h =
    (h [] xs x refl, each_line P xs (λ earlier later l e. h (x ∷ earlier) later l (ap (λ ys. x ∷ ys) e)))

kept-lines : (second : Bool) (c : Certificate) (before : List SectionLine) → AllKept second c before
    → AllByRecursion IsLine before
kept-lines second c before kept = each_line IsLine before (λ earlier later l e. (kept.lines earlier later l e).0.0)

-- ---- two stages of one text

-- the next piece is a line, which keeps every rule
record MeetsGoodLine (s : Stage) (p : Piece) : Type 0 where
  line : List ℕ
  is : p ≡ whole line
  keeps : (f : Fault) → Rule s p f

abbrev Meet : Stage → Piece → Stage → Piece → Type 0
Meet s p t q = ((s ≡ t) × (p ≡ q)) ⊎ (MeetsGoodLine s p ⊎ MeetsGoodLine t q)

turned : (s t : Stage) (p q : Piece) → Meet s p t q → Meet t q s p
turned s t p q (inl both) = inl (sym both.0, sym both.1)
turned s t p q (inr (inl on)) = inr (inr on)
turned s t p q (inr (inr on)) = inr (inl on)

start-on : (second : Bool) (p : Piece) → p ≡ whole (format_line second) → MeetsGoodLine start p
start-on second p e =
    record { line = format_line second; is = e; keeps = subst (λ q. (f : Fault) → Rule start q f) (sym e) holds }
  where
    holds : (f : Fault) → Rule start (whole (format_line second)) f
    holds fault.Format = (second, refl)
    holds _ = tt

headed-on : (second : Bool) (c : Certificate) → IsCertificate c → ((f : Fault) → KeepsItself c.decisions f)
    → (p : Piece) → p ≡ whole (certificate_text c) → MeetsGoodLine (headed second) p
headed-on second c spelled itself p e =
    record {
      line = certificate_text c;
      is = e;
      keeps =
          subst (λ q. (f : Fault) → Rule (headed second) q f) (sym e) holds;
    }
  where
    same : (f : Fault) (d : Certificate) → IsCertificate d → certificate_text c ≡ certificate_text d
        → KeepsItself d.decisions f
    same f d is eq = subst (λ d. KeepsItself d.decisions f) (certificate-one c d spelled is eq) (itself f)

    holds : (f : Fault) → Rule (headed second) (whole (certificate_text c)) f
    holds fault.Certificate = (c, spelled, refl)
    holds fault.Ranks = same fault.Ranks
    holds fault.DecidedTwice = same fault.DecidedTwice
    holds fault.WalkShape = same fault.WalkShape
    holds _ = λ d is eq. tt

within-on : (second : Bool) (c : Certificate) (earlier : List SectionLine) (line : SectionLine) → IsLineIn second line
    → ((f : Fault) → Keeps c earlier line f) → (p : Piece) → p ≡ whole (line_text line)
    → MeetsGoodLine (within second c earlier) p
within-on second c earlier line is keeps p e =
    record {
      line = line_text line;
      is = e;
      keeps =
          subst (λ q. (f : Fault) → Rule (within second c earlier) q f) (sym e) holds;
    }
  where
    holds : (f : Fault) → Rule (within second c earlier) (whole (line_text line)) f
    holds fault.Notation = (line, is, refl)
    holds f = λ m is_line same. subst (λ k. Keeps c earlier k f) (line-one line m is.0 is_line.0 same) (keeps f)

pub no_more : (l : SectionLine) (ls : List SectionLine) → l ∷ ls ≡ [] → ⊥
no_more l ls e = cc

-- no line of the sections follows all of them
ended : (second : Bool) (c : Certificate) (xs ys : List SectionLine) (line : SectionLine) (more : List SectionLine)
    → AreSections c.sites xs → AllKept second c ys → ys ≡ xs ++ line ∷ more → ⊥
ended second c xs ys line more (logs, shaped, all) kept cut =
    let begins = (kept.lines xs more line cut).1 fault.Section in
    let len = shaped.each ∙ sym begins.2.each in
    let same = ap (λ (ls : List SectionLine). ls ++ line ∷ begins.1) all ∙ sym (append_assoc xs (line ∷ []) begins.1)
    ∙ sym begins.3 ∙ sym (append-nil (sections_from 0 begins.0)) in
    no_more line begins.1 (sections-one 0 logs begins.0 (line ∷ begins.1) [] len same).1

-- ---- stages behind the certificate

module _ (second : Bool) (c : Certificate) (xs ys : List SectionLine) (r s : List ℕ) (p q : Piece)
    (comes : ComesNext r p) (goes : ComesNext s q) (e : text_of_lines (map line_text xs) ++ r ≡ text_of_lines
    (map line_text ys) ++ s) where
  compared : AllKept second c xs → AllKept second c ys → Compared xs ys r s
  compared kept good = compare xs ys r s (kept-lines second c xs kept) (kept-lines second c ys good) e

  beyond-on : AllKept second c ys → Beyond xs ys r → MeetsGoodLine (within second c xs) p
  beyond-on good b =
      let kept = good.lines xs b.more b.line b.cut in
      within-on second c xs b.line kept.0 kept.1 p
      (comes_line (line_text b.line) b.after r p (line-one_line b.line kept.0.0) b.next comes)

  within-within : IsFaultless (within second c xs) → IsFaultless (within second c ys)
      → ((xs ≡ ys) × (p ≡ q)) ⊎ (MeetsGoodLine (within second c xs) p ⊎ Beyond ys xs s)
  within-within kept good =
      elim (compared kept.0 good.0) [
        | inl both ↦ inl (both.0, one_piece s p q (subst (λ t. ComesNext t p) both.1 comes) goes)
        | inr (inl b) ↦ inr (inl (beyond-on good.0 b))
        | inr (inr b) ↦ inr (inr b)
      ]

  within-complete : IsFaultless (within second c xs) → IsFaultless (complete second c ys)
      → MeetsGoodLine (within second c xs) p
  within-complete kept good =
      elim (compared kept.0 good.0) [
        | inl both ↦ absurd (kept.1 (subst (AreSections c.sites) (sym both.0) good.1))
        | inr (inl b) ↦ beyond-on good.0 b
        | inr (inr b) ↦ absurd (ended second c ys xs b.line b.more good.1 kept.0 b.cut)
      ]

  complete-complete : IsFaultless (complete second c xs) → IsFaultless (complete second c ys) → (xs ≡ ys) × (p ≡ q)
  complete-complete kept good =
      elim (compared kept.0 good.0) [
        | inl both ↦ (both.0, one_piece s p q (subst (λ t. ComesNext t p) both.1 comes) goes)
        | inr (inl b) ↦ absurd (ended second c xs ys b.line b.more kept.1 good.0 b.cut)
        | inr (inr b) ↦ absurd (ended second c ys xs b.line b.more good.1 kept.0 b.cut)
      ]

module _ (second : Bool) (c : Certificate) (xs ys : List SectionLine) (r s : List ℕ) (p q : Piece)
    (comes : ComesNext r p) (goes : ComesNext s q) (e : text_of_lines (map line_text xs) ++ r ≡ text_of_lines
    (map line_text ys) ++ s) where
  meet-within : IsFaultless (within second c xs) → IsFaultless (within second c ys)
      → Meet (within second c xs) p (within second c ys) q
  meet-within kept good =
      elim (within-within second c xs ys r s p q comes goes e kept good) [
        | inl both ↦ inl (ap (within second c) both.0, both.1)
        | inr (inl on) ↦ inr (inl on)
        | inr (inr b) ↦ inr (inr (beyond-on second c ys xs s r q p goes comes (sym e) kept.0 b))
      ]

  meet-complete : IsFaultless (complete second c xs) → IsFaultless (complete second c ys)
      → Meet (complete second c xs) p (complete second c ys) q
  meet-complete kept good = let both = complete-complete second c xs ys r s p q comes goes e kept good in
      inl (ap (complete second c) both.0, both.1)

-- the text from the certificate's line on
headed_text : (second : Bool) (rest : List ℕ)
    → text_of_lines (lines_so_far (headed second)) ++ rest ≡ format_line second ++ 10 ∷ rest
headed_text second rest = line_front (format_line second) [] rest

within_text : (second : Bool) (c : Certificate) (xs : List SectionLine) (rest : List ℕ)
    → text_of_lines (lines_so_far (within second c xs)) ++ rest ≡ format_line second ++ 10 ∷
    (certificate_text c ++ 10 ∷ (text_of_lines (map line_text xs) ++ rest))
within_text second c xs rest = line_front (format_line second) (certificate_text c ∷ map line_text xs) rest
    ∙ ap (λ (ys : List ℕ). format_line second ++ 10 ∷ ys) (line_front (certificate_text c) (map line_text xs) rest)

pub behind : (f g : Bool) (xs ys : List ℕ) → format_line f ++ 10 ∷ xs ≡ format_line g ++ 10 ∷ ys → (f ≡ g) × (xs ≡ ys)
behind f g xs ys e =
    let cut = cut_at_byte 10 (format_line f) (format_line g) xs ys (format-one_line f) (format-one_line g) e in
    (format-one f g cut.0, cut.1)

-- both stages are within or complete: they have one format and one certificate
module _ (f g : Bool) (c d : Certificate) (xs ys : List SectionLine) (r s : List ℕ) (p q : Piece)
    (comes : ComesNext r p) (goes : ComesNext s q)
    (e : text_of_lines (lines_so_far (within f c xs)) ++ r ≡ text_of_lines (lines_so_far (within g d ys)) ++ s) where
  one_head : AllKept f c xs → AllKept g d ys
      → (f ≡ g) × (c ≡ d) × (text_of_lines (map line_text xs) ++ r ≡ text_of_lines (map line_text ys) ++ s)
  one_head kept good =
      let both = behind f g (certificate_text c ++ 10 ∷ (text_of_lines (map line_text xs) ++ r))
      (certificate_text d ++ 10 ∷ (text_of_lines (map line_text ys) ++ s)) (sym (within_text f c xs r) ∙ e
      ∙ within_text g d ys s) in
      let cut = cut_at_byte 10 (certificate_text c) (certificate_text d) (text_of_lines (map line_text xs) ++ r)
      (text_of_lines (map line_text ys) ++ s) (certificate-one_line c kept.spelled)
      (certificate-one_line d good.spelled) both.1 in
      (both.0, certificate-one c d kept.spelled good.spelled cut.0, cut.1)

  two-within : IsFaultless (within f c xs) → IsFaultless (within g d ys) → Meet (within f c xs) p (within g d ys) q
  two-within kept good =
      let head = one_head kept.0 good.0 in
      subst₂ (λ h k. IsFaultless (within h k ys) → Meet (within f c xs) p (within h k ys) q) head.0 head.1
      (λ here. meet-within f c xs ys r s p q comes goes head.2 kept here) good

  two-mixed : IsFaultless (within f c xs) → IsFaultless (complete g d ys) → Meet (within f c xs) p (complete g d ys) q
  two-mixed kept good =
      let head = one_head kept.0 good.0 in
      subst₂ (λ h k. IsFaultless (complete h k ys) → Meet (within f c xs) p (complete h k ys) q) head.0 head.1
      (λ here. inr (inl (within-complete f c xs ys r s p q comes goes head.2 kept here))) good

  two-complete : IsFaultless (complete f c xs) → IsFaultless (complete g d ys)
      → Meet (complete f c xs) p (complete g d ys) q
  two-complete kept good =
      let head = one_head kept.0 good.0 in
      subst₂ (λ h k. IsFaultless (complete h k ys) → Meet (complete f c xs) p (complete h k ys) q) head.0 head.1
      (λ here. meet-complete f c xs ys r s p q comes goes head.2 kept here) good

-- the first line comes next, the second one
on_first : (f : Bool) (r more : List ℕ) (p : Piece) → ComesNext r p → r ≡ format_line f ++ 10 ∷ more
    → MeetsGoodLine start p
on_first f r more p comes e = start-on f p (comes_line (format_line f) more r p (format-one_line f) e comes)

on_second : (f g : Bool) (c : Certificate) (xs : List SectionLine) (r s : List ℕ) (p : Piece) → AllKept g c xs
    → ComesNext r p → text_of_lines (lines_so_far (headed f)) ++ r ≡ text_of_lines (lines_so_far (within g c xs)) ++ s
    → MeetsGoodLine (headed f) p
on_second f g c xs r s p kept comes e =
    let more = text_of_lines (map line_text xs) ++ s in
    let at = (behind f g r (certificate_text c ++ 10 ∷ more) (sym (headed_text f r) ∙ e ∙ within_text g c xs s)).1 in
    headed-on f c kept.spelled kept.itself p
    (comes_line (certificate_text c) more r p (certificate-one_line c kept.spelled) at comes)

-- two stages behind the first line are one
on_headed : (f g : Bool) (a b : List ℕ) (p q : Piece) → ComesNext a p → ComesNext b q
    → text_of_lines (lines_so_far (headed f)) ++ a ≡ text_of_lines (lines_so_far (headed g)) ++ b
    → Meet (headed f) p (headed g) q
on_headed f g a b p q comes goes e =
    let both = behind f g a b (sym (headed_text f a) ∙ e ∙ headed_text g b) in
    inl (ap headed both.0, one_piece b p q (subst (λ r. ComesNext r p) both.1 comes) goes)

-- two stages of one text, both with no fault: they are one, or behind one of them comes a line that keeps every rule
meet : (s t : Stage) (a b : List ℕ) (p q : Piece) → IsFaultless s → IsFaultless t → ComesNext a p → ComesNext b q
    → text_of_lines (lines_so_far s) ++ a ≡ text_of_lines (lines_so_far t) ++ b → Meet s p t q
meet start start a b p q kept good comes goes e = inl (refl, one_piece b p q (subst (λ r. ComesNext r p) e comes) goes)
meet start (headed g) a b p q kept good comes goes e = inr (inl (on_first g a b p comes (e ∙ headed_text g b)))
meet start (within g d ys) a b p q kept good comes goes e =
    inr (inl (on_first g a (certificate_text d ++ 10 ∷ (text_of_lines (map line_text ys) ++ b)) p comes (e
    ∙ within_text g d ys b)))
meet start (complete g d ys) a b p q kept good comes goes e =
    inr (inl (on_first g a (certificate_text d ++ 10 ∷ (text_of_lines (map line_text ys) ++ b)) p comes (e
    ∙ within_text g d ys b)))
meet (headed f) start a b p q kept good comes goes e = inr (inr (on_first f b a q goes (sym e ∙ headed_text f a)))
meet (headed f) (headed g) a b p q kept good comes goes e = on_headed f g a b p q comes goes e
meet (headed f) (within g d ys) a b p q kept good comes goes e = inr (inl (on_second f g d ys a b p good.0 comes e))
meet (headed f) (complete g d ys) a b p q kept good comes goes e = inr (inl (on_second f g d ys a b p good.0 comes e))
meet (within f c xs) start a b p q kept good comes goes e =
    inr (inr (on_first f b (certificate_text c ++ 10 ∷ (text_of_lines (map line_text xs) ++ a)) q goes (sym e
    ∙ within_text f c xs a)))
meet (within f c xs) (headed g) a b p q kept good comes goes e =
    inr (inr (on_second g f c xs b a q kept.0 goes (sym e)))
meet (within f c xs) (within g d ys) a b p q kept good comes goes e =
    two-within f g c d xs ys a b p q comes goes e kept good
meet (within f c xs) (complete g d ys) a b p q kept good comes goes e =
    two-mixed f g c d xs ys a b p q comes goes e kept good
meet (complete f c xs) start a b p q kept good comes goes e =
    inr (inr (on_first f b (certificate_text c ++ 10 ∷ (text_of_lines (map line_text xs) ++ a)) q goes (sym e
    ∙ within_text f c xs a)))
meet (complete f c xs) (headed g) a b p q kept good comes goes e =
    inr (inr (on_second g f c xs b a q kept.0 goes (sym e)))
meet (complete f c xs) (within g d ys) a b p q kept good comes goes e =
    turned (within g d ys) (complete f c xs) q p (two-mixed g f d c ys xs b a q p goes comes (sym e) good kept)
meet (complete f c xs) (complete g d ys) a b p q kept good comes goes e =
    two-complete f g c d xs ys a b p q comes goes e kept good

-- of the rules of one place one fault is the least that is broken
least-one : (rule : Fault → Type 0) (f g : Fault) → Breaks rule f → Breaks rule g → f ≡ g
least-one rule f g first other =
    elim (cases_order (fault_number f) (fault_number g)) [
      | inl same ↦ number-one f g same
      | inr (inl less) ↦ absurd (first.broken (other.least f less))
      | inr (inr more) ↦ absurd (other.broken (first.least g more))
    ]

-- two first faults of one text are one, line and number
pub first_fault-one : (bytes : List ℕ) (m n : ℕ) (f g : Fault) → FirstFault bytes m f → FirstFault bytes n g
    → (m ≡ n) × (f ≡ g)
first_fault-one bytes m n f g first other =
    elim (meet first.stage other.stage first.rest other.rest first.next other.next first.faultless other.faultless
    first.comes other.comes (sym first.text ∙ other.text)) [
      | inl both ↦ (
        first.number ∙ ap (λ s. length (lines_so_far s) + 1) both.0 ∙ sym other.number,
        least-one (Rule other.stage other.next) f g
            (subst (λ s. Breaks (Rule s other.next) f) both.0
            (subst (λ p. Breaks (Rule first.stage p) f) both.1 first.breaks)) other.breaks,
      )
      | inr (inl on) ↦ absurd (first.breaks.broken (on.keeps f))
      | inr (inr on) ↦ absurd (other.breaks.broken (on.keeps g))
    ]

-- and they reach as far
pub reach-one : (bytes : List ℕ) (m n : ℕ) (f g : Fault) (first : FirstFault bytes m f) (other : FirstFault bytes n g)
    → reach bytes m f first ≡ reach bytes n g other
reach-one bytes m n f g first other =
    elim (meet first.stage other.stage first.rest other.rest first.next other.next first.faultless other.faultless
    first.comes other.comes (sym first.text ∙ other.text)) [
      | inl both ↦ ap₂ (λ s p. length (text_of_lines (lines_so_far s)) + length (bytes_of p) + 1) both.0 both.1
      | inr (inl on) ↦ absurd (first.breaks.broken (on.keeps f))
      | inr (inr on) ↦ absurd (other.breaks.broken (on.keeps g))
    ]

complete-holds : (second : Bool) (c : Certificate) (lines : List SectionLine) (f : Fault)
    → Rule (complete second c lines) (last []) f
complete-holds second c lines fault.Trailing = refl
complete-holds second c lines _ = tt

not_a_line : (l : List ℕ) → last [] ≡ whole l → ⊥
not_a_line l e = cc

-- a text with no fault has no first one
pub first_fault-excluded : (bytes : List ℕ) (n : ℕ) (f : Fault) → FirstFault bytes n f → HasNoFault bytes → ⊥
first_fault-excluded bytes n f first (second, c, before, good, text) =
    let none : ComesNext [] (last []) = (refl, λ k d lt. absurd (omega arith)) in
    elim (meet first.stage (complete second c before) first.rest [] first.next (last []) first.faultless good
    first.comes none (sym first.text ∙ text
    ∙ sym (append-nil (text_of_lines (lines_so_far (complete second c before)))))) [
      | inl both ↦ first.breaks.broken
          (subst (λ s. Rule s first.next f) (sym both.0)
          (subst (λ p. Rule (complete second c before) p f) (sym both.1) (complete-holds second c before f)))
      | inr (inl on) ↦ first.breaks.broken (on.keeps f)
      | inr (inr on) ↦ not_a_line on.line on.is
    ]
