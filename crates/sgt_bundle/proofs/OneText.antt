-- No bytes spell two bundles.
use Rattle.std.proofs.Common.{◌≡◌, ℕ, suc, ◌+◌, ◌≤◌, Bool, true, false, List, [], ◌∷◌, ◌++◌, length, map, refl, sym, ap, ap₂, ◌∙◌, subst, arith, append_assoc, All}
use Rattle.std.specs.Prelude.{codes}
use Rattle.std.specs.List.{AllByRecursion}
use Rattle.std.proofs.lemmas.List.{append-nil}
use Rattle.std.proofs.lemmas.List.Elements.{All-cons, All-from_recursion, All-head, All-tail, recursion_from_All}
use Rattle.sgt_names.specs.Limits.{max_sites}
use Rattle.sgt_names.proofs.Lists.{AllByRecursion-append, heads, tails}
use Rattle.sgt_names.specs.declared.entry.Entry.{Entry}
use Rattle.sgt_names.specs.declared.entry.Holding.{Holding}
use Rattle.sgt_notation.specs.Spelling.{line_text, text_of_lines, IsEntry, IsHolding, IsLine}
use Rattle.sgt_notation.specs.declared.SectionLine.{SectionLine}
use Rattle.sgt_notation.specs.declared.SectionLine.TheVariants.{Site, Initial, Logged, Final, End}
use Rattle.sgt_notation.proofs.OneSpelling.{HasNot, HasNot-from_test, cut_at_byte, line-one, line-one_line}
use Rattle.sgt_bundle.specs.Parts.{FitTogether, Parts}
use Rattle.sgt_bundle.specs.Text.{certificate_text, format_line, has_increments, section_lines, sections_from, text_in, text_of, IsBundle, IsDecision, IsLog, Spells}
use Rattle.sgt_bundle.specs.declared.certificate.Certificate.{Certificate}
use Rattle.sgt_bundle.specs.declared.bundle.SiteLog.{SiteLog}
use Rattle.sgt_bundle.proofs.InRange.{written-bundle}
use Rattle.sgt_bundle.proofs.OneLine.{certificate-one_line}
use Rattle.sgt_bundle.proofs.Reading.{certificate-one}
use Rattle.sgt_notation.proofs.Texts.{line_front, first_line}
use Rattle.sgt_names.proofs.Elements.{no_line}

-- ---- sections have one reading

-- lines that begin otherwise
abbrev NotFrom : {A B : Type 0} → (A → B) → List B → Type 0
NotFrom {A} {B} f us = (a : A) (rest : List B) → us ≡ f a ∷ rest → ⊥

split_map : {A B : Type 0} (f : A → B) → ((a b : A) → f a ≡ f b → a ≡ b) → (xs ys : List A) (us vs : List B)
    → NotFrom f us → NotFrom f vs → map f xs ++ us ≡ map f ys ++ vs → (xs ≡ ys) × (us ≡ vs)
split_map f one [] [] us vs h g e = (refl, e)
split_map f one [] (y ∷ ys) us vs h g e = absurd (h y (map f ys ++ vs) e)
split_map f one (x ∷ xs) [] us vs h g e = absurd (g x (map f xs ++ us) (sym e))
split_map f one (x ∷ xs) (y ∷ ys) us vs h g e =
    let more = split_map f one xs ys us vs h g (tails (f x) (f y) (map f xs ++ us) (map f ys ++ vs) e) in
    (ap₂ (λ z zs. z ∷ zs) (one x y (heads (f x) (f y) (map f xs ++ us) (map f ys ++ vs) e)) more.0, more.1)

pub initial-one : (a b : Holding) → Initial a ≡ Initial b → a ≡ b
initial-one a b e = cc

pub logged-one : (a b : Entry) → Logged a ≡ Logged b → a ≡ b
logged-one a b e = cc

pub final-one : (a b : Holding) → Final a ≡ Final b → a ≡ b
final-one a b e = cc

after-items : (entries : List Entry) (finals : List Holding) (rest : List SectionLine)
    → NotFrom Initial (map Logged entries ++ (map Final finals ++ (End ∷ rest)))
after-items [] [] rest a more e = absurd cc
after-items [] (h ∷ finals) rest a more e = absurd cc
after-items (x ∷ entries) finals rest a more e = absurd cc

after-entries : (finals : List Holding) (rest : List SectionLine) → NotFrom Logged (map Final finals ++ (End ∷ rest))
after-entries [] rest a more e = absurd cc
after-entries (h ∷ finals) rest a more e = absurd cc

after-finals : (rest : List SectionLine) → NotFrom Final (End ∷ rest)
after-finals rest a more e = absurd cc

pub section_spread : (k : ℕ) (log : SiteLog) (back : List SectionLine)
    → section_lines k log ++ back ≡ Site k ∷
    (map Initial log.items ++ (map Logged log.entries ++ (map Final log.finals ++ (End ∷ back))))
section_spread k log back = simp append_assoc

pub section-one : (k : ℕ) (l m : SiteLog) (us vs : List SectionLine)
    → section_lines k l ++ us ≡ section_lines k m ++ vs → (l ≡ m) × (us ≡ vs)
section-one k l m us vs e =
    let e1 = sym (section_spread k l us) ∙ e ∙ section_spread k m vs in
    let rest =
    λ (log : SiteLog) (ws : List SectionLine). map Logged log.entries ++ (map Final log.finals ++ (End ∷ ws)) in
    let items =
    split_map Initial initial-one l.items m.items (rest l us) (rest m vs) (after-items l.entries l.finals us)
    (after-items m.entries m.finals vs) (tails (Site k) (Site k) (map Initial l.items ++ rest l us)
    (map Initial m.items ++ rest m vs) e1) in
    let entries = split_map Logged logged-one l.entries m.entries (map Final l.finals ++ (End ∷ us))
    (map Final m.finals ++ (End ∷ vs)) (after-entries l.finals us) (after-entries m.finals vs) items.1 in
    let finals = split_map Final final-one l.finals m.finals (End ∷ us) (End ∷ vs) (after-finals us)
    (after-finals vs) entries.1 in
    ((λ i. record { items = items.0 i; entries = entries.0 i; finals = finals.0 i }), tails End End us vs finals.1)

pub sections-one : (k : ℕ) (ls ms : List SiteLog) (us vs : List SectionLine) → length ls ≡ length ms
    → sections_from k ls ++ us ≡ sections_from k ms ++ vs → (ls ≡ ms) × (us ≡ vs)
sections-one k [] [] us vs len e = (refl, e)
sections-one k [] (m ∷ ms) us vs len e = absurd (omega arith)
sections-one k (l ∷ ls) [] us vs len e = absurd (omega arith)
sections-one k (l ∷ ls) (m ∷ ms) us vs len e =
    let e1 = sym (append_assoc (section_lines k l) (sections_from (suc k) ls) us) ∙ e
    ∙ append_assoc (section_lines k m) (sections_from (suc k) ms) vs in
    let first = section-one k l m (sections_from (suc k) ls ++ us) (sections_from (suc k) ms ++ vs) e1 in
    let more = sections-one (suc k) ls ms us vs (omega arith) first.1 in
    (ap₂ (λ z zs. z ∷ zs) first.0 more.0, more.1)

-- ---- and so have lines

-- lines that are a beginning of others
pub lines_front : (xs ys : List SectionLine) (rest : List ℕ) → AllByRecursion IsLine xs → AllByRecursion IsLine ys
    → text_of_lines (map line_text xs) ++ rest ≡ text_of_lines (map line_text ys)
    → (more : List SectionLine) × (ys ≡ xs ++ more) × (rest ≡ text_of_lines (map line_text more))
lines_front [] ys rest h g e = (ys, refl, e)
lines_front (x ∷ xs) [] rest h g e =
    absurd (no_line (line_text x) (text_of_lines (map line_text xs) ++ rest)
    (sym (line_front (line_text x) (map line_text xs) rest) ∙ e))
lines_front (x ∷ xs) (y ∷ ys) rest h g e =
    let e1 = sym (line_front (line_text x) (map line_text xs) rest) ∙ e ∙ first_line (line_text y) (map line_text ys) in
    let cut = cut_at_byte 10 (line_text x) (line_text y) (text_of_lines (map line_text xs) ++ rest)
    (text_of_lines (map line_text ys)) (line-one_line x h.0) (line-one_line y g.0) e1 in
    let more = lines_front xs ys rest h.1 g.1 cut.1 in
    (more.0, ap₂ (λ z zs. z ∷ zs) (sym (line-one x y h.0 g.0 cut.0)) more.1, more.2)

pub lines-one : (xs ys : List SectionLine) → AllByRecursion IsLine xs → AllByRecursion IsLine ys
    → text_of_lines (map line_text xs) ≡ text_of_lines (map line_text ys) → xs ≡ ys
lines-one [] [] h g e = refl
lines-one [] (y ∷ ys) h g e =
    absurd (no_line (line_text y) (text_of_lines (map line_text ys))
    (sym (first_line (line_text y) (map line_text ys)) ∙ sym e))
lines-one (x ∷ xs) [] h g e =
    absurd (no_line (line_text x) (text_of_lines (map line_text xs))
    (sym (first_line (line_text x) (map line_text xs)) ∙ e))
lines-one (x ∷ xs) (y ∷ ys) h g e =
    let e1 = sym (first_line (line_text x) (map line_text xs)) ∙ e ∙ first_line (line_text y) (map line_text ys) in
    let cut = cut_at_byte 10 (line_text x) (line_text y) (text_of_lines (map line_text xs))
    (text_of_lines (map line_text ys)) (line-one_line x h.0) (line-one_line y g.0) e1 in
    ap₂ (λ z zs. z ∷ zs) (line-one x y h.0 g.0 cut.0) (lines-one xs ys h.1 g.1 cut.1)

-- ---- the lines of a bundle have a spelling

initial-lines : (items : List Holding) → AllByRecursion IsHolding items → AllByRecursion IsLine (map Initial items)
initial-lines [] h = tt
initial-lines (x ∷ items) h = (h.0, initial-lines items h.1)

logged-lines : (entries : List Entry) → AllByRecursion IsEntry entries → AllByRecursion IsLine (map Logged entries)
logged-lines [] h = tt
logged-lines (e ∷ entries) h = (h.0, logged-lines entries h.1)

final-lines : (finals : List Holding) → AllByRecursion IsHolding finals → AllByRecursion IsLine (map Final finals)
final-lines [] h = tt
final-lines (x ∷ finals) h = (h.0, final-lines finals h.1)

pub sections-lines : (k : ℕ) (logs : List SiteLog) → k + length logs ≤ max_sites → All IsLog logs
    → AllByRecursion IsLine (sections_from k logs)
sections-lines k [] few h = tt
sections-lines k (log ∷ logs) few h =
    let first = All-head IsLog log logs h in
    let body = AllByRecursion-append IsLine (map Initial log.items ++ map Logged log.entries ++ map Final log.finals)
    (End ∷ [])
    (AllByRecursion-append IsLine (map Initial log.items ++ map Logged log.entries) (map Final log.finals)
    (AllByRecursion-append IsLine (map Initial log.items) (map Logged log.entries)
    (initial-lines log.items (recursion_from_All IsHolding log.items first.items))
    (logged-lines log.entries (recursion_from_All IsEntry log.entries first.entries)))
    (final-lines log.finals (recursion_from_All IsHolding log.finals first.finals))) (tt, tt) in
    AllByRecursion-append IsLine (section_lines k log) (sections_from (suc k) logs) (
      omega arith,
      body,
    ) (sections-lines (suc k) logs (omega arith) (All-tail IsLog log logs h))

-- ---- so a bundle has its text, and a text one bundle

pub text-from : (certificate : Certificate) (sites seen : List SiteLog) (bytes : List ℕ) → seen ≡ sites
    → bytes ≡ text_of (record { certificate = certificate; sites = seen })
    → bytes ≡ text_of (record { certificate = certificate; sites = sites })
text-from certificate sites seen bytes same e = e
    ∙ ap (λ (logs : List SiteLog). text_of (record { certificate = certificate; sites = logs })) same

pub spells-from : (certificate : Certificate) (sites seen : List SiteLog) (bytes : List ℕ)
    → FitTogether (record { certificate = certificate; sites = sites }) → seen ≡ sites
    → bytes ≡ text_of (record { certificate = certificate; sites = seen })
    → All (IsDecision max_sites) certificate.decisions → All IsLog seen
    → Spells bytes (record { certificate = certificate; sites = sites })
spells-from certificate sites seen bytes fit same e decisions logs =
    let is = written-bundle certificate sites fit decisions (subst (All IsLog) same logs) in
    record {
      certificate = is.certificate;
      shape = is.shape;
      logs = is.logs;
      second = has_increments sites;
      allowed = λ h. h;
      text = e ∙ ap (λ (logs : List SiteLog). text_of (record { certificate = certificate; sites = logs })) same;
    }

-- the formats of a bundle
pub in_second : (b : Parts) → IsBundle b → Spells (text_in true b) b
in_second b is = record {
  certificate = is.certificate;
  shape = is.shape;
  logs = is.logs;
  second = true;
  allowed =
      λ h. refl;
  text = refl;
}

pub in_first : (b : Parts) → IsBundle b → has_increments b.sites ≡ false → Spells (text_in false b) b
in_first b is none = record {
  certificate = is.certificate;
  shape = is.shape;
  logs = is.logs;
  second =
      false;
  allowed = λ h. sym none ∙ h;
  text = refl;
}

pub own-first : (b : Parts) → has_increments b.sites ≡ false → text_of b ≡ text_in false b
own-first b none = ap (λ t. text_in t b) none

pub in_second_alone : (b : Parts) (bytes : List ℕ) → Spells bytes b → has_increments b.sites ≡ true
    → (bytes ≡ text_in true b) × (text_of b ≡ text_in true b)
in_second_alone b bytes s some = (s.text ∙ ap (λ t. text_in t b) (s.allowed some), ap (λ t. text_in t b) some)

pub format-one_line : (second : Bool) → HasNot 10 (format_line second)
format-one_line true = HasNot-from_test 10 (codes "sgt 2") refl
format-one_line false = HasNot-from_test 10 (codes "sgt 1") refl

pub bundle-one : (bytes : List ℕ) (b c : Parts) → Spells bytes b → Spells bytes c → b ≡ c
bundle-one bytes b c s t =
    let body = λ (d : Parts). map line_text (sections_from 0 d.sites) in
    let after = λ (d : Parts). text_of_lines (certificate_text d.certificate ∷ body d) in
    let e = sym s.text ∙ t.text in
    let e1 = sym (first_line (format_line s.second) (certificate_text b.certificate ∷ body b)) ∙ e
    ∙ first_line (format_line t.second) (certificate_text c.certificate ∷ body c) in
    let cut = cut_at_byte 10 (format_line s.second) (format_line t.second) (after b) (after c)
    (format-one_line s.second) (format-one_line t.second) e1 in
    let e2 = sym (first_line (certificate_text b.certificate) (body b)) ∙ cut.1
    ∙ first_line (certificate_text c.certificate) (body c) in
    let cut2 = cut_at_byte 10 (certificate_text b.certificate) (certificate_text c.certificate)
    (text_of_lines (body b)) (text_of_lines (body c)) (certificate-one_line b.certificate s.certificate)
    (certificate-one_line c.certificate t.certificate) e2 in
    let certificate-is = certificate-one b.certificate c.certificate s.certificate t.certificate cut2.0 in
    let b-lines = sections-lines 0 b.sites (omega (arith, s.shape.each, s.shape.few)) s.logs in
    let c-lines = sections-lines 0 c.sites (omega (arith, t.shape.each, t.shape.few)) t.logs in
    let lines-are = lines-one (sections_from 0 b.sites) (sections_from 0 c.sites) b-lines c-lines cut2.1 in
    let len = s.shape.each ∙ ap (λ (d : Certificate). d.sites) certificate-is ∙ sym t.shape.each in
    let sites-are = sections-one 0 b.sites c.sites [] [] len (ap (λ (ls : List SectionLine). ls ++ []) lines-are) in
    λ i. record { certificate = certificate-is i; sites = sites-are.0 i }

-- ---- and lines with a spelling are of logs in their ranges

pub front-all : {A : Type 0} (P : A → Type 0) (xs ys : List A) → AllByRecursion P (xs ++ ys)
    → AllByRecursion P xs × AllByRecursion P ys
front-all P [] ys h = (tt, h)
front-all P (x ∷ xs) ys h = let more = front-all P xs ys h.1 in ((h.0, more.0), more.1)

items-from_lines : (items : List Holding) → AllByRecursion IsLine (map Initial items) → AllByRecursion IsHolding items
items-from_lines [] h = tt
items-from_lines (x ∷ items) h = (h.0, items-from_lines items h.1)

entries-from_lines : (entries : List Entry) → AllByRecursion IsLine (map Logged entries)
    → AllByRecursion IsEntry entries
entries-from_lines [] h = tt
entries-from_lines (x ∷ entries) h = (h.0, entries-from_lines entries h.1)

finals-from_lines : (finals : List Holding) → AllByRecursion IsLine (map Final finals) → AllByRecursion IsHolding finals
finals-from_lines [] h = tt
finals-from_lines (x ∷ finals) h = (h.0, finals-from_lines finals h.1)

log-from_lines : (k : ℕ) (log : SiteLog) (back : List SectionLine)
    → AllByRecursion IsLine (section_lines k log ++ back) → IsLog log × AllByRecursion IsLine back
log-from_lines k log back h =
    let spread = subst (AllByRecursion IsLine) (section_spread k log back) h in
    let items =
    front-all IsLine (map Initial log.items) (map Logged log.entries ++ (map Final log.finals ++ (End ∷ back)))
    spread.1 in
    let entries = front-all IsLine (map Logged log.entries) (map Final log.finals ++ (End ∷ back)) items.1 in
    let finals = front-all IsLine (map Final log.finals) (End ∷ back) entries.1 in (
      record {
        items = All-from_recursion IsHolding log.items (items-from_lines log.items items.0);
        entries = All-from_recursion IsEntry log.entries (entries-from_lines log.entries entries.0);
        finals = All-from_recursion IsHolding log.finals (finals-from_lines log.finals finals.0);
      },
      finals.1.1,
    )

pub logs-from_lines : (k : ℕ) (logs : List SiteLog) → AllByRecursion IsLine (sections_from k logs) → All IsLog logs
logs-from_lines k [] h = λ n d less. absurd (omega arith)
logs-from_lines k (log ∷ logs) h =
    let first = log-from_lines k log (sections_from (suc k) logs) h in
    All-cons IsLog log logs first.0 (logs-from_lines (suc k) logs first.1)
