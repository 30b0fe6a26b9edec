-- The lines of sections that are looked at, by a verdict.
use Rattle.std.proofs.Common.{◌≡◌, ◌≢◌, Bool, ℕ, suc, ◌+◌, ◌<◌, List, [], ◌∷◌, ◌++◌, ◌-◌, length, map, take, take_all, inl, inr, refl, sym, ap, ◌∙◌, subst, arith, append_assoc, append-nil, length-append, All}
use Rattle.std.proofs.lemmas.Grind.{flat_map-append}
use Rattle.std.proofs.lemmas.List.{length-map, take-append-le}
use Rattle.std.proofs.lemmas.List.Elements.{All-from_recursion}
use Rattle.sgt_notation.specs.Spelling.{line_text, text_of_lines, HasNoLf, IsLine}
use Rattle.sgt_notation.specs.declared.SectionLine.{SectionLine}
use Rattle.sgt_bundle.specs.Text.{certificate_text, format_line, sections_from, text_in, IsCertificate, Spells}
use Rattle.sgt_bundle.specs.Parts.{Parts}
use Rattle.sgt_bundle.specs.declared.certificate.Certificate.{Certificate}
use Rattle.sgt_bundle.proofs.OneLine.{certificate-one_line}
use Rattle.sgt_bundle.proofs.OneText.{format-one_line, sections-lines}
use Rattle.sgt_audit.specs.declared.verdict.Verdict.{Verdict}
use Rattle.sgt_audit.specs.declared.verdict.Verdict.TheVariants.{Yes, No}
use Rattle.sgt_audit.specs.Faults.{Stage, start, headed, within, complete, lines_so_far, IsFaultless, AllKept}
use Rattle.sgt_explain_lines.specs.Sited.{HasLines, HasBefore}
use Rattle.sgt_explain.specs.Asked.{AreSeen, seen_before}
use Rattle.sgt_explain.specs.Shown.{lines_before}
use Rattle.sgt_explain.proofs.FaultyLine.{kept-spelled}
use Rattle.sgt_notation.proofs.Texts.{lines-long}

abbrev two_lines : Bool → Certificate → List (List ℕ)
two_lines second c = format_line second ∷ certificate_text c ∷ []

two-plain : (second : Bool) (c : Certificate) → IsCertificate c → All HasNoLf (two_lines second c)
two-plain second c is = All-from_recursion HasNoLf (two_lines second c) (
  All-from_recursion (λ b. b ≢ 10) (format_line second) (format-one_line second),
  (All-from_recursion (λ b. b ≢ 10) (certificate_text c) (certificate-one_line c is), tt),
)

-- the lines behind the first two, with what stands behind them
text-parts : (second : Bool) (c : Certificate) (before : List SectionLine) (rest : List ℕ)
    → text_of_lines (format_line second ∷ certificate_text c ∷ map line_text before) ++ rest ≡ text_of_lines
    (two_lines second c) ++ (text_of_lines (map line_text before) ++ rest)
text-parts second c before rest =
    ap (λ t. t ++ rest) (flat_map-append (λ m. m ++ 10 ∷ []) (two_lines second c) (map line_text before))
    ∙ append_assoc (text_of_lines (two_lines second c)) (text_of_lines (map line_text before)) rest

lines-of : (bytes rest : List ℕ) (n : ℕ) (second : Bool) (c : Certificate) (before : List SectionLine)
    → bytes ≡ text_of_lines (lines_so_far (within second c before)) ++ rest
    → AllKept second c before → n ≡ length (lines_so_far (within second c before)) + 1 → HasLines bytes n before
lines-of bytes rest n second c before text kept number =
    let lines : length (lines_so_far (within second c before)) ≡ suc (suc (length (map line_text before))) = refl in
    let long : length (map line_text before) ≡ length before = length-map before line_text in
    record {
      head = two_lines second c;
      rest = rest;
      two = refl;
      whole = two-plain second c kept.spelled;
      spelled = kept-spelled second c before kept;
      text = text ∙ text-parts second c before rest;
      ends = inl (omega (arith, number, lines, long));
    }

seen-stage : (bytes rest : List ℕ) (n : ℕ) (stage : Stage) → bytes ≡ text_of_lines (lines_so_far stage) ++ rest
    → IsFaultless stage → n ≡ length (lines_so_far stage) + 1
    → HasBefore bytes n (lines_before stage)
seen-stage bytes rest n start text kept number = inl (refl, omega (arith, number))
seen-stage bytes rest n (headed second) text kept number = inl (refl, omega (arith, number))
seen-stage bytes rest n (within second c before) text kept number =
    inr (lines-of bytes rest n second c before text kept.0 number)
seen-stage bytes rest n (complete second c before) text kept number =
    inr (lines-of bytes rest n second c before text kept.0 number)

seen-all : (bytes : List ℕ) (b : Parts) → Spells bytes b → length bytes < 18446744073709551615
    → HasBefore bytes 18446744073709551615 (sections_from 0 b.sites)
seen-all bytes b s short =
    let lines = sections_from 0 b.sites in
    let whole : bytes ≡ text_of_lines (two_lines s.second b.certificate) ++
    (text_of_lines (map line_text lines) ++ []) =
    s.text ∙ sym (append-nil (text_in s.second b)) ∙ text-parts s.second b.certificate lines [] in
    let same : length (map line_text lines) ≡ length lines = length-map lines line_text in
    let all = lines-long (format_line s.second ∷ certificate_text b.certificate ∷ map line_text lines) in
    let size = ap length s.text in
    let sites = s.shape.each in
    let few = s.shape.few in
    inr (record {
      head = two_lines s.second b.certificate;
      rest = [];
      two = refl;
      whole = two-plain s.second b.certificate s.certificate;
      spelled = All-from_recursion IsLine lines (sections-lines 0 b.sites (omega (arith, sites, few)) s.logs);
      text = whole;
      ends = inr (refl, omega (arith, same, all, size, short));
    })

pub seen-lines : (bytes : List ℕ) (v : Verdict) (lines : List SectionLine) → length bytes < 18446744073709551615
    → AreSeen bytes v lines → HasBefore bytes (seen_before v) lines
seen-lines bytes (No line f) lines short seen =
    let first = seen.0 in
    subst (HasBefore bytes line) (sym seen.1) (seen-stage bytes first.rest line first.stage first.text first.faultless
    first.number)
seen-lines bytes (Yes committed refused withdrawn) lines short seen =
    subst (HasBefore bytes 18446744073709551615) (sym seen.2) (seen-all bytes seen.0 seen.1 short)

-- what stands before the rest
pub front-is : (bytes front rest : List ℕ) → bytes ≡ front ++ rest → (n : ℕ) → n ≡ length bytes - length rest
    → take n bytes ≡ front
front-is bytes front rest e n size =
    let long = ap length e ∙ length-append front rest in
    let same : n ≡ length front = omega (arith, size, long) in
    ap (take n) e ∙ take-append-le n front rest (omega (arith, same)) ∙ take_all n front (omega (arith, same))
