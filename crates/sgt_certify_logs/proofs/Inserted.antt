-- A certificate's line, put into the text of logs.
use Rattle.std.proofs.Common.{◌≡◌, ◌≢◌, ℕ, suc, List, [], ◌∷◌, ◌++◌, length, map, refl, sym, ap, ap₂, ◌∙◌, subst, arith}
use Rattle.std.proofs.lemmas.List.Elements.{recursion_from_All}
use Rattle.sgt_notation.specs.Spelling.{line_text, text_of_lines, HasNoLf}
use Rattle.sgt_notation.proofs.OneSpelling.{HasNot, cut_at_byte}
use Rattle.sgt_bundle.specs.Parts.{Parts, IsShaped}
use Rattle.sgt_bundle.specs.Text.{certificate_text, format_line, sections_from, IsCertificate, Spells}
use Rattle.sgt_bundle.specs.declared.certificate.Certificate.{Certificate}
use Rattle.sgt_bundle.specs.declared.bundle.SiteLog.{SiteLog}
use Rattle.sgt_bundle.proofs.OneLine.{certificate-one_line}
use Rattle.sgt_bundle.proofs.OneText.{lines-one, section-one, sections-lines, format-one_line}
use Rattle.sgt_certify_logs.specs.Certifiable.{SpellsLogs, IsWithLine}
use Rattle.sgt_notation.proofs.Texts.{has_no_lf, first_line}

abbrev body : List SiteLog → List (List ℕ)
body sites = map line_text (sections_from 0 sites)

pub with-bundle : (bytes text : List ℕ) (c : Certificate) (sites : List SiteLog)
    → IsWithLine bytes (certificate_text c) text → IsCertificate c
    → c.sites ≡ length sites → SpellsLogs bytes sites → Spells text (record { certificate = c; sites = sites })
with-bundle bytes text c sites made is many logs =
    let e = sym made.given ∙ logs.text ∙ first_line (format_line logs.second) (body sites) in
    let cut = cut_at_byte 10 made.front (format_line logs.second) made.rest (text_of_lines (body sites))
    (has_no_lf made.front made.first) (format-one_line logs.second) e in
    record {
      certificate = is;
      shape = subst (λ n. IsShaped n sites) (sym many) logs.shape;
      logs = logs.logs;
      second = logs.second;
      allowed = logs.allowed;
      text = made.made
          ∙ ap₂ (λ (f r : List ℕ). f ++ 10 ∷ (certificate_text c ++ 10 ∷ r)) cut.0 cut.1
          ∙ ap (λ (r : List ℕ). format_line logs.second ++ 10 ∷ r) (sym (first_line (certificate_text c) (body sites)))
          ∙ sym (first_line (format_line logs.second) (certificate_text c ∷ body sites));
    }

pub with-logs : (bytes line text : List ℕ) (b : Parts) → IsWithLine bytes line text → Spells text b
    → SpellsLogs bytes b.sites × (line ≡ certificate_text b.certificate)
with-logs bytes line text b made s =
    let e = sym made.made ∙ s.text
    ∙ first_line (format_line s.second) (certificate_text b.certificate ∷ body b.sites) in
    let cut = cut_at_byte 10 made.front (format_line s.second) (line ++ 10 ∷ made.rest)
    (text_of_lines (certificate_text b.certificate ∷ body b.sites))
    (has_no_lf made.front made.first) (format-one_line s.second) e in
    let cut2 = cut_at_byte 10 line (certificate_text b.certificate) made.rest (text_of_lines (body b.sites))
    (has_no_lf line made.one) (certificate-one_line b.certificate s.certificate) (cut.1
    ∙ first_line (certificate_text b.certificate) (body b.sites)) in (
      record {
        shape = subst (λ n. IsShaped n b.sites) (sym s.shape.each) s.shape;
        logs = s.logs;
        second = s.second;
        allowed = s.allowed;
        text = made.given ∙ ap₂ (λ (f r : List ℕ). f ++ 10 ∷ r) cut.0 cut2.1
            ∙ sym (first_line (format_line s.second) (body b.sites));
      },
      cut2.0,
    )

sections-same : (k : ℕ) (ls ms : List SiteLog) → sections_from k ls ≡ sections_from k ms → ls ≡ ms
sections-same k [] [] e = refl
sections-same k [] (m ∷ ms) e = absurd cc
sections-same k (l ∷ ls) [] e = absurd cc
sections-same k (l ∷ ls) (m ∷ ms) e =
    let first = section-one k l m (sections_from (suc k) ls) (sections_from (suc k) ms) e in
    ap₂ (λ z zs. z ∷ zs) first.0 (sections-same (suc k) ls ms first.1)

pub logs-one : (bytes : List ℕ) (s t : List SiteLog) → SpellsLogs bytes s → SpellsLogs bytes t → s ≡ t
logs-one bytes s t h g =
    let e = sym (first_line (format_line h.second) (body s)) ∙ sym h.text ∙ g.text
    ∙ first_line (format_line g.second) (body t) in
    let cut = cut_at_byte 10 (format_line h.second) (format_line g.second) (text_of_lines (body s))
    (text_of_lines (body t)) (format-one_line h.second) (format-one_line g.second) e in
    let s-lines = sections-lines 0 s (omega (arith, h.shape.few)) h.logs in
    let t-lines = sections-lines 0 t (omega (arith, g.shape.few)) g.logs in
    sections-same 0 s t (lines-one (sections_from 0 s) (sections_from 0 t) s-lines t-lines cut.1)
