-- The text of a whole run.
use Rattle.std.proofs.Common.{◌≡◌, ℕ, List, ◌++◌, map, sym, ap, ap₂, ◌∙◌}
use Rattle.std.specs.List.{flat_map}
use Rattle.sgt_notation.specs.Spelling.{text_of_lines}
use Rattle.sgt_bundle.specs.Parts.{Parts}
use Rattle.sgt_bundle.specs.Certificate.{by_rank}
use Rattle.sgt_bundle.specs.declared.bundle.SiteLog.{SiteLog}
use Rattle.sgt_serial.specs.declared.report.SiteValue.{SiteValue}
use Rattle.sgt_serial.specs.Report.{run_of, finals_of, report_of}
use Rattle.sgt_serial.specs.Text.{run_lines, final_line, report_text}
use Rattle.sgt_notation.proofs.Texts.{text-append}

abbrev pub text_of_runs : List SiteLog → List ℕ → List ℕ
text_of_runs logs order = text_of_lines (flat_map run_lines (map (run_of logs) order))

abbrev pub text_of_finals : List SiteValue → List ℕ
text_of_finals finals = text_of_lines (map final_line finals)

pub whole-text : (b : Parts) (logs : List SiteLog) (order : List ℕ) (finals : List SiteValue) → logs ≡ b.sites
    → order ≡ by_rank b.certificate.decisions → finals ≡ finals_of b.sites
    → text_of_runs logs order ++ text_of_finals finals ≡ report_text (report_of b)
whole-text b logs order finals at ranked last =
    let ranks = by_rank b.certificate.decisions in
    ap₂ (λ ls os. text_of_runs ls os ++ text_of_finals finals) at ranked
    ∙ ap (λ fs. text_of_runs b.sites ranks ++ text_of_finals fs) last
    ∙ sym (text-append (flat_map run_lines (map (run_of b.sites) ranks)) (map final_line (finals_of b.sites)))
