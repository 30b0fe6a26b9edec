-- Logs without a certificate: their text, and whether some certificate makes them valid.
use Rattle.std.specs.Prelude.{◌≡◌, ℕ, Bool, IsTrue, List, ◌∷◌, ◌++◌, length, map, All}
use Rattle.sgt_notation.specs.Spelling.{line_text, text_of_lines, HasNoLf}
use Rattle.sgt_bundle.specs.Parts.{IsShaped}
use Rattle.sgt_bundle.specs.Text.{format_line, sections_from, has_increments, IsLog}
use Rattle.sgt_bundle.specs.Valid.{IsValid}
use Rattle.sgt_bundle.specs.declared.certificate.Certificate.{Certificate}
use Rattle.sgt_bundle.specs.declared.bundle.SiteLog.{SiteLog}

-- the bytes spell these logs alone: the text of a bundle without its second line
pub record SpellsLogs (bytes : List ℕ) (sites : List SiteLog) : Type 0 where
  pub shape : IsShaped (length sites) sites
  pub logs : All IsLog sites
  -- whether it is the second format
  pub second : Bool
  -- the first has no increments, and nobody asks for one there
  pub allowed : IsTrue (has_increments sites) → IsTrue second
  pub text : bytes ≡ text_of_lines (format_line second ∷ map line_text (sections_from 0 sites))

-- some certificate makes the logs valid
abbrev pub AreCertifiable : List SiteLog → Type 0
AreCertifiable sites = (c : Certificate) × IsValid (record { certificate = c; sites = sites })

-- the text is that of the bytes with this line put in behind their first one
pub record IsWithLine (bytes line text : List ℕ) : Type 0 where
  pub front : List ℕ
  pub rest : List ℕ
  pub first : HasNoLf front
  pub one : HasNoLf line
  pub given : bytes ≡ front ++ 10 ∷ rest
  pub made : text ≡ front ++ 10 ∷ (line ++ 10 ∷ rest)

-- whatever logs the bytes spell, no certificate makes them valid
abbrev pub HasNoCertificate : List ℕ → Type 0
HasNoCertificate bytes = (sites : List SiteLog) → SpellsLogs bytes sites → AreCertifiable sites → ⊥
