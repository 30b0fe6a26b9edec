-- The texts of a bundle: the one that is written, and in which format others may write it.
use Rattle.std.specs.Prelude.{◌≡◌, ℕ, suc, ◌<◌, ◌≤◌, ◌^◌, Bool, IsTrue, if◌then◌else◌, List, [], ◌∷◌, ◌++◌, map, codes, All}
use Rattle.std.specs.List.{list_any}
use Rattle.serde_json.specs.Data.{Data, number, unsigned, string, array, object, Items, no_items, item, no_members, member}
use Rattle.serde_json.specs.Written.{compact_text}
use Rattle.sgt_names.specs.Limits.{max_sites}
use Rattle.sgt_names.specs.Name.{IsName}
use Rattle.sgt_names.specs.Entry.{is_increment}
use Rattle.sgt_names.specs.declared.entry.Kind.{Kind}
use Rattle.sgt_names.specs.declared.entry.Kind.TheVariants.{Wr, Rw, Ww}
use Rattle.sgt_notation.specs.Spelling.{line_text, text_of_lines, IsTx, IsHolding, IsEntry}
use Rattle.sgt_notation.specs.declared.SectionLine.{SectionLine}
use Rattle.sgt_notation.specs.declared.SectionLine.TheVariants.{Site, Initial, Logged, Final, End}
use Rattle.sgt_bundle.specs.Parts.{Parts, IsShaped}
use Rattle.sgt_bundle.specs.declared.certificate.Step.{Step}
use Rattle.sgt_bundle.specs.declared.certificate.Decision.{Decision}
use Rattle.sgt_bundle.specs.declared.certificate.Decision.TheVariants.{Commit, Refuse, Withdraw}
use Rattle.sgt_bundle.specs.declared.certificate.Certificate.{Certificate}
use Rattle.sgt_bundle.specs.declared.bundle.SiteLog.{SiteLog}

-- values, as JSON
abbrev pub items_data : {A : Type 0} → (A → Data) → List A → Items
items_data data_of [] = no_items
items_data data_of (x ∷ xs) = item (data_of x) (items_data data_of xs)

abbrev pub kind_name : Kind → List ℕ
kind_name Wr = codes "wr"
kind_name Rw = codes "rw"
kind_name Ww = codes "ww"

-- a number, as JSON
abbrev pub numeral : ℕ → Data
numeral n = number (unsigned n)

-- a step of a walk, as JSON
abbrev pub step_data : Step → Data
step_data step = object (member (codes "item") (string step.label.item) (member (codes "kind") (string (kind_name step.label.kind))
    (member (codes "site") (numeral step.label.site) (member (codes "to") (numeral step.to) no_members))))

-- a decision, as JSON
abbrev pub decision_data : Decision → Data
decision_data (Commit tx rank) = object (member (codes "commit") (numeral tx) (member (codes "rank") (numeral rank) no_members))
decision_data (Refuse tx walk) =
    object (member (codes "refuse") (numeral tx) (member (codes "walk") (array (items_data step_data walk)) no_members))
decision_data (Withdraw tx) = object (member (codes "withdraw") (numeral tx) no_members)

-- a certificate, as JSON
abbrev pub certificate_data : Certificate → Data
certificate_data c =
    object (member (codes "decisions") (array (items_data decision_data c.decisions)) (member (codes "sites") (numeral c.sites) no_members))

-- the compact text of a certificate
abbrev pub certificate_text : Certificate → List ℕ
certificate_text c = compact_text (certificate_data c)

-- the lines of a site's section
abbrev pub section_lines : ℕ → SiteLog → List SectionLine
section_lines k log =
    Site k ∷ map Initial log.items ++ map Logged log.entries ++ map Final log.finals ++ End ∷ []

-- the sections of the sites from number k on
abbrev pub sections_from : ℕ → List SiteLog → List SectionLine
sections_from k [] = []
sections_from k (log ∷ logs) = section_lines k log ++ sections_from (suc k) logs

-- an entry of these logs is an increment, or asks for one
abbrev pub has_increments : List SiteLog → Bool
has_increments sites = list_any (λ (log : SiteLog). list_any is_increment log.entries) sites

-- line 1: that of the second format, or of the first
abbrev pub format_line : Bool → List ℕ
format_line second = if second then codes "sgt 2" else codes "sgt 1"

-- the text of a bundle in a format
abbrev pub text_in : Bool → Parts → List ℕ
text_in second b =
    text_of_lines
    (format_line second ∷ certificate_text b.certificate ∷ map line_text (sections_from 0 b.sites))

-- the text that is written: in the second format exactly where an entry is an increment or asks for
-- one
abbrev pub text_of : Parts → List ℕ
text_of b = text_in (has_increments b.sites) b

-- the lines are the beginning of the sections of so many sites, or all of them
abbrev pub Begins : ℕ → List SectionLine → Type 0
Begins count lines = (logs : List SiteLog) × (more : List SectionLine) × IsShaped count logs
    × (sections_from 0 logs ≡ lines ++ more)

abbrev pub AreSections : ℕ → List SectionLine → Type 0
AreSections count lines = (logs : List SiteLog) × IsShaped count logs
    × (sections_from 0 logs ≡ lines)

-- the numbers and names of a step, of a decision, of a certificate and of a log are in their ranges
abbrev pub IsStep : ℕ → Step → Type 0
IsStep sites step = IsName step.label.item × (step.label.site < sites) × IsTx step.to

abbrev pub IsDecision : ℕ → Decision → Type 0
IsDecision sites (Commit tx rank) = IsTx tx × (rank < 2 ^ 32)
IsDecision sites (Refuse tx walk) = IsTx tx × All (IsStep sites) walk
IsDecision sites (Withdraw tx) = IsTx tx

abbrev pub IsCertificate : Certificate → Type 0
IsCertificate c = (1 ≤ c.sites) × (c.sites ≤ max_sites) × All (IsDecision c.sites) c.decisions

pub record IsLog (log : SiteLog) : Type 0 where
  pub items : All IsHolding log.items
  pub entries : All IsEntry log.entries
  pub finals : All IsHolding log.finals

-- what has a text: the numbers and names are in their ranges, and the logs have their shape
pub record IsBundle (b : Parts) : Type 0 where
  pub certificate : IsCertificate b.certificate
  pub shape : IsShaped b.certificate.sites b.sites
  pub logs : All IsLog b.sites

-- the bytes spell the bundle, in a format
pub record Spells (bytes : List ℕ) (b : Parts) : Type 0 where
  pub certificate : IsCertificate b.certificate
  pub shape : IsShaped b.certificate.sites b.sites
  pub logs : All IsLog b.sites
  -- whether it is the second format
  pub second : Bool
  -- the first has no increments, and nobody asks for one there
  pub allowed : IsTrue (has_increments b.sites) → IsTrue second
  pub text : bytes ≡ text_in second b
