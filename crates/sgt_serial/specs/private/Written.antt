-- A text that is on its way to a writer.
use Rattle.std.specs.Prelude.{◌≡◌, ℕ, ◌≤◌, List, [], ◌∷◌, ◌++◌, map, codes, vec_capacity, Option}
use Rattle.std.specs.List.{filter_map}
use Rattle.std.specs.Io.KnownBytes.{Appends}
use Rattle.sgt_bundle.specs.Parts.{Parts}
use Rattle.sgt_bundle.specs.Certificate.{by_rank}
use Rattle.sgt_serial.specs.declared.written.Plan.{Plan}
use Rattle.sgt_serial.specs.declared.entries.SiteEntry.{SiteEntry}
use Rattle.sgt_notation.specs.Spelling.{text_of_lines}
use Rattle.sgt_serial.specs.Report.{finals_of}
use Rattle.sgt_serial.specs.Text.{operation_line, change_line}
use Rattle.sgt_serial.specs.private.Grouped.{AreOperationsOf}
use Rattle.sgt_serial.specs.private.Reads.{change_by, read_by}

-- the line of an entry, if it is a read; and if it is a write or an increment
abbrev pub text_of_read : ℕ → SiteEntry → List ℕ
text_of_read tx e = text_of_lines (map (operation_line (codes "r") tx) (filter_map read_by (e ∷ [])))

abbrev pub text_of_change : ℕ → SiteEntry → List ℕ
text_of_change tx e = text_of_lines (map (change_line tx) (filter_map change_by (e ∷ [])))

-- a line with its LF
abbrev pub with_lf : List ℕ → List ℕ
with_lf line = line ++ 10 ∷ []

-- of the bytes that were held back, and these behind them, some were written, and the others are
-- held back
abbrev pub PassesOn : (old new : Option (List ℕ)) → (held bytes left : List ℕ) → Type 0
PassesOn old new held bytes left = (front : List ℕ) × Appends old new front
    × (held ++ bytes ≡ front ++ left)

-- all that the writing of the bundle's run needs
pub record IsPlanOf (b : Parts) (most : ℕ) (p : Plan) : Type 0 where
  pub sites : p.sites.items ≡ b.sites
  pub order : p.order.items ≡ by_rank b.certificate.decisions
  pub operations : AreOperationsOf b.sites p.operations
  pub finals : p.finals.items ≡ finals_of b.sites
  pub empty : p.out.items ≡ []
  pub room : most ≤ vec_capacity p.out
