-- The sections of a bundle as far as they were read.
-- (Of public clauses those alone use these words that say what an auditor was fed.)
use Rattle.std.specs.Prelude.{◌≡◌, ℕ, ◌<◌, ◌≤◌, List, [], ◌∷◌, ◌++◌, length, map, take, All, AllPairs, Option, Some, None}
use Rattle.sgt_names.specs.Limits.{max_items, max_sites}
use Rattle.sgt_names.specs.Log.{names}
use Rattle.sgt_notation.specs.declared.SectionLine.{SectionLine}
use Rattle.sgt_notation.specs.declared.SectionLine.TheVariants.{Site, Initial, Logged, Final}
use Rattle.sgt_bundle.specs.Parts.{ComesBefore, IsShapedLog}
use Rattle.sgt_bundle.specs.Text.{sections_from}
use Rattle.sgt_bundle.specs.declared.bundle.SiteLog.{SiteLog}

-- how many sites there are to be, the logs that are whole, and the log whose section is open
pub record Begun : Type 0 where
  pub sites : ℕ
  pub whole : List SiteLog
  pub current : Option SiteLog

-- the lines of an open section
abbrev pub open_lines : ℕ → Option SiteLog → List SectionLine
open_lines k None = []
open_lines k (Some log) =
    Site k ∷ map Initial log.items ++ map Logged log.entries ++ map Final log.finals

-- all lines that were read
abbrev pub lines_read : Begun → List SectionLine
lines_read b = sections_from 0 b.whole ++ open_lines (length b.whole) b.current

-- a log with as many of its finals as were read
pub record IsOpenLog (log : SiteLog) : Type 0 where
  pub room : length log.items ≤ max_items
  pub rising : AllPairs ComesBefore (names log.items)
  pub finals : names log.finals ≡ take (length log.finals) (names log.items)

-- what was read has the shape of sections that go on, or are all
abbrev pub HasRoomFor : Begun → Option SiteLog → Type 0
HasRoomFor b None = length b.whole ≤ b.sites
HasRoomFor b (Some log) = (length b.whole < b.sites) × IsOpenLog log

pub record IsBegun (b : Begun) : Type 0 where
  pub some : 1 ≤ b.sites
  pub few : b.sites ≤ max_sites
  pub logs : All IsShapedLog b.whole
  pub room : HasRoomFor b b.current
