-- The decisions of a bundle, counted while it passes.
use Rattle.std.specs.Prelude.{◌==◌, ◌&&◌, ltb, ℕ, suc, Bool, List, if◌then◌else◌}
use Rattle.std.specs.List.{fold}
use Rattle.sgt_json.specs.declared.tally.Tally.{Tally}

-- how many of each kind, the line from 0, and the last two bytes
pub record Counts : Type 0 where
  pub committed : ℕ
  pub refused : ℕ
  pub withdrawn : ℕ
  pub line : ℕ
  pub last : ℕ
  pub before : ℕ

abbrev pub counts_of : Tally → Counts
counts_of t = record {
  committed = t.committed;
  refused = t.refused;
  withdrawn = t.withdrawn;
  line = t.line;
  last = t.last;
  before = t.before;
}

abbrev pub no_counts : Counts
no_counts = record { committed = 0; refused = 0; withdrawn = 0; line = 0; last = 0; before = 0 }

-- one more, up to the greatest number that there is
abbrev pub more : ℕ → ℕ
more count = if ltb count 18446744073709551615 then suc count else count

abbrev pub next_line : (line byte : ℕ) → ℕ
next_line line byte = if (byte == 10) && ltb line 2 then suc line else line

-- in line 2, behind `{"`: the first letter of a decision's kind, or of a member's name
abbrev pub begins_decision : Counts → Bool
begins_decision c = (c.line == 1) && ((c.before == 123) && (c.last == 34))

-- one more byte: `c` of commit, `r` of refuse, `w` of withdraw
abbrev pub counted : Counts → ℕ → Counts
counted c b = record {
  committed = if begins_decision c && (b == 99) then more c.committed else c.committed;
  refused = if begins_decision c && (b == 114) then more c.refused else c.refused;
  withdrawn = if begins_decision c && (b == 119) then more c.withdrawn else c.withdrawn;
  line = next_line c.line b;
  last = b;
  before = c.last;
}

abbrev pub passed : Counts → List ℕ → Counts
passed c bytes = fold counted c bytes
