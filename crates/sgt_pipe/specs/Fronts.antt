-- What stands at the front of what an inbox holds.
use Rattle.std.specs.Prelude.{◌≡◌, ◌≤◌, ℕ, ◌+◌, List, ◌∷◌, ◌++◌, length, take, drop}
use Rattle.sgt_names.specs.Limits.{max_line}
use Rattle.sgt_notation.specs.Lines.{IsLongerThan}
use Rattle.sgt_notation.specs.Spelling.{HasNoLf}
use Rattle.sgt_pipe.specs.declared.inbox.Front.{Front}
use Rattle.sgt_pipe.specs.declared.inbox.Front.TheVariants.{Line, Part, TooLong}

-- the first n bytes are a line, with its LF behind it
pub record IsLineOf (held : List ℕ) (n : ℕ) : Type 0 where
  pub whole : n + 1 ≤ length held
  pub short : n ≤ max_line
  pub none : HasNoLf (take n held)
  pub text : held ≡ take n held ++ 10 ∷ drop (n + 1) held

-- a part of a line, which may still be short enough
pub record IsPart (held : List ℕ) : Type 0 where
  pub none : HasNoLf held
  pub short : length held ≤ max_line

abbrev pub IsFront : List ℕ → Front → Type 0
IsFront held (Line n) = IsLineOf held n
IsFront held Part = IsPart held
IsFront held TooLong = IsLongerThan max_line held
