-- The exit status.
use Rattle.std.specs.Prelude.{◌≤◌, ℕ}

-- 0 yes, 1 no, 2 the words are no command or the text can't be read, 3 want of memory, 4 a device failed
abbrev pub IsStatus : ℕ → Type 0
IsStatus status = status ≤ 4
