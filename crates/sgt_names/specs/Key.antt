-- A number made of a name: a hint, by which two names can mostly be told apart at once.
use Rattle.std.specs.Prelude.{ℕ, ◌-◌, ◌++◌, List, length, replicate, take, drop, bit_xor}
use Rattle.std.specs.Int.{w64, from_le_bytes, rotate_left}
use Rattle.sgt_names.specs.Name.{Name}

-- the number of the first eight bytes, over that of the others
abbrev pub bytes_key : List ℕ → ℕ
bytes_key bytes =
    bit_xor (from_le_bytes w64 (take 8 bytes)) (rotate_left w64 (from_le_bytes w64 (drop 8 bytes)) 29)

-- the same of a name with zeros behind it, up to sixteen bytes
abbrev pub name_key : Name → ℕ
name_key name = bytes_key (name ++ replicate (16 - length name) 0)
