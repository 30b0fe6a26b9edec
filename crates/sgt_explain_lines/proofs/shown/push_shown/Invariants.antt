use Rattle.std.proofs.Common.{◌≡◌, ◌≤◌, ◌++◌, length, take}
use Rattle.std.specs.Prelude.{string_bytes}
use Rattle.sgt_explain_lines.specs.Told.{shown_bytes}
use Rattle.sgt_explain_lines.proofs.shown.push_shown.Given as goal

abbrev pub invariant-loop-byte : goal.invariant-loop-byte
invariant-loop-byte l = record {
  width : l.width ≡ length (shown_bytes (take l.byte-index l.text));
  fits : l.width ≤ 71;
  shown : string_bytes l.out ≡ string_bytes l.initial.out ++ shown_bytes (take l.byte-index l.text);
}
