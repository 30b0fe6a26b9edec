use Rattle.std.proofs.Common.{List, ◌++◌, map, take}
use Rattle.sgt_service_settle.specs.declared.handed.Handed.{Handed as AHanded}
use Rattle.sgt_service_settle.specs.private.Words.{with_number, AreBySite}
use Rattle.sgt_service_settle.proofs.sited.add_at_sites.Given as goal

abbrev pub invariant-loop-place : goal.invariant-loop-place
invariant-loop-place l = (before : List AHanded) → AreBySite before l.initial.rows
    → AreBySite (before ++ map (with_number l.number) (take l.place l.edges)) l.rows
