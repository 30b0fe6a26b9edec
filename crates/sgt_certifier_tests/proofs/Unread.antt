-- What a transaction sees nothing of, it has not read.
use Rattle.std.proofs.Common.{◌≡◌, List, Option, Some, None, refl}
use Rattle.std.specs.Prelude.{option_map, option_and_then}
use Rattle.sgt_names.specs.Log.{value_with_any}
use Rattle.sgt_names.specs.Draft.{Place, touched_at, seen_at, look_of}
use Rattle.sgt_names.specs.declared.draft.Seen.{Seen}
use Rattle.sgt_names.specs.declared.draft.Touch.{Touch}
use Rattle.sgt_names.specs.declared.entry.Change.{Change}
use Rattle.sgt_names.specs.declared.entry.Change.TheVariants.{Put, Add}

by_parts : (q : Option Seen) (d : Option Change) → value_with_any (option_map (λ s. s.value) q) d ≡ None → q ≡ None
by_parts None d is = refl
by_parts (Some s) None is = absurd cc
by_parts (Some s) (Some (Put v)) is = absurd cc
by_parts (Some s) (Some (Add v)) is = absurd cc

by_touch : (o : Option Touch) → option_and_then look_of o ≡ None → option_and_then (λ t. t.seen) o ≡ None
by_touch None is = refl
by_touch (Some t) is = by_parts t.seen t.change is

pub unread : (ts : List Touch) (p : Place) → option_and_then look_of (touched_at ts p) ≡ None → seen_at ts p ≡ None
unread ts p is = by_touch (touched_at ts p) is
