-- What a draft keeps, in either form.
use Rattle.sgt_names.specs.Draft.{DraftView}
use Rattle.sgt_names.specs.declared.draft.Kept.{Kept}
use Rattle.sgt_names.specs.declared.draft.Kept.TheVariants.{Few, BySite}

-- what contracts see of it
abbrev pub view_of : Kept → DraftView
view_of (Few list) = list
view_of (BySite parts) = parts
