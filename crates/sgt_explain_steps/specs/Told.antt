-- How a step of a walk that is no conflict of the logs is told.
use Rattle.std.specs.Prelude.{ℕ, ◌+◌, Bool, true, false, ◌&&◌, List, [], ◌++◌, codes, decimal, Option, Some, None, if◌then◌else◌}
use Rattle.sgt_names.specs.Entry.{is_increment}
use Rattle.sgt_names.specs.declared.entry.Kind.{Kind}
use Rattle.sgt_names.specs.declared.entry.Kind.TheVariants.{Wr, Rw}
use Rattle.sgt_bundle.specs.declared.certificate.Step.{Step}
use Rattle.sgt_explain_lines.specs.Told.{shown_line, kind_text}
use Rattle.sgt_explain_lines.specs.declared.section.Logged.{Logged}
use Rattle.sgt_explain_steps.specs.declared.unmet.Met.{Met}
use Rattle.sgt_explain_steps.specs.declared.unmet.Unmet.{Unmet}

-- whether a step of the kind begins, and ends, with a read
abbrev pub begins_with_read : Kind → Bool
begins_with_read Rw = true
begins_with_read _ = false

abbrev pub ends_with_read : Kind → Bool
ends_with_read Wr = true
ends_with_read _ = false

abbrev pub deed_text : Bool → List ℕ
deed_text reads = if reads then codes "read" else codes "write"

abbrev pub step_head : Unmet → List ℕ
step_head u = codes "WalkStep: step " ++ (decimal (u.place + 1) ++ (codes " of " ++ (decimal u.count
    ++ (codes " in the walk of refused transaction " ++ (decimal u.tx ++ (codes " (decision " ++ (decimal u.number ++ codes ")\n")))))))

-- what the step wants
abbrev pub wish_text : ℕ → Step → List ℕ
wish_text from s = decimal from ++ (codes " -> " ++ (decimal s.to ++ (codes " by " ++ (kind_text s.label.kind ++ (codes " on " ++ (s.label.item
    ++ (codes " at site " ++ (decimal s.label.site ++ (codes ": a " ++ (deed_text (begins_with_read s.label.kind) ++ (codes " by " ++ (decimal from
    ++ (codes " before a " ++ (deed_text (ends_with_read s.label.kind) ++ (codes " by " ++ (decimal s.to ++ codes "\n"))))))))))))))))

-- that the transaction has no such entry
abbrev pub absent_text : ℕ → Step → Bool → List ℕ
absent_text tx s reads = codes "transaction " ++ (decimal tx ++ (codes " has no " ++ (deed_text reads ++ (codes " of " ++ (s.label.item
    ++ codes " there\n")))))

-- two entries, with a line break between them
abbrev pub pair_text : Logged → Logged → List ℕ
pair_text one other = shown_line one ++ (codes "\n" ++ shown_line other)

-- why the two are no conflict
abbrev pub misfit_reason : Bool → List ℕ
misfit_reason adds = if adds then codes "\nboth are increments, which are in no conflict\n" else codes "\nthe two are there in the other order\n"

abbrev pub misfit_text : Logged → Logged → List ℕ
misfit_text one other =
    pair_text one other ++ misfit_reason (is_increment one.entry && is_increment other.entry)

abbrev pub reason_text : Unmet → Option Logged → Option Logged → List ℕ
reason_text u (Some one) (Some other) = misfit_text one other
reason_text u (Some one) None = absent_text u.step.to u.step (ends_with_read u.step.label.kind)
reason_text u None (Some other) = absent_text u.from u.step (begins_with_read u.step.label.kind)
reason_text u None None = absent_text u.from u.step (begins_with_read u.step.label.kind)
    ++ absent_text u.step.to u.step (ends_with_read u.step.label.kind)

-- the conflict that is there in its place
abbrev pub met_head : List ℕ → List ℕ
met_head name = codes "the log has " ++ (name ++ codes " there:\n")

abbrev pub met_text : Met → List ℕ
met_text m = met_head (kind_text m.kind) ++ (pair_text m.first m.second ++ codes "\n")

abbrev pub other_text : Option Met → List ℕ
other_text (Some m) = met_text m
other_text None = []

abbrev pub walk_step_text : Unmet → List ℕ
walk_step_text u =
    step_head u ++ (wish_text u.from u.step
    ++ (reason_text u u.first u.second ++ other_text u.other))
