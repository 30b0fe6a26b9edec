use Rattle.std.proofs.Common.{◌≡◌, ◌++◌, ◌∷◌, [], List, ℕ, codes, inl, inr, subst, sym}
use Rattle.sgt_line.specs.Kinds.{IsKind}
use Rattle.sgt_line.specs.Parts.{left, parts_of}
use Rattle.sgt_line.specs.Reads.{Reads}
use Rattle.sgt_line.specs.Reads as reads
use Rattle.sgt_line.specs.declared.kind.Kind.TheVariants.{Joined, Plain, Progress, Quiet, Strict, Why}
use Rattle.sgt_line.proofs.Steps.{dashed, filed, numbered, on_ok, put_joined, ruled, waits_count, waits_order, waits_output, waits_place}
use Rattle.sgt_line.proofs.line.Line.add_whole.Goals as goal

pub returns-in-Dashes : goal.returns-in-Dashes
returns-in-Dashes c = λ first taken. dashed c.args.command first taken _ _ c.args.kind c.in-Dashes.is c.requires

pub returns-in-Numbered : goal.returns-in-Numbered
returns-in-Numbered c =
    λ first taken. numbered c.args.command first taken _ _ c.args.kind _ c.in-Numbered.is c.requires
    c.in_ok-leave-in-Numbered.ensures

pub returns-in-Place : goal.returns-in-Place
returns-in-Place c = on_ok c.add_place.result _ _
    (λ after waits first taken. waits_place c.args.command first taken _ _ c.args.kind after _ c.in-Place.is
    c.requires waits) c.add_place.ensures

pub returns-in-Against : goal.returns-in-Against
returns-in-Against c = on_ok c.add_against.result _ _
    (λ after waits first taken. waits_order c.args.command first taken _ _ c.args.kind after _ c.in-Against.is
    c.requires waits) c.add_against.ensures

pub returns-in-Output : goal.returns-in-Output
returns-in-Output c = on_ok c.add_output.result _ _
    (λ after waits first taken. waits_output c.args.command first taken _ _ c.args.kind after _ c.in-Output.is
    c.requires waits) c.add_output.ensures

pub returns-in-Expected : goal.returns-in-Expected
returns-in-Expected c = on_ok c.add_expected.result _ _
    (λ after waits first taken. waits_count c.args.command first taken _ _ c.args.kind after _ c.in-Expected.is
    c.requires waits) c.add_expected.ensures

pub returns-in_ok-add_rule-in-RuleName : goal.returns-in_ok-add_rule-in-RuleName
returns-in_ok-add_rule-in-RuleName c = λ first taken.
    ruled c.args.command first taken _ _ c.args.kind _ c.in-RuleName.is c.requires c.in_ok-add_rule-in-RuleName.ensures

pub returns-in_ok-add_file-in-File : goal.returns-in_ok-add_file-in-File
returns-in_ok-add_file-in-File c = λ first taken.
    filed c.args.command first taken _ _ c.args.kind _ c.in-File.is c.requires c.in_ok-add_file-in-File.ensures

pub returns-in_ok-add_joined-in-Joined : goal.returns-in_ok-add_joined-in-Joined
returns-in_ok-add_joined-in-Joined c = λ first taken reading.
    let here : IsKind c.args.command c.args.word.now Joined =
    subst (λ k. IsKind c.args.command c.args.word.now k) c.in-Joined.is c.requires in
    subst (Reads c.args.command first (taken ++ (c.args.word.now ∷ [])))
    (sym (c.in_ok-add_joined-in-Joined.ensures here.1.0 here.1.1))
    (reads.joined c.args.word.now here.1.0 reading here here.1.1)

pub returns-in_ok-put_place-in-JoinedPlace : goal.returns-in_ok-put_place-in-JoinedPlace
returns-in_ok-put_place-in-JoinedPlace c = λ first taken.
    put_joined c.args.command first taken _ _ c.args.kind _ c.in-JoinedPlace.is c.requires
    c.in_ok-put_place-in-JoinedPlace.ensures

pub returns-in-Quiet : goal.returns-in-Quiet
returns-in-Quiet c = λ first taken reading.
    reads.quiet c.args.word.now reading (subst (λ k. IsKind c.args.command c.args.word.now k) c.in-Quiet.is c.requires)

pub returns-in-Strict : goal.returns-in-Strict
returns-in-Strict c = λ first taken reading.
    reads.strict c.args.word.now reading
    (subst (λ k. IsKind c.args.command c.args.word.now k) c.in-Strict.is c.requires)

pub returns-in-Chain : goal.returns-in-Chain
returns-in-Chain c = λ first taken reading.
    reads.chain c.args.word.now reading (subst (λ k. IsKind c.args.command c.args.word.now k) c.in-Chain.is c.requires)

pub returns-in-Progress : goal.returns-in-Progress
returns-in-Progress c = λ first taken reading.
    reads.progress c.args.word.now reading
    (subst (λ k. IsKind c.args.command c.args.word.now k) c.in-Progress.is c.requires)

pub returns-in-Why : goal.returns-in-Why
returns-in-Why c = λ first taken reading.
    reads.why c.args.word.now reading (subst (λ k. IsKind c.args.command c.args.word.now k) c.in-Why.is c.requires)

pub returns-in-Json : goal.returns-in-Json
returns-in-Json c = λ first taken reading.
    reads.json c.args.word.now reading (subst (λ k. IsKind c.args.command c.args.word.now k) c.in-Json.is c.requires)

pub returns-in-Page : goal.returns-in-Page
returns-in-Page c = λ first taken reading.
    reads.page c.args.word.now reading (subst (λ k. IsKind c.args.command c.args.word.now k) c.in-Page.is c.requires)

pub returns-in_ok-leave-in-Plain : goal.returns-in_ok-leave-in-Plain
returns-in_ok-leave-in-Plain c = λ first taken reading.
    subst (Reads c.args.command first (taken ++ (c.args.word.now ∷ []))) (sym c.in_ok-leave-in-Plain.ensures)
    (reads.plain c.args.word.now reading
    (inl (subst (λ k. IsKind c.args.command c.args.word.now k) c.in-Plain.is c.requires)))
