-- No two topics have one name.
use Rattle.std.proofs.Common.{◌≡◌, ◌∙◌, ℕ, ◌+◌, ◌*◌, List, [], ◌∷◌, ◌++◌, Option, Some, None, ap, arith, codes, get_or, inl, inr, length, nat_eq, refl, sym, if◌then◌else◌}
use Rattle.std.specs.Prelude.{fold, unwrap_or}
use Rattle.sgt_audit.specs.declared.faults.Fault.TheVariants as fault
use Rattle.sgt_bundle.specs.declared.fault.CertFault.TheVariants as cert_fault
use Rattle.sgt_explain.specs.Topics.{topic_name}
use Rattle.sgt_explain.specs.declared.asked.Asked.TheVariants as asking
use Rattle.sgt_explain.specs.declared.topics.Anomaly.TheVariants as anomaly
use Rattle.sgt_explain.specs.declared.topics.Reply.TheVariants as reply
use Rattle.sgt_explain.specs.declared.topics.Topic.{Topic}
use Rattle.sgt_explain.specs.declared.topics.Topic.TheVariants.{Bundle, Line, Told, Found}
use Rattle.sgt_line.specs.declared.name.CommandName.TheVariants as command
use Rattle.sgt_command_line.specs.Words.{Says, TellsTx, command_of}
use Rattle.sgt_command_line.specs.declared.choice.Choice.{Choice}
use Rattle.sgt_command_line.specs.declared.choice.Choice.TheVariants.{Explain, Rule}
use Rattle.sgt_command_line.proofs.Told.{letter_of, third}

-- a name as a number
abbrev number_of : List ℕ → ℕ
number_of name = fold (λ (sum letter : ℕ). sum * 256 + letter) 0 name

abbrev topics : List Topic
topics =
    Bundle fault.Format ∷ Bundle fault.Notation ∷ Bundle fault.Certificate ∷ Bundle fault.Ranks ∷
    Bundle fault.DecidedTwice ∷ Bundle fault.WalkShape ∷ Bundle fault.Section ∷ Bundle fault.Item ∷
    Bundle fault.Twice ∷ Bundle fault.ReadValue ∷ Bundle fault.RankOrder ∷ Bundle fault.Block ∷
    Bundle fault.End ∷ Bundle fault.DecisionOrder ∷ Bundle fault.NotEnded ∷ Bundle fault.Final ∷
    Bundle fault.WalkStep ∷ Bundle fault.Truncated ∷ Bundle fault.Trailing ∷ Line cert_fault.NotJson ∷
    Line cert_fault.Shape ∷ Line cert_fault.Range ∷ Line cert_fault.Memory ∷ Told reply.Unknown ∷
    Told reply.Ended ∷ Told reply.StepOpen ∷ Told reply.UnknownItem ∷ Told reply.NotDecided ∷
    Told reply.AlreadyDone ∷ Told reply.WindowFull ∷ Told reply.ActiveLeft ∷ Told reply.Memory ∷
    Told reply.GenerationsSpent ∷ Told reply.NumbersSpent ∷ Told reply.NotTouched ∷ Told reply.NotALine ∷
    Told reply.TooLong ∷ Told reply.IdRepeated ∷ Told reply.ChainBroken ∷ Told reply.NoDecision ∷
    Told reply.DecidedTwice ∷ Told reply.RunMemory ∷ Told reply.CallRefused ∷ Told reply.SumTooLarge ∷
    Told reply.NoTicket ∷ Told reply.PledgeLost ∷ Told reply.TicketsFall ∷ Told reply.LogChanged ∷
    Told reply.VersionsChanged ∷ Told reply.PoolMemory ∷ Told reply.ScriptLeft ∷ Told reply.ScriptRepeated ∷
    Told reply.NoOrder ∷ Told reply.NoRanks ∷ Told reply.NoWalk ∷ Found anomaly.Internal ∷
    Found anomaly.Duplicate ∷ Found anomaly.AbortedRead ∷ Found anomaly.Unwritten ∷
    Found anomaly.IntermediateRead ∷ Found anomaly.Value ∷ Found anomaly.WriteCycle ∷
    Found anomaly.CircularFlow ∷ Found anomaly.SingleAntiDependency ∷ Found anomaly.ItemAntiDependency ∷
    Found anomaly.ProcessFlow ∷ Found anomaly.ProcessSingle ∷ Found anomaly.ProcessItem ∷
    Found anomaly.RealTimeFlow ∷ Found anomaly.RealTimeSingle ∷ Found anomaly.RealTimeItem ∷ []

-- the first of these topics that has the number
abbrev found_in : List Topic → ℕ → Option Topic
found_in [] n = None
found_in (t ∷ ts) n = if nat_eq (number_of (topic_name t)) n then Some t else found_in ts n

is-found : (t : Topic) → found_in topics (number_of (topic_name t)) ≡ Some t
is-found (Bundle fault.Format) = refl
is-found (Bundle f) = refl
is-found (Line cert_fault.NotJson) = refl
is-found (Line f) = refl
is-found (Told reply.Unknown) = refl
is-found (Told r) = refl
is-found (Found anomaly.Internal) = refl
is-found (Found a) = refl

pub topic-one : (s t : Topic) → topic_name s ≡ topic_name t → s ≡ t
topic-one s t e = ap (λ o. unwrap_or o s)
    (sym (is-found s) ∙ ap (λ (name : List ℕ). found_in topics (number_of name)) e ∙ is-found t)

no_tx : (options : List (List ℕ)) (topic : Topic) → options ≡ topic_name topic ∷ [] → (tx : ℕ) → TellsTx options tx → ⊥
no_tx options topic e tx (text, says, inl apart) = omega (arith, ap length apart, ap length e)
no_tx options topic e tx (text, says, inr joined) =
    letter_of topic (codes "-tx=" ++ text) (ap (λ l. get_or l 0 []) (sym e ∙ joined))

-- the name of a rule asks for that rule alone
pub rule_alone : (options : List (List ℕ)) (topic : Topic) → options ≡ topic_name topic ∷ []
    → (choice : Choice) → command_of choice ≡ command.Explain → Says options choice → Some (Rule topic) ≡ Some choice
rule_alone options topic e (Explain asking.First) is says = absurd (omega (arith, ap length says, ap length e))
rule_alone options topic e (Rule other) is says =
    ap (λ t. Some (Rule t)) (topic-one topic other (ap (λ l. get_or l 0 []) (sym e ∙ says)))
rule_alone options topic e (Explain asking.All) is says =
    absurd (letter_of topic (codes "-all") (ap (λ l. get_or l 0 []) (sym e ∙ says)))
rule_alone options topic e (Explain (asking.Transaction tx)) is says = absurd (no_tx options topic e tx says)
rule_alone options topic e choice is says = absurd cc

-- `--all` asks for all alone
pub all_alone : (options : List (List ℕ)) → options ≡ codes "--all" ∷ []
    → (choice : Choice) → command_of choice ≡ command.Explain → Says options choice
    → Some (Explain asking.All) ≡ Some choice
all_alone options e (Explain asking.First) is says = absurd (omega (arith, ap length says, ap length e))
all_alone options e (Explain asking.All) is says = refl
all_alone options e (Rule topic) is says =
    absurd (letter_of topic (codes "-all") (ap (λ l. get_or l 0 []) (sym says ∙ e)))
all_alone options e (Explain (asking.Transaction tx)) is (text, says, inl apart) = absurd (omega (arith, ap length apart, ap length e))
all_alone options e (Explain (asking.Transaction tx)) is (text, says, inr joined) =
    absurd (omega (arith, ap third (sym joined ∙ e)))
all_alone options e choice is says = absurd cc
