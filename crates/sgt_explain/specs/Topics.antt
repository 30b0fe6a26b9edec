-- The names of topics.
use Rattle.std.specs.Prelude.{◌≡◌, ⊤, ℕ, ◌+◌, List, ◌++◌, length, take, codes}
use Rattle.sgt_bundle.specs.declared.fault.CertFault.{CertFault}
use Rattle.sgt_bundle.specs.declared.fault.CertFault.TheVariants as line
use Rattle.sgt_audit.specs.declared.faults.Fault.{Fault}
use Rattle.sgt_audit.specs.declared.faults.Fault.TheVariants as fault
use Rattle.sgt_explain.specs.declared.topics.Anomaly.{Anomaly}
use Rattle.sgt_explain.specs.declared.topics.Anomaly.TheVariants as anomaly
use Rattle.sgt_explain.specs.declared.topics.Topic.{Topic}
use Rattle.sgt_explain.specs.declared.topics.Reply.{Reply}
use Rattle.sgt_explain.specs.declared.topics.Reply.TheVariants as reply
use Rattle.sgt_explain.specs.declared.topics.Topic.TheVariants.{Bundle, Line, Told, Found}

abbrev pub fault_name : Fault → List ℕ
fault_name fault.Format = codes "F1"
fault_name fault.Notation = codes "F2"
fault_name fault.Certificate = codes "F3"
fault_name fault.Ranks = codes "F4"
fault_name fault.DecidedTwice = codes "F5"
fault_name fault.WalkShape = codes "F6"
fault_name fault.Section = codes "F7"
fault_name fault.Item = codes "F8"
fault_name fault.Twice = codes "F9"
fault_name fault.ReadValue = codes "F10"
fault_name fault.RankOrder = codes "F11"
fault_name fault.Block = codes "F12"
fault_name fault.End = codes "F13"
fault_name fault.DecisionOrder = codes "F14"
fault_name fault.NotEnded = codes "F15"
fault_name fault.Final = codes "F16"
fault_name fault.WalkStep = codes "F17"
fault_name fault.Truncated = codes "F18"
fault_name fault.Trailing = codes "F19"

abbrev pub line_name : CertFault → List ℕ
line_name line.NotJson = codes "K1"
line_name line.Shape = codes "K2"
line_name line.Range = codes "K3"
line_name line.Memory = codes "K4"

abbrev pub reply_name : Reply → List ℕ
reply_name reply.Unknown = codes "E1"
reply_name reply.Ended = codes "E2"
reply_name reply.StepOpen = codes "E3"
reply_name reply.UnknownItem = codes "E4"
reply_name reply.NotDecided = codes "E5"
reply_name reply.AlreadyDone = codes "E6"
reply_name reply.WindowFull = codes "E7"
reply_name reply.ActiveLeft = codes "E8"
reply_name reply.Memory = codes "E9"
reply_name reply.GenerationsSpent = codes "E10"
reply_name reply.NumbersSpent = codes "E11"
reply_name reply.NotTouched = codes "E12"
reply_name reply.NotALine = codes "L1"
reply_name reply.TooLong = codes "L2"
reply_name reply.IdRepeated = codes "L3"
reply_name reply.ChainBroken = codes "C1"
reply_name reply.NoDecision = codes "V1"
reply_name reply.DecidedTwice = codes "V2"
reply_name reply.RunMemory = codes "V3"
reply_name reply.CallRefused = codes "V4"
reply_name reply.SumTooLarge = codes "V5"
reply_name reply.NoTicket = codes "V6"
reply_name reply.PledgeLost = codes "V7"
reply_name reply.TicketsFall = codes "V8"
reply_name reply.LogChanged = codes "V9"
reply_name reply.VersionsChanged = codes "V10"
reply_name reply.PoolMemory = codes "P1"
reply_name reply.ScriptLeft = codes "P2"
reply_name reply.ScriptRepeated = codes "P3"
reply_name reply.NoOrder = codes "no order"
reply_name reply.NoRanks = codes "no ranks"
reply_name reply.NoWalk = codes "no walk"

abbrev pub anomaly_name : Anomaly → List ℕ
anomaly_name anomaly.Internal = codes "internal"
anomaly_name anomaly.Duplicate = codes "duplicate"
anomaly_name anomaly.AbortedRead = codes "G1a"
anomaly_name anomaly.Unwritten = codes "unwritten"
anomaly_name anomaly.IntermediateRead = codes "G1b"
anomaly_name anomaly.Value = codes "value"
anomaly_name anomaly.WriteCycle = codes "G0"
anomaly_name anomaly.CircularFlow = codes "G1c"
anomaly_name anomaly.SingleAntiDependency = codes "G-single"
anomaly_name anomaly.ItemAntiDependency = codes "G2-item"
anomaly_name anomaly.ProcessFlow = codes "G1c-process"
anomaly_name anomaly.ProcessSingle = codes "G-single-process"
anomaly_name anomaly.ProcessItem = codes "G2-item-process"
anomaly_name anomaly.RealTimeFlow = codes "G1c-realtime"
anomaly_name anomaly.RealTimeSingle = codes "G-single-realtime"
anomaly_name anomaly.RealTimeItem = codes "G2-item-realtime"

-- a cycle with steps of sessions; of time; what is neither
abbrev pub HasSessions : Anomaly → Type 0
HasSessions anomaly.ProcessFlow = ⊤
HasSessions anomaly.ProcessSingle = ⊤
HasSessions anomaly.ProcessItem = ⊤
HasSessions _ = ⊥

abbrev pub HasTimes : Anomaly → Type 0
HasTimes anomaly.RealTimeFlow = ⊤
HasTimes anomaly.RealTimeSingle = ⊤
HasTimes anomaly.RealTimeItem = ⊤
HasTimes _ = ⊥

abbrev pub HasNeither : Anomaly → Type 0
HasNeither a = (HasSessions a → ⊥) × (HasTimes a → ⊥)

abbrev pub topic_name : Topic → List ℕ
topic_name (Bundle f) = fault_name f
topic_name (Line f) = line_name f
topic_name (Told r) = reply_name r
topic_name (Found a) = anomaly_name a

-- the text is the rule of this name: it begins with the name and a space
abbrev pub IsRuleOf : List ℕ → List ℕ → Type 0
IsRuleOf name text = take (length name + 1) text ≡ name ++ codes " "
