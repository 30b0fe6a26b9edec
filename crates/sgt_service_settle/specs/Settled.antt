-- When the tickets of a run, the history of its certifier and the logs of its sites hold together.
use Rattle.std.specs.Prelude.{◌≡◌, ◌<◌, ◌≤◌, ℕ, max, List, length, count_by, Bool, true, false, not, ◌==◌, All, AllPairs, Contains, Option, Some, None, slice_get}
use Rattle.std.specs.List.{flat_map}
use Rattle.sgt_names.specs.Name.{Name}
use Rattle.sgt_names.specs.Log.{Conflicts}
use Rattle.sgt_names.specs.declared.entry.Entry.{Entry}
use Rattle.sgt_names.specs.declared.entry.Entry.TheVariants.{Read}
use Rattle.sgt_names.specs.declared.entry.Kind.{Kind}
use Rattle.sgt_site.specs.State.{SiteState, IsSite}
use Rattle.sgt_edges.specs.declared.edge.Edge.{Edge}
use Rattle.sgt_order.specs.Graph.{Reaches}
use Rattle.sgt_certifier.specs.Certifier.{Ruling, committed, refused, withdrawn}
use Rattle.sgt_certifier.specs.History.{Replays}
use Rattle.sgt_certifier.specs.Kept.{Kept}
use Rattle.sgt_certifier.specs.declared.call.Call.{Call}
use Rattle.sgt_certifier.specs.declared.call.Call.TheVariants as call
use Rattle.sgt_workers.specs.declared.ticket.Ticket.{Ticket}
use Rattle.sgt_workers.specs.declared.ticket.Done.{Done}
use Rattle.sgt_workers.specs.declared.ticket.Ending.TheVariants as ending
use Rattle.sgt_service_settle.specs.Told.{handed_in, IsNamed, IsCommittedBy, IsCommitted}
use Rattle.sgt_service_agreement.specs.Agreed.{VersionsAgree}
use Rattle.sgt_service_agreement.specs.declared.counts.EntryCounts.{EntryCounts}
use Rattle.sgt_service_settle.specs.declared.handed.Handed.{Handed}

-- ---- tickets

abbrev pub tickets_of : List Done → List Ticket
tickets_of dones = flat_map (λ d. d.tickets.items) dones

-- the ticket has the transaction and the verdict of the decision
abbrev pub Tells : Ticket → Ruling → Type 0
Tells t (committed tx) = (t.tx ≡ tx) × (t.verdict ≡ ending.Committed)
Tells t (refused tx walk) = (t.tx ≡ tx) × (t.verdict ≡ ending.Refused)
Tells t (withdrawn tx) = (t.tx ≡ tx) × (t.verdict ≡ ending.Withdrawn)

-- the ticket tells the decision of its number
abbrev pub IsGood : List Ruling → Ticket → Type 0
IsGood rulings t = (r : Ruling) × (slice_get rulings t.number ≡ Some r) × Tells t r

-- how many tickets have the number
abbrev pub count_of : ℕ → List Ticket → ℕ
count_of number tickets = count_by (λ t. t.number == number) tickets

-- the tickets of a script rise
abbrev pub Rises : Done → Type 0
Rises d = AllPairs (λ (t u : Ticket). t.number < u.number) d.tickets.items

-- the tickets are the decisions, each once, and those of each script in order
pub record AreTickets (rulings : List Ruling) (dones : List Done) : Type 0 where
  pub good : All (IsGood rulings) (tickets_of dones)
  pub once : (number : ℕ) → number < length rulings → count_of number (tickets_of dones) ≡ 1
  pub rising : All Rises dones

-- ---- begins

abbrev pub is_begin : Call → Bool
is_begin (call.Begin tx h) = true
is_begin _ = false

-- how many transactions a history begins
abbrev pub begins_in : List Call → ℕ
begins_in history = count_by is_begin history

-- ---- sites

abbrev pub is_read : Entry → Bool
is_read (Read tx x v) = true
is_read _ = false

-- the log has as many reads and as many other entries as were counted
pub record AreEntriesCounted (counts : EntryCounts) (log : List Entry) : Type 0 where
  pub reads : count_by is_read log ≡ counts.reads
  pub others : count_by (λ e. not (is_read e)) log ≡ counts.others

-- the edge is a conflict of the log with its label; the history names its ends
abbrev pub IsLogged : List Call → List Entry → Edge → Type 0
IsLogged history log e =
    (a : ℕ) × (b : ℕ) × IsNamed history e.from a × IsNamed history e.to b
    × Conflicts log e.label.kind e.label.item a b

-- an edge on the item, handed to a decision of at most this number, leads from a to b, which are
-- committed
pub record Carries (history : List Call) (rulings : List Ruling) (site : ℕ) (x : Name) (last a b : ℕ) : Type 0 where
  pub handed : Handed
  pub is : Contains (handed_in history) handed
  pub early : handed.number ≤ last
  pub here : handed.edge.label.site ≡ site
  pub item : handed.edge.label.item ≡ x
  pub from : IsNamed history handed.edge.from a
  pub to : IsNamed history handed.edge.to b
  pub first : IsCommitted rulings a
  pub second : IsCommitted rulings b

-- the log of a site has the entries that were counted, and its conflicts are those that the
-- decisions were handed
pub record IsLogSettled (history : List Call) (rulings : List Ruling) (site : ℕ) (counts : EntryCounts)
    (log : List Entry) : Type 0 where
  pub counted : AreEntriesCounted counts log
  -- each edge that a decision was handed is a conflict of the log
  pub edges : (h : Handed) → Contains (handed_in history) h → h.edge.label.site ≡ site
      → IsLogged history log h.edge
  -- of two conflicting committed transactions edges lead from the earlier to the later, handed
  -- until both were decided
  pub conflicts : (kind : Kind) (x : Name) (a b m n : ℕ) → Conflicts log kind x a b →
      IsCommittedBy rulings a m → IsCommittedBy rulings b n
      → Reaches (Carries history rulings site x (max m n)) a b

-- the site is the one of this number, and agrees with the history; one that isn't there has no edge
abbrev pub IsSiteSettled : List Call → List Ruling → List EntryCounts → ℕ → Option SiteState
    → Type 0
IsSiteSettled history rulings counts site (Some s) =
    (c : EntryCounts) × (slice_get counts site ≡ Some c) × (s.number ≡ site)
    × IsLogSettled history rulings site c s.entries
IsSiteSettled history rulings counts site None =
    (h : Handed) → Contains (handed_in history) h → h.edge.label.site ≡ site → ⊥

-- it is the site of this number, with the entries that were counted
abbrev pub IsCounted : ℕ → EntryCounts → SiteState → Type 0
IsCounted k c s = (s.number ≡ k) × AreEntriesCounted c s.entries

-- so is what stands at its place, if anything does
abbrev pub AreCountedAt : List SiteState → List EntryCounts → ℕ → Type 0
AreCountedAt sites counts k =
    (s : SiteState) (c : EntryCounts) → slice_get sites k ≡ Some s → slice_get counts k ≡ Some c
    → IsCounted k c s

-- ---- a run

-- what is left of a run: the certifier, the sites and the entries that were counted at each by
-- their places, and what each script
-- was told
pub record Run : Type 0 where
  pub certifier : Kept
  pub sites : List SiteState
  pub counts : List EntryCounts
  pub dones : List Done

-- the certifier's state is the replay of its history, and each site is one whose log its own calls
-- made
pub record AreKept (r : Run) : Type 0 where
  pub replays : Replays r.certifier.history r.certifier.state
  pub sites : All IsSite r.sites

abbrev pub IsSettledAt : Run → ℕ → Type 0
IsSettledAt r site =
    IsSiteSettled r.certifier.history r.certifier.state.rulings r.counts site
    (slice_get r.sites site)

-- the tickets are the decisions of the history, which begins as many transactions as there are
-- tickets; at each place is the site of that number, which agrees with it, and each version is the
-- number of installs that it counts
pub record IsSettled (r : Run) : Type 0 where
  pub kept : AreKept r
  pub tickets : AreTickets r.certifier.state.rulings r.dones
  pub begun : begins_in r.certifier.history ≡ length (tickets_of r.dones)
  pub sites : (site : ℕ) → IsSettledAt r site
  pub versions : All (VersionsAgree r.certifier.history) r.sites
