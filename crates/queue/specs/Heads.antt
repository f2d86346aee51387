-- The code's heads as the rules' own, and what is known of a head that was found. Assumes nothing.
use Rattle.std.specs.Prelude.{ℕ, ◌+◌, ◌*◌, ◌<◌, ◌≤◌, ◌≡◌, Bool, List, ◌⊎◌, if◌then◌else◌, Option, Some, None}
use Rattle.std.proofs.Math.Option.{Option as RulesOption, none, some}
use Rattle.rules.specs.Basics.{before, rank}
use Rattle.rules.specs.State.{SideState, side, queue}
use Rattle.rules.specs.Limits.{moment_limit}
use Rattle.rules.specs.ChoiceHeads.{head_as, first_by, by_moment, by_delay, Head as RulesHead}
use Rattle.event.specs.HandedIn.{side_of}
use Rattle.event.specs.Values.{event_value}
use Rattle.queue_event.specs.Words.{In}
use Rattle.queue_event.specs.Chain.{rec_at}
use Rattle.queue_event.specs.Values.{read_event}
use Rattle.layout.specs.Records.{head_of, count_of}
use Rattle.layout.specs.Layout.{state_from}
use Rattle.layout.specs.Changes.{side_no}
use Rattle.queue.specs.declared.header.Queue.{Queue}
use Rattle.queue.specs.declared.header.Queue.TheVariants.{Base, Blocking, Bypassable, Internal}
use Rattle.queue.specs.declared.peek.Head.{Head}
use Rattle.queue.specs.declared.peek.Key.{Key}
use Rattle.queue.specs.declared.view.View.{View}
use Rattle.queue.specs.Queues.{queue_no, queue_of}

-- ---- decoding

-- `Head`
unfoldable pub head_from : Head → RulesHead
head_from x = record { chain = queue_of x.queue; place = x.place; event = event_value x.event; moment = x.moment.0 }

-- a head that was found, or none
unfoldable pub found_of : Option Head → RulesOption RulesHead
found_of None = none
found_of (Some x) = some (head_from x)

-- the client's part of the state held, or the server's
abbrev pub side_held : List ℕ → List ℕ → Bool → SideState
side_held h rs client = side (state_from h rs) (side_of client)

-- ---- what is known of a head

-- the number of the chain of a side's queue
abbrev pub number_of : Queue → Bool → ℕ
number_of q client = queue_no q + 5 * side_no (side_of client)

-- the head of a queue of the side, which is not empty; its moment may have the side's sum added
pub record HeadOk (h rs : List ℕ) (client : Bool) (x : Head) : Type 0 where
  pub some : 0 < count_of h (number_of x.queue client)
  pub first : x.place ≡ head_of h (number_of x.queue client)
  pub within : In rs x.place
  pub event : x.event ≡ read_event client (rec_at rs x.place)
  pub side : x.event.client ≡ client
  pub kind : x.event.kind.0 ≤ 9
  pub raw : x.event.moment.0 ≤ moment_limit
  pub moment : x.moment.0 ≤ moment_limit + moment_limit

-- of what was found on a side, and on either
unfoldable pub Stands : List ℕ → List ℕ → Bool → Option Head → Type 0
Stands h rs client None = Unit {0}
Stands h rs client (Some x) = HeadOk h rs client x

unfoldable pub StandsOn : List ℕ → List ℕ → Option Head → Type 0
StandsOn h rs None = Unit {0}
StandsOn h rs (Some x) = HeadOk h rs x.event.client x

-- the kind of what was found is one of the ten
unfoldable pub Known : Option Head → Type 0
Known None = Unit {0}
Known (Some x) = x.event.kind.0 ≤ 9

-- ---- keys

-- what is added to the moments of a side's queue: its sum to base's
abbrev pub added_to : Queue → SideState → ℕ
added_to Base x = x.sum
added_to Blocking x = 0
added_to Bypassable x = 0
added_to Internal x = 0

-- the head of a side's queue as the choice sees it
abbrev pub chain_head : Queue → SideState → RulesOption RulesHead
chain_head q x = head_as (queue_of q) (added_to q x) (queue x.queues (queue_of q))

-- the head of the queue that a key names
abbrev pub key_head : Option Key → SideState → RulesOption RulesHead
key_head None x = none
key_head (Some k) x = chain_head k.queue x

-- there is a key where there is a head, and it has its moment and its rank
unfoldable pub Tells : Option Key → RulesOption RulesHead → Type 0
Tells None none = Unit {0}
Tells None (some x) = ⊥
Tells (Some k) none = ⊥
Tells (Some k) (some x) = (k.moment.0 ≡ x.moment) × (k.rank ≡ rank x.event.kind)

-- the key of a head of the side: that of the queue which it names
pub record KeyOf (x : SideState) (k : Option Key) (o : RulesOption RulesHead) : Type 0 where
  pub is : key_head k x ≡ o
  pub tells : Tells k o

-- ---- promises

-- of a reading of a side's queues: the rules' head, which stands there
pub record Peeked (h rs : List ℕ) (client : Bool) (f : Option Head) (o : RulesOption RulesHead) : Type 0 where
  pub is : found_of f ≡ o
  pub stands : Stands h rs client f

-- of a reading of both sides' queues
pub record PeekedBoth (h rs : List ℕ) (f : Option Head) (o : RulesOption RulesHead) : Type 0 where
  pub is : found_of f ≡ o
  pub stands : StandsOn h rs f

-- the same of the words in view
abbrev pub PeekedIn : View → Bool → Option Head → RulesOption RulesHead → Type 0
PeekedIn v client f o = Peeked v.words.header.now v.records.now client f o

abbrev pub PeekedBothIn : View → Option Head → RulesOption RulesHead → Type 0
PeekedBothIn v f o = PeekedBoth v.words.header.now v.records.now f o

-- the first of two, unless the second is strictly before it
abbrev pub first_in : {A : Type 0} → (A → A → Bool) → Option A → Option A → Option A
first_in lt None b = b
first_in lt (Some x) None = Some x
first_in lt (Some x) (Some y) = if lt y x then Some y else Some x

-- the rules' orders of heads, told by the code's numbers
abbrev pub head_before : Head → Head → Bool
head_before a b = before a.moment.0 a.event.kind.0 b.moment.0 b.event.kind.0

abbrev pub raw_before : Head → Head → Bool
raw_before a b = before a.event.moment.0 a.event.kind.0 b.event.moment.0 b.event.kind.0

abbrev pub key_before : Key → Key → Bool
key_before a b = before a.moment.0 a.rank b.moment.0 b.rank

-- of a choice between two: the rules' first of them, and one of the two
pub record Chosen (lt : RulesHead → RulesHead → Bool) (a b r : Option Head) : Type 0 where
  pub is : found_of r ≡ first_by lt (found_of a) (found_of b)
  pub one : (r ≡ a) ⊎ (r ≡ b)

-- of a choice between two keys of a side: the key of the rules' first of their heads
pub record FirstKey (a b r : Option Key) : Type 0 where
  pub is : (x : SideState) (o p : RulesOption RulesHead) → KeyOf x a o → KeyOf x b p → KeyOf x r (first_by by_moment o p)

-- of a choice between the keys of two sides: whether the rules' first of their heads is the second
pub record SecondSooner (t : ℕ) (a b : Option Key) (r : Bool) : Type 0 where
  pub is : (o p : RulesOption RulesHead) → Tells a o → Tells b p → (if r then p else o) ≡ first_by (by_delay t) o p
