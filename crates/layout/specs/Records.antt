-- docs/LAYOUT.md, "Chains" and "Records, 1 to R": what a record of a chain may hold, and what a chain may. Assumes nothing.
use Rattle.std.specs.Prelude.{ℕ, zero, suc, ◌+◌, ◌-◌, ◌*◌, ◌≤◌, ◌<◌, ◌%◌, ◌/◌, ◌≡◌, List, [], ◌∷◌, length, get_or}
use Rattle.rules.specs.Limits.{moment_limit, delay_limit}
use Rattle.queue_event.specs.Words.{next_of, moment_of, length_of, tag_of, In}
use Rattle.queue_event.specs.Tag.{mark_of, kind_field, bypass_field, side_field, machine_field}
use Rattle.queue_event.specs.Chain.{Node, nodes, Chain as Linked}
use Rattle.layout.specs.Header.{machines_of}

-- ---- "Chains": their numbers

-- chains 0 to 11; number 12 is kept for M-210
abbrev pub chain_count : ℕ
chain_count = 12

-- "24 + 2k, 25 + 2k | head and count of chain k"
abbrev pub head_of : List ℕ → ℕ → ℕ
head_of h k = get_or h (24 + 2 * k) 0

abbrev pub count_of : List ℕ → ℕ → ℕ
count_of h k = get_or h (25 + 2 * k) 0

-- chains 1 to 5 are the client's and 6 to 10 the server's: the machine count of the chain's side. The records of 0 and 11 have no machine
abbrev pub machines_for : List ℕ → ℕ → ℕ
machines_for h k = machines_of h (k / 6)

-- ---- the fields of an event's tag

-- how many machines an event of this kind may name, of a side with so many: kinds 2, 6, 8 and 9 have one, all others name 0
pub record MachineBound (kind machines bound : ℕ) : Type 0 where
  pub padding : kind ≡ 2 → bound ≡ machines
  pub blocking : kind ≡ 6 → bound ≡ machines
  pub timer : 7 < kind → bound ≡ machines
  pub none : (kind ≡ 2 → ⊥) → (kind ≡ 6 → ⊥) → kind ≤ 7 → bound ≡ 1

-- "an event's machine (kinds 2, 6, 8, 9) is below its side's count"
pub record MachineBelow (kind machines machine : ℕ) : Type 0 where
  pub padding : kind ≡ 2 → machine < machines
  pub blocking : kind ≡ 6 → machine < machines
  pub timer : 7 < kind → machine < machines

-- "of other kinds it is 0"
abbrev pub NoMachine : ℕ → ℕ → Type 0
NoMachine kind machine = (kind ≡ 2 → ⊥) → (kind ≡ 6 → ⊥) → kind ≤ 7 → machine ≡ 0

-- both
pub record MachineOk (kind machines machine : ℕ) : Type 0 where
  pub below : MachineBelow kind machines machine
  pub none : NoMachine kind machine

-- "every event in the chain its kind and side call for", base (1), blocking (2), bypassable (3) or internal (4): "base holds kind 1, blocking kind 0 without
-- and bypassable kind 0 with the bypass flag, internal kinds 2 to 9"
pub record KindOk (place kind flag : ℕ) : Type 0 where
  pub kinds : kind ≤ 9
  pub base : place ≡ 1 → kind ≡ 1
  pub waiting : 1 < place → place < 4 → kind ≡ 0
  pub bypass : 1 < place → place < 4 → flag ≡ place - 2
  pub internal : 3 < place → 1 < kind

-- ---- the shape of a record: "a field that its record does not use is 0"

-- "an event's tag is below 65,536 and has side 0", in the chain of this place
pub record EventShape (place tag : ℕ) : Type 0 where
  pub rest : tag < 65536
  pub side : side_field tag ≡ 0
  pub kind : KindOk place (kind_field tag) (bypass_field tag)
  pub machine : NoMachine (kind_field tag) (machine_field tag)

-- "a stamp's is 5 or 10 and its length word 0": nothing but the chain number
pub record StampShape (span tag : ℕ) : Type 0 where
  pub spans : span ≡ 0
  pub rest : tag < 16

-- "an aggregate's tag is 11 or 2,059"
pub record AggregateShape (tag : ℕ) : Type 0 where
  pub rest : tag % 2048 ≡ 11
  pub side : tag < 4096

-- a record of chain k: 0 free, 5 and 10 stamps, 11 aggregates, else events. "Of a free record only next and chain number 0 mean anything"
pub record RecordShape (k span tag : ℕ) : Type 0 where
  pub chain : mark_of tag ≡ k
  pub event : 0 < k % 5 → k < 11 → EventShape (k % 5) tag
  pub stamp : k % 5 ≡ 0 → 0 < k → StampShape span tag
  pub aggregate : k ≡ 11 → AggregateShape tag

-- ---- what its shape leaves open

-- an event of a side with so many machines: moment, delay and machine within their limits
pub record EventLimits (machines moment span tag : ℕ) : Type 0 where
  pub moments : moment ≤ moment_limit
  pub spans : span ≤ delay_limit
  pub machine : MachineBelow (kind_field tag) machines (machine_field tag)

-- an aggregate: moment and length within their limits
pub record AggregateLimits (moment span : ℕ) : Type 0 where
  pub moments : moment ≤ moment_limit
  pub spans : span ≤ moment_limit

-- ---- a record, of its shape and within its limits

pub record EventOk (place machines moment span tag : ℕ) : Type 0 where
  pub shape : EventShape place tag
  pub limits : EventLimits machines moment span tag

pub record AggregateOk (moment span tag : ℕ) : Type 0 where
  pub shape : AggregateShape tag
  pub limits : AggregateLimits moment span

pub record StampOk (moment span tag : ℕ) : Type 0 where
  pub shape : StampShape span tag
  pub moments : moment ≤ moment_limit

-- a record of chain k, whose side has so many machines
pub record RecordOk (k machines moment span tag : ℕ) : Type 0 where
  pub shape : RecordShape k span tag
  pub event : 0 < k % 5 → k < 11 → EventLimits machines moment span tag
  pub stamp : k % 5 ≡ 0 → 0 < k → moment ≤ moment_limit
  pub aggregate : k ≡ 11 → AggregateLimits moment span

-- ---- one record after another

-- "event chains do not fall in (moment, rank), aggregates do not fall in moment; stamps have no order by moment", and free records have none. An aggregate's rank is 0
pub record Follows (k last-moment last-rank moment rank : ℕ) : Type 0 where
  pub moments : 0 < k % 5 → last-moment ≤ moment
  pub ranks : 0 < k % 5 → last-moment ≡ moment → last-rank ≤ rank

-- ---- a chain, by the list of what it holds

-- each record may stand in chain k
unfoldable pub Fit : ℕ → ℕ → List Node → Type 0
Fit k machines [] = Unit {0}
Fit k machines (x ∷ xs) = RecordOk k machines x.rec.moment x.rec.size x.rec.tag × Fit k machines xs

-- in order, from the moment m and the rank r on
unfoldable pub Ordered : ℕ → ℕ → ℕ → List Node → Type 0
Ordered k m r [] = Unit {0}
Ordered k m r (x ∷ xs) = Follows k m r x.rec.moment (kind_field x.rec.tag) × Ordered k x.rec.moment (kind_field x.rec.tag) xs

abbrev pub chain_at : List ℕ → List ℕ → ℕ → List Node
chain_at h rs k = nodes rs (count_of h k) (head_of h k)

-- "each chain has count records before next 0, every one of them in 1 to R and of its chain's number", its records are its own and in order. A
-- count is held against R before its chain is walked
pub record ChainOk (h rs : List ℕ) (k : ℕ) : Type 0 where
  pub count : count_of h k ≤ length rs / 4
  pub links : Linked rs k (count_of h k) (head_of h k)
  pub fit : Fit k (machines_for h k) (chain_at h rs k)
  pub order : Ordered k 0 0 (chain_at h rs k)

abbrev pub ChainsOk : List ℕ → List ℕ → Type 0
ChainsOk h rs = (k : ℕ) → k < chain_count → ChainOk h rs k

-- the records of the chains below n
unfoldable pub counts_to : List ℕ → ℕ → ℕ
counts_to h zero = 0
counts_to h (suc k) = counts_to h k + count_of h k

-- "Used = records not free", as the code reckons it: R less the free count. It is the state's (proofs/Counts)
abbrev pub used : List ℕ → List ℕ → ℕ
used h rs = length rs / 4 - count_of h 0

-- ---- the same as the test walks it: link by link

-- the record `at` may stand in chain k after one of moment m and rank r
pub record LinkOk (rs : List ℕ) (k machines m r at : ℕ) : Type 0 where
  pub within : In rs at
  pub holds : RecordOk k machines (moment_of rs at) (length_of rs at) (tag_of rs at)
  pub order : Follows k m r (moment_of rs at) (kind_field (tag_of rs at))

-- n records from `at` on, after one of moment m and rank r
unfoldable pub Chain : List ℕ → ℕ → ℕ → ℕ → ℕ → ℕ → ℕ → Type 0
Chain rs k machines zero m r at = at ≡ 0
Chain rs k machines (suc n) m r at = LinkOk rs k machines m r at × Chain rs k machines n (moment_of rs at) (kind_field (tag_of rs at)) (next_of rs at)
