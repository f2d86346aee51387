-- The changes that calls make to the lent words, as laws and contracts name them: a slot's words, the words of a chain, two chains given anew. Assumes nothing.
use Rattle.std.specs.Prelude.{ℕ, ◌+◌, ◌*◌, ◌<◌, ◌≡◌, List, length, set}
use Rattle.rules.specs.Basics.{Side, client, server}
use Rattle.rules.specs.State.{Event, Held, Chain, base, blocking, bypassable, internal, State, side, with_side, with_queue, with_queues, with_free}
use Rattle.queue_event.specs.Chain.{Node, Is}
use Rattle.layout.specs.Records.{chain_count, head_of, count_of, chain_at}

-- ---- numbers

-- "A side is 0 for the client and 1 for the server."
abbrev pub side_no : Side → ℕ
side_no client = 0
side_no server = 1

-- the numbers of the event chains and of the stamps of a side
abbrev pub chain_no : Side → Chain → ℕ
chain_no client base = 1
chain_no client blocking = 2
chain_no client bypassable = 3
chain_no client internal = 4
chain_no server base = 6
chain_no server blocking = 7
chain_no server bypassable = 8
chain_no server internal = 9

abbrev pub stamps_no : Side → ℕ
stamps_no client = 5
stamps_no server = 10

-- an event chain and the free places given anew
abbrev pub with_chain : State → Side → Chain → List (Held Event) → List ℕ → State
with_chain s z c l f = with_free (with_side s z (with_queues (side s z) (with_queue (side s z).queues c l))) f

-- ---- the header

-- slot j's timer, and slot j's action: kind and flags, moment, duration
abbrev pub put_timer : ℕ → ℕ → List ℕ → List ℕ
put_timer j v w = set w (64 + j) v

abbrev pub put_action : ℕ → ℕ → ℕ → ℕ → List ℕ → List ℕ
put_action j a m d w = set (set (set w (96 + 3 * j) a) (97 + 3 * j) m) (98 + 3 * j) d

-- the words of chain k given anew
unfoldable pub put_chain : List ℕ → ℕ → ℕ → ℕ → List ℕ
put_chain h k a n = set (set h (24 + 2 * k) a) (25 + 2 * k) n

-- ---- chains

-- the header with the words of both chains given anew
abbrev pub put_two : List ℕ → ℕ → ℕ → ℕ → ℕ → ℕ → ℕ → List ℕ
put_two h j a n k b m = put_chain (put_chain h j a n) k b m

-- in rs' chain j holds y, from a and n long, chain k holds x, from b and m long, and the others hold what they held in rs
pub record TwoChains (h rs rs' : List ℕ) (j a n k b m : ℕ) (y x : List Node) : Type 0 where
  pub wide : length h ≡ 256
  pub len : length rs' ≡ length rs
  pub one_small : j < chain_count
  pub other_small : k < chain_count
  pub differ : k ≡ j → ⊥
  pub one : Is j rs' n a y
  pub other : Is k rs' m b x
  pub others : (i : ℕ) → i < chain_count → (i ≡ k → ⊥) → (i ≡ j → ⊥) → Is i rs' (count_of h i) (head_of h i) (chain_at h rs i)
