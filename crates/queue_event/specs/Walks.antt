-- A walk along a chain: what is left of it, what a turn gives, and what is found. Assumes nothing.
use Rattle.std.specs.Prelude.{ℕ, ◌<◌, ◌≡◌, List, [], ◌∷◌, Option, None, Some, MatchOption, IfSome}
use Rattle.queue_event.specs.Chain.{Node, nodes}
use Rattle.queue_event.specs.Frame.{node}
use Rattle.queue_event.specs.Tail.{EndsAt}
use Rattle.queue_event.specs.declared.chain.Linked.{Linked}
use Rattle.queue_event.specs.declared.read.Record.{Record}

-- the records that are left, in order, each with its number
abbrev pub left : Linked → List Node
left s = nodes s.records.now s.chain.count s.chain.head

-- a turn gives the first of them, of the same words, or none is left
abbrev pub Walked : Linked → Option Record → Linked → Type 0
Walked s r t =
    MatchOption r ((left s ≡ []) × (left t ≡ []))
    (λ x. (left s ≡ node s.records.now x.at ∷ left t) × (x.records.now ≡ s.records.now) × (t.records.now ≡ s.records.now))

-- the number of what is found, and p where nothing is
abbrev pub number_or : ℕ → Option Record → ℕ
number_or p None = p
number_or p (Some x) = x.at

-- the first of n records from h on, and none where n is 0
abbrev pub FirstOf : List ℕ → ℕ → ℕ → Option Record → Type 0
FirstOf rs n h r = MatchOption r (n ≡ 0) (λ x. (0 < n) × (x.at ≡ h) × (x.records.now ≡ rs))

-- what is found is the record of this number in rs, and nothing where it is 0
pub record Finds (rs : List ℕ) (goal : ℕ) (r : Option Record) : Type 0 where
  pub number : number_or 0 r ≡ goal
  pub of : IfSome r (λ x. x.records.now ≡ rs)

-- what is told is record r, one of chain number k that nothing follows; nothing is told only where it is no such record
abbrev pub ToldEnd : List ℕ → ℕ → ℕ → Option Record → Type 0
ToldEnd rs k r o = MatchOption o (EndsAt rs k r → ⊥) (λ x. (x.records.now ≡ rs) × (x.at ≡ r) × EndsAt rs k r)
