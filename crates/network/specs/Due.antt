-- The aggregates of a delay, as the rules have them, and what adding them asks. Assumes nothing.
use Rattle.std.specs.Prelude.{ℕ, ◌≤◌, ◌≡◌, List, [], ◌∷◌, map, length}
use Rattle.std.proofs.Math.Option.{Option}
use Rattle.rules.specs.Basics.{Side, client, server}
use Rattle.rules.specs.State.{Aggregate}
use Rattle.rules.specs.Aggregates.{aggregates_of}
use Rattle.rules.specs.AggregateMoments.{InCase, MomentCase, case_moment}
use Rattle.event.specs.HandedIn.{aggregate_in}
use Rattle.layout.specs.Shape.{Shaped}
use Rattle.queue.specs.Changes.{count_in}
use Rattle.network.specs.declared.aggregate.TwoAggregates.{TwoAggregates}

-- the client's, then the server's
abbrev pub both_of : TwoAggregates → List Aggregate
both_of b = aggregate_in b.client ∷ aggregate_in b.server ∷ []

-- how many times the network delay a delay at the end z puts off the record of side r
abbrev pub multiple : Side → Side → ℕ
multiple client client = 4
multiple client server = 3
multiple server client = 1
multiple server server = 4

-- a record is due at m: its case says so, whichever of the eight it is (document 02, M-110)
abbrev pub ByCases : Side → Side → ℕ → ℕ → ℕ → ℕ → Type 0
ByCases z r d at len m = (c : MomentCase) → InCase c z r d len → m ≡ case_moment c d at len

-- when they are due
abbrev pub moments : List Aggregate → List ℕ
moments l = map (λ (a : Aggregate). a.moment) l

-- those of a delay at side z have free records
pub record MayAggregate (w : List ℕ) (d : ℕ) (z : Side) (at : ℕ) (by : Option ℕ) : Type 0 where
  pub shaped : Shaped w
  pub free : length (aggregates_of d z at by) ≤ count_in w 0
