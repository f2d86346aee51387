-- Document 02, M-100: what two states have in common where they hold the same forecast. The numbers of records, and which are free, are no part of it.
use Rattle.std.specs.Prelude.{◌≡◌, List, [], ◌∷◌}
use Rattle.rules.specs.State.{Held, Chain, queue, SideState, State}

-- the contents of a chain: what stands in it, from its head, without the numbers of the records
abbrev pub values : {A : Type 0} → List (Held A) → List A
values [] = []
values (x ∷ l) = x.value ∷ values l

-- "their settings, slots, sums, block ends and flags, chain contents [..] agree", of one side
pub record SideAgrees (x y : SideState) : Type 0 where
  pub settings : x.fixed ≡ y.fixed
  pub timers : x.timers ≡ y.timers
  pub actions : x.actions ≡ y.actions
  pub sum : x.sum ≡ y.sum
  pub block_end : x.block_end ≡ y.block_end
  pub flag : x.block_bypassable ≡ y.block_bypassable
  pub events : (c : Chain) → values (queue x.queues c) ≡ values (queue y.queues c)
  pub stamps : values x.stamps ≡ values y.stamps

-- "their settings, slots, sums, block ends and flags, chain contents, ended marks and round totals agree"
pub record Agree (s t : State) : Type 0 where
  pub settings : s.settings ≡ t.settings
  pub client : SideAgrees s.client t.client
  pub server : SideAgrees s.server t.server
  pub aggregates : values s.aggregates ≡ values t.aggregates
  pub ended : s.ended ≡ t.ended
  pub rounds : s.rounds ≡ t.rounds
