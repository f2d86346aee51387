-- The declared types of the aggregate tests as the rules' values, and the tests with their margins and their sum handed in. Assumes nothing.
use Rattle.std.specs.Prelude.{ℕ, ◌-◌, ◌≡◌, ◌⊎◌, Bool, ◌&&◌, not, eqb, if◌then◌else◌, Option, Some, None}
use mathlib.Core.List.{List, [], tail}
use Rattle.std.proofs.Math.Option.{Option as RulesOption, none, some}
use Rattle.rules.specs.Aggregates.{some_sum, any_within, waiting, within, base_moment, buffer_window, base_window, adjacent_window}
use Rattle.rules.specs.State.{SideState, queue, with_queue, with_queues}
use Rattle.moment.specs.declared.Length.{Length}
use Rattle.queue.specs.declared.header.Queue.{Queue}
use Rattle.queue.specs.declared.header.Queue.TheVariants.{Blocking, Bypassable}
use Rattle.queue.specs.Queues.{queue_of}
use Rattle.queue.specs.Views.{moment_no}
use Rattle.delay.specs.declared.Margins.{Margins}
use Rattle.delay.specs.declared.Tested.{Tested}
use Rattle.delay.specs.declared.Asked.{Asked}
use Rattle.delay.specs.Waiting.{burst_tail_over}

-- ---- values

-- a length to be aggregated
abbrev pub delayed_of : Option Length → RulesOption ℕ
delayed_of None = none
delayed_of (Some l) = some l.0

-- what a test found is this length, with these sums formed
pub record TestedAs (t : Tested) (by : RulesOption ℕ) (sums : List ℕ) : Type 0 where
  pub found : delayed_of t.by ≡ by
  pub formed : some_sum (moment_no t.base) ≡ sums

-- a test's answer is this, with these sums formed
pub record AskedAs (t : Asked) (yes : Bool) (sums : List ℕ) : Type 0 where
  pub found : t.yes ≡ yes
  pub formed : some_sum (moment_no t.base) ≡ sums

-- the margins of delay.rs
abbrev pub usual_margins : Margins
usual_margins = record { buffer = record { 0 = buffer_window }; base = record { 0 = base_window }; adjacent = record { 0 = adjacent_window } }

-- the two queues of `TunnelSent`, whose packets wait
abbrev pub Packets : Queue → Type 0
Packets q = (q ≡ Blocking) ⊎ (q ≡ Bypassable)

-- a side without the head of this queue
unfoldable pub without : SideState → Queue → SideState
without x q = with_queues x (with_queue x.queues (queue_of q) (tail (queue x.queues (queue_of q))))

-- ---- the rules' tests, with the margins and the sum handed in: proofs/Rules has them equal at the usual margins

-- on_expire
unfoldable pub expire_over : Margins → ℕ → SideState → ℕ → ℕ → RulesOption ℕ
expire_over m sum x end u =
    let t : ℕ = burst_tail_over m.buffer.0 x u in
    if eqb end t then none
    else if within m.base.0 u (base_moment sum x.queues.base) then none else some (end - t)

-- on_replace
unfoldable pub replace_over : Margins → ℕ → SideState → ℕ → ℕ → RulesOption ℕ
replace_over m sum x now u =
    if any_within m.adjacent.0 u (waiting x) then none
    else if within m.base.0 u (base_moment sum x.queues.base) then none else some (now - u)

-- on_delayed
unfoldable pub delayed_over : Margins → ℕ → SideState → ℕ → Bool
delayed_over m sum x u =
    not (any_within m.adjacent.0 u (waiting x)) && not (within m.base.0 u (base_moment sum x.queues.base))

-- test_sums
unfoldable pub sums_over : Margins → ℕ → SideState → ℕ → List ℕ
sums_over m sum x u = if any_within m.adjacent.0 u (waiting x) then [] else some_sum (base_moment sum x.queues.base)
