-- What the words in view hold, as the rules have it. Assumes nothing.
use Rattle.std.specs.Prelude.{ℕ, Bool, Option, Some, None}
use Rattle.std.proofs.Math.Option.{Option as RulesOption, none, some}
use Rattle.rules.specs.State.{State, SideState, side}
use Rattle.event.specs.HandedIn.{side_of}
use Rattle.layout.specs.Layout.{state_from}
use Rattle.moment.specs.declared.Moment.{Moment}
use Rattle.queue.specs.declared.view.View.{View}
use Rattle.queue.specs.declared.view.SideView.{SideView}

-- the state that is held, and a side of it
abbrev pub state_in : View → State
state_in v = state_from v.words.header.now v.records.now

abbrev pub side_in : View → Bool → SideState
side_in v client = side (state_in v) (side_of client)

-- the side that a view of one shows
abbrev pub side_at : SideView → SideState
side_at v = side_in v.view v.client

-- a moment that may be none
abbrev pub moment_no : Option Moment → RulesOption ℕ
moment_no None = none
moment_no (Some m) = some m.0
