-- What the calls' answers are in the words of the rules: document 01's number and values for each case. Assumes nothing.
use Rattle.std.specs.Prelude.{ℕ, Option, Some, None, Result, Ok, Err}
use Rattle.std.proofs.Math.Option.{Option as MathOption, none, some}
use Rattle.rules.specs.State.{Event}
use Rattle.rules.specs.Choice.{Answer as RulesAnswer, done, event, nothing_left, step_made, refused}
use Rattle.event.specs.Values.{known_event}
use Rattle.event.specs.declared.SimEvent.{SimEvent}
use Rattle.event.specs.declared.answer.Chosen.{Chosen}
use Rattle.event.specs.declared.answer.Reason.{Reason}
use Rattle.event.specs.declared.answer.Reason.TheVariants.{
  WrongLength,
  NotAccepted,
  Ended,
  OpeningOutside,
  NoMachine,
  NoKind,
  AboveLimit,
  DelayAboveMoment,
  NoRoom,
  PastLimit,
}
use Rattle.event.specs.declared.answer.Refusal.{Refusal}
use Rattle.event.specs.declared.answer.Stepped.{Stepped}
use Rattle.moment.specs.declared.Moment.{Moment}

-- "Numbers of a refusal"
abbrev pub number_of : Reason → ℕ
number_of WrongLength = 1
number_of NotAccepted = 2
number_of Ended = 3
number_of OpeningOutside = 4
number_of NoMachine = 5
number_of NoKind = 6
number_of AboveLimit = 7
number_of DelayAboveMoment = 8
number_of NoRoom = 9
number_of PastLimit = 10

-- a refusal before any round
abbrev pub refusal_for : Reason → Refusal
refusal_for r = record { reason = r; rounds = 0 }

abbrev pub refused_by : Refusal → RulesAnswer
refused_by r = refused (number_of r.reason) r.rounds

-- the answer of a push, and of setting, clearing and opening
abbrev pub answer_of : Result Unit Refusal → RulesAnswer
answer_of (Ok u) = done
answer_of (Err r) = refused_by r

-- an event that is answered, with the rounds made; a number that is no kind's makes it `done`, which no choice answers
abbrev pub chosen_as : MathOption Event → ℕ → RulesAnswer
chosen_as none k = done
chosen_as (some e) k = event e k

-- what a choice found
abbrev pub found_as : Option SimEvent → ℕ → RulesAnswer
found_as None k = nothing_left k
found_as (Some e) k = chosen_as (known_event e) k

-- the answer of a choice
abbrev pub choice_of : Result Chosen Refusal → RulesAnswer
choice_of (Ok c) = found_as c.event c.rounds
choice_of (Err r) = refused_by r

-- when the packet count falls
abbrev pub falls_of : Option Moment → MathOption ℕ
falls_of None = none
falls_of (Some t) = some t.0

-- the answer of a network step
abbrev pub step_of : Result Stepped Refusal → RulesAnswer
step_of (Ok m) = step_made m.active (falls_of m.falls)
step_of (Err r) = refused_by r
