-- What a line asks for: its call, with what its arguments stand for. Assumes nothing.
use Rattle.std.specs.Prelude.{ℕ, ◌+◌, Bool, List, eqb, leb, ltb, get_or, if◌then◌else◌}
use Rattle.std.proofs.Math.Option.{Option, none, some}
use Rattle.rules.specs.State.{Fixed}
use Rattle.rules.specs.ChoiceRound.{Slot}
use Rattle.rules.specs.Arguments.{Call, EventIn, ActionIn, push, set_action, clear_action, set_timer, clear_timer, pick_next, sim_network_stack}
use Rattle.rules.specs.Opening.{Opening}
use Rattle.event.specs.HandedIn.{side_of, event_in, action_in}
use Rattle.simulator.specs.Numbers.{slot_in}
use Rattle.simulator.specs.Openings.{opening_of}
use Rattle.call_words.specs.Names.{named}
use Rattle.call_words.specs.Shapes.{is_absent, fits, shape_of}
use Rattle.call_words.specs.declared.names.Block.{Block}
use Rattle.call_words.specs.declared.names.Block.TheVariants.{First, Second}
use Rattle.call_words.specs.declared.names.Name.{Name}
use Rattle.call_words.specs.declared.names.Name.TheVariants.{Lend, Word, Open, Push, SetAction, ClearAction, SetTimer, ClearTimer, PickNext, SimNetworkStack, Show, Words, TakeSecond, Pack}
use Rattle.call_words.specs.declared.shapes.Argument.{Argument}
use Rattle.call_words.specs.declared.shapes.Form.TheVariants.{NoWord}
use Rattle.call_words.specs.declared.asked.Asked.{Asked}
use Rattle.call_words.specs.declared.asked.BadLine.{BadLine}
use Rattle.call_words.specs.declared.asked.Call.{Call as Called}
use Rattle.call_words.specs.declared.asked.Asked.TheVariants as asked
use Rattle.call_words.specs.declared.asked.Call.TheVariants as made
use Rattle.std.specs.Prelude as code

-- what a line asks for; a bad line, and one that is passed over, ask for nothing
pub data Asks : Type 0 where
  passed_over bad : Asks
  lends : ℕ → Asks
  writes : ℕ → ℕ → Asks
  opens : Opening → Asks
  makes : Call → Asks
  shows lists : Asks
  lends_second : ℕ → Asks
  writes_second : ℕ → ℕ → Asks
  lists_second takes_second packs : Asks

-- ---- the arguments

-- the form and the value of argument i
abbrev pub argument : List Argument → ℕ → Argument
argument a i = get_or a i (record { form = NoWord; value = 0 })

abbrev pub value : List Argument → ℕ → ℕ
value a i = (argument a i).value

-- flag 1 is set; of the sides 1 is the client
abbrev pub is_set : List Argument → ℕ → Bool
is_set a i = eqb (value a i) 1

-- KIND MOMENT DELAY SIDE PADDING BYPASS REPLACE MACHINE, from argument i on
abbrev pub event_at : List Argument → ℕ → EventIn
event_at a i =
    record {
      kind = value a i;
      moment = value a (i + 1);
      delay = value a (i + 2);
      side = side_of (is_set a (i + 3));
      padding = is_set a (i + 4);
      bypass = is_set a (i + 5);
      replace = is_set a (i + 6);
      machine = value a (i + 7);
    }

-- SIDE MACHINE
abbrev pub slot_at : List Argument → Slot
slot_at a = slot_in (is_set a 0) (value a 1)

-- KIND MOMENT DURATION BYPASS REPLACE, after SIDE MACHINE
abbrev pub action_at : List Argument → ActionIn
action_at a = record { kind = value a 2; moment = value a 3; duration = value a 4; bypass = is_set a 5; replace = is_set a 6 }

-- "A rate is a number, or `-` for absent."
abbrev pub rate_at : List Argument → ℕ → Option ℕ
rate_at a i = if is_absent (argument a i).form then none else some (value a i)

-- "opens: network delay, network rate, queue rate, window, action delays, reporting delays and machine counts of client and server"
abbrev pub fixed_at : List Argument → ℕ → ℕ → ℕ → Fixed
fixed_at a action reporting machines = record { action_delay = value a action; reporting_delay = value a reporting; machines = value a machines }

abbrev pub opening_at : List Argument → Opening
opening_at a =
    record {
      settings = record { network_delay = value a 0; network_rate = rate_at a 1; queue_rate = rate_at a 2; window = value a 3 };
      client = fixed_at a 4 6 8;
      server = fixed_at a 5 7 9;
    }

-- ---- the line

-- the words of a block
abbrev pub lent_of : Block → ℕ → Asks
lent_of First n = lends n
lent_of Second n = lends_second n

abbrev pub written_of : Block → ℕ → ℕ → Asks
written_of First i v = writes i v
written_of Second i v = writes_second i v

abbrev pub listed_of : Block → Asks
listed_of First = lists
listed_of Second = lists_second

-- "`lend` or `lend_second` goes past 8,192 or `word` or `word_second` past 8,191": a bad line
abbrev pub within : Bool → Asks → Asks
within fine a = if fine then a else bad

abbrev pub lends_within : Block → List Argument → Asks
lends_within block a = within (leb (value a 0) 8192) (lent_of block (value a 0))

abbrev pub writes_within : Block → List Argument → Asks
writes_within block a = within (ltb (value a 0) 8192) (written_of block (value a 0) (value a 1))

-- what a line of this name asks for with these arguments
unfoldable pub asks : Name → List Argument → Asks
asks (Lend block) a = lends_within block a
asks (Word block) a = writes_within block a
asks Open a = opens (opening_at a)
asks Push a = makes (push (event_at a 0))
asks SetAction a = makes (set_action (slot_at a) (action_at a))
asks ClearAction a = makes (clear_action (slot_at a))
asks SetTimer a = makes (set_timer (slot_at a) (value a 2))
asks ClearTimer a = makes (clear_timer (slot_at a))
asks PickNext a = makes (pick_next (value a 0))
asks SimNetworkStack a = makes (sim_network_stack (value a 0) (event_at a 1))
asks Show a = shows
asks (Words block) a = listed_of block
asks TakeSecond a = takes_second
asks Pack a = packs

-- what a line of this name asks for, where it names one
abbrev pub asks_where : code.Option Name → List Argument → Asks
asks_where code.None a = bad
asks_where (code.Some name) a = if fits a (shape_of name) then asks name a else bad

-- what a line asks for whose first word is w, and whose arguments are these
unfoldable pub understood : List ℕ → List Argument → Asks
understood w a = asks_where (named w) a

-- ---- the declared enums

-- a call on the state, as the rules have it
abbrev pub call_of : Called → Call
call_of (made.Push e) = push (event_in e)
call_of (made.SetAction s a) = set_action (slot_in s.client s.machine) (action_in a)
call_of (made.ClearAction s) = clear_action (slot_in s.client s.machine)
call_of (made.SetTimer s m) = set_timer (slot_in s.client s.machine) m.0
call_of (made.ClearTimer s) = clear_timer (slot_in s.client s.machine)
call_of (made.PickNext t) = pick_next t.0
call_of (made.SimNetworkStack t e) = sim_network_stack t.0 (event_in e)

abbrev pub asks_of : Asked → Asks
asks_of (asked.Lend block n) = lent_of block n
asks_of (asked.Word block i v) = written_of block i v
asks_of (asked.Open o) = opens (opening_of o)
asks_of (asked.Make c) = makes (call_of c)
asks_of asked.Show = shows
asks_of (asked.Words block) = listed_of block
asks_of asked.TakeSecond = takes_second
asks_of asked.Pack = packs

-- what a line asks for, or a bad line
abbrev pub asked_or_bad : code.Result Asked BadLine → Asks
asked_or_bad (code.Ok a) = asks_of a
asked_or_bad (code.Err e) = bad
