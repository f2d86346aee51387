-- The small inputs of document 01's table of refusals, and each limit at its edge and one past it. The Rust has no such numbers: the values are
-- document 01's.
use Rattle.std.specs.Prelude.{ℕ, [], ◌∷◌, map, ◌≡◌, refl, false, true}
use Rattle.std.proofs.Math.Option.{Option, none, some}
use Rattle.rules.specs.Arguments.{ActionIn, Call, EventIn, pick_next, push, set_action, set_timer, sim_network_stack, clear_action, clear_timer}
use Rattle.rules.specs.Choice.{Answer, done, nothing_left, refused}
use Rattle.rules.specs.State.{BlockOutgoing, Fixed, SendPadding, State, with_ended, with_rounds, ActionKind}
use Rattle.rules.specs.Basics.{NormalSent, Side, client, server}
use Rattle.rules.specs.Opening.{Opening, open_refusal, opened}
use Rattle.rules.specs.ChoiceRound.{Slot}
use Rattle.rules.specs.Calls.{call}
use Rattle.rules.specs.CaseStates.{fresh, handed_in, no_step, plain, queued_in, refused_in, rules, with_action, with_timer, yes_falls, yes_step}

-- ---- what they begin from

-- what opening fixes for a side: action delay, reporting delay, machines
abbrev fixed_as : ℕ → ℕ → ℕ → Fixed
fixed_as a r m = record { action_delay = a; reporting_delay = r; machines = m }

abbrev no_machines : Fixed
no_machines = fixed_as 0 0 0

-- opened with network rate, queue rate, network delay and window, no delay and no machine on either side
abbrev opens_with : Option ℕ → Option ℕ → ℕ → ℕ → Opening
opens_with nr qr d w =
    record { settings = record { network_delay = d; network_rate = nr; queue_rate = qr; window = w }; client = no_machines; server = no_machines }

abbrev plain_opening : Opening
plain_opening = opens_with none none 0 0

-- opened with what is fixed for one side, the other has no delay and no machine
abbrev opens_side : Side → Fixed → Opening
opens_side client f = record { settings = plain_opening.settings; client = f; server = no_machines }
opens_side server f = record { settings = plain_opening.settings; client = no_machines; server = f }

-- opened over 260 words: one record, no machine
abbrev tiny : State
tiny = opened plain_opening 260

abbrev tiny_full : State
tiny_full = queued_in tiny (plain NormalSent 5 client 0)

-- the same with one machine of the client
abbrev one_machine : State
one_machine = opened (opens_side client (fixed_as 0 0 1)) 260

abbrev slot : Side → ℕ → Slot
slot z m = record { side = z; machine = m }

-- an event of the client that is handed in with kind, moment, delay and machine
abbrev event_for : ℕ → ℕ → ℕ → ℕ → EventIn
event_for k t d m = record { kind = k; moment = t; delay = d; side = client; padding = false; bypass = false; replace = false; machine = m }

abbrev action_for : ℕ → ℕ → ℕ → ActionIn
action_for k t d = record { kind = k; moment = t; duration = d; bypass = false; replace = false }

-- a client action that a slot holds: its kind, moment and duration
abbrev holding : State → ActionKind → ℕ → ℕ → State
holding s k t d = with_action s client 0 (record { kind = k; moment = t; duration = d; bypass = false; replace = false })

-- the block action that gives 10: it would end at 2^62
abbrev last_block : State
last_block = holding fresh BlockOutgoing 4_611_686_018_427_387_903 1

-- the answer of a call
abbrev told : State → Call → Answer
told s c = (call s c).answer

-- ---- the numbers, each with the table's small input

pub record TableInputs : Type 0 where
  -- 1: 0 words; and the lengths about R = 1 and R = 65,535
  pub one : map (λ (words : ℕ). open_refusal words plain_opening) (0 ∷ 256 ∷ 259 ∷ 261 ∷ 262_400 ∷ []) ≡ some 1 ∷ some 1 ∷ some 1 ∷ some 1 ∷ some 1 ∷ []
  pub lengths : map (λ (words : ℕ). open_refusal words plain_opening) (260 ∷ 264 ∷ 262_396 ∷ []) ≡ none ∷ none ∷ none ∷ []
  -- 3: a choice after a 10: the first of two choices gives it, the second gets the state as that left it
  pub three :
      (told last_block (pick_next 100) ≡ refused 10 0)
      × (call (call last_block (pick_next 100)).state (pick_next 100) ≡ refused_in 3 (with_ended last_block true))
  -- 4: rate 0. Rates 1 and 4,294,967,295 are within, 4,294,967,296 is not, also as the queue rate beside a network rate
  pub four :
      map (λ (rate : ℕ). open_refusal 260 (opens_with (some rate) none 0 0)) (0 ∷ 1 ∷ 4_294_967_295 ∷ 4_294_967_296 ∷ [])
      ≡ some 4 ∷ none ∷ none ∷ some 4 ∷ []
  pub four_queue :
      map (λ (rate : ℕ). open_refusal 260 (opens_with (some 1) (some rate) 0 0)) (0 ∷ 1 ∷ 4_294_967_295 ∷ 4_294_967_296 ∷ [])
      ≡ some 4 ∷ none ∷ none ∷ some 4 ∷ []
  pub four_delay : map (λ (d : ℕ). open_refusal 260 (opens_with none none d 0)) (1_000_000_000_000 ∷ 1_000_000_000_001 ∷ []) ≡ none ∷ some 4 ∷ []
  pub four_window : map (λ (w : ℕ). open_refusal 260 (opens_with none none 0 w)) (1_000_000_000_000 ∷ 1_000_000_000_001 ∷ []) ≡ none ∷ some 4 ∷ []
  -- and what it fixes for a side: the client's values, and all of the server's
  pub four_action_delay :
      map (λ (d : ℕ). open_refusal 260 (opens_side client (fixed_as d 0 0))) (1_000_000_000_000 ∷ 1_000_000_000_001 ∷ []) ≡ none ∷ some 4 ∷ []
  pub four_reporting_delay :
      map (λ (d : ℕ). open_refusal 260 (opens_side client (fixed_as 0 d 0))) (1_000_000_000_000 ∷ 1_000_000_000_001 ∷ []) ≡ none ∷ some 4 ∷ []
  pub four_machines : map (λ (m : ℕ). open_refusal 260 (opens_side client (fixed_as 0 0 m))) (16 ∷ 17 ∷ []) ≡ none ∷ some 4 ∷ []
  pub four_server :
      map
      (λ (f : Fixed). open_refusal 260 (opens_side server f))
      (fixed_as 1_000_000_000_000 0 0 ∷ fixed_as 1_000_000_000_001 0 0 ∷ fixed_as 0 1_000_000_000_000 0 ∷ fixed_as 0 1_000_000_000_001 0 ∷ fixed_as 0 0 16 ∷ fixed_as 0 0 17 ∷ [])
      ≡ none ∷ some 4 ∷ none ∷ some 4 ∷ none ∷ some 4 ∷ []
  -- 5: machine 0 of 0; machine 1 of 2 is there, 2 is not. Kind 10 with machine 99 gives 6, `Cancel` for machine 0 of 0 gives 5
  pub five : call tiny (set_timer (slot client 0) 5) ≡ refused_in 5 tiny
  pub five_machine : map (λ (m : ℕ). told fresh (set_timer (slot client m) 5)) (1 ∷ 2 ∷ []) ≡ done ∷ refused 5 0 ∷ []
  pub five_slots :
      (map (λ (m : ℕ). told fresh (clear_timer (slot client m))) (1 ∷ 2 ∷ []) ≡ done ∷ refused 5 0 ∷ [])
      × (map (λ (m : ℕ). told fresh (set_action (slot client m) (action_for 1 5 0))) (1 ∷ 2 ∷ []) ≡ done ∷ refused 5 0 ∷ [])
      × (map (λ (m : ℕ). told fresh (clear_action (slot client m))) (1 ∷ 2 ∷ []) ≡ done ∷ refused 5 0 ∷ [])
  -- the count is that of the slot's side, or of the event's
  pub five_side :
      (map (λ (z : Side). told one_machine (set_timer (slot z 0) 5)) (client ∷ server ∷ []) ≡ done ∷ refused 5 0 ∷ [])
      × (map (λ (z : Side). told one_machine (push (handed_in 9 5 z))) (client ∷ server ∷ []) ≡ done ∷ refused 5 0 ∷ [])
  pub five_kinds :
      map (λ (k : ℕ). told fresh (push (event_for k 5 0 2))) (0 ∷ 1 ∷ 2 ∷ 3 ∷ 4 ∷ 5 ∷ 6 ∷ 7 ∷ 8 ∷ 9 ∷ 10 ∷ [])
      ≡ done ∷ done ∷ refused 5 0 ∷ done ∷ done ∷ done ∷ refused 5 0 ∷ done ∷ refused 5 0 ∷ refused 5 0 ∷ refused 6 0 ∷ []
  -- the same of a step: its kinds 2, 6, 8 and 9 need the machine, its kind 10 gives 6
  pub five_step :
      map (λ (k : ℕ). told fresh (sim_network_stack 5 (event_for k 5 0 2))) (0 ∷ 1 ∷ 2 ∷ 3 ∷ 4 ∷ 5 ∷ 6 ∷ 7 ∷ 8 ∷ 9 ∷ 10 ∷ [])
      ≡ yes_falls 6 ∷ no_step ∷ refused 5 0 ∷ yes_step ∷ no_step ∷ no_step ∷ refused 5 0 ∷ no_step ∷ refused 5 0 ∷ refused 5 0 ∷ refused 6 0 ∷ []
  pub five_cancel : told tiny (set_action (slot client 0) (action_for 0 0 0)) ≡ refused 5 0
  -- 6: `Cancel`; only `SendPadding` and `BlockOutgoing` can be set
  pub six : map (λ (k : ℕ). told fresh (set_action (slot client 0) (action_for k 5 0))) (0 ∷ 1 ∷ 2 ∷ 3 ∷ []) ≡ refused 6 0 ∷ done ∷ done ∷ refused 6 0 ∷ []
  -- 7: moment 2^62. 2^62 − 1 is taken
  pub seven :
      map (λ (t : ℕ). told fresh (push (event_for 1 t 0 0))) (4_611_686_018_427_387_903 ∷ 4_611_686_018_427_387_904 ∷ []) ≡ done ∷ refused 7 0 ∷ []
  pub seven_delay : map (λ (d : ℕ). told fresh (push (event_for 1 5 d 0))) (2_000_000_000_000 ∷ 2_000_000_000_001 ∷ []) ≡ done ∷ refused 7 0 ∷ []
  pub seven_timer :
      map (λ (t : ℕ). told fresh (set_timer (slot client 0) t)) (4_611_686_018_427_387_903 ∷ 4_611_686_018_427_387_904 ∷ []) ≡ done ∷ refused 7 0 ∷ []
  pub seven_action :
      map (λ (t : ℕ). told fresh (set_action (slot client 0) (action_for 1 t 0))) (4_611_686_018_427_387_903 ∷ 4_611_686_018_427_387_904 ∷ [])
      ≡ done ∷ refused 7 0 ∷ []
  pub seven_duration :
      map (λ (d : ℕ). told fresh (set_action (slot client 0) (action_for 2 5 d))) (1_000_000_000_000 ∷ 1_000_000_000_001 ∷ []) ≡ done ∷ refused 7 0 ∷ []
  pub seven_choice : map (λ (t : ℕ). told fresh (pick_next t)) (4_611_686_018_427_387_903 ∷ 4_611_686_018_427_387_904 ∷ []) ≡ nothing_left 1 ∷ refused 7 0 ∷ []
  -- of a step: its time, its event's moment, its event's delay
  pub seven_step :
      map (λ (t : ℕ). told fresh (sim_network_stack t (event_for 4 5 0 0))) (4_611_686_018_427_387_903 ∷ 4_611_686_018_427_387_904 ∷ []) ≡ no_step ∷ refused 7 0 ∷ []
  pub seven_step_moment :
      map (λ (t : ℕ). told fresh (sim_network_stack 5 (event_for 4 t 0 0))) (4_611_686_018_427_387_903 ∷ 4_611_686_018_427_387_904 ∷ []) ≡ no_step ∷ refused 7 0 ∷ []
  pub seven_step_delay :
      map (λ (d : ℕ). told fresh (sim_network_stack 5 (event_for 4 5 d 0))) (2_000_000_000_000 ∷ 2_000_000_000_001 ∷ []) ≡ no_step ∷ refused 7 0 ∷ []
  -- 8: moment 5, delay 6. Delay 5 is not above it, and such an event may be pushed
  pub eight : map (λ (d : ℕ). told fresh (sim_network_stack 5 (event_for 0 5 d 0))) (5 ∷ 6 ∷ []) ≡ yes_falls 6 ∷ refused 8 0 ∷ []
  pub eight_pushed : told fresh (push (event_for 0 5 6 0)) ≡ done
  -- nor is it given for another kind, or for padding
  pub eight_others :
      (map (λ (k : ℕ). told fresh (sim_network_stack 5 (event_for k 5 6 0))) (1 ∷ 2 ∷ 3 ∷ []) ≡ no_step ∷ no_step ∷ yes_step ∷ [])
      × (told fresh (sim_network_stack 5 (record { kind = 0; moment = 5; delay = 6; side = client; padding = true; bypass = false; replace = false; machine = 0 })) ≡ yes_falls 6)
  -- 9: R = 1, second push
  pub nine : (call tiny (push (event_for 1 5 0 0)) ≡ record { answer = done; state = tiny_full }) × (call tiny_full (push (event_for 1 5 0 0)) ≡ refused_in 9 tiny_full)
  -- R = 1: a timer reserves the record, an action is for four; a step queues its event, a packet's needs a stamp too
  pub nine_slots :
      (told one_machine (set_timer (slot client 0) 5) ≡ done)
      × (told (queued_in one_machine (plain NormalSent 5 client 0)) (set_timer (slot client 0) 5) ≡ refused 9 0)
      × (told one_machine (set_action (slot client 0) (action_for 1 5 0)) ≡ refused 9 0)
  pub nine_step :
      (map (λ (k : ℕ). told tiny (sim_network_stack 5 (event_for k 5 0 0))) (0 ∷ 1 ∷ []) ≡ refused 9 0 ∷ no_step ∷ [])
      × (map (λ (k : ℕ). told tiny_full (sim_network_stack 5 (event_for k 5 0 0))) (0 ∷ 1 ∷ 4 ∷ []) ≡ refused 9 0 ∷ refused 9 0 ∷ no_step ∷ [])
  -- "Checked in this order": 5 before 7, 6 before 7, 7 before 8, 7 before 9, 8 before 9, and 3 before all
  pub met_in_order :
      map (told fresh) (push (event_for 2 4_611_686_018_427_387_904 0 2) ∷ push (event_for 10 4_611_686_018_427_387_904 0 0) ∷ sim_network_stack 5 (event_for 0 5 2_000_000_000_001 0) ∷ [])
      ≡ refused 5 0 ∷ refused 6 0 ∷ refused 7 0 ∷ []
  pub in_order_full :
      (map (told tiny_full) (push (event_for 1 4_611_686_018_427_387_904 0 0) ∷ sim_network_stack 5 (event_for 0 5 6 0) ∷ []) ≡ refused 7 0 ∷ refused 8 0 ∷ [])
      × (told (with_ended tiny_full true) (push (event_for 2 4_611_686_018_427_387_904 0 0)) ≡ refused 3 0)
  -- 10: block action at 2^62 − 1, duration 1: no round is finished, and the state is marked ended
  pub ten : call last_block (pick_next 100) ≡ record { answer = refused 10 0; state = with_ended last_block true }
  -- and the round total at 2^62 − 1, even with nothing left
  pub ten_total :
      (told (with_rounds fresh 4_611_686_018_427_387_902) (pick_next 100) ≡ nothing_left 1)
      × (told (with_rounds fresh 4_611_686_018_427_387_903) (pick_next 100) ≡ refused 10 0)
  -- what is handed in and ignored is kept as 0: the machine of a kind without one, the duration of `SendPadding`
  pub ignored :
      (call fresh (push (event_for 1 5 0 99)) ≡ record { answer = done; state = queued_in fresh (plain NormalSent 5 client 0) })
      × (call fresh (set_action (slot client 0) (action_for 1 5 1_000_000_000_001))
      ≡ record { answer = done; state = holding fresh SendPadding 5 0 })
  -- "Setting replaces what the slot holds; clearing an empty slot changes nothing."
  pub set_again :
      (call (with_timer fresh client 0 5) (set_timer (slot client 0) 6) ≡ record { answer = done; state = with_timer fresh client 0 6 })
      × (call last_block (set_action (slot client 0) (action_for 1 6 0)) ≡ record { answer = done; state = holding fresh SendPadding 6 0 })
  pub cleared :
      (call (with_timer fresh client 0 5) (clear_timer (slot client 0)) ≡ record { answer = done; state = fresh })
      × (call last_block (clear_action (slot client 0)) ≡ record { answer = done; state = fresh })
  pub cleared_empty :
      (call (with_timer fresh client 0 5) (clear_timer (slot client 1)) ≡ record { answer = done; state = with_timer fresh client 0 5 })
      × (call last_block (clear_action (slot client 1)) ≡ record { answer = done; state = last_block })

-- each holds by computation
pub table_inputs : TableInputs
unfolding rules
table_inputs = record {
  one = refl;
  lengths = refl;
  three = (refl, refl);
  four = refl;
  four_queue = refl;
  four_delay = refl;
  four_window = refl;
  four_action_delay = refl;
  four_reporting_delay = refl;
  four_machines = refl;
  four_server = refl;
  five = refl;
  five_machine = refl;
  five_slots = (refl, refl, refl);
  five_side = (refl, refl);
  five_kinds = refl;
  five_step = refl;
  five_cancel = refl;
  six = refl;
  seven = refl;
  seven_delay = refl;
  seven_timer = refl;
  seven_action = refl;
  seven_duration = refl;
  seven_choice = refl;
  seven_step = refl;
  seven_step_moment = refl;
  seven_step_delay = refl;
  eight = refl;
  eight_pushed = refl;
  eight_others = (refl, refl);
  nine = (refl, refl);
  nine_slots = (refl, refl, refl);
  nine_step = (refl, refl);
  met_in_order = refl;
  in_order_full = (refl, refl);
  ten = refl;
  ten_total = (refl, refl);
  ignored = (refl, refl);
  set_again = (refl, refl);
  cleared = (refl, refl);
  cleared_empty = (refl, refl);
}
