-- What is proved of the rules, each theorem in document 01's words (of packing, of the moments of aggregates by cases and of when the packet count falls,
-- document 02's), with the law that proves it. The words are those of the crate rules; of this crate's own: `Accepted` (a state that calls may get), `Once` (each record from 1 to
-- R stands once), `times` (how often a record stands), `state_after` (the state after a round), `records_taken` (the free records that a round takes),
-- `Alike` (different in record numbers alone). The other theorems stand in proofs/Theorems, with the laws that they rest on.
use Rattle.std.specs.Prelude.{ℕ, ◌+◌, ◌≤◌, ◌<◌, ◌≡◌, refl, Bool, true, List, [], ◌∷◌, length, get_or}
use Rattle.std.proofs.Common.{◌∙◌}
use Rattle.std.proofs.Math.Option.{Option, none, some, none-ne-some}
use Rattle.rules.specs.Arguments.{Call, EventIn, pick_next, sim_network_stack}
use Rattle.rules.specs.State.{Held, State, side, with_ended}
use Rattle.rules.specs.Limits.{moment_limit}
use Rattle.rules.specs.CallLists.{round_states}
use Rattle.rules.specs.Calls.{call, leaves}
use Rattle.rules.specs.Choice.{refused, step_made}
use Rattle.rules.specs.NetworkStep.{count_falls, stamps_kept}
use Rattle.rules.specs.Contents.{Agree}
use Rattle.rules.specs.Packing.{packed}
use Rattle.rules.specs.Basics.{Side, client, server}
use Rattle.rules.specs.Aggregates.{aggregates_of}
use Rattle.rules.specs.AggregateMoments.{InCase, MomentCase, case_moment}
use Rattle.rules.proofs.MomentCases.{cases_exclude, cases_cover, cases_give}
use Rattle.laws.specs.Accepted.{Accepted, times}
use Rattle.laws.specs.Packed.{packed_keeps, agree_packed, packed_agrees, packed_packed}
use Rattle.laws.specs.Ended.{step_ten, ten_works, ended_refuses}
use Rattle.laws.specs.CountFalls.{falls_is, falls_goes, falls_stays, falls_never, sent_tells, others_tell_none}

-- ---- a choice

-- "Number 10 sets the ended mark. A choice then keeps its finished rounds": it has finished just the rounds that it reports, and its state is
-- that after the last of them (its own, if there is none) with the mark set and nothing else changed.
pub record KeepsFinished (s : State) (now k : ℕ) : Type 0 where
  pub rounds : k ≡ length (round_states s now)
  pub state : (call s (pick_next now)).state ≡ with_ended (get_or (s ∷ round_states s now) k s) true

-- ---- a call

-- In an accepted state each record from 1 to R stands once, in one chain or among the free ones, and no other number does.
pub each_record_once : (s : State) (r : ℕ) → Accepted s → 1 ≤ r → r ≤ s.room → times r s ≡ 1
each_record_once s r h = h.once r

-- "marked ended": a state marked ended refuses every call with 3 and stays as it is.
pub ended_state_refuses : (s : State) (c : Call) → s.ended ≡ true → call s c ≡ leaves s (refused 3 0)
ended_state_refuses s c h = ended_refuses s c h

-- "a step changes nothing else"
pub step_with_10 :
    (s : State) (now : ℕ) (r : EventIn) (k : ℕ) → (call s (sim_network_stack now r)).answer ≡ refused 10 k
    → (k ≡ 0) × ((call s (sim_network_stack now r)).state ≡ with_ended s true)
step_with_10 s now r k e = let w = ten_works s (sim_network_stack now r) k e in let g = step_ten s now r k w.0 in (g.0, w.1 ∙ g.1)

-- ---- packing (document 02, M-100)

-- The packed form holds what the state holds.
pub packing_keeps_contents : (s : State) → Agree (packed s) s
packing_keeps_contents s = packed_keeps s

-- "Two states in blocks of one length", so with one R, "have equal packed" forms "exactly when their settings, slots, sums, block ends and flags, chain
-- contents, ended marks and round totals agree".
pub packed_equal_exactly_when : (s t : State) → s.room ≡ t.room → (packed s ≡ packed t → Agree s t) × (Agree s t → packed s ≡ packed t)
packed_equal_exactly_when s t r = (packed_agrees s t, λ a. agree_packed s t a r)

-- "Packing twice changes nothing."
pub packing_twice_changes_nothing : (s : State) → packed (packed s) ≡ packed s
packing_twice_changes_nothing s = packed_packed s

-- ---- aggregate moments by cases (document 02, M-110)

-- "the cases exclude each other": end, record, network delay and length that are in two of them are in one and the same.
pub moment_cases_exclude : (a b : MomentCase) (z r : Side) (d len : ℕ) → InCase a z r d len → InCase b z r d len → a ≡ b
moment_cases_exclude a b z r d len = cases_exclude a b z r d len

-- They "cover every input".
pub moment_cases_cover : (z r : Side) (d len : ℕ) → (c : MomentCase) × InCase c z r d len
moment_cases_cover z r d len = cases_cover z r d len

-- They "give the moments that the subtraction gives": the two records that a delay leaves are due when their cases say.
pub moment_cases_give :
    (z : Side) (a b : MomentCase) (d at len : ℕ) → InCase a z client d len → InCase b z server d len
    → aggregates_of d z at (some len)
    ≡ record { moment = case_moment a d at len; length = len; side = client } ∷ record { moment = case_moment b d at len; length = len; side = server } ∷ []
moment_cases_give z a b d at len = cases_give d at len z a b

-- ---- when the packet count falls (document 02, M-120)

-- The stamps l, the oldest by arrival first, have a count that falls at m: "that stamp plus the window plus 1". A stamp added then or later evicts it; one
-- added earlier, so also one nanosecond before, evicts none.
pub record FallsAt (window m : ℕ) (l : List (Held ℕ)) : Type 0 where
  pub oldest : Held ℕ
  pub others : List (Held ℕ)
  pub stamps : l ≡ oldest ∷ others
  pub moment : m ≡ oldest.value + window + 1
  pub evicted : (t : ℕ) → m ≤ t → stamps_kept window t l ≡ stamps_kept window t others
  pub kept : (t : ℕ) → t < m → stamps_kept window t l ≡ l

-- The moment told is "the first moment at which its oldest kept stamp by arrival would be too old".
pub falls_when_too_old : (window m : ℕ) (l : List (Held ℕ)) → count_falls window l ≡ some m → FallsAt window m l
falls_when_too_old window m [] e = absurd (none-ne-some m e)
falls_when_too_old window m (h ∷ l) e =
    record { oldest = h; others = l; stamps = refl; moment = falls_is window m h l e; evicted = falls_goes window m h l e; kept = falls_stays window m h l e }

-- "A moment past the limit is reported as absent": where none is told, no moment that a call may have evicts a stamp.
pub absent_past_the_limit : (window t : ℕ) (l : List (Held ℕ)) → count_falls window l ≡ none → t ≤ moment_limit → stamps_kept window t l ≡ l
absent_past_the_limit window t [] e q = refl
absent_past_the_limit window t (h ∷ l) e q = falls_never window t h l e q

-- "The network step hands this on for `TunnelSent`": a step that is not refused tells it of the stamps that its side then has.
pub tunnel_sent_tells :
    (s : State) (now : ℕ) (r : EventIn) (a : Bool) (f : Option ℕ) → (call s (sim_network_stack now r)).answer ≡ step_made a f → r.kind ≡ 0
    → f ≡ count_falls s.settings.window (side (call s (sim_network_stack now r)).state r.side).stamps
tunnel_sent_tells s now r a f e = sent_tells s now r a f e

-- "for other kinds it says that there is no such moment"
pub only_tunnel_sent_tells :
    (s : State) (now : ℕ) (r : EventIn) (a : Bool) (f : Option ℕ) → (call s (sim_network_stack now r)).answer ≡ step_made a f → (r.kind ≡ 0 → ⊥) → f ≡ none
only_tunnel_sent_tells s now r a f e = others_tell_none s now r a f e
