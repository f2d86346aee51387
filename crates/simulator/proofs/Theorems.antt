-- What holds of the calls, for a reader: demand 3 over any list of calls, that the promise of a call leaves one outcome, and that states which hold the same
-- answer the same. Assumes nothing.
use Prim.Native.Nat.{ℕ}
use mathlib.Core.Path.{◌≡◌, refl}
use mathlib.Core.List.{List}
use lib.ListN.{length}
use Rattle.std.specs.Prelude.{Result}
use Rattle.rules.specs.Arguments.{Call, pick_next}
use Rattle.rules.specs.Choice.{Answer as RulesAnswer}
use Rattle.rules.specs.Opening.{Opening}
use Rattle.rules.specs.Contents.{Agree}
use Rattle.event.specs.Answers.{answer_of, choice_of, step_of}
use Rattle.event.specs.declared.answer.Chosen.{Chosen}
use Rattle.event.specs.declared.answer.Refusal.{Refusal}
use Rattle.event.specs.declared.answer.Stepped.{Stepped}
use Rattle.layout.specs.Accepted.{Accepted}
use Rattle.layout.specs.Layout.{state_of}
use Rattle.layout.specs.Packed.{packed_words}
use Rattle.event.proofs.Decoding.{answer_one, choice_one, step_one}
use Rattle.layout.proofs.Holds.{words_hold}
use Rattle.simulator.specs.Alike.{Alike}
use Rattle.simulator.specs.Demand.{Entry, Goes, Demand3}
use Rattle.simulator.specs.Openings.{Opens}
use Rattle.simulator.specs.Outcome.{Outcome}
use Rattle.simulator.specs.Packs.{Packs}
use Rattle.simulator.specs.Same.{asked, answered}
use Rattle.simulator.proofs.Frees.{free_records}
use Rattle.simulator.proofs.Demand3.{demand_of}
use Rattle.simulator.proofs.OneOutcome.{choice_not_done, same_answer, same_left, same_refusal, same_opening, same_packing}
use Rattle.simulator.proofs.SameAnswers.{agree_kin, packed_kin, same_list}

-- ---- demand 3: over any list of calls on lent words, of any length, in any order, with any arguments, from any accepted words, ended or not, refused
-- calls included

-- Each call is related to the next by its promise alone. A call that a later request adds joins by that promise (`Outcome`) and by its case of the
-- rules' law of a call (laws/CallKeeps, `call_keeps`); one that is lent a second block joins beside the state (`Reading`) by its own promise, as packing
-- does (`Packs`): it leaves the state's words and makes no round.
pub demand_3 : Demand3
demand_3 w l h r = demand_of words_hold free_records w l h r

-- ---- one outcome: let two programs make one call on the same words, and let both keep its promise

-- They answer the same, field by field as the code gives it, whether the words are accepted or not. What push, set and clear answer:
pub one_answer :
    (w : List ℕ) (c : Call) (a b : Result Unit Refusal) (left right : List ℕ) → Dec (Accepted w)
    → Outcome w c (answer_of a) left → Outcome w c (answer_of b) right → a ≡ b
one_answer w c a b left right h o p = answer_one a b (same_answer w c _ _ left right o p h)

-- what a choice answers, the number of the event's kind included:
pub one_choice :
    (w : List ℕ) (now : ℕ) (a b : Result Chosen Refusal) (left right : List ℕ) → Dec (Accepted w)
    → Outcome w (pick_next now) (choice_of a) left → Outcome w (pick_next now) (choice_of b) right → a ≡ b
one_choice w now a b left right h o p =
    choice_one a b (choice_of b) (choice_not_done w now _ right h p) (same_answer w (pick_next now) _ _ left right o p h) refl

-- what a network step answers:
pub one_step :
    (w : List ℕ) (c : Call) (a b : Result Stepped Refusal) (left right : List ℕ) → Dec (Accepted w)
    → Outcome w c (step_of a) left → Outcome w c (step_of b) right → a ≡ b
one_step w c a b left right h o p = step_one a b (same_answer w c _ _ left right o p h)

-- From accepted words they leave the same words, but for the moment, the length and the tag of free records
pub one_left :
    (w : List ℕ) (c : Call) (a b : RulesAnswer) (left right : List ℕ) → Accepted w
    → Outcome w c a left → Outcome w c b right → Alike left right
one_left w c a b left right h o p = same_left w c a b left right o p h

-- and from words that are not accepted, the same words, all of them
pub one_refusal :
    (w : List ℕ) (c : Call) (a b : RulesAnswer) (left right : List ℕ) → (Accepted w → ⊥)
    → Outcome w c a left → Outcome w c b right → left ≡ right
one_refusal w c a b left right h o p = (same_refusal w c a b left right h o p).1

-- Opening has one answer and leaves one block, whatever the words held
pub one_opening :
    (w : List ℕ) (o : Opening) (a b : Result Unit Refusal) (left right : List ℕ)
    → Opens w o (answer_of a) left → Opens w o (answer_of b) right → (a ≡ b) × (left ≡ right)
one_opening w o a b left right x y = let s = same_opening w o _ _ left right x y in (answer_one a b s.0, s.1)

-- Packing has one answer and leaves one second block, whether the words are accepted or not
pub one_packing :
    (w v : List ℕ) (a b : Result Unit Refusal) (left right : List ℕ) → Dec (Accepted w)
    → Packs w v (answer_of a) left → Packs w v (answer_of b) right → (a ≡ b) × (left ≡ right)
one_packing w v a b left right h x y = let s = same_packing w v _ _ left right x y h in (answer_one a b s.0, s.1)

-- ---- the same answers

-- Let the same calls be made on two states that agree, in blocks of one length, each state as its last call left it, all of them keeping their promises. Then
-- they are told the same: every answer, with its rounds, and of a packing every word of the second block.
pub same_answers :
    (w v : List ℕ) → Accepted w → Accepted v → length w ≡ length v → Agree (state_of w) (state_of v)
    → (l m : List Entry) → Goes w l → Goes v m → asked l ≡ asked m → answered l ≡ answered m
same_answers w v a b n g l m = same_list w v l m (agree_kin w v a b n g)

-- "A packed state gives the same further answers as its original."
pub packed_answers :
    (w : List ℕ) → Accepted w → (l m : List Entry) → Goes w l → Goes (packed_words w) m → asked l ≡ asked m → answered l ≡ answered m
packed_answers w a l m = same_list w (packed_words w) l m (packed_kin w a)
