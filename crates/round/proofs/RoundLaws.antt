-- A round: which outcome the rules have for it, by the sums; the words that it leaves are accepted. Assumes nothing.
use Prim.Native.Nat.{ℕ, ◌+◌, ◌≤◌, ◌<◌, ◌^◌}
use mathlib.Core.Path.{◌≡◌, refl, sym, ap, subst, subst⁻¹, ◌∙◌}
use mathlib.Core.Bool.{Bool, true, false, not, ◌&&◌}
use borrow.Author.Tests.{not-true, not-false}
use mathlib.Core.List.{List, [], ◌∷◌, ◌++◌}
use native.Mathlib.Omega.{arith}
use lib.Dec.{eqb, leb}
use lib.ListN.{take, drop}
use Rattle.std.specs.Prelude.{if◌then◌else◌}
use Rattle.rules.specs.State.{State, side, total, with_ended}
use Rattle.rules.specs.Limits.{moment_limit}
use Rattle.rules.specs.Queueing.{push_event}
use Rattle.rules.specs.ChoiceRound.{Candidate as RulesCandidate, an_aggregate, a_block, an_event, a_timer, an_action, none_left, RoundOutcome, next, taken, nothing, passed, act, always_sums, candidate, candidate_sums, clear_block, closed, counted, end_event, fits, round, round_sums}
use Rattle.laws.specs.Accepted.{Accepted as HeldAccepted, SettingsOk, only}
use Rattle.laws.specs.Falls.{state_after}
use Rattle.laws.specs.Fits.{fits_all}
use Rattle.laws.specs.Records.{Same, same_number}
use Rattle.laws.proofs.RecordsRound.{round_same}
use Rattle.laws.specs.RecordsTaken.{free_reserved}
use Rattle.laws.specs.Runs.{Makes, Ran}
use Rattle.laws.proofs.Runs.{round_makes}
use Rattle.laws.specs.Sound.{Sound}
use Rattle.laws.specs.SoundRound.{round_sound}
use Rattle.laws.specs.Steady.{act_steady}
use Rattle.layout.specs.Layout.{state_from, state_of}
use Rattle.queue.specs.declared.view.View.{View}
use Rattle.queue.specs.declared.view.Words.{Words}
use Rattle.queue.specs.Views.{state_in}
use Rattle.candidate.specs.Candidates.{candidate_of, next_of, NextStands, NextReckoned, Stands, Reckoned}
use Rattle.candidate.specs.Promises.{TakenUp, TakenUpIn}
use Rattle.candidate.specs.declared.Candidate.{Candidate}
use Rattle.layout.proofs.Shapes.{shaped_accepted}
use Rattle.layout.proofs.Theorems.{holds_accepted}
use Rattle.round.specs.Changes.{Becomes}
use Rattle.round.specs.Cases.{Passed, Marked, said}
use Rattle.round.specs.Rounds.{MayRound, MayAct, Rounded}
use Rattle.std.specs.Prelude.{Option, Some, None, Result, Ok}
use Rattle.event.specs.declared.answer.Chosen.{Chosen}
use Rattle.event.specs.declared.answer.Refusal.{Refusal}
use Rattle.round.proofs.HeaderWords.{becomes_then}

-- ---- a round of the rules leaves an accepted state

pub round_accepted : (s : State) (now : ℕ) → HeldAccepted s → now ≤ moment_limit → HeldAccepted (state_after (round s now))
round_accepted s now h n = go (round s now) (round_makes s now) (round_sound s now h.sound n) (round_same s now h.sound (free_reserved s h))
  where
    made : (t : State) (k m c : ℕ) → Ran s t k m c → Sound t → Same s t → HeldAccepted t
    made t k m c r sound same =
        record {
          sound = sound;
          settings = subst⁻¹ SettingsOk r.fixed h.settings;
          room = r.kept h.room;
          some_room = omega (arith, r.same, h.some_room);
          size = omega (arith, r.same, h.size);
          total = r.limit h.total;
          whole = omega (arith, same_number s t same, r.same, h.whole);
          once = λ i a b. same (only i) ∙ h.once i a (omega (arith, r.same));
        }

    go : (o : RoundOutcome) → Makes s o → Sound (state_after o) → Same s (state_after o) → HeldAccepted (state_after o)
    go (next t) m a b = made t 0 1 0 m a b
    go (taken e t) m a b = made t 0 1 1 m a b
    go (nothing t) m a b = made t 0 1 1 m a b
    go (passed t) m a b = made t 0 0 0 m a b

-- ---- the outcome, by the sums

fits_append : (a b : List ℕ) → fits (a ++ b) ≡ (fits a && fits b)
unfolding fits
fits_append [] b = refl
fits_append (n ∷ a) b = ap (λ (t : Bool). leb n moment_limit && t) (fits_append a b) ∙ sym (and_assoc (leb n moment_limit) (fits a) (fits b))
  where
    and_assoc : (x y z : Bool) → ((x && y) && z) ≡ (x && (y && z))
    and_assoc true y z = refl
    and_assoc false y z = refl

no_sums : fits [] ≡ true
unfolding fits
no_sums = refl

and_false : (a : Bool) → (a && false) ≡ false
and_false true = refl
and_false false = refl

module _ (s : State) (now : ℕ) where
  unfinished : fits (round_sums s now (candidate s now)) ≡ false → round s now ≡ passed (with_ended s true)
  unfolding round
  unfinished e = ap (λ (b : Bool). if b then closed (act s now (candidate s now)) else passed (with_ended s true)) e

  finished : fits (round_sums s now (candidate s now)) ≡ true → round s now ≡ closed (act s now (candidate s now))
  unfolding round
  finished e = ap (λ (b : Bool). if b then closed (act s now (candidate s now)) else passed (with_ended s true)) e

  sums_are : fits (round_sums s now (candidate s now)) ≡ (fits (always_sums s) && fits (candidate_sums s now (candidate s now)))
  unfolding round_sums
  sums_are = fits_append (always_sums s) (candidate_sums s now (candidate s now))

  pub always_pass : fits (always_sums s) ≡ false → round s now ≡ passed (with_ended s true)
  always_pass e = unfinished (sums_are ∙ ap (λ (b : Bool). b && fits (candidate_sums s now (candidate s now))) e)

  pub candidate_pass : fits (candidate_sums s now (candidate s now)) ≡ false → round s now ≡ passed (with_ended s true)
  candidate_pass e = unfinished (sums_are ∙ ap (λ (b : Bool). fits (always_sums s) && b) e ∙ and_false (fits (always_sums s)))

  pub both_fit : fits (always_sums s) ≡ true → fits (candidate_sums s now (candidate s now)) ≡ true → round s now ≡ closed (act s now (candidate s now))
  both_fit e f = finished (sums_are ∙ ap (λ (b : Bool). b && fits (candidate_sums s now (candidate s now))) e ∙ f)

-- the round is counted, whatever it came to
act_counted : (s : State) (now : ℕ) (c : RulesCandidate) → state_after (closed (act s now c)) ≡ counted (state_after (act s now c))
act_counted s now (an_aggregate a) = refl
act_counted s now (a_block k) = go (eqb (side s k.side).fixed.reporting_delay 0)
  where
    go : (b : Bool) → state_after (closed (if b then taken (end_event s now k) (clear_block s now k) else next (push_event (clear_block s now k) (end_event s now k)))) ≡ counted (state_after (if b then taken (end_event s now k) (clear_block s now k) else next (push_event (clear_block s now k) (end_event s now k))))
    go true = refl
    go false = refl
act_counted s now (an_event h) = refl
act_counted s now (a_timer z t) = refl
act_counted s now (an_action z a) = refl
act_counted s now none_left = refl

said_closed : (k : ℕ) (o : RoundOutcome) → said k o ≡ said k (closed o)
said_closed k (next t) = refl
said_closed k (taken e t) = refl
said_closed k (nothing t) = refl
said_closed k (passed t) = refl

-- ---- the code's round

module _ (w : List ℕ) (now k : ℕ) (time : now ≤ moment_limit) (may : MayRound w k) where
  -- words that hold the rules' state after it are accepted
  pub rounded : (left : List ℕ) (r : Result (Option Chosen) Refusal) (o : RoundOutcome) → round (state_of w) now ≡ o → Passed w left k o r → Rounded w left now k r
  rounded left r o e p =
      let q : Passed w left k (round (state_of w) now) r = subst⁻¹ (λ (x : RoundOutcome). Passed w left k x r) e p in
      record { came = q; accepted = shaped_accepted left q.words.shaped (subst⁻¹ HeldAccepted q.words.state (round_accepted (state_of w) now (holds_accepted w may.accepted) time)) }

  -- v holds the words in view
  module _ (v : View) (eh : v.words.header.now ≡ take 256 w) (er : v.records.now ≡ drop 256 w) (b : Bool) (seen : b ≡ fits (always_sums (state_in v))) where
    eb : b ≡ fits (always_sums (state_of w))
    eb = rw (eh, er) at seen

    pub always_stops : not b ≡ true → (left : List ℕ) (r : Result (Option Chosen) Refusal) → Marked w left k r → Rounded w left now k r
    always_stops f left r m = rounded left r _ (always_pass (state_of w) now (sym eb ∙ not-true b f)) m

    module _ (t : not b ≡ false) where
      always : fits (always_sums (state_of w)) ≡ true
      always = sym eb ∙ not-false b t

      total_small : total (state_of w) + 1 ≤ moment_limit
      unfolding always_sums
      total_small = (fits_all (always_sums (state_of w)) always).0

      pub count_fits : total (state_of w) + 1 < 2 ^ 64
      count_fits = omega (arith, total_small)

      module _ (n : Option Candidate) (taken_up : TakenUpIn v now n (candidate (state_in v) now)) where
        took : TakenUp (take 256 w) (drop 256 w) now n (candidate (state_of w) now)
        took = rw (eh, er) at taken_up

        pub none_found : n ≡ None → (left : List ℕ) → Becomes w left (counted (state_of w)) → Rounded w left now k (Ok (Some (record { event = None; rounds = k + 1 })))
        unfolding next_of
        none_found e left c =
            rounded left _ _ (both_fit (state_of w) now always (ap (λ (x : RulesCandidate). fits (candidate_sums (state_of w) now x)) is_none ∙ no_sums) ∙ ap (λ (x : RulesCandidate). closed (act (state_of w) now x)) is_none) (record { answer = refl; words = c })
          where
            is_none : candidate (state_of w) now ≡ none_left
            is_none = sym took.picked.is ∙ ap (next_of (take 256 w)) e

        module _ (c : Candidate) (e : n ≡ Some c) where
          found_is : candidate_of (take 256 w) c ≡ candidate (state_of w) now
          unfolding next_of
          found_is = sym (ap (next_of (take 256 w)) e) ∙ took.picked.is

          found_stands : Stands (take 256 w) (drop 256 w) c
          unfolding NextStands
          found_stands = subst (NextStands (take 256 w) (drop 256 w)) e took.picked.stands

          pub stands_seen : (s : Words) → s ≡ v.words → Stands s.header.now (drop 256 w) c
          stands_seen s es = rw (es, eh) found_stands

          found_reckoned : Reckoned (take 256 w) (drop 256 w) now c
          unfolding NextReckoned
          found_reckoned = subst (NextReckoned (take 256 w) (drop 256 w) now) e took.reckoned

          module _
              (f : Bool) (s : Words) (es : s ≡ v.words)
              (told : (rs : List ℕ) → Reckoned s.header.now rs now c → f ≡ fits (candidate_sums (state_from s.header.now rs) now (candidate_of s.header.now c))) where
            ef : f ≡ fits (candidate_sums (state_of w) now (candidate_of (take 256 w) c))
            ef = let t = rw (es, eh) at told in t (drop 256 w) found_reckoned

            case_sums : f ≡ fits (candidate_sums (state_of w) now (candidate (state_of w) now))
            case_sums = ef ∙ ap (λ (x : RulesCandidate). fits (candidate_sums (state_of w) now x)) found_is

            pub candidate_stops : not f ≡ true → (left : List ℕ) (r : Result (Option Chosen) Refusal) → Marked w left k r → Rounded w left now k r
            candidate_stops g left r m = rounded left r _ (candidate_pass (state_of w) now (sym case_sums ∙ not-true f g)) m

            module _ (ng : not f ≡ false) where
              g : f ≡ true
              g = not-false f ng

              pub act_may : MayAct w now k c
              act_may = record { round = may; is = found_is; stands = found_stands; reckoned = found_reckoned; sums = sym ef ∙ g }

              module _ (w₁ : List ℕ) (p : Option Chosen) (a : Passed w w₁ k (act (state_of w) now (candidate_of (take 256 w) c)) (Ok p)) where
                same_total : total (state_of w₁) ≡ total (state_of w)
                same_total = ap (λ (s : State). total s) a.words.state ∙ (act_steady (state_of w) now (candidate_of (take 256 w) c)).rounds

                pub acted_counts : total (state_of w₁) + 1 < 2 ^ 64
                acted_counts = omega (arith, same_total, count_fits)

                pub acted : (w₂ : List ℕ) → Becomes w₁ w₂ (counted (state_of w₁)) → Rounded w w₂ now k (Ok p)
                acted w₂ c₂ =
                    rounded w₂ (Ok p) (closed (act (state_of w) now (candidate_of (take 256 w) c)))
                    (both_fit (state_of w) now always (sym case_sums ∙ g) ∙ ap (λ (x : RulesCandidate). closed (act (state_of w) now x)) (sym found_is))
                    (record {
                      answer = a.answer ∙ said_closed k (act (state_of w) now (candidate_of (take 256 w) c));
                      words = becomes_then w w₁ w₂ _ _ a.words (subst (Becomes w₁ w₂) (ap counted a.words.state ∙ sym (act_counted (state_of w) now (candidate_of (take 256 w) c))) c₂);
                    })
