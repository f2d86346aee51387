-- Demand 3 over lent words, from the promise of each call and the one law of a call of the rules. Assumes nothing.
use Prim.Native.Nat.{ℕ, ◌+◌, ◌≤◌}
use mathlib.Core.Path.{◌≡◌, refl, sym, ap, subst, subst⁻¹, ◌∙◌}
use mathlib.Core.List.{List, [], ◌∷◌, ◌++◌, map}
use native.Mathlib.Omega.{arith}
use native.Mathlib.Decide.{ℕ_discrete}
use lib.ListN.{length}
use Rattle.std.specs.Prelude.{if◌then◌else◌}
use Rattle.rules.specs.State.{rounds_left, total}
use Rattle.rules.specs.Choice.{Answer}
use Rattle.rules.specs.Calls.{call}
use Rattle.rules.specs.CallLists.{allowance_of, carried, is_refused, rounds_of, says_nothing}
use Rattle.laws.specs.Accepted.{Accepted as AcceptedState}
use Rattle.laws.specs.CallKeeps.{Keeps}
use Rattle.laws.proofs.CallKeeps.{call_keeps}
use Rattle.laws.proofs.Theorems.{fuel_suffices_for_states}
use Rattle.layout.specs.Accepted.{Accepted}
use Rattle.layout.specs.Layout.{state_of}
use Rattle.simulator.specs.Outcome.{Outcome, FreeRecords}
use Rattle.simulator.specs.Packs.{Packs}
use Rattle.simulator.specs.Demand.{Made, Runs, words_after, pack, Entry, on, beside, Promised, left_by, Goes, left_after, rounds_by, rounds_in, allowed_to, allowed, answer_by, Demand}

-- ---- calls on the state alone are such a list

pub runs_go : (w : List ℕ) (l : List Made) → Runs w l → Goes w (map on l)
runs_go w [] r = r
runs_go w (x ∷ l) r = (r.0, runs_go x.left l r.1)

pub after_on : (w : List ℕ) (l : List Made) → left_after w (map on l) ≡ words_after w l
after_on w [] = refl
after_on w (x ∷ l) = after_on x.left l

-- ---- a call beside the state

-- packing accepted words gives no rounds: it is done, or refused with 1 for the second block's length
pack_carries : (w v : List ℕ) (a : Answer) (u : List ℕ) → Accepted w → Packs w v a u → carried a ≡ 0
pack_carries w v a u h p = go (ℕ_discrete (length v) (length w))
  where
    go : Dec (length v ≡ length w) → carried a ≡ 0
    go (yes e) = ap carried (p.packs h e).0
    go (no d) = ap carried (p.other_length h.size d).0

-- accepted words hold an accepted state, and their free records form one chain
module _ (holds : (w : List ℕ) → Accepted w → AcceptedState (state_of w)) (frees : (w : List ℕ) → Accepted w → FreeRecords w) where
  -- ---- one call of the list

  -- the law of a call, on words: a call that a later request adds joins by its promise and the rules' law of it
  keeps : (w : List ℕ) (x : Made) → Accepted w → Keeps (state_of w) x.call
  keeps w x h = call_keeps (state_of w) x.call (holds w h)

  answers : (w : List ℕ) (x : Made) → Accepted w → Outcome w x.call x.answer x.left → x.answer ≡ (call (state_of w) x.call).answer
  answers w x h o = o.answer h

  states : (w : List ℕ) (x : Made) → Accepted w → Outcome w x.call x.answer x.left → state_of x.left ≡ (call (state_of w) x.call).state
  states w x h o = (o.state h).state

  -- what demand 3 needs of each: it leaves accepted words, its answer carries its rounds, the total rises by them, and they are bounded. One beside
  -- the state leaves it and makes none
  pub record Steps (w : List ℕ) (x : Entry) : Type 0 where
    pub accepted : Accepted (left_by w x)
    pub carries : carried (answer_by x) ≡ rounds_by w x
    pub counts : total (state_of (left_by w x)) ≡ total (state_of w) + rounds_by w x
    pub bound : rounds_by w x + rounds_left (state_of (left_by w x)) ≤ rounds_left (state_of w) + allowed_to x

  steps : (w : List ℕ) (x : Entry) → Accepted w → Promised w x → Steps w x
  steps w (on x) h o =
      let k = keeps w x h in
      record {
        accepted = (o.state h).accepted;
        carries = ap carried (answers w x h o) ∙ k.carries;
        counts = omega (arith, k.counts, ap total (states w x h o));
        bound =
            omega
            (arith, subst⁻¹ (λ (a : Answer). rounds_of (state_of w) x.call + rounds_left (call (state_of w) x.call).state ≤ rounds_left (state_of w) + (if is_refused a then 0 else allowance_of x.call)) (answers w x h o) k.bound, ap rounds_left (states w x h o));
      }
  steps w (beside (pack v u) a) h p = record { accepted = h; carries = pack_carries w v a u h p; counts = omega arith; bound = omega arith }

  -- ---- the list

  after_accepted : (l : List Entry) (w : List ℕ) → Accepted w → Goes w l → Accepted (left_after w l)
  after_accepted [] w h r = h
  after_accepted (x ∷ l) w h r = after_accepted l (left_by w x) (steps w x h r.0).accepted r.1

  list_total : (l : List Entry) (w : List ℕ) → Accepted w → Goes w l → total (state_of (left_after w l)) ≡ total (state_of w) + rounds_in w l
  list_total [] w h r = omega arith
  list_total (x ∷ l) w h r =
      let s = steps w x h r.0 in
      omega (arith, s.counts, list_total l (left_by w x) s.accepted r.1)

  list_bound : (l : List Entry) (w : List ℕ) → Accepted w → Goes w l → rounds_in w l + rounds_left (state_of (left_after w l)) ≤ rounds_left (state_of w) + allowed l
  list_bound [] w h r = omega arith
  list_bound (x ∷ l) w h r =
      let s = steps w x h r.0 in
      omega (arith, s.bound, list_bound l (left_by w x) s.accepted r.1)

  -- where a call stands in the list, it got accepted words and kept its promise
  pub record At (w : List ℕ) (front : List Entry) (x : Entry) : Type 0 where
    pub accepted : Accepted (left_after w front)
    pub promised : Promised (left_after w front) x

  at : (front rest : List Entry) (x : Entry) (w : List ℕ) → Accepted w → Goes w (front ++ (x ∷ rest)) → At w front x
  at [] rest x w h r = record { accepted = h; promised = r.0 }
  at (y ∷ front) rest x w h r =
      let k = at front rest x (left_by w y) (steps w y h r.0).accepted r.1 in
      record { accepted = k.accepted; promised = k.promised }

  found : (l front rest : List Entry) (x : Entry) (w : List ℕ) → Accepted w → Goes w l → l ≡ front ++ (x ∷ rest) → At w front x
  found l front rest x w h r e = at front rest x w h (subst (Goes w) e r)

  pub demand_of : (w : List ℕ) (l : List Entry) → Accepted w → Goes w l → Demand w l
  demand_of w l h r =
      record {
        bound = omega (arith, list_bound l w h r);
        every_round = λ front rest x now f e c n. fuel_suffices_for_states f now (state_of (left_after w front)) n;
        carries = λ front rest x e. let k = found l front rest x w h r e in (steps (left_after w front) x k.accepted k.promised).carries;
        counts = list_total l w h r;
        room = λ front rest x now e c. let k = found l front rest (on x) w h r e in (keeps (left_after w front) x k.accepted).room now c;
        nothing = λ front rest x now e c n.
            let k = found l front rest (on x) w h r e in
            let a = answers (left_after w front) x k.accepted k.promised in
            ap says_nothing a ∙ (keeps (left_after w front) x k.accepted).nothing now c (sym (ap is_refused a) ∙ n);
        accepted = after_accepted l w h r;
        free = frees (left_after w l) (after_accepted l w h r);
      }
