-- The laws of one row: what a call's answer is in words, which call a code names, and a turn. Assumes nothing.
use Prim.Native.Nat.{ℕ, zero, suc, ◌*◌, ◌≤◌, ◌<◌, max}
use mathlib.Core.Path.{◌≡◌, refl, sym, ap, subst, ◌∙◌}
use mathlib.Core.Bool.{Bool, true, false}
use mathlib.Core.List.{List, [], ◌∷◌, ◌++◌}
use mathlib.Core.Option.{Option, some}
use native.Mathlib.Omega.{arith}
use lib.Dec.{ltb}
use lib.ListN.{get_or, take, drop}
use lib.Seq.{drop-drop, get_or-take, get_or-drop}
use Rattle.std.specs.Simd.{first_chunks}
use borrow.Author.Tests.{eq-eqb, ne_eqb, ltb-true, ltb-false}
use Rattle.std.specs.Prelude.{Option as CodeOption, Some, None, Result, Ok, Err, if◌then◌else◌}
use Rattle.rules.specs.State.{Event}
use Rattle.rules.specs.Choice.{Answer, refused}
use Rattle.rules.specs.Arguments.{Call, ActionIn, push, set_action, clear_action, set_timer, clear_timer, pick_next, sim_network_stack}
use Rattle.event.specs.Answers.{choice_of, chosen_as, found_as, number_of, step_of}
use Rattle.event.specs.HandedIn.{side_of, event_in}
use Rattle.event.specs.Values.{known_event}
use Rattle.event.specs.declared.answer.Reason.{Reason}
use Rattle.event.specs.declared.answer.Chosen.{Chosen}
use Rattle.event.specs.declared.answer.Refusal.{Refusal}
use Rattle.event.specs.declared.answer.Stepped.{Stepped}
use Rattle.event.specs.declared.SimEvent.{SimEvent}
use Rattle.layout.specs.Accepted.{Accepted}
use Rattle.simulator.specs.Numbers.{refused_with, Lent}
use Rattle.simulator.specs.Outcome.{Outcome}
use Rattle.simulator.specs.Demand.{Made}
use Rattle.simulator.proofs.Admitting.{lent_n}
use Rattle.simulator.proofs.Working.{outcome_n}
use Rattle.simulator.proofs.OneOutcome.{choice_not_done}
use Rattle.event.proofs.Numbers.{event_known, event_unknown}
use Rattle.layout.proofs.Order.{rank_kind}
use Rattle.calls.specs.Told.{event_for, action_for, slot_for, number_in}
use Rattle.calls.specs.Answers.{choice_words, step_words}
use Rattle.calls.specs.Rows.{code_at, word_at, is_row, is_turn, call_for, step_after, row_calls, zeros, answer_words, turn_words}
use Rattle.calls.specs.Codes.{call_no, code_no, word_in, event_from, IsRow}
use Rattle.calls.specs.declared.row.Code.{Code}
use Rattle.calls.specs.declared.row.Code.TheVariants.{Call as Named, Turn}
use Rattle.calls.specs.declared.row.CallCode.{CallCode}
use Rattle.calls.specs.declared.row.CallCode.TheVariants.{Push, SetAction, ClearAction, SetTimer, ClearTimer, PickNext, SimNetworkStack}
use Rattle.calls.specs.Listed.{first_answer, RowMade}
use Rattle.calls.specs.Made.{CallMade, TurnMade}

-- ---- the call that a row names

module _ (w : List ℕ) (words left ws : List ℕ) (code : CallCode) where
  code_is : (c : CallCode) → code ≡ c → CallMade w (call_for (call_no c) (word_in ws)) words left → CallMade w (call_for (call_no code) (word_in ws)) words left
  code_is c e r = subst (λ (x : CallCode). CallMade w (call_for (call_no x) (word_in ws)) words left) (sym e) r

  -- a call whose answer is a number alone
  module _ (a : Answer) (is : words ≡ number_in a ∷ zeros 15) where
    pub code_0 : code ≡ Push → Outcome w (push (event_from ws 1)) a left → CallMade w (call_for (call_no code) (word_in ws)) words left
    unfolding call_for answer_words
    code_0 e o = code_is Push e (record { answer = a; outcome = o; is = is })

    pub code_1 : code ≡ SetAction → (r : ActionIn) → r ≡ action_for (word_in ws 3) (word_in ws 4) (word_in ws 5) (word_in ws 6) (word_in ws 7) → Outcome w (set_action (slot_for (word_in ws 1) (word_in ws 2)) r) a left → CallMade w (call_for (call_no code) (word_in ws)) words left
    unfolding call_for answer_words
    code_1 e r er o = code_is SetAction e (record { answer = a; outcome = subst (λ (x : ActionIn). Outcome w (set_action (slot_for (word_in ws 1) (word_in ws 2)) x) a left) er o; is = is })

    pub code_2 : code ≡ ClearAction → Outcome w (clear_action (slot_for (word_in ws 1) (word_in ws 2))) a left → CallMade w (call_for (call_no code) (word_in ws)) words left
    unfolding call_for answer_words
    code_2 e o = code_is ClearAction e (record { answer = a; outcome = o; is = is })

    pub code_3 : code ≡ SetTimer → (t : ℕ) → t ≡ word_in ws 3 → Outcome w (set_timer (slot_for (word_in ws 1) (word_in ws 2)) t) a left → CallMade w (call_for (call_no code) (word_in ws)) words left
    unfolding call_for answer_words
    code_3 e t et o = code_is SetTimer e (record { answer = a; outcome = subst (λ (x : ℕ). Outcome w (set_timer (slot_for (word_in ws 1) (word_in ws 2)) x) a left) et o; is = is })

    pub code_4 : code ≡ ClearTimer → Outcome w (clear_timer (slot_for (word_in ws 1) (word_in ws 2))) a left → CallMade w (call_for (call_no code) (word_in ws)) words left
    unfolding call_for answer_words
    code_4 e o = code_is ClearTimer e (record { answer = a; outcome = o; is = is })

  module _ (a : Answer) where
    pub code_5 : code ≡ PickNext → words ≡ number_in a ∷ choice_words a ++ zeros 5 → Outcome w (pick_next (word_in ws 1)) a left → CallMade w (call_for (call_no code) (word_in ws)) words left
    unfolding call_for answer_words
    code_5 e is o = code_is PickNext e (record { answer = a; outcome = o; is = is })

    pub code_6 : code ≡ SimNetworkStack → words ≡ number_in a ∷ step_words a ++ zeros 12 → Outcome w (sim_network_stack (word_in ws 1) (event_from ws 2)) a left → CallMade w (call_for (call_no code) (word_in ws)) words left
    unfolding call_for answer_words
    code_6 e is o = code_is SimNetworkStack e (record { answer = a; outcome = o; is = is })

-- ---- a turn

module _ (w : List ℕ) (t : ℕ) (acc : Accepted w) (a : Result Chosen Refusal) (mid : List ℕ) (o : Outcome w (pick_next t) (choice_of a) mid) where
  abbrev chose : Made
  chose = record { call = pick_next t; answer = choice_of a; left = mid }

  -- the choice gave no event
  short : (words : List ℕ) → [] ≡ step_after (choice_of a) → words ≡ number_in (choice_of a) ∷ choice_words (choice_of a) ++ zeros 5 → TurnMade w t words mid
  unfolding answer_words
  short words d e = record { made = chose ∷ []; runs = (o, tt); calls = ap (λ (l : List Call). pick_next t ∷ l) d; leaves = refl; is = e }

  pub turn_none : (c : Chosen) (words : List ℕ) → a ≡ Ok c → c.event ≡ None → words ≡ number_in (choice_of (Ok c)) ∷ choice_words (choice_of (Ok c)) ++ zeros 5 → TurnMade w t words mid
  turn_none c words d n e =
      short words (ap (λ (x : CodeOption SimEvent). step_after (found_as x c.rounds)) (sym n) ∙ ap (λ (x : Result Chosen Refusal). step_after (choice_of x)) (sym d))
      (e ∙ ap (λ (x : Result Chosen Refusal). number_in (choice_of x) ∷ choice_words (choice_of x) ++ zeros 5) (sym d))

  pub turn_refused : (r : Refusal) (words : List ℕ) → a ≡ Err r → words ≡ number_in (choice_of a) ∷ choice_words (choice_of a) ++ zeros 5 → TurnMade w t words mid
  turn_refused r words d e = short words (ap (λ (x : Result Chosen Refusal). step_after (choice_of x)) (sym d)) e

  -- an event that is chosen is the one that its step is handed
  module _ (c : Chosen) (v : SimEvent) (e : a ≡ Ok c) (ev : c.event ≡ Some v) where
    is_event : choice_of a ≡ chosen_as (known_event v) c.rounds
    is_event = ap choice_of e ∙ ap (λ (x : CodeOption SimEvent). found_as x c.rounds) ev

    handed : v.kind.0 ≤ 9 → (sim_network_stack v.moment.0 (event_in v) ∷ []) ≡ step_after (choice_of a)
    handed l =
        (λ d. sim_network_stack v.moment.0 (record { kind = sym (rank_kind v.kind.0 (omega arith)) d; moment = v.moment.0; delay = v.delay.0; side = side_of v.client; padding = v.padding; bypass = v.bypass; replace = v.replace; machine = v.machine }) ∷ [])
        ∙ ap (λ (x : Option Event). step_after (chosen_as x c.rounds)) (sym (event_known v l))
        ∙ ap step_after (sym is_event)

    known : v.kind.0 ≤ 9
    known = go (ltb 9 v.kind.0) refl
      where
        go : (b : Bool) → ltb 9 v.kind.0 ≡ b → v.kind.0 ≤ 9
        go true x = absurd (choice_not_done w t (choice_of a) mid (yes acc) o (is_event ∙ ap (λ (z : Option Event). chosen_as z c.rounds) (event_unknown v (ltb-true 9 _ x))))
        go false x = ltb-false 9 _ x

    -- it gave one, and its step is made on the words that it left
    pub turn_long :
        (b : Result Stepped Refusal) (left words : List ℕ) → Outcome mid (sim_network_stack v.moment.0 (event_in v)) (step_of b) left
        → words ≡ turn_words (choice_of (Ok c)) (step_of b) → TurnMade w t words left
    turn_long b left words p q =
        record {
          made = chose ∷ record { call = sim_network_stack v.moment.0 (event_in v); answer = step_of b; left = left } ∷ [];
          runs = (o, (p, tt));
          calls = ap (λ (l : List Call). pick_next t ∷ l) (handed known);
          leaves = refl;
          is = q ∙ ap (λ (x : Result Chosen Refusal). turn_words (choice_of x) (step_of b)) (sym e);
        }

-- ---- the row

taken : {A : Type 0} (b : Bool) (x y : A) → b ≡ true → x ≡ (if b then x else y)
taken b x y e = rw e

other : {A : Type 0} (b : Bool) (x y : A) → b ≡ false → y ≡ (if b then x else y)
other b x y e = rw e

-- what is said of a row's words is said of them in the list
code_in_row : (rows : List ℕ) (i : ℕ) (ws : List ℕ) (code : Code) → code_no code ≡ word_in ws 0 → IsRow rows i ws → code_at rows i ≡ code_no code
code_in_row rows i ws code e row = sym (e ∙ row 0 (omega arith))

-- the rows are cut out of the list twelve words by twelve
chunk_at : (k at : ℕ) (rows : List ℕ) → at < k → get_or (first_chunks 12 k rows) at [] ≡ take 12 (drop (12 * at) rows)
chunk_at zero at rows l = absurd (omega arith)
chunk_at (suc k) zero rows l = refl
chunk_at (suc k) (suc at) rows l =
    chunk_at k at (drop 12 rows) (omega arith) ∙ ap (take 12) (drop-drop (12 * at) 12 rows ∙ ap (λ (n : ℕ). drop n rows) (omega arith))

pub row_no : (rows words : List ℕ) (k i : ℕ) → i < k → words ≡ get_or (first_chunks 12 k rows) i [] → IsRow rows i words
row_no rows words k i inside e j l =
    ap (λ (x : List ℕ). get_or x j 0) (e ∙ chunk_at k i rows inside) ∙ get_or-take 12 (drop (12 * i) rows) j 0 l ∙ get_or-drop (12 * i) rows j 0

pub not_row : (rows words : List ℕ) (k i : ℕ) → i < k → words ≡ get_or (first_chunks 12 k rows) i [] → is_row (word_in words 0) ≡ false → is_row (code_at rows i) ≡ false
not_row rows words k i inside e r = ap is_row (sym (row_no rows words k i inside e 0 (omega arith))) ∙ r

-- a call reads no word above 9
call_in_row : (rows : List ℕ) (i : ℕ) (ws : List ℕ) → IsRow rows i ws → (code : ℕ) → call_for code (word_in ws) ≡ call_for code (word_at rows i)
unfolding call_for
call_in_row rows i ws row code =
    let e1 = row 1 (omega arith) in
    let e2 = row 2 (omega arith) in
    let e3 = row 3 (omega arith) in
    let e4 = row 4 (omega arith) in
    let e5 = row 5 (omega arith) in
    let e6 = row 6 (omega arith) in
    let e7 = row 7 (omega arith) in
    let e8 = row 8 (omega arith) in
    let e9 = row 9 (omega arith) in
    λ d.
    get_or
    (push (event_for (e1 d) (e2 d) (e3 d) (e4 d) (e5 d) (e6 d) (e7 d) (e8 d))
    ∷ set_action (slot_for (e1 d) (e2 d)) (action_for (e3 d) (e4 d) (e5 d) (e6 d) (e7 d))
    ∷ clear_action (slot_for (e1 d) (e2 d))
    ∷ set_timer (slot_for (e1 d) (e2 d)) (e3 d)
    ∷ clear_timer (slot_for (e1 d) (e2 d))
    ∷ pick_next (e1 d)
    ∷ sim_network_stack (e1 d) (event_for (e2 d) (e3 d) (e4 d) (e5 d) (e6 d) (e7 d) (e8 d) (e9 d))
    ∷ [])
    code
    (pick_next (e1 d))

-- a call's code is no turn's
call_below : (c : CallCode) → call_no c < 7
call_below Push = omega arith
call_below SetAction = omega arith
call_below ClearAction = omega arith
call_below SetTimer = omega arith
call_below ClearTimer = omega arith
call_below PickNext = omega arith
call_below SimNetworkStack = omega arith

pub code_small : (rows : List ℕ) (i : ℕ) (ws : List ℕ) (code : Code) → code_no code ≡ word_in ws 0 → IsRow rows i ws → code_at rows i ≤ 7
code_small rows i ws (Named c) e row = omega (arith, call_below c, code_in_row rows i ws (Named c) e row)
code_small rows i ws Turn e row = omega (arith, code_in_row rows i ws Turn e row)

module _ (w rows : List ℕ) (i last : ℕ) (words left ws : List ℕ) (code : Code) (coded : code_no code ≡ word_in ws 0) (row : IsRow rows i ws) where
  is_code : code_at rows i ≡ code_no code
  is_code = code_in_row rows i ws code coded row

  pub row_call : (c : CallCode) → code ≡ Named c → CallMade w (call_for (call_no c) (word_in ws)) words left → RowMade w rows i last words left
  unfolding row_calls
  row_call c e r =
      let is : code_at rows i ≡ call_no c = is_code ∙ ap code_no e in
      record {
        made = record { call = call_for (call_no c) (word_in ws); answer = r.answer; left = left } ∷ [];
        runs = (r.outcome, tt);
        calls = ap (λ (x : Call). x ∷ []) (call_in_row rows i ws row (call_no c)) ∙ ap (λ (x : ℕ). call_for x (word_at rows i) ∷ []) (sym is)
            ∙ other (is_turn (code_at rows i)) _ _ (ne_eqb (code_at rows i) 7 (λ z. omega (arith, call_below c, is, z)));
        leaves = refl;
        is = r.is;
      }

  pub row_turn : (t n : ℕ) → code ≡ Turn → n ≡ word_in ws 1 → t ≡ max n last → TurnMade w t words left → RowMade w rows i last words left
  unfolding row_calls
  row_turn t n s en et r =
      record {
        made = r.made;
        runs = r.runs;
        calls = r.calls ∙ ap (λ (x : ℕ). pick_next x ∷ step_after (first_answer r.made)) (et ∙ ap (λ (x : ℕ). max x last) (en ∙ row 1 (omega arith)))
            ∙ taken (is_turn (code_at rows i)) _ _ (eq-eqb (code_at rows i) 7 (is_code ∙ ap code_no s));
        leaves = r.leaves;
        is = r.is;
      }

-- a refusal has no word but its number
refused_words : (c : Call) (n : ℕ) → n ∷ zeros 15 ≡ answer_words c (refused n 0)
unfolding answer_words
refused_words (push e) n = refl
refused_words (set_action z r) n = refl
refused_words (clear_action z) n = refl
refused_words (set_timer z t) n = refl
refused_words (clear_timer z) n = refl
refused_words (pick_next t) n = refl
refused_words (sim_network_stack t e) n = refl

-- words that are refused are refused by every row
pub bad_made :
    {A : Type 0} (w rows : List ℕ) (i last : ℕ) (x : Reason) (r : Result A Reason) (words : List ℕ) → Lent w (refused_with r) → r ≡ Err x → {k : ℕ} → k ≡ number_of x
    → words ≡ k ∷ zeros 15 → RowMade w rows i last words w
unfolding row_calls
bad_made {A} w rows i last x r words lent er {k} ek ew = go (is_turn (code_at rows i)) refl
  where
    e : words ≡ number_of x ∷ zeros 15
    e = ew ∙ ap (λ (y : ℕ). y ∷ zeros 15) ek

    l : Lent w (some (number_of x))
    l = subst (λ (y : Result A Reason). Lent w (refused_with y)) er lent

    go : (b : Bool) → is_turn (code_at rows i) ≡ b → RowMade w rows i last words w
    go true z =
        let c = pick_next (max (word_at rows i 1) last) in
        record { made = record { call = c; answer = refused (number_of x) 0; left = w } ∷ []; runs = (outcome_n w c (number_of x) (lent_n w c (number_of x) l), tt); calls = taken (is_turn (code_at rows i)) _ _ z; leaves = refl; is = e ∙ refused_words c (number_of x) }
    go false z =
        let c = call_for (code_at rows i) (word_at rows i) in
        record { made = record { call = c; answer = refused (number_of x) 0; left = w } ∷ []; runs = (outcome_n w c (number_of x) (lent_n w c (number_of x) l), tt); calls = other (is_turn (code_at rows i)) _ _ z; leaves = refl; is = e ∙ refused_words c (number_of x) }
