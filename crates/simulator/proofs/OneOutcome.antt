-- A call has one outcome: its promise leaves no choice of answer, and none of words but in free records. Assumes nothing.
use Prim.Native.Nat.{ℕ, zero, suc, ◌+◌, ◌%◌}
use mathlib.Core.Path.{◌≡◌, refl, sym, ap, ◌∙◌}
use mathlib.Core.Bool.{Bool, true, false}
use mathlib.Core.List.{List}
use mathlib.Core.Option.{Option, none, some}
use native.Mathlib.Omega.{arith}
use native.Mathlib.Decide.{ℕ_discrete}
use lib.Dec.{ltb}
use lib.ListN.{length}
use borrow.Author.Tests.{ltb-true, ltb-false}
use Rattle.rules.specs.State.{State}
use Rattle.rules.specs.Choice.{Answer, Called, done, event, nothing_left, step_made, refused, settle, rounds, choose}
use Rattle.rules.specs.ChoiceRound.{RoundOutcome, next, taken, nothing, passed, round}
use Rattle.rules.specs.Arguments.{Call, pick_next}
use Rattle.rules.specs.Calls.{call, work, unless_refused}
use Rattle.rules.specs.Refusals.{refusal}
use Rattle.rules.specs.Opening.{Opening, open_refusal}
use Rattle.layout.specs.Accepted.{Accepted, SizeOk}
use Rattle.layout.specs.Layout.{state_of}
use Rattle.layout.proofs.Theorems.{fixed}
use Rattle.simulator.specs.Outcome.{Outcome}
use Rattle.simulator.specs.Openings.{Opens}
use Rattle.simulator.specs.Packs.{Packs}
use Rattle.simulator.specs.Alike.{Alike}

-- ---- no choice answers `done`

abbrev is_done : Answer → ℕ
is_done done = 1
is_done (event e k) = 0
is_done (nothing_left k) = 0
is_done (step_made a f) = 0
is_done (refused n k) = 0

settled : (k : ℕ) (on : State → Called) (o : RoundOutcome) → ((t : State) → is_done (on t).answer ≡ 0) → is_done (settle k on o).answer ≡ 0
settled k on (next t) h = h t
settled k on (taken e t) h = refl
settled k on (nothing t) h = refl
settled k on (passed t) h = refl

rounds_answer : (f now k : ℕ) (s : State) → is_done (rounds f now k s).answer ≡ 0
unfolding rounds
rounds_answer zero now k s = refl
rounds_answer (suc f) now k s = settled k (λ (t : State). rounds f now (k + 1) t) (round s now) (λ t. rounds_answer f now (k + 1) t)

choice_answer : (s : State) (now : ℕ) → is_done (call s (pick_next now)).answer ≡ 0
unfolding call work choose
choice_answer s now = go (refusal s (pick_next now))
  where
    go : (o : Option ℕ) → is_done (unless_refused o s (choose s now)).answer ≡ 0
    go none = rounds_answer _ now 0 s
    go (some n) = refl

-- ---- words that are not accepted

size_decided : (n : ℕ) → Dec (SizeOk n)
size_decided n = go (ltb n 260) refl (ltb 262396 n) refl (ℕ_discrete (n % 4) 0)
  where
    go : (x : Bool) → ltb n 260 ≡ x → (y : Bool) → ltb 262396 n ≡ y → Dec (n % 4 ≡ 0) → Dec (SizeOk n)
    go true ex y ey d = no (λ s. let l = ltb-true n 260 ex in omega (arith, s.least))
    go false ex true ey d = no (λ s. let l = ltb-true 262396 n ey in omega (arith, s.most))
    go false ex false ey (no d) = no (λ s. d s.whole)
    go false ex false ey (yes d) = yes (record { least = ltb-false n 260 ex; most = ltb-false 262396 n ey; whole = d })

-- 1 or 2, by the length alone
abbrev number_of_bad : {n : ℕ} → Dec (SizeOk n) → ℕ
number_of_bad (yes s) = 2
number_of_bad (no d) = 1

refused_so :
    (w : List ℕ) (c : Call) (a : Answer) (left : List ℕ) → (Accepted w → ⊥) → Outcome w c a left
    → (a ≡ refused (number_of_bad (size_decided (length w))) 0) × (left ≡ w)
refused_so w c a left h o = go (size_decided (length w))
  where
    go : (d : Dec (SizeOk (length w))) → (a ≡ refused (number_of_bad d) 0) × (left ≡ w)
    go (yes s) = o.bad s h
    go (no d) = o.bad_length d

pub refused_left : (w : List ℕ) (c : Call) (a : Answer) (left : List ℕ) → (Accepted w → ⊥) → Outcome w c a left → left ≡ w
refused_left w c a left h o = (refused_so w c a left h o).1

pub same_refusal :
    (w : List ℕ) (c : Call) (a b : Answer) (left right : List ℕ) → (Accepted w → ⊥) → Outcome w c a left → Outcome w c b right → (a ≡ b) × (left ≡ right)
same_refusal w c a b left right h o p =
    let x = refused_so w c a left h o in
    let y = refused_so w c b right h p in
    (x.0 ∙ sym y.0, x.1 ∙ sym y.1)

-- ---- any words

pub choice_not_done : (w : List ℕ) (now : ℕ) (a : Answer) (left : List ℕ) → Dec (Accepted w) → Outcome w (pick_next now) a left → a ≡ done → ⊥
choice_not_done w now a left (yes h) o e = let z : is_done a ≡ 1 = ap is_done e in omega (arith, ap is_done (o.answer h), choice_answer (state_of w) now)
choice_not_done w now a left (no h) o e = let z : is_done a ≡ 1 = ap is_done e in omega (arith, ap is_done (refused_so w (pick_next now) a left h o).0)

module _ (w : List ℕ) (c : Call) (a b : Answer) (left right : List ℕ) (o : Outcome w c a left) (p : Outcome w c b right) where
  pub same_answer : Dec (Accepted w) → a ≡ b
  same_answer (yes h) = o.answer h ∙ sym (p.answer h)
  same_answer (no h) = (same_refusal w c a b left right h o p).0

  pub same_left : Accepted w → Alike left right
  same_left h =
      let l = o.state h in
      let r = p.state h in
      let s : state_of left ≡ state_of right = l.state ∙ sym r.state in
      record {
        size = l.size ∙ sym r.size;
        state = s;
        words = fixed left right l.accepted r.accepted s (λ i q. l.spare i q ∙ sym (r.spare i q));
      }

-- ---- opening

pub same_opening :
    (w : List ℕ) (o : Opening) (a b : Answer) (left right : List ℕ) → Opens w o a left → Opens w o b right → (a ≡ b) × (left ≡ right)
same_opening w o a b left right x y = go (open_refusal (length w) o) refl
  where
    go : (r : Option ℕ) → open_refusal (length w) o ≡ r → (a ≡ b) × (left ≡ right)
    go none e = ((x.opens e).0 ∙ sym (y.opens e).0, (x.opens e).1 ∙ sym (y.opens e).1)
    go (some n) e = ((x.refuses n e).0 ∙ sym (y.refuses n e).0, (x.refuses n e).1 ∙ sym (y.refuses n e).1)

-- ---- packing

module _ (w v : List ℕ) (a b : Answer) (left right : List ℕ) (x : Packs w v a left) (y : Packs w v b right) where
  pub same_packing : Dec (Accepted w) → (a ≡ b) × (left ≡ right)
  same_packing h = go (size_decided (length w)) (ℕ_discrete (length v) (length w)) h
    where
      -- both say the same of it
      join : (c : Answer) (z : List ℕ) → (a ≡ c) × (left ≡ z) → (b ≡ c) × (right ≡ z) → (a ≡ b) × (left ≡ right)
      join c z m n = (m.0 ∙ sym n.0, m.1 ∙ sym n.1)

      go : Dec (SizeOk (length w)) → Dec (length v ≡ length w) → Dec (Accepted w) → (a ≡ b) × (left ≡ right)
      go (no d) e h = join _ _ (x.bad_length d) (y.bad_length d)
      go (yes s) (no d) h = join _ _ (x.other_length s d) (y.other_length s d)
      go (yes s) (yes e) (no h) = join _ _ (x.bad s e h) (y.bad s e h)
      go (yes s) (yes e) (yes h) = join _ _ (x.packs h e) (y.packs h e)
