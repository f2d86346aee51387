-- Two values of the code that the rules read as one thing are one value: an event whose number is a kind's, a reason, and the three answers. Assumes nothing.
use Prim.Native.Nat.{ℕ, ◌≤◌}
use mathlib.Core.Path.{◌≡◌, refl, sym, ap, ◌∙◌}
use mathlib.Core.Bool.{Bool, true, false}
use mathlib.Core.List.{[], ◌∷◌}
use mathlib.Core.Option.{Option as MathOption, none, some}
use native.Mathlib.Omega.{arith}
use lib.Dec.{ltb}
use lib.ListN.{get_or}
use borrow.Author.Tests.{ltb-true, ltb-false}
use Rattle.std.specs.Prelude.{Option, Some, None, Result, Ok, Err}
use Rattle.rules.specs.Basics.{rank}
use Rattle.rules.specs.State.{Event}
use Rattle.rules.specs.Choice.{Answer as RulesAnswer, done, event, nothing_left, refused, step_made}
use Rattle.event.specs.HandedIn.{side_of}
use Rattle.event.specs.Values.{known_event, event_value, kind_at}
use Rattle.event.specs.Answers.{number_of, answer_of, choice_of, chosen_as, found_as, falls_of, step_of}
use Rattle.event.specs.declared.SimEvent.{SimEvent}
use Rattle.event.specs.declared.answer.Chosen.{Chosen}
use Rattle.event.specs.declared.answer.Reason.{Reason}
use Rattle.event.specs.declared.answer.Reason.TheVariants.{
  WrongLength,
  NotAccepted,
  Ended,
  OpeningOutside,
  NoMachine,
  NoKind,
  AboveLimit,
  DelayAboveMoment,
  NoRoom,
  PastLimit,
}
use Rattle.event.specs.declared.answer.Refusal.{Refusal}
use Rattle.event.specs.declared.answer.Stepped.{Stepped}
use Rattle.moment.specs.declared.Moment.{Moment}
use Rattle.event.proofs.Numbers.{by_kind, event_known, event_unknown}

-- ---- parts

different : ◌≡◌ {A = ℕ} 0 1 → ⊥
different z = omega arith

pub side_one : (a b : Bool) → side_of a ≡ side_of b → a ≡ b
side_one true true e = refl
side_one false false e = refl
side_one true false e = absurd (different (cc))
side_one false true e = absurd (different (cc))

pub number_one : (n : ℕ) → n ≤ 9 → rank (kind_at n) ≡ n
number_one n l = by_kind (λ n. rank (kind_at n) ≡ n) refl refl refl refl refl refl refl refl refl refl n (omega arith)

-- an event that has a kind has a number up to 9
pub known_number : (a : SimEvent) (e : Event) → known_event a ≡ some e → a.kind.0 ≤ 9
known_number a e k = go (ltb 9 a.kind.0) refl
  where
    go : (t : Bool) → ltb 9 a.kind.0 ≡ t → a.kind.0 ≤ 9
    go true q = absurd (let n : none ≡ some e = sym (event_unknown a (ltb-true 9 a.kind.0 q)) ∙ k in different (cc))
    go false q = ltb-false 9 a.kind.0 q

-- ---- an event

value_one : (a b : SimEvent) → a.kind.0 ≤ 9 → b.kind.0 ≤ 9 → event_value a ≡ event_value b → a ≡ b
value_one a b la lb e =
    λ d.
    record {
      kind = record { 0 = number d };
      moment = record { 0 = ap (λ (x : Event). x.moment) e d };
      delay = record { 0 = ap (λ (x : Event). x.delay) e d };
      client = side_one a.client b.client (ap (λ (x : Event). x.side) e) d;
      padding = ap (λ (x : Event). x.padding) e d;
      bypass = ap (λ (x : Event). x.bypass) e d;
      replace = ap (λ (x : Event). x.replace) e d;
      machine = ap (λ (x : Event). x.machine) e d;
    }
  where
    number : a.kind.0 ≡ b.kind.0
    number = sym (number_one a.kind.0 la) ∙ ap (λ (x : Event). rank x.kind) e ∙ number_one b.kind.0 lb

pub event_one : (a b : SimEvent) (e : Event) → known_event a ≡ some e → known_event b ≡ some e → a ≡ b
event_one a b e p q =
    let la = known_number a e p in
    let lb = known_number b e q in
    let s : some (event_value a) ≡ some (event_value b) = sym (event_known a la) ∙ p ∙ sym q ∙ event_known b lb in
    value_one a b la lb (cc)

-- ---- answers

-- a reason by its number
with_number : ℕ → Reason
with_number n =
    get_or (WrongLength ∷ WrongLength ∷ NotAccepted ∷ Ended ∷ OpeningOutside ∷ NoMachine ∷ NoKind ∷ AboveLimit ∷ DelayAboveMoment ∷ NoRoom ∷ []) n PastLimit

with_its : (r : Reason) → with_number (number_of r) ≡ r
unfolding with_number
with_its WrongLength = refl
with_its NotAccepted = refl
with_its Ended = refl
with_its OpeningOutside = refl
with_its NoMachine = refl
with_its NoKind = refl
with_its AboveLimit = refl
with_its DelayAboveMoment = refl
with_its NoRoom = refl
with_its PastLimit = refl

pub reason_one : (r s : Reason) → number_of r ≡ number_of s → r ≡ s
reason_one r s e = sym (with_its r) ∙ ap with_number e ∙ with_its s

refusal_one : (r s : Refusal) → number_of r.reason ≡ number_of s.reason → r.rounds ≡ s.rounds → r ≡ s
refusal_one r s p q = λ d. record { reason = reason_one r.reason s.reason p d; rounds = q d }

pub answer_one : (a b : Result Unit Refusal) → answer_of a ≡ answer_of b → a ≡ b
answer_one (Ok u) (Ok v) e = refl
answer_one (Err r) (Err s) e = ap Err (refusal_one r s (cc) (cc))
answer_one (Ok u) (Err s) e = absurd (different (cc))
answer_one (Err r) (Ok v) e = absurd (different (cc))

-- when the count falls, and the answer of a step that is made
pub falls_one : (f g : Option Moment) → falls_of f ≡ falls_of g → f ≡ g
falls_one None None e = refl
falls_one (Some t) (Some u) e = let q : t.0 ≡ u.0 = cc in ap Some (λ d. record { 0 = q d })
falls_one None (Some u) e = absurd (different (cc))
falls_one (Some t) None e = absurd (different (cc))

made_one : (a b : Bool) (f g : MathOption ℕ) → step_made a f ≡ step_made b g → (a ≡ b) × (f ≡ g)
made_one a b f g e = (cc, cc)

no_refusal : (a : Bool) (f : MathOption ℕ) (n k : ℕ) → step_made a f ≡ refused n k → ⊥
no_refusal a f n k e = different (cc)

pub step_one : (a b : Result Stepped Refusal) → step_of a ≡ step_of b → a ≡ b
step_one (Ok m) (Ok n) e =
    let q = made_one m.active n.active (falls_of m.falls) (falls_of n.falls) e in
    ap Ok (λ d. record { active = q.0 d; falls = falls_one m.falls n.falls q.1 d })
step_one (Err r) (Err s) e = ap Err (refusal_one r s (cc) (cc))
step_one (Ok m) (Err s) e = absurd (no_refusal _ _ _ _ e)
step_one (Err r) (Ok n) e = absurd (no_refusal _ _ _ _ (sym e))

-- what a choice found, where it is an answer of a choice at all
shown_one :
    (a b : SimEvent) (k m : ℕ) (o r : MathOption Event) (x : RulesAnswer) → (x ≡ done → ⊥) → known_event a ≡ o → known_event b ≡ r
    → chosen_as o k ≡ x → chosen_as r m ≡ x → (a ≡ b) × (k ≡ m)
shown_one a b k m none r x n ea eb p q = absurd (n (sym p))
shown_one a b k m (some e) none x n ea eb p q = absurd (n (sym q))
shown_one a b k m (some e) (some f) x n ea eb p q =
    let same : event f m ≡ event e k = q ∙ sym p in
    let ef : f ≡ e = cc in
    (event_one a b e ea (eb ∙ ap some ef), cc)

no_nothing : (o : MathOption Event) (k m : ℕ) (x : RulesAnswer) → (x ≡ done → ⊥) → chosen_as o k ≡ x → nothing_left m ≡ x → ⊥
no_nothing none k m x n p q = n (sym p)
no_nothing (some e) k m x n p q = let s : event e k ≡ nothing_left m = p ∙ sym q in different (cc)

found_one :
    (o r : Option SimEvent) (k m : ℕ) (x : RulesAnswer) → (x ≡ done → ⊥) → found_as o k ≡ x → found_as r m ≡ x → (o ≡ r) × (k ≡ m)
found_one (Some a) (Some b) k m x n p q = let both = shown_one a b k m _ _ x n refl refl p q in (ap Some both.0, both.1)
found_one (Some a) None k m x n p q = absurd (no_nothing (known_event a) k m x n p q)
found_one None (Some b) k m x n p q = absurd (no_nothing (known_event b) m k x n q p)
found_one None None k m x n p q = let s : nothing_left k ≡ nothing_left m = p ∙ sym q in (refl, cc)

no_number : (o : MathOption Event) (k m l : ℕ) (x : RulesAnswer) → (x ≡ done → ⊥) → chosen_as o k ≡ x → refused m l ≡ x → ⊥
no_number none k m l x n p q = n (sym p)
no_number (some e) k m l x n p q = let s : event e k ≡ refused m l = p ∙ sym q in different (cc)

found_number : (o : Option SimEvent) (k m l : ℕ) (x : RulesAnswer) → (x ≡ done → ⊥) → found_as o k ≡ x → refused m l ≡ x → ⊥
found_number (Some a) k m l x n p q = no_number (known_event a) k m l x n p q
found_number None k m l x n p q = let s : nothing_left k ≡ refused m l = p ∙ sym q in different (cc)

pub choice_one : (a b : Result Chosen Refusal) (x : RulesAnswer) → (x ≡ done → ⊥) → choice_of a ≡ x → choice_of b ≡ x → a ≡ b
choice_one (Ok c) (Ok d) x n p q =
    let both = found_one c.event d.event c.rounds d.rounds x n p q in ap Ok (λ i. record { event = both.0 i; rounds = both.1 i })
choice_one (Ok c) (Err s) x n p q = absurd (found_number c.event c.rounds _ _ x n p q)
choice_one (Err r) (Ok d) x n p q = absurd (found_number d.event d.rounds _ _ x n q p)
choice_one (Err r) (Err s) x n p q =
    let t : refused (number_of r.reason) r.rounds ≡ refused (number_of s.reason) s.rounds = p ∙ sym q in
    ap Err (refusal_one r s (cc) (cc))
