-- Delays that are absent; slots whose moments are all before now; and that the slot of a least delay is there.
use Rattle.std.specs.Prelude.{ℕ, zero, suc, ◌+◌, ◌-◌, ◌<◌, ◌≡◌, refl, ◌⊎◌, true, false, ◌&&◌, List, [], ◌∷◌, eqb, leb, get_or}
use Rattle.std.proofs.Common.{sym, ◌∙◌, inl, inr, true≢false, arith, leb-true, leb-false, eq-eqb}
use Rattle.std.proofs.lemmas.Bool.{false≢true}
use Rattle.std.proofs.Math.Option.{Option, none, some, map, none-ne-some}
use Rattle.rules.specs.Basics.{Delay, after, absent, ◌≤ᵈ◌, earlier}
use Rattle.rules.specs.ChoiceDelays.{slot_delay, least_delay}
use Rattle.rules.specs.ChoiceRound.{slot_at}
use Rattle.laws.specs.Branches.{by_if, by_test}

-- ---- delays

le_absent : (d : Delay) → d ≤ᵈ absent ≡ true
le_absent (after a) = refl
le_absent absent = refl

-- only an absent delay is not earlier than an absent one
absent_le : (d : Delay) → absent ≤ᵈ d ≡ true → d ≡ absent
absent_le (after a) h = absurd (false≢true h)
absent_le absent h = refl

-- a delay that is there is not absent
pub after_absent : (n : ℕ) → after n ≡ absent → ⊥
after_absent n h = let z : ◌≡◌ {A = ℕ} 0 1 = cc in omega arith

-- the lesser of two delays is one of them
pub earlier_is : (a b : Delay) (d : ℕ) → earlier a b ≡ after d → (a ≡ after d) ⊎ (b ≡ after d)
earlier_is a b d = by_if (λ (x : Delay). x ≡ after d → (a ≡ after d) ⊎ (b ≡ after d)) (a ≤ᵈ b) (λ h. inl h) (λ h. inr h)

-- it is absent only where both are
pub earlier_absent : (a b : Delay) → earlier a b ≡ absent → (a ≡ absent) × (b ≡ absent)
earlier_absent a b =
    by_test
    (λ (x : Delay). x ≡ absent → (a ≡ absent) × (b ≡ absent))
    (a ≤ᵈ b)
    (λ e h. (h, absent_le b (rw h at e)))
    (λ e h. absurd (true≢false (sym (le_absent a) ∙ rw h at e)))

-- ---- the cascade: what fits first is absent only where all are

-- 1. an absent n fits only where all are absent
pub aggregate_absent :
    (n s i b q : Delay) → n ≡ absent → (n ≤ᵈ s && n ≤ᵈ i && n ≤ᵈ b && n ≤ᵈ q) ≡ true
    → (s ≡ absent) × (i ≡ absent) × (b ≡ absent) × (q ≡ absent)
aggregate_absent (after x) s i b q e h = absurd (after_absent x e)
aggregate_absent absent (after x) i b q e h = absurd (false≢true h)
aggregate_absent absent absent (after x) b q e h = absurd (false≢true h)
aggregate_absent absent absent absent (after x) q e h = absurd (false≢true h)
aggregate_absent absent absent absent absent (after x) e h = absurd (false≢true h)
aggregate_absent absent absent absent absent absent e h = (refl, refl, refl, refl)

-- 2. to 5. past a case that does not fit, the next one fits only where its delay is there
pub block_absent :
    (b s i q n : Delay) → b ≡ absent → (n ≤ᵈ s && n ≤ᵈ i && n ≤ᵈ b && n ≤ᵈ q) ≡ false → (b ≤ᵈ s && b ≤ᵈ i && b ≤ᵈ q) ≡ true → ⊥
block_absent (after x) s i q n e f h = after_absent x e
block_absent absent (after x) i q n e f h = false≢true h
block_absent absent absent (after x) q n e f h = false≢true h
block_absent absent absent absent (after x) n e f h = false≢true h
block_absent absent absent absent absent (after x) e f h = true≢false f
block_absent absent absent absent absent absent e f h = true≢false f

pub event_absent : (q s i b : Delay) → q ≡ absent → (b ≤ᵈ s && b ≤ᵈ i && b ≤ᵈ q) ≡ false → (q ≤ᵈ s && q ≤ᵈ i) ≡ true → ⊥
event_absent (after x) s i b e f h = after_absent x e
event_absent absent (after x) i b e f h = false≢true h
event_absent absent absent (after x) b e f h = false≢true h
event_absent absent absent absent (after x) e f h = true≢false f
event_absent absent absent absent absent e f h = true≢false f

pub timer_absent : (i s q : Delay) → i ≡ absent → (q ≤ᵈ s && q ≤ᵈ i) ≡ false → i ≤ᵈ s ≡ true → ⊥
timer_absent (after x) s q e f h = after_absent x e
timer_absent absent (after x) q e f h = false≢true h
timer_absent absent absent (after x) e f h = true≢false f
timer_absent absent absent absent e f h = true≢false f

pub action_absent : (s i : Delay) → s ≡ absent → i ≤ᵈ s ≡ false → ⊥
action_absent (after x) i e f = after_absent x e
action_absent absent (after x) e f = true≢false f
action_absent absent absent e f = true≢false f

-- ---- slots

-- every moment held is before now
abbrev pub Early : ℕ → List (Option ℕ) → Type 0
Early now [] = Unit
Early now (none ∷ l) = Early now l
Early now (some t ∷ l) = (t < now) × Early now l

-- a moment in such slots is before now
pub early_at : (now : ℕ) (l : List (Option ℕ)) (m : ℕ) {t : ℕ} → Early now l → get_or l m none ≡ some t → t < now
early_at now [] m {t} e h = absurd (none-ne-some t h)
early_at now (none ∷ l) zero {t} e h = absurd (none-ne-some t h)
early_at now (some u ∷ l) zero {t} e h = let g : u ≡ t = cc in omega (arith, e.0)
early_at now (none ∷ l) (suc m) e h = early_at now l m e h
early_at now (some u ∷ l) (suc m) e h = early_at now l m e.1 h

slot_absent : (now t : ℕ) → slot_delay now (some t) ≡ absent → t < now
slot_absent now t =
    by_test
    (λ (x : Delay). x ≡ absent → t < now)
    (leb now t)
    (λ e h. absurd (after_absent (t - now) h))
    (λ e h. leb-false now t e)

-- no slot is at or after now where the least delay is absent
pub absent_early : (now : ℕ) (l : List (Option ℕ)) → least_delay now l ≡ absent → Early now l
absent_early now [] h = tt
absent_early now (none ∷ l) h = absent_early now l (earlier_absent absent (least_delay now l) h).1
absent_early now (some t ∷ l) h =
    let b = earlier_absent (slot_delay now (some t)) (least_delay now l) h in
    (slot_absent now t b.0, absent_early now l b.1)

-- there is a value
abbrev pub There : {A : Type 0} → Option A → Type 0
There none = ⊥
There (some a) = Unit

there_suc : (o : Option ℕ) → There o → There (map suc o)
there_suc none h = h
there_suc (some m) h = tt

slot_after : (now t d : ℕ) → slot_delay now (some t) ≡ after d → t ≡ now + d
slot_after now t d =
    by_test
    (λ (x : Delay). x ≡ after d → t ≡ now + d)
    (leb now t)
    (λ e h. let g : t - now ≡ d = cc in omega (arith, leb-true now t e))
    (λ e h. absurd (after_absent d (sym h)))

-- a slot has the moment that ends the least delay
pub least_there : (now d : ℕ) (l : List (Option ℕ)) → least_delay now l ≡ after d → There (slot_at (now + d) l)
least_there now d [] h = absurd (after_absent d (sym h))
least_there now d (none ∷ l) h = there_suc (slot_at (now + d) l) (go (earlier_is absent (least_delay now l) d h) (least_there now d l))
  where
    go : (absent ≡ after d) ⊎ (least_delay now l ≡ after d) → (least_delay now l ≡ after d → There (slot_at (now + d) l)) → There (slot_at (now + d) l)
    go (inl g) ih = absurd (after_absent d (sym g))
    go (inr g) ih = ih g
least_there now d (some t ∷ l) h = go (earlier_is (slot_delay now (some t)) (least_delay now l) d h) (least_there now d l)
  where
    go :
        (slot_delay now (some t) ≡ after d) ⊎ (least_delay now l ≡ after d) → (least_delay now l ≡ after d → There (slot_at (now + d) l))
        → There (slot_at (now + d) (some t ∷ l))
    go (inl g) ih = rw (eq-eqb t (now + d) (slot_after now t d g)) tt
    go (inr g) ih = by_if (There {A = ℕ}) (eqb t (now + d)) tt (there_suc (slot_at (now + d) l) (ih g))
