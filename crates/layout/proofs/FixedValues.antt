-- The values that words hold fix the words: of the header, of an action, of a record, of a chain's records. Assumes nothing.
use Prim.Native.Nat.{ℕ, zero, suc, ◌+◌, ◌*◌, ◌/◌, ◌%◌, ◌<◌, ◌≤◌}
use mathlib.Core.Bool.{true≢false, false≢true}
use mathlib.Core.List.{List, [], ◌∷◌, map}
use mathlib.Core.Logic.{◌⊎◌, inl, inr}
use mathlib.Core.Path.{◌≡◌, refl, sym, ap, ap₂, ◌∙◌}
use native.Mathlib.Omega.{arith}
use Rattle.queue_event.specs.Chain.{Node, Rec}
use Rattle.rules.specs.Basics.{Side, rank}
use Rattle.rules.specs.State.{SendPadding, BlockOutgoing, Action}
use Rattle.queue_event.specs.Tag.{flag}
use Rattle.layout.specs.Header.{ActionShape}
use Rattle.layout.specs.Layout.{action_kind_at, less_one, unless_zero, side_at, event_from, aggregate_from, held_event, held_stamp, held_aggregate, action_from}
use Rattle.layout.specs.Records.{RecordOk, Fit}
use Rattle.layout.proofs.Order.{rank_kind}

-- ---- values fix their words

pub less_one_lem : (a b : ℕ) → less_one a ≡ less_one b → a ≡ b
less_one_lem zero zero e = refl
less_one_lem zero (suc b) e = absurd (let z : ◌≡◌ {A = ℕ} 0 1 = cc in omega arith)
less_one_lem (suc a) zero e = absurd (let z : ◌≡◌ {A = ℕ} 0 1 = cc in omega arith)
less_one_lem (suc a) (suc b) e = ap suc (cc)

pub unless_zero_lem : (a b : ℕ) → unless_zero a ≡ unless_zero b → a ≡ b
unless_zero_lem zero zero e = refl
unless_zero_lem zero (suc b) e = absurd (let z : ◌≡◌ {A = ℕ} 0 1 = cc in omega arith)
unless_zero_lem (suc a) zero e = absurd (let z : ◌≡◌ {A = ℕ} 0 1 = cc in omega arith)
unless_zero_lem (suc a) (suc b) e = cc

pub flag_same : (a b : ℕ) → a < 2 → b < 2 → flag a ≡ flag b → a ≡ b
flag_same zero zero la lb e = refl
flag_same zero (suc b) la lb e = absurd (false≢true e)
flag_same (suc a) zero la lb e = absurd (true≢false e)
flag_same (suc a) (suc b) la lb e = omega arith

side_same : (a b : ℕ) → a < 2 → b < 2 → side_at a ≡ side_at b → a ≡ b
side_same zero zero la lb e = refl
side_same zero (suc b) la lb e = absurd (let z : ◌≡◌ {A = ℕ} 0 1 = cc in omega arith)
side_same (suc a) zero la lb e = absurd (let z : ◌≡◌ {A = ℕ} 0 1 = cc in omega arith)
side_same (suc a) (suc b) la lb e = omega arith

-- a tag below 65,536, by its fields
digits : (t : ℕ) → t < 65536 → t / 2048 % 2 ≡ 0 → t ≡ t % 16 + 16 * (t / 16 % 16) + 256 * (t / 256 % 2) + 512 * (t / 512 % 2) + 1024 * (t / 1024 % 2) + 4096 * (t / 4096 % 16)
digits t l z = sum t (t % 16) (t / 16) (t / 16 % 16) (t / 256) (t / 256 % 2) (t / 512) (t / 512 % 2) (t / 1024) (t / 1024 % 2) (t / 2048) (t / 2048 % 2) (t / 4096) (t / 4096 % 16) (omega arith) (step16 t) (step256 t) (step512 t) (step1024 t) (step2048 t) z (top t l)
  where
    step16 : (x : ℕ) → x / 16 ≡ x / 16 % 16 + 16 * (x / 256)
    step16 x = omega arith

    step256 : (x : ℕ) → x / 256 ≡ x / 256 % 2 + 2 * (x / 512)
    step256 x = omega arith

    step512 : (x : ℕ) → x / 512 ≡ x / 512 % 2 + 2 * (x / 1024)
    step512 x = omega arith

    step1024 : (x : ℕ) → x / 1024 ≡ x / 1024 % 2 + 2 * (x / 2048)
    step1024 x = omega arith

    step2048 : (x : ℕ) → x / 2048 ≡ x / 2048 % 2 + 2 * (x / 4096)
    step2048 x = omega arith

    top : (x : ℕ) → x < 65536 → x / 4096 ≡ x / 4096 % 16
    top x h = omega arith

    sum : (t₀ m q k q₁ p q₂ b q₃ r q₄ s q₅ n : ℕ) → t₀ ≡ m + 16 * q → q ≡ k + 16 * q₁ → q₁ ≡ p + 2 * q₂ → q₂ ≡ b + 2 * q₃ → q₃ ≡ r + 2 * q₄ → q₄ ≡ s + 2 * q₅ → s ≡ 0 → q₅ ≡ n
        → t₀ ≡ m + 16 * k + 256 * p + 512 * b + 1024 * r + 4096 * n
    sum t₀ m q k q₁ p q₂ b q₃ r q₄ s q₅ n e₀ e₁ e₂ e₃ e₄ e₅ e₆ e₇ = omega arith

module _ (k c c' : ℕ) (a b : Rec) where
  event_rec : (z : Side) → 0 < k % 5 → k < 11 → RecordOk k c a.moment a.size a.tag → RecordOk k c' b.moment b.size b.tag → event_from z a ≡ event_from z b → a ≡ b
  unfolding event_from
  event_rec z lo hi fa fb e =
      let ea = fa.shape.event lo hi in
      let eb = fb.shape.event lo hi in
      let kd : a.tag / 16 % 16 ≡ b.tag / 16 % 16 = sym (rank_kind (a.tag / 16 % 16) (omega (arith, ea.kind.kinds))) ∙ ap (λ x. rank x.kind) e ∙ rank_kind (b.tag / 16 % 16) (omega (arith, eb.kind.kinds)) in
      let pd : a.tag / 256 % 2 ≡ b.tag / 256 % 2 = flag_same _ _ (omega arith) (omega arith) (ap (λ x. x.padding) e) in
      let bd : a.tag / 512 % 2 ≡ b.tag / 512 % 2 = flag_same _ _ (omega arith) (omega arith) (ap (λ x. x.bypass) e) in
      let rd : a.tag / 1024 % 2 ≡ b.tag / 1024 % 2 = flag_same _ _ (omega arith) (omega arith) (ap (λ x. x.replace) e) in
      let md : a.tag / 4096 % 16 ≡ b.tag / 4096 % 16 = ap (λ x. x.machine) e in
      let tg : a.tag ≡ b.tag = digits a.tag ea.rest ea.side ∙ same _ _ _ _ _ _ _ _ _ _ _ _ kd pd bd rd md (fa.shape.chain ∙ sym fb.shape.chain) ∙ sym (digits b.tag eb.rest eb.side) in
      λ d. record { moment = ap (λ x. x.moment) e d; size = ap (λ x. x.delay) e d; tag = tg d }
    where
      same : (k₁ k₂ p₁ p₂ b₁ b₂ r₁ r₂ m₁ m₂ c₁ c₂ : ℕ) → k₁ ≡ k₂ → p₁ ≡ p₂ → b₁ ≡ b₂ → r₁ ≡ r₂ → m₁ ≡ m₂ → c₁ ≡ c₂ → c₁ + 16 * k₁ + 256 * p₁ + 512 * b₁ + 1024 * r₁ + 4096 * m₁ ≡ c₂ + 16 * k₂ + 256 * p₂ + 512 * b₂ + 1024 * r₂ + 4096 * m₂
      same k₁ k₂ p₁ p₂ b₁ b₂ r₁ r₂ m₁ m₂ c₁ c₂ e1 e2 e3 e4 e5 e6 = omega arith

  stamp_rec : k % 5 ≡ 0 → 0 < k → RecordOk k c a.moment a.size a.tag → RecordOk k c' b.moment b.size b.tag → a.moment ≡ b.moment → a ≡ b
  stamp_rec lo hi fa fb e =
      let sa = fa.shape.stamp lo hi in
      let sb = fb.shape.stamp lo hi in
      let tg : a.tag ≡ b.tag = omega (arith, sa.rest, sb.rest, fa.shape.chain, fb.shape.chain) in
      let sz : a.size ≡ b.size = sa.spans ∙ sym sb.spans in
      λ d. record { moment = e d; size = sz d; tag = tg d }

  aggregate_rec : k ≡ 11 → RecordOk k c a.moment a.size a.tag → RecordOk k c' b.moment b.size b.tag → aggregate_from a ≡ aggregate_from b → a ≡ b
  unfolding aggregate_from
  aggregate_rec is fa fb e =
      let ga = fa.shape.aggregate is in
      let gb = fb.shape.aggregate is in
      let sd : a.tag / 2048 % 2 ≡ b.tag / 2048 % 2 = side_same _ _ (omega arith) (omega arith) (ap (λ x. x.side) e) in
      let tg : a.tag ≡ b.tag = omega (arith, ga.rest, gb.rest, ga.side, gb.side) in
      λ d. record { moment = ap (λ x. x.moment) e d; size = ap (λ x. x.length) e d; tag = tg d }

-- ---- an action

kind_three : (a b : ℕ) → (a ≡ 1) ⊎ (a ≡ 2) → (b ≡ 1) ⊎ (b ≡ 2) → action_kind_at a ≡ action_kind_at b → a ≡ b
kind_three a b (inl x) (inl y) e = x ∙ sym y
kind_three a b (inr x) (inr y) e = x ∙ sym y
kind_three a b (inl x) (inr y) e = absurd (let q : SendPadding ≡ BlockOutgoing = sym (ap action_kind_at x) ∙ e ∙ ap action_kind_at y in let z : ◌≡◌ {A = ℕ} 0 1 = cc in omega arith)
kind_three a b (inr x) (inl y) e = absurd (let q : BlockOutgoing ≡ SendPadding = sym (ap action_kind_at x) ∙ e ∙ ap action_kind_at y in let z : ◌≡◌ {A = ℕ} 0 1 = cc in omega arith)

pub one_or_two : (a m d : ℕ) → ActionShape (suc a) m d → (suc a % 4 ≡ 1) ⊎ (suc a % 4 ≡ 2)
one_or_two a m d ok = go (suc a % 4) ok.kind (λ e. let z = (ok.empty e).0 in omega arith) (omega arith)
  where
    go : (x : ℕ) → (x ≡ 3 → ⊥) → (x ≡ 0 → ⊥) → x < 4 → (x ≡ 1) ⊎ (x ≡ 2)
    go zero p q l = absurd (q refl)
    go (suc zero) p q l = inl refl
    go (suc (suc zero)) p q l = inr refl
    go (suc (suc (suc zero))) p q l = absurd (p refl)
    go (suc (suc (suc (suc x)))) p q l = absurd (omega arith)

action_digits : (a : ℕ) → a ≤ 15 → a ≡ a % 4 + 4 * (a / 4 % 2) + 8 * (a / 8 % 2)
action_digits a l = omega arith

pub action_same : (a m d a' m' d' : ℕ) → ActionShape a m d → ActionShape a' m' d' → action_from a m d ≡ action_from a' m' d' → (a ≡ a') × ((m ≡ m') × (d ≡ d'))
unfolding action_from
action_same zero m d zero m' d' o o' e = (refl, ((o.empty refl).1 ∙ sym (o'.empty refl).1, o.padding (omega arith) ∙ sym (o'.padding (omega arith))))
action_same zero m d (suc a') m' d' o o' e = absurd (let z : ◌≡◌ {A = ℕ} 0 1 = cc in omega arith)
action_same (suc a) m d zero m' d' o o' e = absurd (let z : ◌≡◌ {A = ℕ} 0 1 = cc in omega arith)
action_same (suc a) m d (suc a') m' d' o o' e =
    let q : ◌≡◌ {A = Action} (record { kind = action_kind_at (suc a % 4); moment = m; duration = d; bypass = flag (suc a / 4 % 2); replace = flag (suc a / 8 % 2) }) (record { kind = action_kind_at (suc a' % 4); moment = m'; duration = d'; bypass = flag (suc a' / 4 % 2); replace = flag (suc a' / 8 % 2) }) = cc in
    let k = kind_three _ _ (one_or_two a m d o) (one_or_two a' m' d' o') (ap (λ x. x.kind) q) in
    let b = flag_same (suc a / 4 % 2) (suc a' / 4 % 2) (omega arith) (omega arith) (ap (λ x. x.bypass) q) in
    let r = flag_same (suc a / 8 % 2) (suc a' / 8 % 2) (omega arith) (omega arith) (ap (λ x. x.replace) q) in
    (action_digits (suc a) o.flags ∙ (λ i. k i + 4 * b i + 8 * r i) ∙ sym (action_digits (suc a') o'.flags), (ap (λ x. x.moment) q, ap (λ x. x.duration) q))

-- ---- a chain's values fix its records

abbrev Fine : ℕ → ℕ → Node → Type 0
Fine k c x = RecordOk k c x.rec.moment x.rec.size x.rec.tag

pub map_same : {B : Type 0} (f : Node → B) (k c c' : ℕ) → ((x y : Node) → Fine k c x → Fine k c' y → f x ≡ f y → x ≡ y) → (l m : List Node) → Fit k c l → Fit k c' m → map f l ≡ map f m → l ≡ m
unfolding Fit
map_same f k c c' inj [] [] a b e = refl
map_same f k c c' inj [] (y ∷ m) a b e = absurd (let z : ◌≡◌ {A = ℕ} 0 1 = cc in omega arith)
map_same f k c c' inj (x ∷ l) [] a b e = absurd (let z : ◌≡◌ {A = ℕ} 0 1 = cc in omega arith)
map_same f k c c' inj (x ∷ l) (y ∷ m) a b e = ap₂ (λ p q. p ∷ q) (inj x y a.0 b.0 (cc)) (map_same f k c c' inj l m a.1 b.1 (cc))

pub event_node : (k c c' : ℕ) (z : Side) → 0 < k % 5 → k < 11 → (x y : Node) → Fine k c x → Fine k c' y → held_event z x ≡ held_event z y → x ≡ y
event_node k c c' z lo hi x y a b e = λ d. record { at = ap (λ h. h.place) e d; rec = event_rec k c c' x.rec y.rec z lo hi a b (ap (λ h. h.value) e) d }

pub stamp_node : (k c c' : ℕ) → k % 5 ≡ 0 → 0 < k → (x y : Node) → Fine k c x → Fine k c' y → held_stamp x ≡ held_stamp y → x ≡ y
stamp_node k c c' lo hi x y a b e = λ d. record { at = ap (λ h. h.place) e d; rec = stamp_rec k c c' x.rec y.rec lo hi a b (ap (λ h. h.value) e) d }

pub aggregate_node : (c c' : ℕ) (x y : Node) → Fine 11 c x → Fine 11 c' y → held_aggregate x ≡ held_aggregate y → x ≡ y
aggregate_node c c' x y a b e = λ d. record { at = ap (λ h. h.place) e d; rec = aggregate_rec 11 c c' x.rec y.rec refl a b (ap (λ h. h.value) e) d }
