-- Opening leaves an accepted state: each record among the free ones, once, and every value inside its limits.
use Rattle.std.specs.Prelude.{ℕ, zero, suc, ◌≤◌, ◌+◌, ◌<◌, ◌*◌, ◌≡◌, refl, ◌&&◌, Bool, false, ◌||◌, [], ◌∷◌, ltb, eqb, leb, get_or, replicate, length}
use Rattle.std.proofs.Common.{ap, arith, ltb-true, leb-true, ltb-false, eqb-true}
use Rattle.std.proofs.Math.Option.{Option, none, some, none-ne-some}
use Rattle.std.proofs.lemmas.Bool.{not-false, eqb-false}
use Rattle.rules.specs.Basics.{Side, client, server}
use Rattle.rules.specs.State.{Chain, base, blocking, bypassable, internal, Fixed, queue, used, reserved}
use Rattle.rules.specs.Limits.{duration_limit, rate_limit, record_limit, machine_limit}
use Rattle.rules.specs.Opening.{Opening, open_side, rate_outside, fixed_outside, outside, opened, up_from, open_refusal, records_in, wrong_length}
use Rattle.laws.specs.Sound.{ChainOk, SideOk}
use Rattle.laws.specs.Branches.{neither_true, by_test, both}
use Rattle.laws.specs.Accepted.{RateOk, Accepted, Once, Whole, only}
use Rattle.laws.specs.Records.{weigh_free, weigh}
use Rattle.laws.specs.CallRuns.{AllFalse, none_met}

length_up : (a n : ℕ) → length (up_from a n) ≡ n
length_up a zero = refl
length_up a (suc n) = ap suc (length_up (suc a) n)

never : (r a n : ℕ) → r < a → weigh_free (only r) (up_from a n) ≡ 0
never r a zero h = refl
never r a (suc n) h =
    by_test
    (λ (k : ℕ). k + weigh_free (only r) (up_from (suc a) n) ≡ 0)
    (eqb a r)
    (λ f. absurd (omega (arith, eqb-true a r f)))
    (λ f. omega (arith, never r (suc a) n (omega arith)))

once_up : (r a n : ℕ) → a ≤ r → r < a + n → weigh_free (only r) (up_from a n) ≡ 1
once_up r a zero h g = absurd (omega arith)
once_up r a (suc n) h g =
    by_test
    (λ (k : ℕ). k + weigh_free (only r) (up_from (suc a) n) ≡ 1)
    (eqb a r)
    (λ f. omega (arith, never r (suc a) n (omega (arith, eqb-true a r f))))
    (λ f. omega (arith, once_up r (suc a) n (differ f) (omega arith)))
  where
    differ : eqb a r ≡ false → suc a ≤ r
    differ f = let q : (a ≡ r) → ⊥ = eqb-false a r f in omega arith

opened_whole : (o : Opening) (words : ℕ) → Whole (opened o words)
unfolding opened used
opened_whole o words = omega (arith, length_up 1 (records_in words))

opened_once : (o : Opening) (words : ℕ) → Once (opened o words)
unfolding opened weigh
opened_once o words = λ r a b. omega (arith, once_up r 1 (records_in words) a (omega arith))

empty_slot : {A : Type 0} (n m : ℕ) (a : A) → get_or {A = Option A} (replicate n none) m none ≡ some a → ⊥
empty_slot zero m a h = none-ne-some a h
empty_slot (suc n) zero a h = none-ne-some a h
empty_slot (suc n) (suc m) a h = empty_slot n m a h

chain_opened : (f : Fixed) (z : Side) (c : Chain) → ChainOk f.machines z c (queue (open_side f).queues c)
chain_opened f z base = record { events = tt; order = refl }
chain_opened f z blocking = record { events = tt; order = refl }
chain_opened f z bypassable = record { events = tt; order = refl }
chain_opened f z internal = record { events = tt; order = refl }

side_opened : (f : Fixed) (z : Side) → fixed_outside f ≡ false → SideOk z (open_side f)
side_opened f z h =
    let a = neither_true (ltb duration_limit f.action_delay || ltb duration_limit f.reporting_delay) (ltb machine_limit f.machines) h in
    let b = neither_true (ltb duration_limit f.action_delay) (ltb duration_limit f.reporting_delay) a.0 in
    record {
      action = ltb-false duration_limit f.action_delay b.0;
      reporting = ltb-false duration_limit f.reporting_delay b.1;
      machines = ltb-false machine_limit f.machines a.1;
      chains = chain_opened f z;
      sum = omega arith;
      stamps = tt;
      timer_slots = refl;
      action_slots = refl;
      end = tt;
      timers = λ m t e. absurd (empty_slot machine_limit m t e);
      actions = λ m t e. absurd (empty_slot machine_limit m t e);
    }

rate_ok : (o : Option ℕ) → rate_outside o ≡ false → RateOk o
rate_ok none h = tt
rate_ok (some p) h =
    let e = neither_true (eqb p 0) (ltb rate_limit p) h in
    let n : (p ≡ 0) → ⊥ = eqb-false p 0 e.0 in
    (omega arith, ltb-false rate_limit p e.1)

-- opening that is not refused
pub opened_accepted : (o : Opening) (words : ℕ) → open_refusal words o ≡ none → Accepted (opened o words)
unfolding open_refusal opened outside used reserved
opened_accepted o words g =
    let t : AllFalse ((1, wrong_length words) ∷ (4, outside o) ∷ []) = none_met ((1, wrong_length words) ∷ (4, outside o) ∷ []) g in
    let n : ℕ = records_in words in
    let l = both (eqb words (256 + 4 * n) && ltb 0 n) (leb n record_limit) (not-false (eqb words (256 + 4 * n) && ltb 0 n && leb n record_limit) t.0) in
    let least = both (eqb words (256 + 4 * n)) (ltb 0 n) l.0 in
    let d : Bool = ltb duration_limit o.settings.network_delay in
    let w : Bool = ltb duration_limit o.settings.window in
    let p : Bool = rate_outside o.settings.network_rate in
    let q : Bool = rate_outside o.settings.queue_rate in
    let c : Bool = fixed_outside o.client in
    let r : Bool = fixed_outside o.server in
    let e₁ = neither_true (d || w || p || q || c) r t.1.0 in
    let e₂ = neither_true (d || w || p || q) c e₁.0 in
    let e₃ = neither_true (d || w || p) q e₂.0 in
    let e₄ = neither_true (d || w) p e₃.0 in
    let e₅ = neither_true d w e₄.0 in
    record {
      sound = record { client = side_opened o.client client e₂.1; server = side_opened o.server server e₁.1; aggregates = tt; order = refl };
      settings = record {
        network = ltb-false duration_limit o.settings.network_delay e₅.0;
        window = ltb-false duration_limit o.settings.window e₅.1;
        network_rate_fits = rate_ok o.settings.network_rate e₄.1;
        queue_rate_fits = rate_ok o.settings.queue_rate e₃.1;
      };
      room = omega arith;
      some_room = ltb-true 0 n least.1;
      size = leb-true n record_limit l.1;
      total = omega arith;
      whole = opened_whole o words;
      once = opened_once o words;
    }
