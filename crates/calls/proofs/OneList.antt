-- A list of calls has one outcome: the rows' calls, made one by one, give its answers and leave its state. Assumes nothing.
use Prim.Native.Nat.{ℕ, zero, suc, max}
use mathlib.Core.Path.{◌≡◌, refl, sym, ap, ap₂, subst, ◌∙◌}
use mathlib.Core.Bool.{Bool, true, false, ◌&&◌, ◌||◌, true≢false}
use mathlib.Core.List.{List, [], ◌∷◌, ◌++◌}
use mathlib.Core.Logic.{◌⊎◌, inl, inr}
use lib.ListN.{length, get_or}
use Rattle.rules.specs.Choice.{Answer, done}
use Rattle.rules.specs.Arguments.{Call, pick_next}
use Rattle.rules.specs.Calls.{call}
use Rattle.rules.specs.State.{State}
use Rattle.layout.specs.Accepted.{Accepted}
use Rattle.layout.specs.Layout.{state_of}
use Rattle.layout.specs.Spare.{Spare}
use Rattle.simulator.specs.Alike.{Alike}
use Rattle.simulator.specs.Outcome.{Outcome}
use Rattle.simulator.specs.Demand.{Made, Runs, words_after}
use Rattle.layout.proofs.Theorems.{fixed}
use Rattle.simulator.proofs.OneOutcome.{refused_left, same_refusal}
use Rattle.calls.specs.Told.{is_set, number_in}
use Rattle.calls.specs.Rows.{code_at, word_at, is_turn, row_calls, step_after, ends_at, last_after, answer_words, turn_words}
use Rattle.calls.specs.Listed.{calls_of, first_answer, last_number, row_words, ends_after, Follows, all_of, answers_of}
use Rattle.calls.proofs.Listing.{first_is, rest_is, none_made, after_more, turn_calls, call_calls}

-- ---- two lists of calls that were made

-- the same calls, the same answers
unfoldable Equal : List Made → List Made → Type 0
Equal [] [] = Unit {0}
Equal [] (y ∷ k) = ⊥
Equal (x ∷ l) [] = ⊥
Equal (x ∷ l) (y ∷ k) = (x.call ≡ y.call) × ((x.answer ≡ y.answer) × Equal l k)

equal_first : (l k : List Made) → Equal l k → first_answer l ≡ first_answer k
unfolding Equal
equal_first [] [] e = refl
equal_first [] (y ∷ k) e = absurd e
equal_first (x ∷ l) [] e = absurd e
equal_first (x ∷ l) (y ∷ k) e = e.1.0

equal_number : (l k : List Made) → Equal l k → last_number l ≡ last_number k
unfolding Equal
equal_number [] [] e = refl
equal_number [] (y ∷ k) e = absurd e
equal_number (x ∷ l) [] e = absurd e
equal_number (x ∷ []) (y ∷ []) e = ap number_in e.1.0
equal_number (x ∷ []) (y ∷ z ∷ k) e = absurd e.1.1
equal_number (x ∷ y ∷ l) (z ∷ []) e = absurd e.1.1
equal_number (x ∷ y ∷ l) (z ∷ u ∷ k) e = equal_number (y ∷ l) (u ∷ k) e.1.1

equal_words : (l k : List Made) → Equal l k → row_words l ≡ row_words k
unfolding Equal
equal_words [] [] e = refl
equal_words [] (y ∷ k) e = absurd e
equal_words (x ∷ l) [] e = absurd e
equal_words (x ∷ []) (y ∷ []) e = ap₂ answer_words e.0 e.1.0
equal_words (x ∷ []) (y ∷ z ∷ k) e = absurd e.1.1
equal_words (x ∷ y ∷ l) (z ∷ []) e = absurd e.1.1
equal_words (x ∷ y ∷ l) (z ∷ u ∷ k) e = ap₂ turn_words e.1.0 e.1.1.1.0

ends_equal : (rows : List ℕ) (i : ℕ) (l k : List Made) → Equal l k → ends_after rows i l ≡ ends_after rows i k
unfolding ends_after
ends_equal rows i l k e = λ d. is_turn (code_at rows i) && (is_set (equal_number l k e d) || ends_at (word_at rows i 2) (equal_first l k e d))

-- ---- two runs of the same rows

runs_front : (w : List ℕ) (l k : List Made) → Runs w (l ++ k) → Runs w l
runs_front w [] k r = tt
runs_front w (x ∷ l) k r = (r.0, runs_front x.left l k r.1)

runs_back : (w : List ℕ) (l k : List Made) → Runs w (l ++ k) → Runs (words_after w l) k
runs_back w [] k r = r
runs_back w (x ∷ l) k r = runs_back x.left l k r.1

-- Words in this relation answer a call the same, and leave words that are in it again.
module _
    (Like : List ℕ → List ℕ → Type 0)
    (like-call :
    (w v : List ℕ) (c : Call) (a b : Answer) (left right : List ℕ) → Like w v → Outcome w c a left → Outcome v c b right → (a ≡ b) × Like left right) where
  same_calls :
      (w v : List ℕ) (l k : List Made) → Like w v → Runs w l → Runs v k → calls_of l ≡ calls_of k → Equal l k × Like (words_after w l) (words_after v k)
  unfolding Equal
  same_calls w v [] [] s r q e = (tt, s)
  same_calls w v [] (y ∷ k) s r q e = absurd (none_made _ _ e)
  same_calls w v (x ∷ l) [] s r q e = absurd (none_made _ _ (sym e))
  same_calls w v (x ∷ l) (y ∷ k) s r q e =
      let ec = first_is x l _ _ e in
      let one = like-call w v y.call x.answer y.answer x.left y.left s (subst (λ (c : Call). Outcome w c x.answer x.left) ec r.0) q.0 in
      let more = same_calls x.left y.left l k one.1 r.1 q.1 (rest_is x l _ _ e) in
      ((ec, (one.0, more.0)), more.1)

  -- ---- one row

  -- its calls are the same, since its first is, whatever the words that hold the state
  row_calls_lem :
      (rows : List ℕ) (i last : ℕ) (w v : List ℕ) (l k : List Made) → Like w v → Runs w l → Runs v k → calls_of l ≡ row_calls rows i last (first_answer l)
      → calls_of k ≡ row_calls rows i last (first_answer k) → calls_of l ≡ calls_of k
  row_calls_lem rows i last w v l k s r q el ek = go (is_turn (code_at rows i)) refl l k r q el ek
    where
      go :
          (b : Bool) → is_turn (code_at rows i) ≡ b → (l k : List Made) → Runs w l → Runs v k → calls_of l ≡ row_calls rows i last (first_answer l)
          → calls_of k ≡ row_calls rows i last (first_answer k) → calls_of l ≡ calls_of k
      go false e l k r q el ek = el ∙ call_calls rows i last (first_answer l) e ∙ sym (call_calls rows i last (first_answer k) e) ∙ sym ek
      go true e [] k r q el ek = absurd (none_made _ _ (el ∙ turn_calls rows i last done e))
      go true e (x ∷ l) [] r q el ek = absurd (none_made _ _ (ek ∙ turn_calls rows i last done e))
      go true e (x ∷ l) (y ∷ k) r q el ek =
          let zl = el ∙ turn_calls rows i last x.answer e in
          let zk = ek ∙ turn_calls rows i last y.answer e in
          let ec = first_is x l _ _ zl ∙ sym (first_is y k _ _ zk) in
          let one = like-call w v y.call x.answer y.answer x.left y.left s (subst (λ (c : Call). Outcome w c x.answer x.left) ec r.0) q.0 in
          zl ∙ ap (λ (a : Answer). pick_next (max (word_at rows i 1) last) ∷ step_after a) one.0 ∙ sym zk

  -- ---- the rows

  pub record SameRows (w v : List ℕ) (ls ks : List (List Made)) : Type 0 where
    pub many : length ls ≡ length ks
    pub answers : answers_of ls ≡ answers_of ks
    pub words : Like (words_after w (all_of ls)) (words_after v (all_of ks))

  none_rows : (w v : List ℕ) → Like w v → SameRows w v [] []
  unfolding all_of answers_of
  none_rows w v s = record { many = refl; answers = refl; words = s }

  more_rows :
      (w v : List ℕ) (l k : List Made) (ls ks : List (List Made)) → Equal l k → SameRows (words_after w l) (words_after v k) ls ks → SameRows w v (l ∷ ls) (k ∷ ks)
  unfolding all_of answers_of
  more_rows w v l k ls ks e s =
      record {
        many = ap suc s.many;
        answers = ap₂ ◌++◌ (equal_words l k e) s.answers;
        words = subst (λ (x : List ℕ). Like x (words_after v (k ++ all_of ks))) (sym (after_more w l (all_of ls))) (subst (Like (words_after (words_after w l) (all_of ls))) (sym (after_more v k (all_of ks))) s.words);
      }

  -- one row, and what follows it
  row_and_rest :
      (rows : List ℕ) (i n last : ℕ) (w v : List ℕ) (l k : List Made) (ls ks : List (List Made)) → Like w v → Runs w (l ++ all_of ls) → Runs v (k ++ all_of ks)
      → Follows rows i (suc n) last (l ∷ ls) → Follows rows i (suc n) last (k ∷ ks)
      → ((last' : ℕ) (w' v' : List ℕ) → Like w' v' → Runs w' (all_of ls) → Runs v' (all_of ks) → Follows rows (suc i) n last' ls → Follows rows (suc i) n last' ks → SameRows w' v' ls ks)
      → SameRows w v (l ∷ ls) (k ∷ ks)
  unfolding Follows
  row_and_rest rows i n last w v l k ls ks s r q f g on = go (ends_after rows i l) refl
    where
      rl : Runs w l
      rl = runs_front w l (all_of ls) r

      rk : Runs v k
      rk = runs_front v k (all_of ks) q

      one : Equal l k × Like (words_after w l) (words_after v k)
      one = same_calls w v l k s rl rk (row_calls_lem rows i last w v l k s rl rk f.1.0 g.1.0)

      go : (b : Bool) → ends_after rows i l ≡ b → SameRows w v (l ∷ ls) (k ∷ ks)
      go true e =
          subst (λ (x : List (List Made)). SameRows w v (l ∷ x) (k ∷ ks)) (sym (f.1.1.0 e))
          (subst (λ (x : List (List Made)). SameRows w v (l ∷ []) (k ∷ x)) (sym (g.1.1.0 (sym (ends_equal rows i l k one.0) ∙ e)))
          (more_rows w v l k [] [] one.0 (none_rows (words_after w l) (words_after v k) one.1)))
      go false e =
          more_rows w v l k ls ks one.0
          (on (last_after (code_at rows i) last (first_answer l)) (words_after w l) (words_after v k) one.1 (runs_back w l (all_of ls) r) (runs_back v k (all_of ks) q) (f.1.1.1 e)
          (subst (λ (a : Answer). Follows rows (suc i) n (last_after (code_at rows i) last a) ks) (sym (equal_first l k one.0)) (g.1.1.1 (sym (ends_equal rows i l k one.0) ∙ e))))

  pub same_rows :
      (rows : List ℕ) (i n last : ℕ) (w v : List ℕ) (ls ks : List (List Made)) → Like w v → Runs w (all_of ls) → Runs v (all_of ks) → Follows rows i n last ls → Follows rows i n last ks
      → SameRows w v ls ks
  unfolding Follows all_of
  same_rows rows i zero last w v [] [] s r q f g = none_rows w v s
  same_rows rows i zero last w v [] (k ∷ ks) s r q f g = absurd g
  same_rows rows i zero last w v (l ∷ ls) ks s r q f g = absurd f
  same_rows rows i (suc n) last w v [] [] s r q f g = none_rows w v s
  same_rows rows i (suc n) last w v [] (k ∷ ks) s r q f g = absurd (true≢false (sym g.0 ∙ f))
  same_rows rows i (suc n) last w v (l ∷ ls) [] s r q f g = absurd (true≢false (sym f.0 ∙ g))
  same_rows rows i (suc n) last w v (l ∷ ls) (k ∷ ks) s r q f g =
      row_and_rest rows i n last w v l k ls ks s r q f g (λ last' w' v' s' r' q' f' g'. same_rows rows (suc i) n last' w' v' ls ks s' r' q' f' g')

-- ---- from the same words

-- accepted words that hold one state, or the same words
pub record Kin (w v : List ℕ) : Type 0 where
  pub one : Accepted w
  pub other : Accepted v
  pub state : state_of w ≡ state_of v
  pub spare : (i : ℕ) → Spare i → get_or w i 0 ≡ get_or v i 0
  pub size : length w ≡ length v

abbrev pub Same : List ℕ → List ℕ → Type 0
Same w v = Kin w v ⊎ ((Accepted w → ⊥) × (w ≡ v))

pub same_call :
    (w v : List ℕ) (c : Call) (a b : Answer) (left right : List ℕ) → Same w v → Outcome w c a left → Outcome v c b right → (a ≡ b) × Same left right
same_call w v c a b left right (inl k) o p =
    let l = o.state k.one in
    let r = p.state k.other in (
      o.answer k.one ∙ ap (λ (s : State). (call s c).answer) k.state ∙ sym (p.answer k.other),
      inl
          (record {
            one = l.accepted;
            other = r.accepted;
            state = l.state ∙ ap (λ (s : State). (call s c).state) k.state ∙ sym r.state;
            spare = λ i q. l.spare i q ∙ k.spare i q ∙ sym (r.spare i q);
            size = l.size ∙ k.size ∙ sym r.size;
          }),
    )
same_call w v c a b left right (inr (h, e)) o p =
    let q = same_refusal w c a b left right h o (subst (λ (x : List ℕ). Outcome x c b right) (sym e) p) in
    (q.0, inr (subst (λ (x : List ℕ). Accepted x → ⊥) (sym (refused_left w c a left h o)) h, q.1))

pub same_words : (w : List ℕ) → Dec (Accepted w) → Same w w
same_words w (yes h) = inl (record { one = h; other = h; state = refl; spare = λ i q. refl; size = refl })
same_words w (no h) = inr (h, refl)

pub alike : (w v : List ℕ) → Accepted w → Same w v → Alike w v
alike w v h (inl k) = record { size = k.size; state = k.state; words = fixed w v k.one k.other k.state k.spare }
alike w v h (inr (d, e)) = absurd (d h)
