-- Numbers 1 and 4 of opening, test by test, and its promise. Assumes nothing.
use Prim.Native.Nat.{ℕ, ◌+◌, ◌*◌}
use mathlib.Core.Path.{◌≡◌, refl, sym, ap, ◌∙◌}
use mathlib.Core.Bool.{Bool, true, false, not, ◌&&◌}
use mathlib.Core.List.{List, [], ◌∷◌}
use mathlib.Core.Option.{Option, none, some, none-ne-some}
use native.Mathlib.Omega.{arith}
use lib.Dec.{eqb, leb, ltb}
use lib.ListN.{length}
use borrow.Author.Tests.{eq-eqb, eqb-true, lt-ltb, ltb-true, le-leb, leb-true, not-true, not-false}
use Rattle.rules.specs.Limits.{record_limit}
use Rattle.rules.specs.Choice.{done, refused as refused_as}
use Rattle.rules.specs.Opening.{Opening, open_refusal, outside, records_in, wrong_length}
use Rattle.rules.specs.Refusals.{first_of}
use Rattle.laws.specs.Branches.{both}
use Rattle.layout.specs.Decides.{Decides}
use Rattle.layout.specs.Accepted.{SizeOk}
use Rattle.layout.specs.Opened.{opened_words}
use Rattle.layout.proofs.Deciding.{refused, passed}
use Rattle.event.specs.Answers.{number_of, refusal_for, refused_by}
use Rattle.event.specs.declared.answer.Reason.{Reason}
use Rattle.event.specs.declared.answer.Reason.TheVariants.{WrongLength, OpeningOutside}
use Rattle.event.specs.declared.answer.Refusal.{Refusal}
use Rattle.simulator.specs.Openings.{Opens}

-- ---- the test of the values

-- a part that is not outside, and one that is
out : (b p : Bool) → b ≡ not p → not b ≡ true → true ≡ p
out b true e n = refl
out b false e n = sym e ∙ not-true b n

kept : (b p : Bool) → b ≡ not p → not b ≡ false → false ≡ p
kept b true e n = sym e ∙ not-false b n
kept b false e n = refl

-- ---- 1

right_length : (n : ℕ) → SizeOk n → wrong_length n ≡ false
right_length n s =
    rw (eq-eqb n (256 + 4 * records_in n) (omega (arith, s.least, s.whole)), lt-ltb 0 (records_in n) (omega (arith, s.least)), le-leb (records_in n) record_limit (omega (arith, s.most)))

other_length : (n : ℕ) → (SizeOk n → ⊥) → wrong_length n ≡ true
other_length n d = go (wrong_length n) refl
  where
    go : (b : Bool) → wrong_length n ≡ b → wrong_length n ≡ true
    go true e = e
    go false e =
        let l = both (eqb n (256 + 4 * records_in n) && ltb 0 (records_in n)) (leb (records_in n) record_limit) (not-false (eqb n (256 + 4 * records_in n) && ltb 0 (records_in n) && leb (records_in n) record_limit) e) in
        let p = both (eqb n (256 + 4 * records_in n)) (ltb 0 (records_in n)) l.0 in
        let x = eqb-true n (256 + 4 * records_in n) p.0 in
        let y = ltb-true 0 (records_in n) p.1 in
        let z = leb-true (records_in n) record_limit l.1 in
        absurd (d (record { least = omega arith; most = omega arith; whole = omega arith }))

-- ---- the promise

by_refusal :
    (w : List ℕ) (o : Opening) (m : ℕ) (x : Refusal) {r : Reason} → x ≡ refusal_for r → number_of r ≡ m → open_refusal (length w) o ≡ some m → Opens w o (refused_by x) w
by_refusal w o m x q p e =
    record {
      refuses = λ n z. (let y : m ≡ n = cc in ap refused_by q ∙ ap (λ k. refused_as k 0) (p ∙ y), refl);
      opens = λ z. absurd (none-ne-some m (sym z ∙ e));
    }

abbrev by_length : Bool → Bool → Option ℕ
by_length a b = first_of ((1, a) ∷ (4, b) ∷ [])

module _ (w : List ℕ) (o : Opening) (r : Bool) (d : Decides (SizeOk (length w)) r) where
  pub opens_1 : not r ≡ true → (x : Refusal) → x ≡ refusal_for WrongLength → Opens w o (refused_by x) w
  unfolding open_refusal
  opens_1 e x q = by_refusal w o 1 x q refl (ap (λ (b : Bool). by_length b (outside o)) (other_length (length w) (refused d e)))

  module _ (e : not r ≡ false) (f : Bool) (ef : f ≡ not (outside o)) where
    pub opens_4 : not f ≡ true → (x : Refusal) → x ≡ refusal_for OpeningOutside → Opens w o (refused_by x) w
    unfolding open_refusal
    opens_4 n x q = by_refusal w o 4 x q refl (λ i. by_length (right_length (length w) (passed d e) i) (sym (out f (outside o) ef n) i))

    pub opens_0 : not f ≡ false → (left : List ℕ) → left ≡ opened_words o (length w) → Opens w o done left
    unfolding open_refusal
    opens_0 n left q =
        let z : open_refusal (length w) o ≡ none = λ x. by_length (right_length (length w) (passed d e) x) (sym (kept f (outside o) ef n) x) in
        record { refuses = λ m y. absurd (none-ne-some m (sym z ∙ y)); opens = λ y. (refl, q) }
