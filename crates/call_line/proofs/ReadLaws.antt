-- One byte more of what is held: in a comment, a CR, a digit of an argument, any other byte. Assumes nothing.
use Prim.Native.Nat.{ℕ}
use mathlib.Core.Path.{◌≡◌, refl, sym, ap, subst, ◌∙◌}
use mathlib.Core.Bool.{Bool, true, false}
use mathlib.Core.Logic.{inl, inr}
use mathlib.Core.List.{List, [], ◌∷◌, ◌++◌}
use native.Mathlib.Omega.{arith}
use lib.Dec.{eqb}
use borrow.Author.Tests.{eqb-true, eqb-false, ne_eqb}
use Rattle.call_line.specs.Words.{Line, is_space, read, without_cr}
use Rattle.call_line.specs.Numerals.{is_digit}
use Rattle.call_line.specs.Lines.{is_comment}
use Rattle.call_line.specs.Held.{start_line, InFirst, InArguments, is_comment_line, At, in_first, in_arguments, Held, comment, plain, first_cr, argument_cr, Sized, Holds, Reads}
use Rattle.call_line.specs.Steps.{spoilt_of, Joins, placed, PastCR, AtCR, Now, Takes, cr_in_argument, cr_in_first, in_comment, in_line, past_in_argument, past_in_first, past_none}
use Rattle.call_line.specs.declared.line.Line.{Line as Kept}
use Rattle.call_line.specs.declared.line.Place.TheVariants.{FirstWord, Arguments, Comment, FirstWordCr, ArgumentsCr}
use Rattle.call_words.specs.declared.shapes.Argument.{Argument}
use Rattle.call_words.specs.declared.shapes.Form.TheVariants.{Other}
use Rattle.call_line.proofs.ByteLaws.{digit_low}
use Rattle.call_line.proofs.WordLaws.{read_snoc, without_cr_lem, with_other, cr_comes, comment_joined}
use Rattle.call_line.proofs.NumeralLaws.{cr_form, cr_value}
use Rattle.call_line.proofs.PartLaws.{first_placed, arguments_placed}
use Rattle.call_line.proofs.TakeLaws.{at_arguments, joined_arguments}

-- ---- the start of a line

pub holds_start : (name : List ℕ) (kept : List Argument) → Sized name kept → Holds [] start_line name kept
holds_start name kept sized =
    record {
      sized = sized;
      held =
          plain refl
          (in_first refl
          (record { ended = refl; spelt = inl (omega arith, refl); call = refl; arguments = refl; form = refl; number = refl }));
    }

-- ---- in a comment

-- the bytes are a comment's, with a CR at their end and without
abbrev Commented : List ℕ → Type 0
Commented p =
    (is_comment_line (read p).ended (read p).word ≡ true) × (is_comment_line (read (without_cr p)).ended (read (without_cr p)).word ≡ true)

comment_more : (p : List ℕ) (b : ℕ) → is_comment_line (read p).ended (read p).word ≡ true → Commented (p ++ (b ∷ []))
comment_more p b c = (more, by (eqb b 13) refl)
  where
    more : is_comment_line (read (p ++ (b ∷ []))).ended (read (p ++ (b ∷ []))).word ≡ true
    more = subst (λ (l : Line). is_comment_line l.ended l.word ≡ true) (sym (read_snoc p b)) (comment_joined (read p) b c)

    by :
        (cr : Bool) → eqb b 13 ≡ cr
        → is_comment_line (read (without_cr (p ++ (b ∷ [])))).ended (read (without_cr (p ++ (b ∷ [])))).word ≡ true
    by true e =
        let dropped : without_cr (p ++ (b ∷ [])) ≡ p =
        ap (λ (x : ℕ). without_cr (p ++ (x ∷ []))) (eqb-true b 13 e) ∙ without_cr_lem p in
        subst (λ (q : List ℕ). is_comment_line (read q).ended (read q).word ≡ true) (sym dropped) c
    by false e =
        subst (λ (q : List ℕ). is_comment_line (read q).ended (read q).word ≡ true) (sym (with_other p b (eqb-false b 13 e))) more

comment_held : (p : List ℕ) (k : Kept) (name : List ℕ) (kept : List Argument) → Held p k name kept → k.place ≡ Comment → is_comment_line (read p).ended (read p).word ≡ true
comment_held p k name kept (comment place c d) e = c
comment_held p k name kept (plain _ (in_first place _)) e = cc
comment_held p k name kept (plain _ (in_arguments place _)) e = cc
comment_held p k name kept (first_cr q _ place _) e = cc
comment_held p k name kept (argument_cr q _ place _) e = cc

pub reads_comment : (k : Kept) (name : List ℕ) (kept : List Argument) (b : ℕ) → k.place ≡ Comment → Reads k name kept b k name kept
reads_comment k name kept b place = λ p h.
    let more = comment_more p b (comment_held p k name kept h.held place) in
    record { sized = h.sized; held = comment place more.0 more.1 }

-- ---- past a CR

pub past_spoilt : (k r : Kept) → k.place ≡ ArgumentsCr → r ≡ spoilt_of (placed Arguments k) → PastCR k r
past_spoilt k r cr is = subst (PastCR k) (sym is) (past_in_argument cr)

past_first :
    (q : List ℕ) (k : Kept) (name : List ℕ) → InFirst (read q) k name
    → InFirst (read (q ++ (13 ∷ []))) (record { place = FirstWord; letters = 25; arguments = k.arguments; form = k.form; number = k.number }) name
past_first q k name i =
    subst
    (λ (l : Line). InFirst l (record { place = FirstWord; letters = 25; arguments = k.arguments; form = k.form; number = k.number }) name)
    (sym (read_snoc q 13))
    (record {
      ended = i.ended;
      spelt = inr (refl, inr (cr_comes (read q).word));
      call = by (read q).word i.call;
      arguments = i.arguments;
      form = i.form;
      number = i.number;
    })
  where
    by : (w : List ℕ) → is_comment w ≡ false → is_comment (w ++ (13 ∷ [])) ≡ false
    by [] c = refl
    by (a ∷ w) c = c

past_argument :
    (q : List ℕ) (k : Kept) (name : List ℕ) (kept : List Argument) → InArguments (read q) k name kept
    → InArguments (read (q ++ (13 ∷ []))) (record { place = Arguments; letters = k.letters; arguments = k.arguments; form = Other; number = 0 })
    name kept
past_argument q k name kept i =
    subst
    (λ (l : Line). InArguments l (record { place = Arguments; letters = k.letters; arguments = k.arguments; form = Other; number = 0 }) name kept)
    (sym (read_snoc q 13))
    (record {
      first = i.first;
      arguments = i.arguments;
      ended = i.ended;
      spelt = i.spelt;
      some = i.some;
      call = i.call;
      held = i.held;
      form = cr_form (read q).word;
      number = cr_value (read q).word;
    })

past_plain :
    (l : Line) (k t : Kept) (name : List ℕ) (kept : List Argument) → At l k name kept → PastCR k t → At l t name kept
past_plain l k _ name kept (in_first place i) (past_in_argument cr) = cc
past_plain l k _ name kept (in_first place i) (past_in_first cr) = cc
past_plain l k _ name kept (in_first place i) (past_none _ _) = in_first place i
past_plain l k _ name kept (in_arguments place i) (past_in_argument cr) = cc
past_plain l k _ name kept (in_arguments place i) (past_in_first cr) = cc
past_plain l k _ name kept (in_arguments place i) (past_none _ _) = in_arguments place i

past_first_cr :
    (p q : List ℕ) (k t : Kept) (name : List ℕ) (kept : List Argument) → p ≡ q ++ (13 ∷ []) → k.place ≡ FirstWordCr → InFirst (read q) k name → PastCR k t
    → At (read p) t name kept
past_first_cr p q k _ name kept is place i (past_in_argument cr) = cc
past_first_cr p q k _ name kept is place i (past_in_first cr) =
    subst
    (λ (x : List ℕ). At (read x) (record { place = FirstWord; letters = 25; arguments = k.arguments; form = k.form; number = k.number }) name kept)
    (sym is)
    (in_first refl (past_first q k name i))
past_first_cr p q k _ name kept is place i (past_none _ other) = absurd (other place)

past_argument_cr :
    (p q : List ℕ) (k t : Kept) (name : List ℕ) (kept : List Argument) → p ≡ q ++ (13 ∷ []) → k.place ≡ ArgumentsCr → InArguments (read q) k name kept
    → PastCR k t → At (read p) t name kept
past_argument_cr p q k _ name kept is place i (past_in_argument cr) =
    subst
    (λ (x : List ℕ). At (read x) (record { place = Arguments; letters = k.letters; arguments = k.arguments; form = Other; number = 0 }) name kept)
    (sym is)
    (in_arguments refl (past_argument q k name kept i))
past_argument_cr p q k _ name kept is place i (past_in_first cr) = cc
past_argument_cr p q k _ name kept is place i (past_none other _) = absurd (other place)

-- a CR that was held back is of a word now
past_at :
    (p : List ℕ) (k t : Kept) (name : List ℕ) (kept : List Argument) → (k.place ≡ Comment → ⊥) → PastCR k t → Held p k name kept
    → At (read p) t name kept
past_at p k t name kept other past (comment place _ _) = absurd (other place)
past_at p k t name kept other past (plain _ here) = past_plain (read p) k t name kept here past
past_at p k t name kept other past (first_cr q is place i) = past_first_cr p q k t name kept is place i past
past_at p k t name kept other past (argument_cr q is place i) = past_argument_cr p q k t name kept is place i past

-- ---- a CR

at_cr : (p : List ℕ) (k r : Kept) (name : List ℕ) (kept : List Argument) → AtCR k r → At (read p) k name kept → Held (p ++ (13 ∷ [])) r name kept
at_cr p k _ name kept (cr_in_argument one) (in_first place i) = cc
at_cr p k _ name kept (cr_in_argument one) (in_arguments place i) =
    argument_cr p refl refl (arguments_placed (read p) k ArgumentsCr name kept i)
at_cr p k _ name kept (cr_in_first other) (in_first place i) = first_cr p refl refl (first_placed (read p) k FirstWordCr name i)
at_cr p k _ name kept (cr_in_first other) (in_arguments place i) = absurd (other place)

pub reads_cr :
    (k t r : Kept) (name : List ℕ) (kept : List Argument) (b : ℕ) → (k.place ≡ Comment → ⊥) → b ≡ 13 → PastCR k t → AtCR t r
    → Reads k name kept b r name kept
reads_cr k t r name kept b other cr past comes = λ p h.
    record {
      sized = h.sized;
      held =
          subst (λ (x : ℕ). Held (p ++ (x ∷ [])) r name kept) (sym cr)
          (at_cr p t r name kept comes (past_at p k t name kept other past h.held));
    }

-- ---- another byte

now_held :
    (p : List ℕ) (k : Kept) (name : List ℕ) (kept : List Argument) → without_cr p ≡ p → Now (read p) k name kept → Held p k name kept
now_held p k name kept same (in_comment place c) =
    comment place c (subst (λ (q : List ℕ). is_comment_line (read q).ended (read q).word ≡ true) (sym same) c)
now_held p k name kept same (in_line here) = plain same here

pub reads_taken :
    (k t r : Kept) (name : List ℕ) (kept : List Argument) (b : ℕ) (name' : List ℕ) (kept' : List Argument) → (k.place ≡ Comment → ⊥) → (b ≡ 13 → ⊥) → PastCR k t
    → Takes t name kept b r name' kept' → Reads k name kept b r name' kept'
reads_taken k t r name kept b name' kept' other no-cr past takes = λ p h.
    let after = takes (read p) h.sized (past_at p k t name kept other past h.held) in
    record {
      sized = after.0;
      held =
          now_held (p ++ (b ∷ [])) r name' kept' (with_other p b no-cr)
          (subst (λ (l : Line). Now l r name' kept') (sym (read_snoc p b)) after.1);
    }

-- ---- a digit of an argument

digit_space : (b : ℕ) → is_digit b ≡ true → is_space b ≡ false
digit_space b digit = simp (ne_eqb b 32 (λ e. omega (arith, e, digit_low b digit)), ne_eqb b 9 (λ e. omega (arith, e, digit_low b digit)))

held_arguments : (p : List ℕ) (k : Kept) (name : List ℕ) (kept : List Argument) → k.place ≡ Arguments → Held p k name kept → InArguments (read p) k name kept
held_arguments p k name kept one (comment place _ _) = cc
held_arguments p k name kept one (plain _ here) = at_arguments (read p) k name kept here one
held_arguments p k name kept one (first_cr q _ place _) = cc
held_arguments p k name kept one (argument_cr q _ place _) = cc

pub reads_digit :
    (k r : Kept) (name : List ℕ) (kept : List Argument) (b : ℕ) (test : Bool) → k.place ≡ Arguments → test ≡ is_digit b → test ≡ true → Joins k b r
    → Reads k name kept b r name kept
reads_digit k r name kept b test one is passed joins = λ p h.
    let digit : is_digit b ≡ true = sym is ∙ passed in
    record {
      sized = h.sized;
      held =
          plain (with_other p b (λ e. omega (arith, e, digit_low b digit)))
          (in_arguments (joins.place ∙ one)
          (subst (λ (l : Line). InArguments l r name kept) (sym (read_snoc p b))
          (joined_arguments (read p) k b r name kept (digit_space b digit) joins
          (held_arguments p k name kept one h.held))));
    }
