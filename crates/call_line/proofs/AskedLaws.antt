-- What the line asks for that is held when it ends. Assumes nothing.
use Prim.Native.Nat.{ℕ, ◌-◌, ◌<◌}
use Rattle.std.specs.Prelude.{min}
use mathlib.Core.Path.{◌≡◌, refl, sym, ap, subst, ◌∙◌}
use mathlib.Core.Bool.{Bool, true, false}
use mathlib.Core.Logic.{◌⊎◌, inl, inr}
use mathlib.Core.List.{List, [], ◌∷◌, map}
use native.Mathlib.Omega.{arith}
use lib.Dec.{leb}
use lib.ListN.{length, take, drop, length-map}
use lib.Seq.{take_all}
use borrow.Author.Tests.{eqb-true, eq-eqb, leb-true, leb-false}
use Rattle.call_words.specs.Names.{named}
use Rattle.std.specs.Prelude.{Option, None, Result, Ok, Err, is_err}
use Rattle.call_words.specs.Asked.{Asks, passed_over, bad, understood, asks_of, asked_or_bad}
use Rattle.call_words.specs.declared.asked.Asked.{Asked}
use Rattle.call_words.specs.declared.asked.BadLine.{BadLine}
use Rattle.call_line.specs.Words.{Line, parted, read, without_cr, words_of}
use Rattle.call_line.specs.Numerals.{argument_of}
use Rattle.call_line.specs.Lines.{is_comment, asked_by_words, asked_by, asks_of_line}
use Rattle.call_line.specs.Held.{has_cr, Spelt, Ended, InFirst, InArguments, is_comment_line, At, in_first, in_arguments, Held, comment, plain, first_cr, argument_cr, Sized, AsksFor}
use Rattle.call_line.specs.Steps.{WithoutCR, Parts, passes_over, end_in_argument, end_none}
use Rattle.call_line.specs.declared.line.Line.{Line as Kept}
use Rattle.call_line.specs.declared.line.Place.TheVariants.{Arguments, Comment, FirstWordCr, ArgumentsCr}
use Rattle.call_words.specs.declared.shapes.Argument.{Argument}
use Rattle.call_line.proofs.ByteLaws.{passes_comment, passes_else}
use Rattle.call_line.proofs.WordLaws.{without_cr_lem}
use Rattle.call_line.proofs.NameLaws.{named_long, named_cr, bad_name, too_many}
use Rattle.call_line.proofs.SpeltLaws.{spelt_none, spelt_some}
use Rattle.call_line.proofs.PartLaws.{arguments_placed}
use Rattle.call_line.proofs.ReadLaws.{holds_start}

-- ---- a line that is passed over

comment_asked : (e : List (List ℕ)) (w : List ℕ) → is_comment_line e w ≡ true → passed_over ≡ asked_by_words (parted e w).ended
comment_asked [] [] c = refl
comment_asked [] (b ∷ w) c = simp c
comment_asked (f ∷ e) [] c = simp c
comment_asked (f ∷ e) (b ∷ w) c = simp c

none_asked : (e : List (List ℕ)) (w : List ℕ) → e ≡ [] → w ≡ [] → passed_over ≡ asked_by_words (parted e w).ended
none_asked e w no_words no_word = sym (ap (λ (v : List ℕ). asked_by_words (parted e v).ended) no_word ∙ ap asked_by_words no_words)

no_letters : (k : Kept) → (k.place ≡ Comment → ⊥) → passes_over k ≡ true → k.letters ≡ 0
no_letters k other e = eqb-true k.letters 0 (passes_else k other ∙ e)

-- the same without its CR
same_words : (p q : List ℕ) → without_cr p ≡ q → passed_over ≡ asked_by_words (parted (read q).ended (read q).word).ended → passed_over ≡ asked_by p
unfolding asked_by words_of
same_words p q e h = h ∙ ap (λ (x : List ℕ). asked_by_words (parted (read x).ended (read x).word).ended) (sym e)

first_passed :
    (q : List ℕ) (k : Kept) (name : List ℕ) → length name ≡ 24 → InFirst (read q) k name → k.letters ≡ 0
    → passed_over ≡ asked_by_words (parted (read q).ended (read q).word).ended
first_passed q k name len i none =
    none_asked (read q).ended (read q).word i.ended (spelt_none (read q).word name k.letters len i.spelt none)

held_passed :
    (p : List ℕ) (k : Kept) (name : List ℕ) (kept : List Argument) → length name ≡ 24 → passes_over k ≡ true → Held p k name kept
    → passed_over ≡ asked_by p
held_passed p k name kept len e (comment place _ c) =
    same_words p (without_cr p) refl (comment_asked (read (without_cr p)).ended (read (without_cr p)).word c)
held_passed p k name kept len e (plain same (in_first place i)) =
    same_words p p same (first_passed p k name len i (no_letters k (λ z. cc) e))
held_passed p k name kept len e (plain same (in_arguments place i)) =
    absurd (i.some (no_letters k (λ z. cc) e))
held_passed p k name kept len e (first_cr q is place i) =
    same_words p q (ap without_cr is ∙ without_cr_lem q) (first_passed q k name len i (no_letters k (λ z. cc) e))
held_passed p k name kept len e (argument_cr q is place i) =
    absurd (i.some (no_letters k (λ z. cc) e))

-- whatever letters are kept then, as many as there is place for
pub asks_none :
    (k : Kept) (name : List ℕ) (kept : List Argument) (name' : List ℕ) (r : Bool) → (length name ≡ 24 → length name' ≡ 24)
    → r ≡ passes_over k → r ≡ true → AsksFor k name kept passed_over name' kept
asks_none k name kept name' r long is passes = λ p h. (
  held_passed p k name kept h.sized.letters (sym is ∙ passes) h.held,
  holds_start name' kept (record { letters = long h.sized.letters; many = h.sized.many }),
)

-- ---- a line that ends

-- what is kept is kept of the line without its CR
abbrev Ending : Line → Kept → List ℕ → List Argument → Type 0
Ending l t name kept = (t.place ≡ Arguments → InArguments l t name kept) × ((t.place ≡ Arguments → ⊥) → InFirst l t name)

ending_plain :
    (l : Line) (k t : Kept) (name : List ℕ) (kept : List Argument) → WithoutCR k t → At l k name kept → Ending l t name kept
ending_plain l k _ name kept (end_in_argument cr) (in_first place i) = cc
ending_plain l k _ name kept (end_in_argument cr) (in_arguments place i) = cc
ending_plain l k _ name kept (end_none _) (in_first place i) = (λ one. cc, λ _. i)
ending_plain l k _ name kept (end_none _) (in_arguments place i) = (λ _. i, λ other. absurd (other place))

ending_first :
    (l : Line) (k t : Kept) (name : List ℕ) (kept : List Argument) → WithoutCR k t → k.place ≡ FirstWordCr → InFirst l k name → Ending l t name kept
ending_first l k _ name kept (end_in_argument cr) place i = cc
ending_first l k _ name kept (end_none _) place i = (λ one. cc, λ _. i)

ending_argument :
    (l : Line) (k t : Kept) (name : List ℕ) (kept : List Argument) → WithoutCR k t → k.place ≡ ArgumentsCr → InArguments l k name kept
    → Ending l t name kept
ending_argument l k _ name kept (end_in_argument cr) place i =
    (λ _. arguments_placed l k Arguments name kept i, λ other. absurd (other refl))
ending_argument l k _ name kept (end_none other) place i = absurd (other place)

ending :
    (p : List ℕ) (k t : Kept) (name : List ℕ) (kept : List Argument) → (k.place ≡ Comment → ⊥) → WithoutCR k t → Held p k name kept
    → Ending (read (without_cr p)) t name kept
ending p k t name kept other without (comment place _ _) = absurd (other place)
ending p k t name kept other without (plain same here) =
    subst (λ (q : List ℕ). Ending (read q) t name kept) (sym same) (ending_plain (read p) k t name kept without here)
ending p k t name kept other without (first_cr q is place i) =
    subst (λ (x : List ℕ). Ending (read x) t name kept) (sym (ap without_cr is ∙ without_cr_lem q))
    (ending_first (read q) k t name kept without place i)
ending p k t name kept other without (argument_cr q is place i) =
    subst (λ (x : List ℕ). Ending (read x) t name kept) (sym (ap without_cr is ∙ without_cr_lem q))
    (ending_argument (read q) k t name kept without place i)

-- ---- its words, as they are kept

too_many_words : (l : List (List ℕ)) (w : List ℕ) → 12 < length l → understood w (map argument_of l) ≡ bad
too_many_words l w many = too_many w (map argument_of l) (omega (arith, many, length-map l argument_of))

understood_kept :
    (first name : List ℕ) (letters : ℕ) (l : List (List ℕ)) (kept : List Argument) (n : ℕ) → Sized name kept
    → Spelt first name letters → Ended l kept n
    → understood (take letters name) (take n kept) ≡ understood first (map argument_of l)
understood_kept first name letters l kept n s (inl (_, is)) (inl (_, are)) =
    ap (λ (w : List ℕ). understood w (take n kept)) is ∙ ap (λ (a : List Argument). understood first a) are
understood_kept first name letters l kept n s (inl _) (inr (more, many)) =
    let all : take n kept ≡ kept = take_all n kept (omega (arith, more, s.many)) in
    too_many (take letters name) (take n kept) (omega (arith, ap length all, s.many))
    ∙ sym (too_many_words l first many)
understood_kept first name letters l kept n s (inr (over, long)) ended =
    let all : take letters name ≡ name = take_all letters name (omega (arith, over, s.letters)) in
    bad_name (take letters name) (take n kept) (named_long (take letters name) (omega (arith, ap length all, s.letters)))
    ∙ sym (bad_name first (map argument_of l) (unnamed long))
  where
    unnamed : (24 < length first) ⊎ (has_cr first ≡ true) → named first ≡ None
    unnamed (inl more) = named_long first (omega (arith, more))
    unnamed (inr cr) = named_cr first cr

no_word_left : (e : List (List ℕ)) (w : List ℕ) → (parted e w).word ≡ []
no_word_left e [] = refl
no_word_left e (b ∷ w) = refl

without_letters : (k t : Kept) → WithoutCR k t → t.letters ≡ k.letters
without_letters k _ (end_in_argument cr) = refl
without_letters k _ (end_none other) = refl

call_asked : (w : List ℕ) (l : List (List ℕ)) → is_comment w ≡ false → understood w (map argument_of l) ≡ asked_by_words (w ∷ l)
call_asked w l e = simp e

kept_asked :
    (m : Line) (r : Kept) (name : List ℕ) (kept : List Argument) → Sized name kept → m.word ≡ [] → (r.letters ≡ 0 → ⊥) → At m r name kept
    → understood (take r.letters name) (take r.arguments kept) ≡ asked_by_words m.ended
kept_asked m r name kept s none some (in_first place i) =
    absurd (spelt_some m.word name r.letters s.letters i.spelt some none)
kept_asked m r name kept s none some (in_arguments place i) =
    understood_kept i.first name r.letters i.arguments kept r.arguments s i.spelt i.held
    ∙ call_asked i.first i.arguments i.call
    ∙ ap asked_by_words (sym i.ended)

pub asks_kept :
    (k t r : Kept) (name : List ℕ) (kept : List Argument) (name' : List ℕ) (kept' : List Argument) (passed : Bool) (a : Asks) → passed ≡ passes_over k → passed ≡ false → WithoutCR k t
    → Parts t kept r kept'
    → name' ≡ name → a ≡ understood (take r.letters name') (take r.arguments kept')
    → AsksFor k name kept a name' kept'
unfolding asked_by words_of
asks_kept k t r name kept name' kept' passed a is not-passed without parts stays e = λ p h.
    let call : passes_over k ≡ false = sym is ∙ not-passed in
    let other : k.place ≡ Comment → ⊥ = λ place. never (passes_comment k place ∙ call) in
    let some : r.letters ≡ 0 → ⊥ = λ none.
    never (sym (eq-eqb k.letters 0 (sym (parts.letters ∙ without_letters k t without) ∙ none)) ∙ passes_else k other ∙ call) in
    let l = read (without_cr p) in
    let way = ending p k t name kept other without h.held in
    let after = parts.line l name h.sized way.0 way.1 in
    let sized : Sized name' kept' = subst (λ (n : List ℕ). Sized n kept') (sym stays) after.0 in
    let there : At (parted l.ended l.word) r name' kept' = subst (λ (n : List ℕ). At (parted l.ended l.word) r n kept') (sym stays) after.1 in
    (e ∙ kept_asked (parted l.ended l.word) r name' kept' sized (no_word_left l.ended l.word) some there, holds_start name' kept' sized)
  where
    never : true ≡ false → ⊥
    never d =
        let z : ◌≡◌ {A = ℕ} 0 1 = cc in
        omega arith

-- what the words ask for is what the line does, and a bad line is one
pub asked_ok : (x : Result Asked BadLine) (v : Asked) (a : Asks) → x ≡ Ok v → asked_or_bad x ≡ a → asks_of v ≡ a
asked_ok x v a is e = sym (ap asked_or_bad is) ∙ e

pub asked_err : (x : Result Asked BadLine) (b : BadLine) (r : Result (Option Asked) BadLine) (a : Asks) → x ≡ Err b → asked_or_bad x ≡ a → is_err r ≡ true → asks_of_line r ≡ a
asked_err x b (Ok o) a is e refused = cc
asked_err x b (Err d) a is e refused = sym (ap asked_or_bad is) ∙ e

-- so many words, or all there are
pub take_cut : {A : Type 0} (s : List A) (n m : ℕ) → length s ≡ m → take (min n m - 0) (drop 0 s) ≡ take n s
take_cut s n m e = by (leb n m) refl
  where
    by : (fits : Bool) → leb n m ≡ fits → take (min n m - 0) (drop 0 s) ≡ take n s
    by true f =
        let all : min n m - 0 ≡ n = omega (arith, leb-true n m f) in
        ap (λ (i : ℕ). take i s) all
    by false f =
        let short : min n m - 0 ≡ m = omega (arith, leb-false n m f) in
        ap (λ (i : ℕ). take i s) short ∙ take_all m s (omega (arith, e)) ∙ sym (take_all n s (omega (arith, e, leb-false n m f)))
