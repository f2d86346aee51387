-- The word under way ends: the first word, no argument, or an argument. Assumes nothing.
use Prim.Native.Nat.{ℕ, ◌+◌}
use mathlib.Core.Path.{◌≡◌, refl, sym, ap, subst, ◌∙◌}
use mathlib.Core.Bool.{Bool, true, false}
use mathlib.Core.Logic.{inl}
use mathlib.Core.List.{List, [], ◌∷◌, ◌++◌}
use native.Mathlib.Omega.{arith}
use lib.Dec.{eqb}
use lib.ListN.{length, take, set, length-set}
use borrow.Author.Tests.{eqb-true, eqb-false}
use Rattle.std.specs.Prelude.{if◌then◌else◌}
use Rattle.call_line.specs.Words.{Line, parted}
use Rattle.call_line.specs.Numerals.{form_of, value_of}
use Rattle.call_line.specs.Held.{InFirst, InArguments, At, in_first, in_arguments, Sized}
use Rattle.call_line.specs.Steps.{Ends, argument_stored, argument_left_out, place_parted, placed, Parts}
use Rattle.call_line.specs.declared.line.Line.{Line as Kept}
use Rattle.call_line.specs.declared.line.Place.{Place}
use Rattle.call_line.specs.declared.line.Place.TheVariants.{FirstWord, Arguments}
use Rattle.call_words.specs.declared.shapes.Argument.{Argument}
use Rattle.call_words.specs.declared.shapes.Form.TheVariants.{NoWord}
use Rattle.call_line.proofs.NumeralLaws.{no_word, some_word}
use Rattle.call_line.proofs.SpeltLaws.{spelt_none, spelt_some}
use Rattle.call_line.proofs.EndedLaws.{ended_kept, ended_dropped}

-- ---- the line

pub parted_none : (e : List (List ℕ)) (w : List ℕ) → w ≡ [] → parted e w ≡ record { ended = e; word = [] }
parted_none e w none = ap (parted e) none

pub parted_some : (e : List (List ℕ)) (w : List ℕ) → (w ≡ [] → ⊥) → parted e w ≡ record { ended = e ++ (w ∷ []); word = [] }
parted_some e [] some = absurd (some refl)
parted_some e (b ∷ w) some = refl

-- ---- at another place

pub first_placed : (l : Line) (k : Kept) (n : Place) (name : List ℕ) → InFirst l k name → InFirst l (placed n k) name
first_placed l k n name i =
    record { ended = i.ended; spelt = i.spelt; call = i.call; arguments = i.arguments; form = i.form; number = i.number }

pub arguments_placed :
    (l : Line) (k : Kept) (n : Place) (name : List ℕ) (kept : List Argument) → InArguments l k name kept → InArguments l (placed n k) name kept
arguments_placed l k n name kept i =
    record {
      first = i.first;
      arguments = i.arguments;
      ended = i.ended;
      spelt = i.spelt;
      some = i.some;
      call = i.call;
      held = i.held;
      form = i.form;
      number = i.number;
    }

-- ---- the first word

-- no word yet
first_none :
    (l : Line) (k : Kept) (name : List ℕ) → length name ≡ 24 → k.letters ≡ 0 → InFirst l k name
    → InFirst (parted l.ended l.word) (placed FirstWord k) name
first_none l k name len none i =
    let empty : l.word ≡ [] = spelt_none l.word name k.letters len i.spelt none in
    subst (λ (m : Line). InFirst m (placed FirstWord k) name) (sym (parted_none l.ended l.word empty))
    (record {
      ended = i.ended;
      spelt = inl (omega (arith, none), ap (λ (n : ℕ). take n name) none);
      call = refl;
      arguments = i.arguments;
      form = i.form;
      number = i.number;
    })

-- it ends
first_some :
    (l : Line) (k : Kept) (name : List ℕ) (kept : List Argument) → length name ≡ 24 → (k.letters ≡ 0 → ⊥) → InFirst l k name
    → InArguments (parted l.ended l.word) (placed Arguments k) name kept
unfolding form_of value_of
first_some l k name kept len some i =
    let more : l.word ≡ [] → ⊥ = spelt_some l.word name k.letters len i.spelt some in
    subst (λ (m : Line). InArguments m (placed Arguments k) name kept) (sym (parted_some l.ended l.word more))
    (record {
      first = l.word;
      arguments = [];
      ended = ap (λ (e : List (List ℕ)). e ++ (l.word ∷ [])) i.ended;
      spelt = i.spelt;
      some = some;
      call = i.call;
      held =
          inl (omega (arith, i.arguments), ap (λ (n : ℕ). take n kept) i.arguments);
      form = i.form;
      number = i.number;
    })

pub parts_first :
    (k : Kept) (kept : List Argument) (place : Place) → (k.place ≡ Arguments → ⊥) → place ≡ place_parted k.letters
    → Parts k kept (placed place k) kept
parts_first k kept place other e =
    subst (λ (n : Place). Parts k kept (placed n k) kept) (sym e)
    (record { letters = refl; line = λ l name sized _ first. (sized, by l name sized (first other) (eqb k.letters 0) refl) })
  where
    by :
        (l : Line) (name : List ℕ) → Sized name kept → InFirst l k name
        → (none : Bool) → eqb k.letters 0 ≡ none
        → At (parted l.ended l.word) (placed (if none then FirstWord else Arguments) k) name kept
    by l name sized i true z = in_first refl (first_none l k name sized.letters (eqb-true k.letters 0 z) i)
    by l name sized i false z = in_arguments refl (first_some l k name kept sized.letters (eqb-false k.letters 0 z) i)

-- ---- no argument is under way

pub parts_none :
    (k : Kept) (kept : List Argument) → k.place ≡ Arguments → k.form ≡ NoWord → Parts k kept k kept
parts_none k kept place none =
    record {
      letters = refl;
      line = λ l name sized arguments _.
          let i = arguments place in
          let empty : l.word ≡ [] = no_word l.word (sym i.form ∙ none) in
          let same : l ≡ parted l.ended l.word =
          sym (parted_none l.ended l.word empty ∙ ap (λ (w : List ℕ). record { ended = l.ended; word = w }) (sym empty)) in
          (sized, in_arguments place (subst (λ (m : Line). InArguments m k name kept) same i));
    }

-- ---- an argument ends

ends_sized :
    (k : Kept) (name : List ℕ) (kept : List Argument) (r : Kept) (kept' : List Argument) → Ends k kept r kept' → Sized name kept
    → Sized name kept'
ends_sized k name kept _ _ (argument_stored room) s =
    record {
      letters = s.letters;
      many = length-set kept k.arguments (record { form = k.form; value = k.number }) ∙ s.many;
    }
ends_sized k name kept _ _ (argument_left_out full) s = s

ends_arguments :
    (k : Kept) (l : Line) (name : List ℕ) (kept : List Argument) (r : Kept) (kept' : List Argument)
    → Ends k kept r kept' → Sized name kept → (k.form ≡ NoWord → ⊥) → InArguments l k name kept
    → InArguments (parted l.ended l.word) r name kept'
unfolding form_of value_of
ends_arguments k l name kept _ _ (argument_stored room) s some i =
    let more : l.word ≡ [] → ⊥ = some_word l.word (λ z. some (i.form ∙ z)) in
    let to = parted_some l.ended l.word more in
    let after : Kept = record { place = k.place; letters = k.letters; arguments = k.arguments + 1; form = NoWord; number = 0 } in
    subst
    (λ (m : Line). InArguments m after name (set kept k.arguments (record { form = k.form; value = k.number })))
    (sym to)
    (record {
      first = i.first;
      arguments = i.arguments ++ (l.word ∷ []);
      ended = ap (λ (e : List (List ℕ)). e ++ (l.word ∷ [])) i.ended;
      spelt = i.spelt;
      some = i.some;
      call = i.call;
      held =
          ended_kept i.arguments l.word kept k.arguments s.many k.form k.number room
          i.form i.number i.held;
      form = refl;
      number = refl;
    })
ends_arguments k l name kept _ _ (argument_left_out full) s some i =
    let more : l.word ≡ [] → ⊥ = some_word l.word (λ z. some (i.form ∙ z)) in
    let to = parted_some l.ended l.word more in
    let after : Kept = record { place = k.place; letters = k.letters; arguments = 13; form = NoWord; number = 0 } in
    subst (λ (m : Line). InArguments m after name kept) (sym to)
    (record {
      first = i.first;
      arguments = i.arguments ++ (l.word ∷ []);
      ended = ap (λ (e : List (List ℕ)). e ++ (l.word ∷ [])) i.ended;
      spelt = i.spelt;
      some = i.some;
      call = i.call;
      held = ended_dropped i.arguments l.word kept k.arguments s.many full i.held;
      form = refl;
      number = refl;
    })

ends_place : (k : Kept) (kept : List Argument) (r : Kept) (kept' : List Argument) → Ends k kept r kept' → r.place ≡ k.place
ends_place k kept _ _ (argument_stored room) = refl
ends_place k kept _ _ (argument_left_out full) = refl

ends_letters : (k : Kept) (kept : List Argument) (r : Kept) (kept' : List Argument) → Ends k kept r kept' → r.letters ≡ k.letters
ends_letters k kept _ _ (argument_stored room) = refl
ends_letters k kept _ _ (argument_left_out full) = refl

pub parts_argument :
    (k : Kept) (kept : List Argument) (r : Kept) (kept' : List Argument) → k.place ≡ Arguments → (k.form ≡ NoWord → ⊥)
    → Ends k kept r kept' → Parts k kept r kept'
parts_argument k kept r kept' place some ends =
    record {
      letters = ends_letters k kept r kept' ends;
      line = λ l name sized arguments _. (
        ends_sized k name kept r kept' ends sized,
        in_arguments (ends_place k kept r kept' ends ∙ place)
            (ends_arguments k l name kept r kept' ends sized some (arguments place)),
      );
    }
