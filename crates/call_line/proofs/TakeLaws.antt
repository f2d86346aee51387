-- One byte more of a line at a place: a space, a byte of an argument, a letter of the first word. Assumes nothing.
use Prim.Native.Nat.{ℕ, ◌+◌, ◌≤◌, ◌<◌}
use mathlib.Core.Path.{◌≡◌, refl, sym, subst, ◌∙◌}
use mathlib.Core.Bool.{Bool, true, false}
use mathlib.Core.List.{List, [], ◌∷◌, ◌++◌}
use native.Mathlib.Omega.{arith}
use lib.Dec.{eqb, ltb}
use lib.ListN.{length, set, length-set}
use borrow.Author.Tests.{ltb-true, ltb-false}
use Rattle.std.specs.Prelude.{if◌then◌else◌}
use Rattle.call_line.specs.Words.{Line, is_space, joined}
use Rattle.call_line.specs.Held.{InFirst, InArguments, Spelt, Ended, is_comment_line, At, in_first, in_arguments, Sized}
use Rattle.call_line.specs.Steps.{Joins, place_after, Spells, letter_stored, letter_left_out, Parts, Now, Takes, in_comment, in_line}
use Rattle.call_line.specs.declared.line.Line.{Line as Kept}
use Rattle.call_line.specs.declared.line.Place.{Place}
use Rattle.call_line.specs.declared.line.Place.TheVariants.{FirstWord, Arguments, Comment}
use Rattle.call_words.specs.declared.shapes.Argument.{Argument}
use Rattle.call_line.proofs.WordLaws.{joined_space, joined_byte, comment_stays, comment_first}
use Rattle.call_line.proofs.SpeltLaws.{spelt_none, spelt_some, spelt_kept, spelt_dropped}

pub at_arguments : (l : Line) (k : Kept) (name : List ℕ) (kept : List Argument) → At l k name kept → k.place ≡ Arguments → InArguments l k name kept
at_arguments l k name kept (in_first place i) e = cc
at_arguments l k name kept (in_arguments place i) e = i

at_first : (l : Line) (k : Kept) (name : List ℕ) (kept : List Argument) → At l k name kept → (k.place ≡ Arguments → ⊥) → InFirst l k name
at_first l k name kept (in_first place i) other = i
at_first l k name kept (in_arguments place i) other = absurd (other place)

-- ---- a space

pub takes_space :
    (k : Kept) (name : List ℕ) (kept : List Argument) (b : ℕ) (r : Kept) (name' : List ℕ) (kept' : List Argument) (test : Bool)
    → test ≡ is_space b → test ≡ true → Parts k kept r kept' → name' ≡ name
    → Takes k name kept b r name' kept'
takes_space k name kept b r name' kept' test is space parts stays = λ l sized here.
    let after = parts.line l name sized (at_arguments l k name kept here) (at_first l k name kept here) in
    subst (λ (n : List ℕ). Sized n kept' × Now (joined l b) r n kept') (sym stays)
    (after.0, subst (λ (m : Line). Now m r name kept') (sym (joined_space l b (sym is ∙ space))) (in_line after.1))

-- ---- a byte of an argument

pub joined_arguments :
    (l : Line) (k : Kept) (b : ℕ) (r : Kept) (name : List ℕ) (kept : List Argument) → is_space b ≡ false → Joins k b r → InArguments l k name kept
    → InArguments (joined l b) r name kept
joined_arguments l k b r name kept byte joins i =
    subst (λ (m : Line). InArguments m r name kept) (sym (joined_byte l b byte))
    (record {
      first = i.first;
      arguments = i.arguments;
      ended = i.ended;
      spelt = subst (λ (n : ℕ). Spelt i.first name n) (sym joins.letters) i.spelt;
      some = λ e. i.some (sym joins.letters ∙ e);
      call = i.call;
      held = subst (λ (n : ℕ). Ended i.arguments kept n) (sym joins.arguments) i.held;
      form = (joins.word l.word i.form i.number).0;
      number = (joins.word l.word i.form i.number).1;
    })

-- ---- a letter of the first word

pub spells_kept :
    (k : Kept) (b : ℕ) (place : Place) (name : List ℕ) → k.letters < 24 → place ≡ place_after k.letters b
    → Spells k b name
    (record { place = place; letters = k.letters + 1; arguments = k.arguments; form = k.form; number = k.number })
    (set name k.letters b)
spells_kept k b place name room is =
    subst
    (λ (n : Place). Spells k b name (record { place = n; letters = k.letters + 1; arguments = k.arguments; form = k.form; number = k.number }) (set name k.letters b))
    (sym is)
    (letter_stored room)

module _ (l : Line) (k : Kept) (b : ℕ) (name : List ℕ) (kept : List Argument) (len : length name ≡ 24) (i : InFirst l k name) where
  letter_kept :
      (early : Bool) → ltb 0 k.letters ≡ early → (mark : Bool) → eqb b 35 ≡ mark → k.letters < 24
      → Now (record { ended = l.ended; word = l.word ++ (b ∷ []) })
      (record {
        place = if early then FirstWord else if mark then Comment else FirstWord;
        letters = k.letters + 1;
        arguments = k.arguments;
        form = k.form;
        number = k.number;
      })
      (set name k.letters b) kept
  letter_kept true e mark m room =
      let more : l.word ≡ [] → ⊥ = spelt_some l.word name k.letters len i.spelt (λ z. omega (arith, z, ltb-true 0 k.letters e)) in
      in_line
      (in_first refl
      (record {
        ended = i.ended;
        spelt = spelt_kept l.word name k.letters len b room i.spelt;
        call = comment_stays l.word b more ∙ i.call;
        arguments = i.arguments;
        form = i.form;
        number = i.number;
      }))
  letter_kept false e true m room =
      let none : l.word ≡ [] = spelt_none l.word name k.letters len i.spelt (omega (arith, ltb-false 0 k.letters e)) in
      in_comment refl
      (subst (λ (x : List (List ℕ)). is_comment_line x (l.word ++ (b ∷ [])) ≡ true) (sym i.ended) (comment_first l.word b none ∙ m))
  letter_kept false e false m room =
      let none : l.word ≡ [] = spelt_none l.word name k.letters len i.spelt (omega (arith, ltb-false 0 k.letters e)) in
      in_line
      (in_first refl
      (record {
        ended = i.ended;
        spelt = spelt_kept l.word name k.letters len b room i.spelt;
        call = comment_first l.word b none ∙ m;
        arguments = i.arguments;
        form = i.form;
        number = i.number;
      }))

  letter_dropped :
      24 ≤ k.letters → k.place ≡ FirstWord
      → At (record { ended = l.ended; word = l.word ++ (b ∷ []) })
      (record { place = k.place; letters = 25; arguments = k.arguments; form = k.form; number = k.number }) name kept
  letter_dropped full place =
      let more : l.word ≡ [] → ⊥ = spelt_some l.word name k.letters len i.spelt (λ z. omega (arith, z, full)) in
      in_first place
      (record {
        ended = i.ended;
        spelt = spelt_dropped l.word name k.letters len b full i.spelt;
        call = comment_stays l.word b more ∙ i.call;
        arguments = i.arguments;
        form = i.form;
        number = i.number;
      })

letter :
    (l : Line) (k : Kept) (b : ℕ) (name : List ℕ) (kept : List Argument) (r : Kept) (name' : List ℕ) → Spells k b name r name' → Sized name kept
    → InFirst l k name → k.place ≡ FirstWord
    → Sized name' kept × Now (record { ended = l.ended; word = l.word ++ (b ∷ []) }) r name' kept
letter l k b name kept _ _ (letter_stored room) s i place = (
  record {
    letters = length-set name k.letters b ∙ s.letters;
    many = s.many;
  },
  letter_kept l k b name kept s.letters i (ltb 0 k.letters) refl (eqb b 35) refl room,
)
letter l k b name kept _ _ (letter_left_out full) s i place = (s, in_line (letter_dropped l k b name kept s.letters i full place))

at_place : (l : Line) (k : Kept) (name : List ℕ) (kept : List Argument) → At l k name kept → (k.place ≡ Arguments → ⊥) → k.place ≡ FirstWord
at_place l k name kept (in_first place i) other = place
at_place l k name kept (in_arguments place i) other = absurd (other place)

pub takes_letter :
    (k : Kept) (name : List ℕ) (kept : List Argument) (b : ℕ) (r : Kept) (name' : List ℕ) (kept' : List Argument) (test : Bool)
    → test ≡ is_space b → test ≡ false → (k.place ≡ Arguments → ⊥) → Spells k b name r name' → kept' ≡ kept
    → Takes k name kept b r name' kept'
takes_letter k name kept b r name' kept' test is byte other spells stays = λ l sized here.
    let after =
    letter l k b name kept r name' spells sized (at_first l k name kept here other) (at_place l k name kept here other) in
    subst (λ (a : List Argument). Sized name' a × Now (joined l b) r name' a) (sym stays)
    (after.0, subst (λ (m : Line). Now m r name' kept) (sym (joined_byte l b (sym is ∙ byte))) after.1)
