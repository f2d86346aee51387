-- What the functions between promise: how a byte changes what the code keeps of a line. Assumes nothing.
use Rattle.std.specs.Prelude.{ℕ, ◌+◌, ◌*◌, ◌≤◌, ◌<◌, ◌≡◌, Bool, true, false, List, [], ◌∷◌, ◌++◌, eqb, leb, ltb, set, Option, Some, None, if◌then◌else◌}
use Rattle.call_line.specs.Words.{Line, joined, parted}
use Rattle.call_line.specs.Numerals.{is_digit, form_of, value_of}
use Rattle.call_line.specs.Held.{InFirst, InArguments, is_comment_line, At, Sized}
use Rattle.call_line.specs.declared.line.Line.{Line as Kept}
use Rattle.call_line.specs.declared.line.Place.{Place}
use Rattle.call_line.specs.declared.line.Place.TheVariants.{FirstWord, Arguments, Comment, FirstWordCr, ArgumentsCr}
use Rattle.call_words.specs.declared.shapes.Argument.{Argument}
use Rattle.call_words.specs.declared.shapes.Form.TheVariants.{NoWord, Other}

-- ---- an argument

-- the number with one digit more, where it is not too large
abbrev pub longer_of : ℕ → ℕ → Option ℕ
longer_of n d = if leb (n * 10 + d) 18446744073709551615 then Some (n * 10 + d) else None

-- the word under way can be no argument
abbrev pub spoilt_of : Kept → Kept
spoilt_of k = record { place = k.place; letters = k.letters; arguments = k.arguments; form = Other; number = 0 }

-- one byte more of the argument under way, whichever word it is
pub record Joins (k : Kept) (b : ℕ) (r : Kept) : Type 0 where
  pub place : r.place ≡ k.place
  pub letters : r.letters ≡ k.letters
  pub arguments : r.arguments ≡ k.arguments
  pub word : (w : List ℕ) → k.form ≡ form_of w → k.number ≡ value_of w → (r.form ≡ form_of (w ++ (b ∷ []))) × (r.number ≡ value_of (w ++ (b ∷ [])))

-- a digit follows no word that could be a number: else it were read as a digit
abbrev pub LateDigit : Kept → ℕ → Type 0
LateDigit k b = is_digit b ≡ true → k.form ≡ Other

-- the argument under way ends
pub data Ends (k : Kept) (kept : List Argument) : Kept → List Argument → Type 0 where
  argument_stored :
      k.arguments < 12
      → Ends k kept
      (record { place = k.place; letters = k.letters; arguments = k.arguments + 1; form = NoWord; number = 0 })
      (set kept k.arguments (record { form = k.form; value = k.number }))
  argument_left_out :
      12 ≤ k.arguments
      → Ends k kept (record { place = k.place; letters = k.letters; arguments = 13; form = NoWord; number = 0 }) kept

-- ---- the first word

-- after the byte b, which so many letters precede
abbrev pub place_after : ℕ → ℕ → Place
place_after at b = if ltb 0 at then FirstWord else if eqb b 35 then Comment else FirstWord

-- one byte more of it
pub data Spells (k : Kept) (b : ℕ) (name : List ℕ) : Kept → List ℕ → Type 0 where
  letter_stored :
      k.letters < 24
      → Spells k b name
      (record { place = place_after k.letters b; letters = k.letters + 1; arguments = k.arguments; form = k.form; number = k.number })
      (set name k.letters b)
  letter_left_out :
      24 ≤ k.letters
      → Spells k b name (record { place = k.place; letters = 25; arguments = k.arguments; form = k.form; number = k.number }) name

-- after a space that follows so many letters
abbrev pub place_parted : ℕ → Place
place_parted letters = if eqb letters 0 then FirstWord else Arguments

-- ---- a CR

-- at another place
abbrev pub placed : Place → Kept → Kept
placed n k = record { place = n; letters = k.letters; arguments = k.arguments; form = k.form; number = k.number }

-- a CR that no line's end follows belongs to a word
pub data PastCR (k : Kept) : Kept → Type 0 where
  past_in_argument : k.place ≡ ArgumentsCr → PastCR k (record { place = Arguments; letters = k.letters; arguments = k.arguments; form = Other; number = 0 })
  past_in_first : k.place ≡ FirstWordCr → PastCR k (record { place = FirstWord; letters = 25; arguments = k.arguments; form = k.form; number = k.number })
  past_none : (k.place ≡ ArgumentsCr → ⊥) → (k.place ≡ FirstWordCr → ⊥) → PastCR k k

-- a CR comes
pub data AtCR (k : Kept) : Kept → Type 0 where
  cr_in_argument : k.place ≡ Arguments → AtCR k (placed ArgumentsCr k)
  cr_in_first : (k.place ≡ Arguments → ⊥) → AtCR k (placed FirstWordCr k)

-- the line ends: a CR before it is passed over
pub data WithoutCR (k : Kept) : Kept → Type 0 where
  end_in_argument : k.place ≡ ArgumentsCr → WithoutCR k (placed Arguments k)
  end_none : (k.place ≡ ArgumentsCr → ⊥) → WithoutCR k k

-- ---- a byte

-- the word under way ends, whichever line it is of: after the first word its arguments, else its first word
pub record Parts (k : Kept) (kept : List Argument) (r : Kept) (kept' : List Argument) : Type 0 where
  pub letters : r.letters ≡ k.letters
  pub line :
      (l : Line) (name : List ℕ) → Sized name kept
      → (k.place ≡ Arguments → InArguments l k name kept) → ((k.place ≡ Arguments → ⊥) → InFirst l k name)
      → Sized name kept' × At (parted l.ended l.word) r name kept'

-- the line l, or a comment
pub data Now (l : Line) (k : Kept) (name : List ℕ) (kept : List Argument) : Type 0 where
  in_comment : k.place ≡ Comment → is_comment_line l.ended l.word ≡ true → Now l k name kept
  in_line : At l k name kept → Now l k name kept

-- one byte more of the line, whichever it is, where a CR before it is of a word
abbrev pub Takes : Kept → List ℕ → List Argument → ℕ → Kept → List ℕ → List Argument → Type 0
Takes k name kept b r name' kept' =
    (l : Line) → Sized name kept → At l k name kept
    → Sized name' kept' × Now (joined l b) r name' kept'

abbrev pub in_comment_place : Place → Bool
in_comment_place Comment = true
in_comment_place _ = false

-- whether the line is empty or a comment
abbrev pub passes_over : Kept → Bool
passes_over k = if in_comment_place k.place then true else eqb k.letters 0
