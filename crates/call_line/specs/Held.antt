-- What the code keeps of a line that is being read: the invariant of `line::read`, which every line starts with. Assumes nothing.
use Rattle.std.specs.Prelude.{ℕ, ◌≤◌, ◌<◌, ◌≡◌, Bool, true, false, ◌⊎◌, List, [], ◌∷◌, ◌++◌, map, eqb, length, take, if◌then◌else◌}
use Rattle.call_words.specs.Asked.{Asks}
use Rattle.call_line.specs.Words.{Line, read, without_cr}
use Rattle.call_line.specs.Numerals.{is_digit, form_of, value_of, argument_of}
use Rattle.call_line.specs.Lines.{is_comment, asked_by}
use Rattle.call_line.specs.declared.line.Line.{Line as Kept}
use Rattle.call_line.specs.declared.line.Place.{Place}
use Rattle.call_line.specs.declared.line.Place.TheVariants.{FirstWord, Arguments, Comment, FirstWordCr, ArgumentsCr}
use Rattle.call_words.specs.declared.shapes.Argument.{Argument}
use Rattle.call_words.specs.declared.shapes.Form.TheVariants.{NoWord}

-- at the start of a line
abbrev pub start_line : Kept
start_line = record { place = FirstWord; letters = 0; arguments = 0; form = NoWord; number = 0 }

abbrev pub has_cr : List ℕ → Bool
has_cr [] = false
has_cr (b ∷ w) = if eqb b 13 then true else has_cr w

-- the first word w: its letters, where they are kept; else it is too long or has a CR, and names nothing
abbrev pub Spelt : List ℕ → List ℕ → ℕ → Type 0
Spelt w name letters = ((letters ≤ 24) × (take letters name ≡ w)) ⊎ ((letters ≡ 25) × ((24 < length w) ⊎ (has_cr w ≡ true)))

-- the arguments l that have ended, where there are not too many
abbrev pub Ended : List (List ℕ) → List Argument → ℕ → Type 0
Ended l kept n = ((n ≤ 12) × (take n kept ≡ map argument_of l)) ⊎ ((n ≡ 13) × (12 < length l))

-- in the first word, or before it
pub record InFirst (l : Line) (k : Kept) (name : List ℕ) : Type 0 where
  pub ended : l.ended ≡ []
  pub spelt : Spelt l.word name k.letters
  pub call : is_comment l.word ≡ false
  pub arguments : k.arguments ≡ 0
  pub form : k.form ≡ NoWord
  pub number : k.number ≡ 0

-- after it
pub record InArguments (l : Line) (k : Kept) (name : List ℕ) (kept : List Argument) : Type 0 where
  pub first : List ℕ
  pub arguments : List (List ℕ)
  pub ended : l.ended ≡ first ∷ arguments
  pub spelt : Spelt first name k.letters
  pub some : k.letters ≡ 0 → ⊥
  pub call : is_comment first ≡ false
  pub held : Ended arguments kept k.arguments
  pub form : k.form ≡ form_of l.word
  pub number : k.number ≡ value_of l.word

-- whether a line is a comment, read so far
abbrev pub is_comment_line : List (List ℕ) → List ℕ → Bool
is_comment_line [] w = is_comment w
is_comment_line (f ∷ e) w = is_comment f

-- the line l: in its first word, or after it
pub data At (l : Line) (k : Kept) (name : List ℕ) (kept : List Argument) : Type 0 where
  in_first : k.place ≡ FirstWord → InFirst l k name → At l k name kept
  in_arguments : k.place ≡ Arguments → InArguments l k name kept → At l k name kept

-- the bytes p of a line: in a comment; at a place; or at a place and then a CR, which the next byte or the line's end decides about
pub data Held (p : List ℕ) (k : Kept) (name : List ℕ) (kept : List Argument) : Type 0 where
  comment :
      k.place ≡ Comment → is_comment_line (read p).ended (read p).word ≡ true → is_comment_line (read (without_cr p)).ended (read (without_cr p)).word ≡ true
      → Held p k name kept
  plain : without_cr p ≡ p → At (read p) k name kept → Held p k name kept
  first_cr : (q : List ℕ) → p ≡ q ++ (13 ∷ []) → k.place ≡ FirstWordCr → InFirst (read q) k name → Held p k name kept
  argument_cr : (q : List ℕ) → p ≡ q ++ (13 ∷ []) → k.place ≡ ArgumentsCr → InArguments (read q) k name kept → Held p k name kept

-- the two arrays have their lengths
pub record Sized (name : List ℕ) (kept : List Argument) : Type 0 where
  pub letters : length name ≡ 24
  pub many : length kept ≡ 12

-- what the code keeps holds the bytes p of a line
pub record Holds (p : List ℕ) (k : Kept) (name : List ℕ) (kept : List Argument) : Type 0 where
  pub sized : Sized name kept
  pub held : Held p k name kept

-- ---- the promises

-- one byte more, from k and its arrays to k' and its arrays: whatever bytes were held, one more is held after
abbrev pub Reads : Kept → List ℕ → List Argument → ℕ → Kept → List ℕ → List Argument → Type 0
Reads k name kept b k' name' kept' =
    (p : List ℕ) → Holds p k name kept → Holds (p ++ (b ∷ [])) k' name' kept'

-- the line ends: whatever bytes are held, this is what they ask for, and the next line can start
abbrev pub AsksFor : Kept → List ℕ → List Argument → Asks → List ℕ → List Argument → Type 0
AsksFor k name kept a name' kept' =
    (p : List ℕ) → Holds p k name kept → (a ≡ asked_by p) × Holds [] start_line name' kept'

abbrev pub in_arguments_place : Place → Bool
in_arguments_place Arguments = true
in_arguments_place _ = false

-- the byte b is a digit in an argument
abbrev pub digit_of : Kept → ℕ → Bool
digit_of k b = if in_arguments_place k.place then is_digit b else false

-- one digit more: the arrays stay, whatever they are
abbrev pub ReadsDigit : Kept → ℕ → Kept → Type 0
ReadsDigit k b k' = (name : List ℕ) (kept : List Argument) → Reads k name kept b k' name kept
