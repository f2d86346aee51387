-- What an argument is, and its value, in the sentences of docs/CALLS.md. Assumes nothing.
use Rattle.std.specs.Prelude.{ℕ, ◌+◌, ◌*◌, ◌-◌, Bool, true, false, List, [], ◌∷◌, leb, if◌then◌else◌}
use Rattle.call_words.specs.Text.{bytes, same}
use Rattle.call_words.specs.declared.shapes.Argument.{Argument}
use Rattle.call_words.specs.declared.shapes.Form.{Form}
use Rattle.call_words.specs.declared.shapes.Form.TheVariants.{NoWord, Flag, Number, Side, Absent, Other}

-- "the digits 0 to 9": the bytes from 48 to 57
abbrev pub is_digit : ℕ → Bool
is_digit b = if leb 48 b then leb b 57 else false

abbrev pub are_digits : List ℕ → Bool
are_digits [] = true
are_digits (b ∷ w) = if is_digit b then are_digits w else false

-- the number that n and the digits after it are
abbrev pub decimal_from : ℕ → List ℕ → ℕ
decimal_from n [] = n
decimal_from n (b ∷ w) = decimal_from (n * 10 + (b - 48)) w

-- "A number is one or more of the digits 0 to 9, leading zeros allowed, nothing else, 0 to 2^64 − 1"
abbrev pub is_number : List ℕ → Bool
is_number [] = false
is_number (b ∷ w) = if are_digits (b ∷ w) then leb (decimal_from 0 (b ∷ w)) 18446744073709551615 else false

-- "SIDE is `c` or `s`. A flag is `0` or `1`. A rate is a number, or `-` for absent."
abbrev pub is_flag : List ℕ → Bool
is_flag w = if same w (bytes "0") then true else same w (bytes "1")

abbrev pub is_side : List ℕ → Bool
is_side w = if same w (bytes "c") then true else same w (bytes "s")

abbrev pub is_absent : List ℕ → Bool
is_absent w = same w (bytes "-")

-- the form of a word
unfoldable pub form_of : List ℕ → Form
form_of [] = NoWord
form_of (b ∷ w) =
    if is_flag (b ∷ w) then Flag
    else if is_number (b ∷ w) then Number else if is_side (b ∷ w) then Side else if is_absent (b ∷ w) then Absent else Other

-- the value of a word: a number's, 1 for the client, else 0
unfoldable pub value_of : List ℕ → ℕ
value_of w = if is_number w then decimal_from 0 w else if same w (bytes "c") then 1 else 0

-- what a word is as an argument
abbrev pub argument_of : List ℕ → Argument
argument_of w = record { form = form_of w; value = value_of w }
