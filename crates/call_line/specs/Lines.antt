-- What the bytes of a line ask for. Assumes nothing.
use Rattle.std.specs.Prelude.{ℕ, Bool, false, List, [], ◌∷◌, map, eqb, Option, Some, None, Result, Ok, Err, if◌then◌else◌}
use Rattle.call_words.specs.Asked.{Asks, passed_over, understood, asked_or_bad}
use Rattle.call_words.specs.declared.asked.Asked.{Asked}
use Rattle.call_words.specs.declared.asked.BadLine.{BadLine}
use Rattle.call_line.specs.Words.{words_of}
use Rattle.call_line.specs.Numerals.{argument_of}

-- "a line whose first word begins with `#`": the byte 35
abbrev pub is_comment : List ℕ → Bool
is_comment [] = false
is_comment (b ∷ w) = eqb b 35

-- "an empty line and a line whose first word begins with `#` are passed over"; else the first word names the call, the others are its arguments
abbrev pub asked_by_words : List (List ℕ) → Asks
asked_by_words [] = passed_over
asked_by_words (w ∷ l) = if is_comment w then passed_over else understood w (map argument_of l)

-- what a line of these bytes asks for
unfoldable pub asked_by : List ℕ → Asks
asked_by bs = asked_by_words (words_of bs)

-- the code's answer, in these words: nothing where the line is passed over
abbrev pub asks_of_line : Result (Option Asked) BadLine → Asks
asks_of_line (Ok None) = passed_over
asks_of_line (Ok (Some a)) = asked_or_bad (Ok a)
asks_of_line (Err e) = asked_or_bad (Err e)
