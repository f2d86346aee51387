-- A row of a list: its twelve words, and what the first is read as: codes 0 to 6 are calls, 7 is a turn. Assumes nothing.
use Rattle.std.specs.Prelude.{ℕ, ◌+◌, ◌<◌, ◌≡◌, false, List, ltb, get_or, Result, Ok, Err}
use Rattle.rules.specs.Arguments.{EventIn}
use Rattle.calls.specs.declared.row.CallCode.{CallCode}
use Rattle.calls.specs.declared.row.CallCode.TheVariants.{Push, SetAction, ClearAction, SetTimer, ClearTimer, PickNext, SimNetworkStack}
use Rattle.calls.specs.declared.row.Code.{Code}
use Rattle.calls.specs.declared.row.NoCode.{NoCode}
use Rattle.calls.specs.declared.row.Code.TheVariants.{Call, Turn}
use Rattle.calls.specs.Told.{event_for}
use Rattle.calls.specs.Rows.{is_row, word_at}

abbrev pub call_no : CallCode → ℕ
call_no Push = 0
call_no SetAction = 1
call_no ClearAction = 2
call_no SetTimer = 3
call_no ClearTimer = 4
call_no PickNext = 5
call_no SimNetworkStack = 6

abbrev pub code_no : Code → ℕ
code_no (Call c) = call_no c
code_no Turn = 7

-- a word that is no call's is read as none, and one that is no row's
abbrev pub CallReadAs : ℕ → Result CallCode NoCode → Type 0
CallReadAs word (Err e) = ltb word 7 ≡ false
CallReadAs word (Ok c) = word ≡ call_no c

abbrev pub ReadAs : ℕ → Result Code NoCode → Type 0
ReadAs word (Err e) = is_row word ≡ false
ReadAs word (Ok c) = word ≡ code_no c

-- ---- the words of a row

abbrev pub word_in : List ℕ → ℕ → ℕ
word_in words j = get_or words j 0

-- the event whose eight words begin at word j
abbrev pub event_from : List ℕ → ℕ → EventIn
event_from words j =
    event_for
    (word_in words j)
    (word_in words (j + 1))
    (word_in words (j + 2))
    (word_in words (j + 3))
    (word_in words (j + 4))
    (word_in words (j + 5))
    (word_in words (j + 6))
    (word_in words (j + 7))

-- the words are those of row i
abbrev pub IsRow : List ℕ → ℕ → List ℕ → Type 0
IsRow rows i words = (j : ℕ) → j < 12 → word_in words j ≡ word_at rows i j
