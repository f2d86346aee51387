-- What a session holds in fields that are private. Assumes nothing.
use Rattle.std.specs.Prelude.{ℕ, ◌≡◌, Bool, List}
use Rattle.std.specs.Borrow.{MutBor}
use Rattle.call_line.specs.declared.line.Line.{Line}
use Rattle.call_list.specs.declared.session.Session.{Session}

-- the words of the two blocks
abbrev pub first_words : Session → List ℕ
first_words s = s.state.words.now

abbrev pub second_words : Session → List ℕ
second_words s = s.second.words.now

-- how many of them are lent
abbrev pub first_lent : Session → ℕ
first_lent s = s.state.lent

abbrev pub second_lent : Session → ℕ
second_lent s = s.second.lent

-- whether those of the first are known to be an accepted state
abbrev pub is_known : Session → Bool
is_known s = s.state.known

-- the line under way, and its number
abbrev pub line_of : Session → Line
line_of s = s.line

abbrev pub line_number : Session → ℕ
line_number s = s.number

-- how many bytes wait to be written
abbrev pub waiting : Session → ℕ
waiting s = s.out.used

-- the blocks and the place for the answers are the ones that were lent
abbrev pub Holds : Session → MutBor (List ℕ) → MutBor (List ℕ) → MutBor (List ℕ) → Type 0
Holds s first second out =
    (s.state.words.ghost_name ≡ first.ghost_name)
    × ((s.second.words.ghost_name ≡ second.ghost_name) × (s.out.buffer.ghost_name ≡ out.ghost_name))

-- a session holds the ones that another held
abbrev pub HoldsThose : Session → Session → Type 0
HoldsThose s t = Holds s t.state.words t.second.words t.out.buffer
