-- How the bytes of a line form words, in the sentences of docs/CALLS.md. Assumes nothing.
use Rattle.std.specs.Prelude.{ℕ, Bool, true, List, [], ◌∷◌, ◌++◌, eqb, if◌then◌else◌}

-- "words parted by spaces or tabs": the bytes 32 and 9
abbrev pub is_space : ℕ → Bool
is_space b = if eqb b 32 then true else eqb b 9

-- a line that is being read: the words that have ended, and the word under way, empty where there is none
pub record Line : Type 0 where
  pub ended : List (List ℕ)
  pub word : List ℕ

-- the word under way ends, if there is one
abbrev pub parted : List (List ℕ) → List ℕ → Line
parted e [] = record { ended = e; word = [] }
parted e (b ∷ w) = record { ended = e ++ ((b ∷ w) ∷ []); word = [] }

-- one byte more: a space parts words, "any other byte belongs to a word"
abbrev pub joined : Line → ℕ → Line
joined l b = if is_space b then parted l.ended l.word else record { ended = l.ended; word = l.word ++ (b ∷ []) }

-- all of these bytes more
abbrev pub read_from : Line → List ℕ → Line
read_from l [] = l
read_from l (b ∷ bs) = read_from (joined l b) bs

abbrev pub read : List ℕ → Line
read bs = read_from (record { ended = []; word = [] }) bs

-- "A CR right before the end of a line is passed over": the byte 13
abbrev pub without_cr : List ℕ → List ℕ
without_cr [] = []
without_cr (b ∷ []) = if eqb b 13 then [] else b ∷ []
without_cr (b ∷ c ∷ bs) = b ∷ without_cr (c ∷ bs)

-- the words of a line of these bytes
unfoldable pub words_of : List ℕ → List (List ℕ)
words_of bs =
    let l = read (without_cr bs) in
    (parted l.ended l.word).ended
