-- Texts as the bytes of their letters. Assumes nothing.
use Rattle.std.specs.Prelude.{ℕ, Bool, true, false, List, [], ◌∷◌, eqb, if◌then◌else◌}
use Prim.Native.Char.{code}
use Prim.Native.String.{String, [] as end, ◌∷◌ as ◌then◌}

-- the bytes of a text of ASCII
abbrev pub bytes : String → List ℕ
bytes end = []
bytes (c then s) = code c ∷ bytes s

-- whether two lists are as long, and each element of the first passes the test with that of the second in its place
abbrev pub pairwise : {A B : Type 0} → (A → B → Bool) → List A → List B → Bool
pairwise test [] [] = true
pairwise test [] (b ∷ t) = false
pairwise test (a ∷ s) [] = false
pairwise test (a ∷ s) (b ∷ t) = if test a b then pairwise test s t else false

-- whether two texts are the same, byte for byte
abbrev pub same : List ℕ → List ℕ → Bool
same s t = pairwise eqb s t
