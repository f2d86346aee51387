-- A line with one byte more: its words, the CR at its end, and its first word. Assumes nothing.
use Prim.Native.Nat.{ℕ}
use mathlib.Core.Path.{◌≡◌, refl, ap}
use mathlib.Core.Bool.{Bool, true, false}
use mathlib.Core.List.{List, [], ◌∷◌, ◌++◌, map}
use lib.Dec.{eqb}
use borrow.Author.Tests.{ne_eqb}
use Rattle.std.specs.Prelude.{if◌then◌else◌}
use Rattle.call_line.specs.Words.{Line, is_space, parted, joined, read_from, read, without_cr}
use Rattle.call_line.specs.Lines.{is_comment}
use Rattle.call_line.specs.Numerals.{argument_of}
use Rattle.call_words.specs.declared.shapes.Argument.{Argument}
use Rattle.call_line.specs.Held.{has_cr, is_comment_line}

-- ---- reading

read_from_snoc : (l : Line) (p : List ℕ) (b : ℕ) → read_from l (p ++ (b ∷ [])) ≡ joined (read_from l p) b
read_from_snoc l [] b = refl
read_from_snoc l (a ∷ p) b = read_from_snoc (joined l a) p b

pub read_snoc : (p : List ℕ) (b : ℕ) → read (p ++ (b ∷ [])) ≡ joined (read p) b
read_snoc p b = read_from_snoc (record { ended = []; word = [] }) p b

pub joined_space : (l : Line) (b : ℕ) → is_space b ≡ true → joined l b ≡ parted l.ended l.word
joined_space l b e = simp e

pub joined_byte : (l : Line) (b : ℕ) → is_space b ≡ false → joined l b ≡ record { ended = l.ended; word = l.word ++ (b ∷ []) }
joined_byte l b e = simp e

-- ---- the CR at the end

pub without_cr_lem : (p : List ℕ) → without_cr (p ++ (13 ∷ [])) ≡ p
without_cr_lem [] = refl
without_cr_lem (a ∷ []) = refl
without_cr_lem (a ∷ c ∷ p) = ap (λ (q : List ℕ). a ∷ q) (without_cr_lem (c ∷ p))

pub with_other : (p : List ℕ) (b : ℕ) → (b ≡ 13 → ⊥) → without_cr (p ++ (b ∷ [])) ≡ p ++ (b ∷ [])
with_other [] b other = simp (ne_eqb b 13 other)
with_other (a ∷ []) b other = ap (λ (q : List ℕ). a ∷ q) (with_other [] b other)
with_other (a ∷ c ∷ p) b other = ap (λ (q : List ℕ). a ∷ q) (with_other (c ∷ p) b other)

-- ---- a word

both : (x : Bool) {y : Bool} → y ≡ true → (if x then true else y) ≡ true
both true e = refl
both false e = e

pub cr_stays : (w : List ℕ) (b : ℕ) → has_cr w ≡ true → has_cr (w ++ (b ∷ [])) ≡ true
cr_stays [] b e = absurd_cr e
  where
    absurd_cr : false ≡ true → has_cr (b ∷ []) ≡ true
    absurd_cr d = cc
cr_stays (a ∷ w) b e = by (eqb a 13) (cr_stays w b) e
  where
    by : (x : Bool) → (has_cr w ≡ true → has_cr (w ++ (b ∷ [])) ≡ true) → (if x then true else has_cr w) ≡ true → (if x then true else has_cr (w ++ (b ∷ []))) ≡ true
    by true h d = refl
    by false h d = h d

pub cr_comes : (w : List ℕ) → has_cr (w ++ (13 ∷ [])) ≡ true
cr_comes [] = refl
cr_comes (a ∷ w) = both (eqb a 13) (cr_comes w)

pub comment_stays : (w : List ℕ) (b : ℕ) → (w ≡ [] → ⊥) → is_comment (w ++ (b ∷ [])) ≡ is_comment w
comment_stays [] b some = absurd (some refl)
comment_stays (a ∷ w) b some = refl

pub comment_first : (w : List ℕ) (b : ℕ) → w ≡ [] → is_comment (w ++ (b ∷ [])) ≡ eqb b 35
comment_first w b e = ap (λ (v : List ℕ). is_comment (v ++ (b ∷ []))) e

-- a word that is a comment stays one
comment_word : (w : List ℕ) (b : ℕ) → is_comment w ≡ true → is_comment (w ++ (b ∷ [])) ≡ true
comment_word [] b e = cc
comment_word (a ∷ w) b e = e

comment_parted : (e : List (List ℕ)) (w : List ℕ) → is_comment_line e w ≡ true → is_comment_line (parted e w).ended (parted e w).word ≡ true
comment_parted [] [] c = c
comment_parted [] (b ∷ w) c = c
comment_parted (f ∷ e) [] c = c
comment_parted (f ∷ e) (b ∷ w) c = c

comment_byte : (e : List (List ℕ)) (w : List ℕ) (b : ℕ) → is_comment_line e w ≡ true → is_comment_line e (w ++ (b ∷ [])) ≡ true
comment_byte [] w b c = comment_word w b c
comment_byte (f ∷ e) w b c = c

-- and so does the line
pub comment_joined : (l : Line) (b : ℕ) → is_comment_line l.ended l.word ≡ true → is_comment_line (joined l b).ended (joined l b).word ≡ true
comment_joined l b c = by (parted l.ended l.word) (record { ended = l.ended; word = l.word ++ (b ∷ []) }) (is_space b) (comment_parted l.ended l.word c) (comment_byte l.ended l.word b c)
  where
    by :
        (m n : Line) (space : Bool) → is_comment_line m.ended m.word ≡ true → is_comment_line n.ended n.word ≡ true
        → is_comment_line (if space then m else n).ended (if space then m else n).word ≡ true
    by m n true x y = x
    by m n false x y = y

-- ---- lists

pub map_snoc : (l : List (List ℕ)) (w : List ℕ) → map argument_of (l ++ (w ∷ [])) ≡ map argument_of l ++ (argument_of w ∷ [])
map_snoc [] w = refl
map_snoc (v ∷ l) w = ap (λ (t : List Argument). argument_of v ∷ t) (map_snoc l w)
