-- The two parts of the lent words: what `&block[..256]` and `&block[256..]` are. Assumes nothing.
use Prim.Native.Nat.{ℕ, ◌-◌, ◌≤◌}
use mathlib.Core.Path.{◌≡◌, ap, ◌∙◌}
use mathlib.Core.List.{List, ◌++◌, append-nil}
use native.Mathlib.Omega.{arith}
use lib.ListN.{length, take, drop, length-drop, drop_of_length-le}
use lib.Seq.{take_all, length-take-le}
use borrow.Rule.Slice.PartMut.{put_mid}

pub rest_part : (w : List ℕ) → take (length w - 256) (drop 256 w) ≡ drop 256 w
rest_part w = take_all (length w - 256) (drop 256 w) (omega (arith, length-drop 256 w))

pub head_length : (w : List ℕ) → 260 ≤ length w → length (take 256 w) ≡ 256
head_length w h = length-take-le 256 w (omega arith)

-- what the block is after `&mut block[256..]` was written
pub back_is : (xs ys : List ℕ) → put_mid 256 (length xs - 256) xs ys ≡ take 256 xs ++ ys
back_is xs ys =
    ap (λ (r : List ℕ). take 256 xs ++ (ys ++ r)) (drop_of_length-le (drop 256 xs) {i = length xs - 256} (omega (arith, length-drop 256 xs)))
    ∙ ap (λ (r : List ℕ). take 256 xs ++ r) (append-nil ys)
