-- What a line leaves, by what it asks for. Assumes nothing.
use Rattle.std.specs.Prelude.{Bool, true, false}
use Rattle.call_words.specs.declared.asked.Asked.{Asked}
use Rattle.call_words.specs.declared.asked.Asked.TheVariants.{Lend, Word, Open, Make, Show, Words, TakeSecond, Pack}
use Rattle.call_words.specs.declared.names.Block.{Block}
use Rattle.call_words.specs.declared.names.Block.TheVariants.{First, Second}

abbrev pub is_second : Block → Bool
is_second First = false
is_second Second = true

-- whether it leaves the words of the first block: it lends or writes the second, packs into it, or lists
abbrev pub leaves_first : Asked → Bool
leaves_first (Lend block n) = true
leaves_first (Word block i v) = is_second block
leaves_first (Open o) = false
leaves_first (Make c) = false
leaves_first Show = true
leaves_first (Words block) = true
leaves_first TakeSecond = false
leaves_first Pack = true
