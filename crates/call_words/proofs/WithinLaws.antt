-- Only `lend` and `word`, of either block, can go past the words: a line of another name is never bad by its arguments' values. docs/PORT.md names it. Assumes nothing.
use mathlib.Core.Path.{◌≡◌, refl}
use mathlib.Core.Bool.{Bool, true, false}
use mathlib.Core.List.{List}
use Rattle.call_words.specs.Asked.{Asks, bad, asks, passed_over, opens, makes, lends, lends_second, writes, writes_second, lists, lists_second, shows, takes_second, packs}
use Rattle.call_words.specs.declared.names.Block.{Block}
use Rattle.call_words.specs.declared.names.Block.TheVariants.{First, Second}
use Rattle.call_words.specs.declared.names.Name.{Name}
use Rattle.call_words.specs.declared.names.Name.TheVariants.{Lend, Word, Open, Push, SetAction, ClearAction, SetTimer, ClearTimer, PickNext, SimNetworkStack, Show, Words, TakeSecond, Pack}
use Rattle.call_words.specs.declared.shapes.Argument.{Argument}

-- what is asked for is no bad line
abbrev pub stays : Asks → Bool
stays bad = false
stays passed_over = true
stays (opens o) = true
stays (makes c) = true
stays (lends n) = true
stays (lends_second n) = true
stays (writes i v) = true
stays (writes_second i v) = true
stays lists = true
stays lists_second = true
stays shows = true
stays takes_second = true
stays packs = true

pub others_within : (name : Name) (a : List Argument) → ((b : Block) → name ≡ Lend b → ⊥) → ((b : Block) → name ≡ Word b → ⊥) → true ≡ stays (asks name a)
unfolding asks
others_within (Lend b) a l w = absurd (l b refl)
others_within (Word b) a l w = absurd (w b refl)
others_within Open a l w = refl
others_within Push a l w = refl
others_within SetAction a l w = refl
others_within ClearAction a l w = refl
others_within SetTimer a l w = refl
others_within ClearTimer a l w = refl
others_within PickNext a l w = refl
others_within SimNetworkStack a l w = refl
others_within Show a l w = refl
others_within (Words First) a l w = refl
others_within (Words Second) a l w = refl
others_within TakeSecond a l w = refl
others_within Pack a l w = refl
