-- Which line a first word names, as docs/CALLS.md lists them. Assumes nothing.
use Rattle.std.specs.Prelude.{ℕ, List, Option, Some, None, if◌then◌else◌}
use Rattle.call_words.specs.Text.{bytes, same}
use Rattle.call_words.specs.declared.names.Block.TheVariants.{First, Second}
use Rattle.call_words.specs.declared.names.Name.{Name}
use Rattle.call_words.specs.declared.names.Name.TheVariants.{Lend, Word, Open, Push, SetAction, ClearAction, SetTimer, ClearTimer, PickNext, SimNetworkStack, Show, Words, TakeSecond, Pack}

-- packing, and the lines on the second block
unfoldable pub named_second : List ℕ → Option Name
named_second w =
    if same w (bytes "pack") then Some Pack
    else if same w (bytes "lend_second") then Some (Lend Second)
    else if same w (bytes "word_second") then Some (Word Second)
    else if same w (bytes "words_second") then Some (Words Second)
    else if same w (bytes "take_second") then Some TakeSecond else None

-- opening, and the lines on the first block
unfoldable pub named_words : List ℕ → Option Name
named_words w =
    if same w (bytes "open") then Some Open
    else if same w (bytes "lend") then Some (Lend First)
    else if same w (bytes "word") then Some (Word First) else if same w (bytes "words") then Some (Words First) else named_second w

-- setting and clearing
unfoldable pub named_slot : List ℕ → Option Name
named_slot w =
    if same w (bytes "set_action") then Some SetAction
    else if same w (bytes "clear_action") then Some ClearAction
    else if same w (bytes "set_timer") then Some SetTimer
    else if same w (bytes "clear_timer") then Some ClearTimer else named_words w

-- the line that a first word names, where it names one
unfoldable pub named : List ℕ → Option Name
named w =
    if same w (bytes "push") then Some Push
    else if same w (bytes "pick_next") then Some PickNext
    else if same w (bytes "sim_network_stack") then Some SimNetworkStack
    else if same w (bytes "show") then Some Show else named_slot w
