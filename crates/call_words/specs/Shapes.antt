-- Which arguments a line has, in the order of docs/CALLS.md. Assumes nothing.
use Rattle.std.specs.Prelude.{ℕ, Bool, true, false, List, eqb, if◌then◌else◌}
use Rattle.call_words.specs.Text.{bytes, pairwise}
use Rattle.call_words.specs.declared.names.Name.{Name}
use Rattle.call_words.specs.declared.names.Name.TheVariants.{Lend, Word, Open, Push, SetAction, ClearAction, SetTimer, ClearTimer, PickNext, SimNetworkStack, Show, Words, TakeSecond, Pack}
use Rattle.call_words.specs.declared.shapes.Argument.{Argument}
use Rattle.call_words.specs.declared.shapes.Form.{Form}
use Rattle.call_words.specs.declared.shapes.Form.TheVariants.{Flag, Number, Side, Absent}

-- a flag is a number too
abbrev pub numeric : Form → Bool
numeric Flag = true
numeric Number = true
numeric _ = false

abbrev pub is_flag : Form → Bool
is_flag Flag = true
is_flag _ = false

abbrev pub is_side : Form → Bool
is_side Side = true
is_side _ = false

abbrev pub is_absent : Form → Bool
is_absent Absent = true
is_absent _ = false

-- whether a word of this form can stand where the shape has this letter: n number (110), f flag (102), s side (115), else rate
unfoldable pub stands : Form → ℕ → Bool
stands form letter =
    if eqb letter 110 then numeric form
    else if eqb letter 102 then is_flag form
    else if eqb letter 115 then is_side form else if is_absent form then true else numeric form

-- whether there are as many arguments as the shape has letters, each of its form
abbrev pub fits : List Argument → List ℕ → Bool
fits arguments shape = pairwise (λ a letter. stands a.form letter) arguments shape

-- the shape of each line's arguments
abbrev pub shape_of : Name → List ℕ
shape_of (Lend block) = bytes "n"
shape_of (Word block) = bytes "nn"
shape_of Open = bytes "nrrnnnnnnn"
shape_of Push = bytes "nnnsfffn"
shape_of SetAction = bytes "snnnnff"
shape_of ClearAction = bytes "sn"
shape_of SetTimer = bytes "snn"
shape_of ClearTimer = bytes "sn"
shape_of PickNext = bytes "n"
shape_of SimNetworkStack = bytes "nnnnsfffn"
shape_of Show = bytes ""
shape_of (Words block) = bytes ""
shape_of TakeSecond = bytes ""
shape_of Pack = bytes ""
