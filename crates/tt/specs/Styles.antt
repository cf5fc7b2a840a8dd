-- The two styles of writing, as the code names them, and the space before the next token.
use Rattle.std.specs.Prelude.{ℕ, List, [], ◌++◌, Bool, codes, if◌then◌else◌}
use Rattle.tt_data.specs.declared.leaf.Spacing.{Spacing}
use Rattle.tt.specs.declared.display.Style.{Style}
use Rattle.tt.specs.declared.display.Style.TheVariants.{Displayed, Pretty}
use Rattle.tt_data.specs.declared.delimiter.DelimiterKind.{DelimiterKind}
use Rattle.tt_data.specs.declared.delimiter.DelimiterKind.TheVariants.{Invisible}
use Rattle.tt.specs.Texts.{touches_displayed, touches_pretty, opening_text}

-- which puncts touch what follows
abbrev pub touches_in : Style → Spacing → Bool
touches_in Displayed = touches_displayed
touches_in Pretty = touches_pretty

-- a space, or nothing
abbrev pub space_if : Bool → List ℕ
space_if spaced = if spaced then codes " " else []

-- the bracket that opens a group, after `space`; invisible brackets have no text
abbrev pub opening_after : List ℕ → DelimiterKind → List ℕ
opening_after space Invisible = []
opening_after space kind = space ++ opening_text kind

-- what comes before the next token after that bracket, and after the one that closes the group
abbrev pub space_behind_opening : List ℕ → DelimiterKind → List ℕ
space_behind_opening space Invisible = space
space_behind_opening space kind = []

abbrev pub space_behind_closing : List ℕ → DelimiterKind → List ℕ
space_behind_closing space Invisible = space
space_behind_closing space kind = codes " "
