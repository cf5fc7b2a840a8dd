-- Pieces: what a text's top list is cut into, each a definition or plain. (Of this project.)
use Rattle.std.specs.Prelude.{Bool, false, ◌&&◌, ◌||◌, List, [], ◌∷◌, if◌then◌else◌}
use Rattle.tt_data.specs.Forest.{Forest, empty, leaf, group, joined}
use Rattle.tt_data.specs.declared.delimiter.Delimiter.{Delimiter}
use Rattle.tt_data.specs.declared.delimiter.DelimiterKind.TheVariants.{Brace, Bracket}
use Rattle.bridge.specs.Text.{same_kind, is_punct}
-- `separated`: each `;` of a list has spacing `Alone`; `relative`: piece-relative spans
pub use Rattle.bridge.specs.Pieces.{separated, first_start, moved_back, relative}

-- exactly `#` and `!`
abbrev pub is_pound_bang : Forest → Bool
is_pound_bang (leaf l (leaf m empty)) = is_punct "#" l && is_punct "!" m
is_pound_bang _ = false

-- a group ends a piece if it is in braces, or in brackets after exactly `#` and `!`
abbrev pub ends_piece : Forest → Delimiter → Bool
ends_piece begun d = same_kind d.kind Brace || (same_kind d.kind Bracket && is_pound_bang begun)

-- the pieces of a list of trees, where `begun` came before it since the last cut; a cut comes
-- after each `;` and after each group that ends a piece
abbrev pub cut_from : Forest → Forest → List Forest
cut_from empty empty = []
cut_from empty begun = begun ∷ []
cut_from (leaf l rest) begun =
    if is_punct ";" l then joined begun (leaf l empty) ∷ cut_from rest empty
    else cut_from rest (joined begun (leaf l empty))
cut_from (group d inner rest) begun =
    if ends_piece begun d then joined begun (group d inner empty) ∷ cut_from rest empty
    else cut_from rest (joined begun (group d inner empty))

-- the pieces of a list of trees
abbrev pub cut : Forest → List Forest
cut f = cut_from f empty

-- pieces joined, one after another
abbrev pub put_together : List Forest → Forest
put_together [] = empty
put_together (p ∷ ps) = joined p (put_together ps)

-- the pieces of a text's top list
abbrev pub pieces : Forest → List Forest
pieces f = cut (separated f)
