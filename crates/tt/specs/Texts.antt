-- The text of a list of trees: its tokens, with spaces between them.
use Rattle.std.specs.Prelude.{ℕ, List, [], ◌∷◌, ◌++◌, Bool, true, false, codes, if◌then◌else◌}
use Rattle.tt_data.specs.declared.delimiter.DelimiterKind.{DelimiterKind}
use Rattle.tt_data.specs.declared.delimiter.DelimiterKind.TheVariants.{Parenthesis, Brace, Bracket, Invisible}
use Rattle.tt_data.specs.declared.leaf.Leaf.{Leaf}
use Rattle.tt_data.specs.declared.leaf.Leaf.TheVariants as as_leaf
use Rattle.tt_data.specs.declared.leaf.Spacing.{Spacing}
use Rattle.tt_data.specs.declared.leaf.Spacing.TheVariants.{Alone, Joint, JointHidden}
use Rattle.tt_data.specs.Displayed.{displayed_leaf}
use Rattle.tt_data.specs.Forest.{Forest}
use Rattle.tt_data.specs.Walk.{Step, at_leaf, opens, closes, walk}

-- the bracket that opens a group of this kind, and the one that closes it
abbrev pub opening_text : DelimiterKind → List ℕ
opening_text Parenthesis = codes "("
opening_text Brace = codes "{"
opening_text Bracket = codes "["
opening_text Invisible = []

abbrev pub closing_text : DelimiterKind → List ℕ
closing_text Parenthesis = codes ")"
closing_text Brace = codes "}"
closing_text Bracket = codes "]"
closing_text Invisible = []

-- in displayed text a punct that isn't `Alone` touches what follows
abbrev pub touches_displayed : Spacing → Bool
touches_displayed Alone = false
touches_displayed Joint = true
touches_displayed JointHidden = true

-- in pretty text a punct that is `Joint` touches what follows
abbrev pub touches_pretty : Spacing → Bool
touches_pretty Alone = false
touches_pretty Joint = true
touches_pretty JointHidden = false

module _ (touches : Spacing → Bool) where
  -- what comes between a leaf and the token after it: a space, or nothing
  abbrev pub space_after : Leaf → List ℕ
  space_after (as_leaf.Punct p) = if touches p.spacing then [] else codes " "
  space_after l = codes " "

  -- the text of events, with `space` before the first token; invisible brackets have no text
  abbrev pub text_after : List ℕ → List Step → List ℕ
  text_after space [] = []
  text_after space (at_leaf l ∷ more) = space ++ (displayed_leaf l ++ text_after (space_after l) more)
  text_after space (opens Invisible at ∷ more) = text_after space more
  text_after space (opens kind at ∷ more) = space ++ (opening_text kind ++ text_after [] more)
  text_after space (closes Invisible at ∷ more) = text_after space more
  text_after space (closes kind at ∷ more) = closing_text kind ++ text_after (codes " ") more

-- the text of a list of trees as it is displayed
abbrev pub displayed_text : Forest → List ℕ
displayed_text f = text_after touches_displayed [] (walk f)

-- the text of a list of trees in the pretty style
abbrev pub pretty_text : Forest → List ℕ
pretty_text f = text_after touches_pretty [] (walk f)
