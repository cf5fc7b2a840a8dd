-- Types and patterns by what they begin with: the forms in the order in which the code tries them
use Rattle.std.specs.Prelude.{ℕ, ◌&&◌, not, nat_eq, Option, Some}
use Rattle.tt.specs.FirstTrees.{first_punct}
use Rattle.tt.specs.Glued.{is_alone}
use Rattle.tt_data.specs.Forest.{Forest}
use Rattle.small_grammar.specs.Text.{◌>>=◌, ◌>>◌}
use Rattle.small_grammar.specs.Expressions.{Expression, ◌⨾◌, ◌∣◌, many, maybe}
use Rattle.small_grammar.specs.SmallGrammar.{lifetime, arrow, tpath, bound, num, path, name, word, paren, brace, bracket, group, single, glued}

-- what may come before a type
abbrev pub type_sign : Expression
type_sign = single "&" ⨾ maybe lifetime ⨾ maybe (word "mut") ∣ single "*" ⨾ (word "const" ∣ word "mut")

-- the other alternatives of a type
abbrev pub bare_type : Expression
bare_type =
    (word "dyn" ∣ word "impl") ⨾ bound ⨾ many (single "+" ⨾ bound)
    ∣ word "fn" ⨾ paren ⨾ arrow
    ∣ word "_" ∣ single "!" ∣ paren ∣ bracket
    ∣ tpath ⨾ maybe (single "!" ⨾ group)

-- a reference before a pattern
abbrev pub reference_sign : Expression
reference_sign = glued "& &&" ⨾ maybe (word "mut")

-- a name before a pattern
abbrev pub binding_sign : Expression
binding_sign = maybe (word "ref") ⨾ maybe (word "mut") ⨾ name ⨾ glued "@"

-- the other alternatives of a pattern
unfoldable pub bare_pattern : Expression
bare_pattern =
    word "_" ∣ glued ".." ∣ num ⨾ maybe (glued "..= .." ⨾ num) ∣ word "true" ∣ word "false"
    ∣ paren ∣ bracket
    ∣ (word "ref" ⨾ maybe (word "mut") ∣ word "mut") ⨾ name
    ∣ path ⨾ maybe (paren ∣ brace ∣ glued "!" ⨾ group)

-- a punct of this character that isn't `Alone`
abbrev pub joint_punct : ℕ → Forest → Option Forest
joint_punct c f = do
  (p, rest) ← first_punct f
  nat_eq p.char c && not (is_alone p.spacing)
  Some rest
