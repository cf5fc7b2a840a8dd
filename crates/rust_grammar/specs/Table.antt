-- What the table of nodes stands for: the expression of each node, and of each rule.
use Rattle.std.specs.Prelude.{ℕ, ◌+◌, ◌-◌, Bool, true, ◌&&◌, IsTrue, nat_lt, get_or, map, List, [], ◌∷◌}
use Rattle.tt_data.specs.declared.edition.Edition.{Edition}
use Rattle.small_grammar.specs.Tokens as small
use Rattle.small_grammar.specs.declared.units.Operator.{Operator}
use Rattle.small_grammar.specs.declared.units.Operator.TheVariants.{One, Two, Three}
use Rattle.rust_grammar.specs.Answer.{rules_to}
use Rattle.rust_grammar.specs.Expressions.{Expression, token, since, ◌⨾◌, ◌∣◌, many, maybe, surely, unless, rule, Taking, taken}
use Rattle.rust_grammar.specs.Names.{Name, names, entry_visibility}
use Rattle.rust_grammar.specs.Tokens.{Token, fixed, a_name, a_literal, one_of, a_const_bracket}
use Rattle.rust_grammar.specs.declared.node.Node.{Node}
use Rattle.rust_grammar.specs.declared.node.Node.TheVariants as node
use Rattle.rust_grammar.specs.declared.node.Token.TheVariants as as_token
use Rattle.rust_grammar.specs.declared.node.Token as coded
use Rattle.rust_grammar.specs.declared.table.TheConstants.{NODES, ROOTS, SETS, WORDS}

-- the characters of an operator
abbrev pub letters : Operator → List ℕ
letters (One a) = a ∷ []
letters (Two a b) = a ∷ b ∷ []
letters (Three a b c) = a ∷ b ∷ c ∷ []

-- the word at a place of the table of words
unfoldable pub word_text : ℕ → List ℕ
word_text k = get_or (map (λ w. w.now) WORDS) k []

-- the operators at a place of the table of sets
unfoldable pub set_texts : ℕ → List (List ℕ)
set_texts k = get_or (map (λ s. map letters s.now) SETS) k []

-- the rule of a number
unfoldable pub name_at : ℕ → Name
name_at k = get_or names k entry_visibility

abbrev pub token_of : coded.Token → Token
token_of (as_token.Word k) = fixed (small.a_word (word_text k))
token_of as_token.Name = a_name
token_of as_token.Identifier = fixed small.an_identifier
token_of as_token.Literal = a_literal
token_of as_token.Number = fixed small.a_number
token_of (as_token.Group kind) = fixed (small.a_group kind)
token_of as_token.Restriction = fixed small.a_restriction
token_of as_token.ConstBracket = a_const_bracket
token_of (as_token.Punct c) = fixed (small.puncts (c ∷ []))
token_of (as_token.TwoPuncts c d) = fixed (small.puncts (c ∷ d ∷ []))
token_of (as_token.OneOf k) = one_of (set_texts k)

-- the expression at a place of a list
abbrev pub at : List Expression → ℕ → Expression
at es i = get_or es i (token a_name)

-- what a node stands for, given the expressions of the nodes so many places further on
abbrev pub stands : Node → (ℕ → Expression) → Expression
stands (node.Token t) part = token (token_of t)
stands (node.Since first) part = since first
stands (node.Then n) part = part 1 ⨾ part n
stands (node.Or n) part = part 1 ∣ part n
stands node.Many part = many (part 1)
stands node.Maybe part = maybe (part 1)
stands node.Surely part = surely (part 1)
stands node.Unless part = unless (part 1)
stands (node.Rule k) part = rule (name_at k)

-- the expressions of nodes
abbrev pub expressions : List Node → List Expression
expressions [] = []
expressions (n ∷ ns) = (let es : List Expression = expressions ns in stands n (λ m. at es (m - 1)) ∷ es)

-- the node at a place of the table
unfoldable pub node_at : ℕ → Node
node_at i = get_or NODES i node.Many

-- the expression at a place of the table
unfoldable pub expression_at : ℕ → Expression
expression_at i = at (expressions NODES) i

-- the place of a rule's first node
unfoldable pub root_at : ℕ → ℕ
root_at k = get_or ROOTS k 0

-- a token of the tables
abbrev pub is_sound_token : coded.Token → Bool
is_sound_token (as_token.Word k) = nat_lt k 54
is_sound_token (as_token.OneOf k) = nat_lt k 23
is_sound_token _ = true

-- the node at a place of the table has its parts in the table, behind it
abbrev pub is_sound : ℕ → Node → Bool
is_sound i (node.Token t) = is_sound_token t
is_sound i (node.Since first) = true
is_sound i (node.Then n) = nat_lt 1 n && nat_lt (i + n) 1564
is_sound i (node.Or n) = nat_lt 1 n && nat_lt (i + n) 1564
is_sound i node.Many = nat_lt (i + 1) 1564
is_sound i node.Maybe = nat_lt (i + 1) 1564
is_sound i node.Surely = nat_lt (i + 1) 1564
is_sound i node.Unless = nat_lt (i + 1) 1564
is_sound i (node.Rule k) = nat_lt k 94

-- what comes of the expression of a node, with so many levels of rules left
abbrev pub comes_at : Edition → ℕ → ℕ → Taking
comes_at edition levels place f = taken edition (rules_to edition levels) (expression_at place) f

-- so it is for the node at this place
abbrev pub IsSound : ℕ → Node → Type 0
IsSound i n = IsTrue (is_sound i n)
