-- What the table says of the first trees of its nodes.
use Rattle.std.specs.Prelude.{ℕ, ◌/◌, ◌^◌, Bool, true, ◌&&◌, nat_lt, get_or, List, [], ◌∷◌}
use Rattle.std.specs.Int.{bit_at}
use Rattle.rust_grammar.specs.Classes.{ident_class, sign_class, group_class}
use Rattle.rust_grammar.specs.Table.{set_texts, word_text}
use Rattle.rust_grammar.specs.declared.node.Token.TheVariants as as_token
use Rattle.rust_grammar.specs.declared.node.Token as coded
use Rattle.rust_grammar.specs.declared.table.TheConstants.{IDENTS, STARTS}

-- what the table says of a node: the classes of first trees that it may do something else with than
-- miss, as bits, and from 2 ^ 60 on how many levels of rules it enters before it takes a tree
unfoldable pub starts_at : ℕ → ℕ
starts_at i = get_or STARTS i 0

abbrev pub levels_at : ℕ → ℕ
levels_at i = starts_at i / 2 ^ 60

-- a class is in a set
abbrev pub has_class : ℕ → ℕ → Bool
has_class m c = nat_lt 0 (bit_at m c)

abbrev pub has_classes : ℕ → List ℕ → Bool
has_classes m [] = true
has_classes m (c ∷ cs) = has_class m c && has_classes m cs

abbrev pub has_signs : ℕ → List (List ℕ) → Bool
has_signs m [] = true
has_signs m ([] ∷ ws) = has_signs m ws
has_signs m ((c ∷ cs) ∷ ws) = has_class m (sign_class c) && has_signs m ws

-- the classes of all trees that a token fits at are in a set
abbrev pub has_token : ℕ → coded.Token → Bool
has_token m (as_token.Word k) = has_class m (ident_class (word_text k))
has_token m as_token.Name = has_class m 6 && has_classes m IDENTS
has_token m as_token.Identifier = has_class m 6 && has_classes m IDENTS
has_token m as_token.Literal = has_class m 1
has_token m as_token.Number = has_class m 1
has_token m (as_token.Group kind) = has_class m (group_class kind)
has_token m as_token.Restriction = has_class m 2
has_token m as_token.ConstBracket = has_class m 4
has_token m (as_token.Punct c) = has_class m (sign_class c)
has_token m (as_token.TwoPuncts c d) = has_class m (sign_class c)
has_token m (as_token.OneOf k) = has_signs m (set_texts k)
