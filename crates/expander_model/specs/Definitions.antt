-- Definitions, and what a name resolves to. (The Rust Reference, "Macros By Example".)
use Rattle.std.specs.Prelude.{ℕ, refl, Bool, true, false, ◌&&◌, ◌||◌, List, if◌then◌else◌, Option, Some, None, find, unwrap_or, is_some, codes}
use Rattle.std.specs.Coded.{Coded, code_by, coded×, coded_bool, coded_option}
use Rattle.tt_data.specs.Coded.{forest_code}
use Rattle.tt_data.specs.Forest.{Forest, leaf, group}
use Rattle.tt_data.specs.declared.delimiter.Delimiter.{Delimiter}
use Rattle.tt_data.specs.declared.delimiter.DelimiterKind.TheVariants.{Parenthesis, Brace, Bracket}
use Rattle.tt_data.specs.contracts.leaf.Ident as ident_row
use Rattle.tt_data.specs.declared.leaf.Ident.{Ident}
use Rattle.tt_data.specs.declared.leaf.Leaf.TheVariants as as_leaf
use Rattle.tt.specs.FirstTrees.{first_ident, first_punct, first_group}
use Rattle.bridge.specs.Text.{same_kind, is_char}
use Rattle.cfg_options.specs.small_grammar.Text.{same_text, has_text, ◌>>=◌, ◌>>◌, is_empty}
use Rattle.cfg_options.specs.Conditions.{or_else}

-- a definition of a macro
pub record Definition : Type 0 where
  pub name : Ident
  -- the group before the body, of a `macro` with a single rule
  pub arguments : Option Forest
  pub body : Forest
  -- parsed as a `macro`, not as a `macro_rules`
  pub is_macro : Bool
  -- the whole piece, with its attributes
  pub piece : Forest

-- a definition is coded as its parts
abbrev pub definition_code : Coded Definition
definition_code =
    code_by (Ident × (Option Forest × (Forest × (Bool × Forest))))
    (coded× ident_row.the_row.coded
    (coded× (coded_option forest_code) (coded× forest_code (coded× coded_bool forest_code))))
    (λ d. (d.name, (d.arguments, (d.body, (d.is_macro, d.piece)))))
    (λ p. record {
      name = p.0;
      arguments = p.1.0;
      body = p.1.1.0;
      is_macro = p.1.1.1.0;
      piece = p.1.1.1.1;
    })
    (λ _. refl)

-- what follows an outer attribute at the beginning
abbrev pub after_attribute : Forest → Option Forest
after_attribute f = do
  (p, after_pound) ← first_punct f
  is_char "#" p
  (d, inner, rest) ← first_group after_pound
  same_kind d.kind Bracket
  Some rest

-- what follows the outer attributes at the beginning
abbrev pub after_attributes : Forest → Forest
after_attributes (leaf (as_leaf.Punct p) (group d inner rest)) =
    if is_char "#" p && same_kind d.kind Bracket then after_attributes rest
    else leaf (as_leaf.Punct p) (group d inner rest)
after_attributes f = f

-- what follows a parenthesis group at the beginning
abbrev pub after_parenthesis : Forest → Option Forest
after_parenthesis f = do
  (d, inner, rest) ← first_group f
  same_kind d.kind Parenthesis
  Some rest

-- what follows this word, which isn't raw, at the beginning
abbrev pub after_word : List ℕ → Forest → Option Forest
after_word word f = do
  (w, rest) ← first_ident f
  has_text word w
  Some rest

-- one of the outer attributes of a piece begins with this word
abbrev pub has_attribute : List ℕ → Forest → Bool
has_attribute word (leaf (as_leaf.Punct p) (group d inner rest)) =
    (is_char "#" p && same_kind d.kind Bracket)
    && (is_some (after_word word inner) || has_attribute word rest)
has_attribute word f = false

-- what follows a `pub`, with its parenthesis group, at the beginning
abbrev pub after_pub : Forest → Option Forest
after_pub f = do
  rest ← after_word (codes "pub") f
  Some (unwrap_or (after_parenthesis rest) rest)

-- exactly a `;`
abbrev pub is_semicolon : Forest → Bool
is_semicolon f = is_some (do
  (p, rest) ← first_punct f
  is_char ";" p
  is_empty rest >> Some p)

-- a `macro_rules` definition ends with a brace group, or with another visible group and `;`
abbrev pub ends_definition : Delimiter → Forest → Bool
ends_definition d f =
    (same_kind d.kind Brace && is_empty f)
    || ((same_kind d.kind Parenthesis || same_kind d.kind Bracket) && is_semicolon f)

-- what follows `macro_rules !` at the beginning
abbrev pub after_macro_rules : Forest → Option Forest
after_macro_rules f = do
  rest ← after_word (codes "macro_rules") f
  (bang, after_bang) ← first_punct rest
  is_char "!" bang
  Some after_bang

-- `macro_rules ! name { .. }`
abbrev pub macro_rules_of : Forest → Forest → Option Definition
macro_rules_of piece f = do
  after ← after_macro_rules f
  (name, after_name) ← first_ident after
  (d, body, rest) ← first_group after_name
  ends_definition d rest
  Some (record { name = name; arguments = None; body = body; is_macro = false; piece = piece })

-- the body of a `macro`: `{ .. }`, or after its one rule's matcher, `(..) { .. }`
abbrev pub macro_body : Forest → Option (Option Forest × Forest)
macro_body f = do
  (d, inner, rest) ← first_group f
  if is_empty rest then same_kind d.kind Brace >> Some (None, inner) else (do
    same_kind d.kind Parenthesis
    (e, body, last) ← first_group rest
    same_kind e.kind Brace && is_empty last
    Some (Some inner, body))

-- `macro name { .. }` or `macro name(..) { .. }`
abbrev pub macro_of : Forest → Forest → Option Definition
macro_of piece f = do
  after ← after_word (codes "macro") f
  (name, after_name) ← first_ident after
  (arguments, body) ← macro_body after_name
  Some (record { name = name; arguments = arguments; body = body; is_macro = true; piece = piece })

-- the definition that a piece is, or none if it is plain
abbrev pub definition_of : Forest → Option Definition
definition_of piece =
    let rest : Forest = after_attributes piece in
    or_else (macro_rules_of piece rest) (macro_of piece (unwrap_or (after_pub rest) rest))

-- what a name resolves to among the definitions before, given nearest first: `r#` is ignored
abbrev pub nearest : List Definition → List ℕ → Option Definition
nearest before name = find (λ (d : Definition). same_text d.name.sym name) before
