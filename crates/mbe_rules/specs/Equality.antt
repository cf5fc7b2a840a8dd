-- When two ops are equal by `==`: if their parts are, spans included; separators by their texts.
use Rattle.std.specs.Prelude.{◌≡◌, ℕ, Bool, true, false, ◌&&◌, List, [], ◌∷◌, Option, Some, None, nat_eq}
use Rattle.std.specs.Cmp.{IsEquivalence, equiv, partial_equiv_from_equiv, and_equiv, on_equiv, nat_eq_equiv, first_so, second_so}
use Rattle.std.specs.Cmp.Lexicographic.{pointwise, lists_equiv, options_equiv}
use Rattle.std.specs.Option.{option_eq}
use Rattle.symbols.specs.contracts.symbol.SymbolPartialEq.TheImpl as of_name
use Rattle.symbols.specs.contracts.symbol.SymbolEq.TheImpl.Laws as name_laws
use Rattle.tt_data.specs.contracts.delimiter.DelimiterPartialEq.TheImpl as of_delimiter
use Rattle.tt_data.specs.contracts.delimiter.DelimiterEq.TheImpl.Laws as delimiter_laws
use Rattle.tt_data.specs.contracts.leaf.IdentPartialEq.TheImpl as of_ident
use Rattle.tt_data.specs.contracts.leaf.IdentEq.TheImpl.Laws as ident_laws
use Rattle.tt_data.specs.contracts.leaf.LiteralPartialEq.TheImpl as of_literal
use Rattle.tt_data.specs.contracts.leaf.LiteralEq.TheImpl.Laws as literal_laws
use Rattle.tt_data.specs.contracts.leaf.PunctPartialEq.TheImpl as of_punct
use Rattle.tt_data.specs.contracts.leaf.PunctEq.TheImpl.Laws as punct_laws
use Rattle.tt_data.specs.contracts.span.SpanPartialEq.TheImpl as of_span
use Rattle.tt_data.specs.contracts.span.SpanEq.TheImpl.Laws as span_laws
use Rattle.tt_data.specs.declared.delimiter.Delimiter.{Delimiter}
use Rattle.tt_data.specs.declared.leaf.Ident.{Ident}
use Rattle.tt_data.specs.declared.leaf.Literal.{Literal}
use Rattle.tt_data.specs.declared.leaf.Punct.{Punct}
use Rattle.tt_data.specs.declared.span.Span.{Span}
use Rattle.mbe_rules.specs.contracts.parser.ConcatElementPartialEq.TheImpl as of_element
use Rattle.mbe_rules.specs.contracts.parser.ConcatElementEq.TheImpl.Laws as element_laws
use Rattle.mbe_rules.specs.contracts.parser.MetaVarKindPartialEq.TheImpl as of_kind
use Rattle.mbe_rules.specs.contracts.parser.MetaVarKindEq.TheImpl.Laws as kind_laws
use Rattle.mbe_rules.specs.contracts.parser.RepeatKindPartialEq.TheImpl as of_operator
use Rattle.mbe_rules.specs.contracts.parser.RepeatKindEq.TheImpl.Laws as operator_laws
use Rattle.mbe_rules.specs.contracts.parser.SeparatorPartialEq.TheImpl as of_separator
use Rattle.mbe_rules.specs.contracts.parser.SeparatorEq.TheImpl.Laws as separator_laws
use Rattle.mbe_rules.specs.declared.parser.ConcatElement.{ConcatElement}
use Rattle.mbe_rules.specs.declared.parser.MetaVarKind.{MetaVarKind}
use Rattle.mbe_rules.specs.declared.parser.Op.{Op, Var, Count, Index, Len, Ignore, Concat, Literal as literal, Ident as ident, Punct as punct, Lifetime, Repeat', Subtree', Row_of-Op, end_of-Op, more_of-Op}
use Rattle.mbe_rules.specs.declared.parser.RepeatKind.{RepeatKind}
use Rattle.mbe_rules.specs.declared.parser.Separator.{Separator}

-- ---- the parts of an op, but for those inside it

-- the number of its sort
abbrev pub sort_of : Op → ℕ
sort_of (Var n k s) = 0
sort_of (Count n d s) = 1
sort_of (Index d s) = 2
sort_of (Len d s) = 3
sort_of (Ignore n s) = 4
sort_of (Concat es s) = 5
sort_of (Repeat' shape row sep k) = 6
sort_of (Subtree' shape row d) = 7
sort_of (literal l) = 8
sort_of (ident i) = 9
sort_of (punct ps) = 10
sort_of (Lifetime p i) = 11

-- the name of a metavariable
abbrev pub name_of : Op → Option (List ℕ)
name_of (Var n k s) = Some n
name_of (Count n d s) = Some n
name_of (Ignore n s) = Some n
name_of _ = None

-- its fragment specifier
abbrev pub kind_of : Op → Option MetaVarKind
kind_of (Var n k s) = k
kind_of _ = None

-- the depth of a metavariable expression
abbrev pub depth_of : Op → ℕ
depth_of (Count n d s) = d
depth_of (Index d s) = d
depth_of (Len d s) = d
depth_of _ = 0

-- the span of the `$`
abbrev pub id_of : Op → Option Span
id_of (Var n k s) = Some s
id_of (Count n d s) = Some s
id_of (Index d s) = Some s
id_of (Len d s) = Some s
id_of (Ignore n s) = Some s
id_of (Concat es s) = Some s
id_of _ = None

-- the parts of `${concat(..)}`
abbrev pub elements_of : Op → List ConcatElement
elements_of (Concat es s) = es.items
elements_of _ = []

abbrev pub literal_of : Op → Option Literal
literal_of (literal l) = Some l
literal_of _ = None

-- an identifier, or the name behind a quote
abbrev pub ident_of : Op → Option Ident
ident_of (ident i) = Some i
ident_of (Lifetime p i) = Some i
ident_of _ = None

-- the quote before a name
abbrev pub quote_of : Op → Option Punct
quote_of (Lifetime p i) = Some p
quote_of _ = None

abbrev pub puncts_of : Op → List Punct
puncts_of (punct ps) = ps.items
puncts_of _ = []

-- the separator of a repetition
abbrev pub separator_of : Op → Option Separator
separator_of (Repeat' shape row sep k) = sep
separator_of _ = None

-- the operator of a repetition
abbrev pub operator_of : Op → Option RepeatKind
operator_of (Repeat' shape row sep k) = Some k
operator_of _ = None

-- the delimiter of a group
abbrev pub delimiter_of : Op → Option Delimiter
delimiter_of (Subtree' shape row d) = Some d
delimiter_of _ = None

-- ---- ops without those inside them

-- sorts, names, fragment specifiers, depths and spans are equal
abbrev pub same_names : Op → Op → Bool
same_names a b =
    nat_eq (sort_of a) (sort_of b)
    && (option_eq of_name.ghosts.eq (name_of a) (name_of b)
    && (option_eq of_kind.ghosts.eq (kind_of a) (kind_of b)
    && (nat_eq (depth_of a) (depth_of b)
    && option_eq of_span.ghosts.eq (id_of a) (id_of b))))

-- literals, identifiers, puncts and parts of `${concat(..)}` are equal
abbrev pub same_leaves : Op → Op → Bool
same_leaves a b =
    option_eq of_literal.ghosts.eq (literal_of a) (literal_of b)
    && (option_eq of_ident.ghosts.eq (ident_of a) (ident_of b)
    && (option_eq of_punct.ghosts.eq (quote_of a) (quote_of b)
    && (pointwise of_punct.ghosts.eq (puncts_of a) (puncts_of b)
    && pointwise of_element.ghosts.eq (elements_of a) (elements_of b))))

-- separators are alike, and operators and delimiters equal
abbrev pub same_marks : Op → Op → Bool
same_marks a b =
    option_eq of_separator.ghosts.eq (separator_of a) (separator_of b)
    && (option_eq of_operator.ghosts.eq (operator_of a) (operator_of b)
    && option_eq of_delimiter.ghosts.eq (delimiter_of a) (delimiter_of b))

-- two ops are equal but for those inside them
abbrev pub same_head : Op → Op → Bool
same_head a b = same_names a b && (same_leaves a b && same_marks a b)

-- ---- ops with those inside them

-- a list of ops: each has a list inside, which is empty but for groups and repetitions
pub data Heads : Type 0 where
  no_more : Heads
  head : Op → (inside : Heads) → (rest : Heads) → Heads

abbrev mutual
  -- the ops inside an op
  pub inside_of : Op → Heads
  inside_of (Repeat' shape row sep k) = row_heads row
  inside_of (Subtree' shape row d) = row_heads row
  inside_of _ = no_more

  pub row_heads : {m : _} → Row_of-Op m → Heads
  row_heads end_of-Op = no_more
  row_heads (more_of-Op o row) = head o (inside_of o) (row_heads row)

-- the ops of a list
abbrev pub heads_of : List Op → Heads
heads_of [] = no_more
heads_of (o ∷ os) = head o (inside_of o) (heads_of os)

-- two lists are equal, op by op
abbrev pub same_heads : Heads → Heads → Bool
same_heads no_more no_more = true
same_heads (head a is more) (head b js others) = same_head a b && (same_heads is js && same_heads more others)
same_heads _ _ = false

-- two ops are equal
abbrev pub same_op : Op → Op → Bool
same_op a b = same_head a b && same_heads (inside_of a) (inside_of b)

-- ---- each of these is an equivalence

pub same_head_equiv : IsEquivalence same_head
same_head_equiv =
    and_equiv
    (and_equiv (on_equiv sort_of nat_eq_equiv)
    (and_equiv (on_equiv name_of (options_equiv name_laws.laws-law))
    (and_equiv (on_equiv kind_of (options_equiv kind_laws.laws-law))
    (and_equiv (on_equiv depth_of nat_eq_equiv) (on_equiv id_of (options_equiv span_laws.laws-law))))))
    (and_equiv
    (and_equiv (on_equiv literal_of (options_equiv literal_laws.laws-law))
    (and_equiv (on_equiv ident_of (options_equiv ident_laws.laws-law))
    (and_equiv (on_equiv quote_of (options_equiv punct_laws.laws-law))
    (and_equiv (on_equiv puncts_of (lists_equiv punct_laws.laws-law)) (on_equiv elements_of (lists_equiv element_laws.laws-law))))))
    (and_equiv (on_equiv separator_of (options_equiv separator_laws.laws-law))
    (and_equiv (on_equiv operator_of (options_equiv operator_laws.laws-law)) (on_equiv delimiter_of (options_equiv delimiter_laws.laws-law)))))

same_heads_refl : (is : Heads) → same_heads is is ≡ true
same_heads_refl no_more = λ i. true
same_heads_refl (head a is more) = λ i. same_head_equiv.refl a i && (same_heads_refl is i && same_heads_refl more i)

same_heads_symm : (is js : Heads) → same_heads is js ≡ same_heads js is
same_heads_symm no_more no_more = λ i. true
same_heads_symm no_more (head b js others) = λ i. false
same_heads_symm (head a is more) no_more = λ i. false
same_heads_symm (head a is more) (head b js others) =
    λ i. same_head_equiv.symm a b i && (same_heads_symm is js i && same_heads_symm more others i)

same_heads_trans : (is js ks : Heads) → same_heads is js ≡ true → same_heads js ks ≡ true → same_heads is ks ≡ true
same_heads_trans no_more no_more ks h k = k
same_heads_trans no_more (head b js others) ks h k = absurd (cc h)
same_heads_trans (head a is more) no_more ks h k = absurd (cc h)
same_heads_trans (head a is more) (head b js others) no_more h k = k
same_heads_trans (head a is more) (head b js others) (head c ks rest) h k =
    let x = (partial_equiv_from_equiv same_head_equiv).trans a b c (first_so (same_head a b) _ h) (first_so (same_head b c) _ k) in
    let p = second_so (same_head a b) (same_heads is js && same_heads more others) h in
    let q = second_so (same_head b c) (same_heads js ks && same_heads others rest) k in
    let y = same_heads_trans is js ks (first_so (same_heads is js) _ p) (first_so (same_heads js ks) _ q) in
    let z = same_heads_trans more others rest (second_so (same_heads is js) _ p) (second_so (same_heads js ks) _ q) in
    λ i. x i && (y i && z i)

pub same_heads_equiv : IsEquivalence same_heads
same_heads_equiv = equiv (record { symm = same_heads_symm; trans = same_heads_trans }) same_heads_refl

pub same_op_equiv : IsEquivalence same_op
same_op_equiv = and_equiv same_head_equiv (on_equiv inside_of same_heads_equiv)
