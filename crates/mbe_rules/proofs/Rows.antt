-- Worked examples, by computation: the rules that are parsed from a definition.
use Rattle.std.proofs.Common.{◌≡◌, refl, List, [], ◌∷◌, Option, Some, None, codes, map, Ok}
use Rattle.std.specs.Prelude.{slice_index}
use Prim.Native.String.{String}
use Rattle.tt_data.specs.Names.{ident_of}
use Rattle.tt_data.specs.Spans.{no_span}
use Rattle.tt_data.specs.declared.delimiter.DelimiterKind.TheVariants.{Bracket}
use Rattle.tt_data.specs.declared.edition.Edition.{Edition}
use Rattle.tt_data.specs.declared.edition.Edition.TheVariants.{Edition2015, Edition2018, Edition2021, Edition2024}
use Rattle.tt_data.specs.declared.leaf.LitKind.TheVariants.{Integer}
use Rattle.tt_data.specs.declared.leaf.Punct.{Punct}
use Rattle.tt_data.specs.declared.leaf.Spacing.{Spacing}
use Rattle.tt_data.specs.declared.leaf.Spacing.TheVariants.{Alone, Joint}
use Rattle.mbe_rules.specs.declared.errors.ParseError.{ParseError}
use Rattle.mbe_rules.specs.declared.errors.ParseError.TheVariants.{UnexpectedToken, Expected, InvalidRepeat, RepetitionEmptyTokenTree}
use Rattle.mbe_rules.specs.declared.macro_call_style.MacroCallStyle.{MacroCallStyle}
use Rattle.mbe_rules.specs.declared.macro_call_style.MacroCallStyle.TheVariants.{FnLike, Attr, Derive}
use Rattle.mbe_rules.specs.declared.parser.MetaVarKind.{MetaVarKind}
use Rattle.mbe_rules.specs.declared.parser.MetaVarKind.TheVariants as kind
use Rattle.mbe_rules.specs.declared.parser.RepeatKind.TheVariants.{ZeroOrMore, OneOrMore, ZeroOrOne}
use Rattle.mbe_rules.specs.Items.{itself, value_of, Dollar, variable, count_of, index_of, len_of, ignore_of, concat_of, word, puncts, lifetime, dollar, literal_between, ident_between, lifetime_between, puncts_between, Items, done, item, group_of, repetition, Rules}
use Rattle.mbe_rules.specs.Expressions.{expression_in}
use Rattle.mbe_rules.specs.Parsed.{Parsed}
use Rattle.mbe_rules.specs.Patterns.{in_pattern, in_template, items_of}
use Rattle.mbe_rules.specs.Parsing.{macro_rules_of, macro_of}
use Rattle.mbe_rules.proofs.Written.{trees, word_of, number_of}

abbrev asked : {A : Type 0} → (String → A) → List (String × A) → List A
asked f rows = map (λ r. f r.0) rows

abbrev wanted : {A : Type 0} → List (String × A) → List A
wanted rows = map (λ r. r.1) rows

-- ---- lists of items, whole

abbrev pattern : String → Parsed Items
pattern text = items_of (λ c. Edition2024) in_pattern (trees text)

abbrev template : String → Parsed Items
template text = items_of (λ c. Edition2024) in_template (trees text)

abbrev punct : String → Spacing → Punct
punct c spacing = record { char = slice_index (codes c) 0; spacing = spacing; span = no_span }

abbrev begins : Dollar → Items → Items
begins d rest = item (dollar d no_span) rest

abbrev a_word : String → Items → Items
a_word text rest = item (word (word_of (codes text))) rest

abbrev one_punct : String → Items → Items
one_punct c rest = item (puncts (punct c Alone ∷ [])) rest

abbrev bound : String → Option MetaVarKind → Dollar
bound text k = variable (codes text) k

patterns : List (String × Parsed Items)
patterns =
    ("", Ok done)
    ∷ ("$x:expr", Ok (begins (bound "x" (Some kind.Expr)) done))
    ∷ ("$r#x: r#tt y", Ok (begins (bound "x" (Some kind.Tt)) (a_word "y" done)))
    ∷ ("$_:foo", Ok (begins (bound "_" None) done))
    ∷ ("$crate", Ok (a_word "$crate" done))
    ∷ ("a $", Ok (a_word "a" (one_punct "$" done)))
    ∷ ("..= + =", Ok (item (puncts (punct "." Joint ∷ punct "." Joint ∷ punct "=" Alone ∷ [])) (one_punct "+" (one_punct "=" done))))
    ∷ ("'a b", Ok (item (lifetime (punct "'" Joint) (ident_of (codes "a") no_span)) (a_word "b" done)))
    ∷ ("[1u8] b", Ok (group_of (record { open_span = no_span; close_span = no_span; kind = Bracket }) (item (word (number_of (codes "1") (codes "u8"))) done) (a_word "b" done)))
    ∷ ("$(a)* b", Ok (repetition (a_word "a" done) None ZeroOrMore (a_word "b" done)))
    ∷ ("$(a),+", Ok (repetition (a_word "a" done) (Some (puncts_between (punct "," Joint ∷ []))) OneOrMore done))
    ∷ ("$(a);;;?", Ok (repetition (a_word "a" done) (Some (puncts_between (punct ";" Joint ∷ punct ";" Joint ∷ punct ";" Joint ∷ []))) ZeroOrOne done))
    ∷ ("$(a)+*", Ok (repetition (a_word "a" done) None OneOrMore (one_punct "*" done)))
    ∷ ("$(a)x*", Ok (repetition (a_word "a" done) (Some (ident_between (ident_of (codes "x") no_span))) ZeroOrMore done))
    ∷ ("$(a)'x*", Ok (repetition (a_word "a" done) (Some (lifetime_between (punct "'" Joint) (ident_of (codes "x") no_span))) ZeroOrMore done))
    ∷ ("$(a)1?", Ok (repetition (a_word "a" done) (Some (literal_between (record { text = codes "1"; suffix = []; kind = Integer; span = no_span }))) ZeroOrOne done))
    ∷ []

patterns-rows : asked pattern patterns ≡ wanted patterns
unfolding patterns
patterns-rows = refl

templates : List (String × Parsed Items)
templates =
    ("$x:expr", Ok (begins (bound "x" None) (one_punct ":" (a_word "expr" done))))
    ∷ ("$true", Ok (begins (bound "true" None) done))
    ∷ ("$$ x $", Ok (one_punct "$" (a_word "x" (one_punct "$" done))))
    ∷ ("$crate::f", Ok (a_word "$crate" (item (puncts (punct ":" Joint ∷ punct ":" Alone ∷ [])) (a_word "f" done))))
    ∷ ("'a", Ok (item (puncts (punct "'" Joint ∷ [])) (a_word "a" done)))
    ∷ ("$($x)*", Ok (repetition (begins (bound "x" None) done) None ZeroOrMore done))
    ∷ ("${index()} a", Ok (begins (index_of 0) (a_word "a" done)))
    ∷ []

templates-rows : asked template templates ≡ wanted templates
unfolding templates
templates-rows = refl

-- a literal of the text `true` can stand for a name
a_literal_as_name : template "$\"true\"" ≡ Ok (begins (bound "true" None) done)
a_literal_as_name = refl

-- ---- expressions

abbrev expression : String → Option Dollar
expression text = expression_in (trees text)

expressions : List (String × Option Dollar)
expressions =
    ("count($x)", Some (count_of (codes "x") 0))
    ∷ ("count($x,)", Some (count_of (codes "x") 0))
    ∷ ("count($x, 2)", Some (count_of (codes "x") 2))
    ∷ ("count($x, 2) $y, 3", Some (count_of (codes "x") 2))
    ∷ ("r#count($r#x)", Some (count_of (codes "x") 0))
    ∷ ("index()", Some (index_of 0))
    ∷ ("index(1)", Some (index_of 1))
    ∷ ("index(\"+1\")", Some (index_of 1))
    ∷ ("index(\"007\")", Some (index_of 7))
    ∷ ("index(18446744073709551615) left over", Some (index_of 18446744073709551615))
    ∷ ("len(3)", Some (len_of 3))
    ∷ ("ignore($x)", Some (ignore_of (codes "x")))
    ∷ ("concat(a, 1u8)", Some (concat_of (itself (codes "a") ∷ itself (codes "1") ∷ [])))
    ∷ ("concat(_, $x, \"b\",)", Some (concat_of (itself (codes "_") ∷ value_of (codes "x") ∷ itself (codes "b") ∷ [])))
    ∷ ("concat(a, $b,)", Some (concat_of (itself (codes "a") ∷ value_of (codes "b") ∷ [])))
    ∷ ("concat($_, $crate)", Some (concat_of (value_of (codes "_") ∷ value_of (codes "crate") ∷ [])))
    ∷ ("", None)
    ∷ ("count", None)
    ∷ ("count()", None)
    ∷ ("count(x)", None)
    ∷ ("count($_)", None)
    ∷ ("count($x 1)", None)
    ∷ ("count($x,,)", None)
    ∷ ("count($x, \"\")", None)
    ∷ ("count($x, 99999999999999999999)", None)
    ∷ ("count($x, 1, 2)", None)
    ∷ ("index[1]", None)
    ∷ ("index(1u8)", None)
    ∷ ("index(-1)", None)
    ∷ ("index(\"\")", None)
    ∷ ("index(\"+\")", None)
    ∷ ("index(\"++1\")", None)
    ∷ ("index(\"-0\")", None)
    ∷ ("index(1,)", None)
    ∷ ("index(99999999999999999999)", None)
    ∷ ("index(18446744073709551616)", None)
    ∷ ("index(1 2)", None)
    ∷ ("len($x)", None)
    ∷ ("ignore()", None)
    ∷ ("ignore($x,)", None)
    ∷ ("ignore($_)", None)
    ∷ ("concat()", None)
    ∷ ("concat(a)", None)
    ∷ ("concat(a,)", None)
    ∷ ("concat(,)", None)
    ∷ ("concat(, a, b)", None)
    ∷ ("concat(a, $)", None)
    ∷ ("concat(a, $\"b\")", None)
    ∷ ("concat(a b)", None)
    ∷ ("concat(a,, b)", None)
    ∷ ("concat(a, (b))", None)
    ∷ ("concat(a, -b)", None)
    ∷ ("length($x)", None)
    ∷ ("left over index(1)", None)
    ∷ ("\"index\"(1)", None)
    ∷ []

expressions-rows : asked expression expressions ≡ wanted expressions
unfolding expressions
expressions-rows = refl

-- ---- kinds, by the edition of the word

abbrev kind_in : Edition → String → Parsed Items
kind_in e text = items_of (λ c. e) in_pattern (trees text)

abbrev one_of_kind : MetaVarKind → Parsed Items
one_of_kind k = Ok (begins (bound "x" (Some k)) done)

kinds : List (String × Parsed Items)
kinds =
    ("$x:path", one_of_kind kind.Path)
    ∷ ("$x:ty", one_of_kind kind.Ty)
    ∷ ("$x:pat", one_of_kind kind.Pat)
    ∷ ("$x:pat_param", one_of_kind kind.PatParam)
    ∷ ("$x:stmt", one_of_kind kind.Stmt)
    ∷ ("$x:block", one_of_kind kind.Block)
    ∷ ("$x:meta", one_of_kind kind.Meta)
    ∷ ("$x:item", one_of_kind kind.Item)
    ∷ ("$x:vis", one_of_kind kind.Vis)
    ∷ ("$x:expr", one_of_kind kind.Expr)
    ∷ ("$x:expr_2021", one_of_kind kind.Expr2021)
    ∷ ("$x:ident", one_of_kind kind.Ident)
    ∷ ("$x:tt", one_of_kind kind.Tt)
    ∷ ("$x:lifetime", one_of_kind kind.Lifetime)
    ∷ ("$x:literal", one_of_kind kind.Literal)
    ∷ []

kinds-rows : asked (kind_in Edition2024) kinds ≡ wanted kinds
unfolding kinds
kinds-rows = refl

patterns_by_edition : map (λ e. kind_in e "$x:pat") (Edition2015 ∷ Edition2018 ∷ Edition2021 ∷ Edition2024 ∷ [])
    ≡ one_of_kind kind.PatParam ∷ one_of_kind kind.PatParam ∷ one_of_kind kind.Pat ∷ one_of_kind kind.Pat ∷ []
patterns_by_edition = refl

expressions_by_edition : map (λ e. kind_in e "$x:expr") (Edition2015 ∷ Edition2018 ∷ Edition2021 ∷ Edition2024 ∷ [])
    ≡ one_of_kind kind.Expr2021 ∷ one_of_kind kind.Expr2021 ∷ one_of_kind kind.Expr2021 ∷ one_of_kind kind.Expr ∷ []
expressions_by_edition = refl

-- ---- definitions: the styles of their rules, and the fault

abbrev told : Rules → List MacroCallStyle × Option ParseError
told r = (map (λ x. x.style) r.list, r.err)

abbrev macro_rules : String → List MacroCallStyle × Option ParseError
macro_rules text = told (macro_rules_of (λ c. Edition2024) (trees text))

abbrev unexpected : String → Option ParseError
unexpected text = Some (UnexpectedToken (codes text))

abbrev expected : String → Option ParseError
expected text = Some (Expected (codes text))

definitions : List (String × (List MacroCallStyle × Option ParseError))
definitions =
    ("", ([], None))
    ∷ ("() => {}", (FnLike ∷ [], None))
    ∷ ("(a) => {b};", (FnLike ∷ [], None))
    ∷ ("(a) => [b]; {c} => (d)", (FnLike ∷ FnLike ∷ [], None))
    ∷ ("attr(a) (b) => {}; derive() (c) => {}; unsafe (d) => {}; unsafe attr() () => {}", (Attr ∷ Derive ∷ FnLike ∷ Attr ∷ [], None))
    ∷ ("r#unsafe r#derive() () => {}", (Derive ∷ [], None))
    ∷ ("(m!{}) => { 1 }; (2) => { 3 }", (FnLike ∷ FnLike ∷ [], None))
    ∷ ("($($x:ident),*) => { ${count($x)} $( ${concat(get_, $x)} ${index()} )* }", (FnLike ∷ [], None))
    ∷ ("(a) => {b} (c) => {d}", (FnLike ∷ [], expected "expected `;`"))
    ∷ ("(a) => {b}, (c) => {d}", (FnLike ∷ [], expected "expected `;`"))
    ∷ ("(a) => {b};; (c) => {d}", (FnLike ∷ [], expected "expected subtree"))
    ∷ ("()", ([], expected "expected `=`"))
    ∷ ("() = {}", ([], expected "expected `>`"))
    ∷ ("() =>", ([], expected "expected subtree"))
    ∷ ("a", ([], expected "expected subtree"))
    ∷ ("attr => {}", ([], expected "expected `()`"))
    ∷ ("unsafe derive", ([], expected "expected `()`"))
    ∷ ("attr() => {}", ([], expected "expected subtree"))
    ∷ ("($x) => {}", ([], unexpected "missing fragment specifier"))
    ∷ ("($x:) => {}", ([], unexpected "missing fragment specifier"))
    ∷ ("($x:_) => {}", ([], unexpected "missing fragment specifier"))
    ∷ ("($x:foo) => {}", (FnLike ∷ [], None))
    ∷ ("($1) => {}", ([], expected "expected ident"))
    ∷ ("($+) => {}", ([], expected "expected ident"))
    ∷ ("($$) => {}", ([], unexpected "`$$` is not allowed on the pattern side"))
    ∷ ("(${index()}) => {}", ([], unexpected "`${}` metavariable expressions are not allowed in matchers"))
    ∷ ("() => {$+}", ([], expected "expected ident"))
    ∷ ("() => {${}}", ([], unexpected "invalid metavariable expression"))
    ∷ ("() => {${concat(a)}}", ([], unexpected "invalid metavariable expression"))
    ∷ ("() => {${count($x, 99999999999999999999)}}", ([], unexpected "invalid metavariable expression"))
    ∷ ("() => {$[]}", ([], expected "expected `$()` repetition or `${}` expression"))
    ∷ ("($[]) => {}", ([], expected "expected `$()` repetition or `${}` expression"))
    ∷ ("(') => {}", ([], unexpected "quote without a name"))
    ∷ ("(' 1) => {}", ([], unexpected "quote without a name"))
    ∷ ("() => {'}", (FnLike ∷ [], None))
    ∷ ("($($x)) => {}", ([], Some InvalidRepeat))
    ∷ ("($(a)'*) => {}", ([], Some InvalidRepeat))
    ∷ ("($(a),,,,*) => {}", ([], Some InvalidRepeat))
    ∷ ("($(a)1 2*) => {}", ([], Some InvalidRepeat))
    ∷ ("($(a), 'x*) => {}", ([], Some InvalidRepeat))
    ∷ ("($(a)[]*) => {}", ([], Some InvalidRepeat))
    ∷ ("($(a)==) => {}", ([], Some InvalidRepeat))
    ∷ ("() => {$(a)}", ([], Some InvalidRepeat))
    ∷ ("($()*) => {}", (FnLike ∷ [], Some RepetitionEmptyTokenTree))
    ∷ ("($(),*) => {}", (FnLike ∷ [], None))
    ∷ ("($(())*) => {}", (FnLike ∷ [], None))
    ∷ ("() => {$()*}", (FnLike ∷ [], None))
    ∷ ("($($v:vis)?) => {}", (FnLike ∷ [], Some RepetitionEmptyTokenTree))
    ∷ ("($($($v:vis),+)*) => {}", (FnLike ∷ [], Some RepetitionEmptyTokenTree))
    ∷ ("($($(a)* $(b)?)+) => {}", (FnLike ∷ [], Some RepetitionEmptyTokenTree))
    ∷ ("($($(a)+)+) => {}", (FnLike ∷ [], None))
    ∷ ("([$($($v:vis)+),*]) => {}", (FnLike ∷ [], Some RepetitionEmptyTokenTree))
    -- what is told first: the shape of a rule before its pattern, that before its template, a repetition's operator
    -- before its items, and an empty iteration in a rule that comes before all of these
    ∷ ("($x) =", ([], expected "expected `>`"))
    ∷ ("($x) => {$+}", ([], unexpected "missing fragment specifier"))
    ∷ ("(a) => {b}; ($x) => {}; c", (FnLike ∷ [], unexpected "missing fragment specifier"))
    ∷ ("($()*) => {} ()", (FnLike ∷ [], Some RepetitionEmptyTokenTree))
    ∷ ("($()*) => {}; ($x) => {}", (FnLike ∷ [], Some RepetitionEmptyTokenTree))
    ∷ ("($x) => {}; ($()*) => {}", ([], unexpected "missing fragment specifier"))
    ∷ ("($()* $x) => {}", ([], unexpected "missing fragment specifier"))
    ∷ []

definitions-rows : asked macro_rules definitions ≡ wanted definitions
unfolding definitions
definitions-rows = refl

abbrev macro : String → List MacroCallStyle × Option ParseError
macro text = told (macro_of (λ c. Edition2024) None (trees text))

definitions_by_macro : List (String × (List MacroCallStyle × Option ParseError))
definitions_by_macro =
    ("() => { 1 }, (a) => { 2 }", (FnLike ∷ FnLike ∷ [], None))
    ∷ ("() => { 1 }; (a) => { 2 },", (FnLike ∷ FnLike ∷ [], None))
    ∷ ("attr() () => { 1 }", (Attr ∷ [], None))
    ∷ ("() => { 1 } (a) => { 2 }", (FnLike ∷ [], expected "expected `;` or `,` to delimit rules"))
    ∷ ("($()*) => {}", (FnLike ∷ [], Some RepetitionEmptyTokenTree))
    ∷ []

definitions_by_macro-rows : asked macro definitions_by_macro ≡ wanted definitions_by_macro
unfolding definitions_by_macro
definitions_by_macro-rows = refl

-- a macro with arguments is one rule
abbrev macro_with : String → String → List MacroCallStyle × Option ParseError
macro_with arguments text = told (macro_of (λ c. Edition2024) (Some (trees arguments)) (trees text))

with_arguments : macro_with "$a:ident" "$a" ≡ (FnLike ∷ [], None)
with_arguments = refl

fault_in_arguments : macro_with "$a" "$+" ≡ ([], unexpected "missing fragment specifier")
fault_in_arguments = refl

fault_in_its_template : macro_with "$a:ident" "$+" ≡ ([], expected "expected ident")
fault_in_its_template = refl

empty_round_in_arguments : macro_with "$()*" "" ≡ (FnLike ∷ [], Some RepetitionEmptyTokenTree)
empty_round_in_arguments = refl
