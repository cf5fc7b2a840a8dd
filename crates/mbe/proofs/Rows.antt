-- Worked examples, by computation: which rule fits an argument, and what it gives.
use Rattle.std.proofs.Common.{◌≡◌, refl, ℕ, zero, suc, ◌+◌, Bool, true, false, List, [], ◌∷◌, ◌++◌, Option, Some, None, option_map, codes, map}
use Rattle.std.specs.Fmt.{digits}
use Prim.Native.String.{String}
use Rattle.tt_data.specs.Forest.{Forest, empty, leaf, group, shape, size}
use Rattle.tt_data.specs.Spans.{no_span, leaf_with, delimiter_with, span_of}
use Rattle.tt_data.specs.declared.delimiter.DelimiterKind.TheVariants.{Invisible}
use Rattle.tt_data.specs.declared.edition.Edition.{Edition}
use Rattle.tt_data.specs.declared.edition.Edition.TheVariants.{Edition2021, Edition2024}
use Rattle.tt_data.specs.declared.leaf.IdentIsRaw.TheVariants.{No, Yes}
use Rattle.tt_data.specs.declared.leaf.Leaf.TheVariants as as_leaf
use Rattle.tt_data.specs.declared.span.Span.{Span}
use Rattle.tt_data.specs.declared.span.SyntaxContext.{SyntaxContext}
use Rattle.tt_data.specs.declared.span.SyntaxContext.TheVariants.{Written, Made}
use Rattle.mbe_transcriber.specs.mbe_matcher.fragment_grammar.Steps.{steps}
use Rattle.mbe_transcriber.specs.mbe_matcher.fragment_grammar.declared.fragment.Prefix.{Prefix}
use Rattle.mbe_transcriber.specs.mbe_matcher.fragment_grammar.declared.fragment.PrefixEntryPoint.TheVariants.{Vis}
use Rattle.mbe_rules.specs.Items.{Rule, Rules}
use Rattle.mbe_rules.specs.Parsing.{macro_rules_of}
use Rattle.mbe_rules.specs.Text.{is_char}
use Rattle.mbe_rules.specs.declared.macro_call_style.MacroCallStyle.TheVariants.{FnLike, Derive}
use Rattle.mbe_rules.specs.declared.parser.MetaVarKind.{MetaVarKind}
use Rattle.mbe_rules.specs.declared.parser.MetaVarKind.TheVariants as kind
use Rattle.mbe_rules.proofs.Written.{trees}
use Rattle.mbe_transcriber.specs.mbe_matcher.Bindings.{bindings}
use Rattle.mbe.specs.Fit.{fit}
use Rattle.mbe_transcriber.specs.Limits.{most_rounds}
use Rattle.mbe_transcriber.specs.mbe_matcher.Fragments.{taken}
use Rattle.mbe_transcriber.specs.mbe_matcher.Grammar.{Grammar}
use Rattle.mbe_transcriber.specs.Output.{output}
use Rattle.mbe_transcriber.specs.mbe_matcher.Readings.{the_reading}

-- ---- grammars of the rows

-- one step of every entry; nothing, for `vis`, where nothing is there
abbrev one_step : Grammar
one_step Vis empty = record { tokens = 0; fault = false }
one_step _ empty = record { tokens = 0; fault = true }
one_step _ _ = record { tokens = 1; fault = false }

-- all up to a comma, and no `vis`
abbrev steps_to_comma : Forest → ℕ
steps_to_comma empty = 0
steps_to_comma (leaf (as_leaf.Punct p) rest) = elim (is_char "," p) [ true ↦ 0 | false ↦ suc (steps_to_comma rest) ]
steps_to_comma (leaf l rest) = suc (steps_to_comma rest)
steps_to_comma (group d inner rest) = suc (steps inner) + suc (steps_to_comma rest)

abbrev answer_of : ℕ → Prefix
answer_of zero = record { tokens = 0; fault = true }
answer_of (suc n) = record { tokens = suc n; fault = false }

abbrev to_comma : Grammar
to_comma Vis f = record { tokens = 0; fault = false }
to_comma _ f = answer_of (steps_to_comma f)

-- ---- what is asked

abbrev any_text : List ℕ → Bool
any_text text = true

abbrev made : Span → Span
made s = record s { ctx = Made }

abbrev rules_in : Edition → Forest → Rules
rules_in e body = macro_rules_of (λ c. e) body

-- the number of the rule that fits and what it gives, without places
abbrev run : Edition → Grammar → Forest → Forest → Option (ℕ × Forest)
run e g body argument =
    option_map (λ (r : ℕ × Forest). (r.0, shape r.1)) (fit any_text g made (rules_in e body).list FnLike argument)

-- a definition, an argument, the rule that fits and what it gives
abbrev Row : Type 0
Row = String × (String × Option (ℕ × String))

abbrev asked : Edition → Grammar → List Row → List (Option (ℕ × Forest))
asked e g rows = map (λ (r : Row). run e g (trees r.0) (trees r.1.0)) rows

abbrev wanted : List Row → List (Option (ℕ × Forest))
wanted rows = map (λ (r : Row). option_map (λ (w : ℕ × String). (w.0, trees w.1)) r.1.1) rows

-- ---- of one step

of_one_step : List Row
of_one_step =
    ("($a:ident $b:tt) => { $b $a }", ("x y", Some (0, "y x")))
    ∷ ("(struct $n:ident) => { struct $n { m: ::std::C<()>, } };", ("struct T", Some (0, "struct T { m: ::std::C<()>, }")))
    ∷ ("($x:tt) => { /$x }", ("/", Some (0, "//")))
    ∷ ("($a:tt) => { x +$a 1 }", ("=", Some (0, "x += 1")))
    ∷ ("() => { $y }", ("", Some (0, "$ y")))
    ∷ ("() => { $$ x $ }", ("", Some (0, "$ x $")))
    ∷ ("(m!{}) => { 1 }; (2) => { 3 }", ("m!{}", Some (0, "1")))
    ∷ ("(m!{}) => { 1 }; (2) => { 3 }", ("2", Some (1, "3")))
    ∷ ("(1) => { 2 }", ("f!(1)", None))
    ∷ ("(1) => { 2 }", ("\"1\"", Some (0, "2")))
    ∷ ("(1u8) => { 2 }", ("1u16", None))
    ∷ ("(r#a) => { 1 }", ("a", Some (0, "1")))
    ∷ ("(+=) => { 1 }", ("+ =", None))
    ∷ ("(+ =) => { 1 }", ("+=", None))
    ∷ ("('a $l:lifetime) => { $l }", ("'a 'b", Some (0, "'b")))
    ∷ ("(-1) => { -1 }; (-2) => { -2 }; (@$l:literal) => { $l }", ("-1", Some (0, "-1")))
    ∷ ("(-1) => { -1 }; (-2) => { -2 }; (@$l:literal) => { $l }", ("@ -1", Some (2, "-1")))
    ∷ ("(-1) => { -1 }; (-2) => { -2 }; (@$l:literal) => { $l }", ("@ - -1", None))
    ∷ ("($($($x:ident)*;)*) => { $([$($x)*])* }", ("a b; ; c;", Some (0, "[a b] [] [c]")))
    ∷ ("($x:tt $($y:tt)*) => { $($y $($x)*)* }", ("1 a b", Some (0, "a b")))
    ∷ ("($($a:ident)true*) => { $($a)* }", ("a true b", Some (0, "a b")))
    ∷ ("($($a:ident)*) => { $($a) , * }", ("a b c", Some (0, "a, b, c")))
    ∷ ("($($a:ident)*) => { $($a)? }", ("a b", Some (0, "a")))
    ∷ ("($($a:ident)?) => { $($a)* f }", ("", Some (0, "f")))
    ∷ ("($($a:ident)*) => { $(${ignore($a)} f)* }", ("a b", Some (0, "f f")))
    ∷ ("($x:ident $x:ident) => { $x }", ("a b", Some (0, "b")))
    ∷ ("($x:literal) => { ${concat(a, $x)} }", ("1", Some (0, "a1")))
    ∷ []

of_one_step-rows : asked Edition2024 one_step of_one_step ≡ wanted of_one_step
unfolding of_one_step
of_one_step-rows = refl

-- two readings, a place where two may go on, or none
not_read : List Row
not_read =
    ("($($v:vis),*) => { 1 }", ("", None))
    ∷ ("($($x:ident)* end) => {}", ("a end", None))
    ∷ ("($($a:ident),? $x:tt) => {}", ("a ,", None))
    ∷ ("($(a)? $x:ident b) => {}", ("a b", None))
    ∷ ("($($(a)+)*) => {}", ("a a", None))
    ∷ ("($($(a)+)*) => { 1 }", ("a", Some (0, "1")))
    ∷ ("($(a)? $(a)?) => {}", ("a", None))
    ∷ ("($(a)+) => { b }", ("", None))
    ∷ ("($(a)?) => { 1 }", ("a a", None))
    ∷ ("($(a),*) => { 1 }", ("a,", None))
    ∷ ("($x:foo) => {}", ("a", None))
    ∷ ("() => {}", ("a", None))
    ∷ []

not_read-rows : asked Edition2024 one_step not_read ≡ wanted not_read
unfolding not_read
not_read-rows = refl

-- readings whose template is a fault, so that the next rule counts
faults : List Row
faults =
    ("($($a:ident)*) => { $($a)+ }", ("", None))
    ∷ ("($($x:ident)*) => { $x }", ("a", None))
    ∷ ("($($x:ident)*) => { $x }; (a) => { b }", ("a", Some (1, "b")))
    ∷ ("($x:tt) => { $($x)* }", ("1", None))
    ∷ ("($x:tt) => { ${concat(a, $x)} }", ("(b)", None))
    ∷ ("($x:ty) => { ${concat(a, $x)} }", ("b", Some (0, "ab")))
    ∷ ("($x:path) => { ${concat(a, $x)} }", ("b", None))
    ∷ ("() => { ${count($x)} }", ("", None))
    ∷ ("($($a:ident)?) => { ${ignore($a)} }", ("", None))
    ∷ []

faults-rows : asked Edition2024 one_step faults ≡ wanted faults
unfolding faults
faults-rows = refl

-- numbers are written out by `digits`
numbers : List Row
numbers =
    ("($($x:ident),*) => { ${count($x)} $(${concat(get_, $x)} ${index()})* }", ("a, b", Some (0, "2 get_a 0 get_b 1")))
    ∷ ("() => { ${index(1)} ${len()} }", ("", Some (0, "0 0")))
    ∷ ("($($($x:ident)*;)*) => { ${count($x)} ${count($x, 1)} }", ("a b; c;", Some (0, "2 3")))
    ∷ ("($($x:ident)?) => { ${count($x)} }", ("", Some (0, "0")))
    ∷ []

numbers-rows : asked Edition2024 one_step numbers ≡ wanted numbers
unfolding numbers digits
numbers-rows = refl

-- ---- of all up to a comma

up_to_comma : List Row
up_to_comma =
    ("($x:expr) => { $x + $x }", ("3", Some (0, "3 + 3")))
    ∷ ("($x:expr) => { $x + $x }", ("1 + 2", Some (0, "(1 + 2) + (1 + 2)")))
    ∷ ("($p:path) => { $p }", ("Vec<u8>", Some (0, "Vec:: <u8>")))
    ∷ ("($v:vis struct $n:ident) => { $v struct $n; }", ("struct A", Some (0, "struct A;")))
    ∷ ("($($e:expr),* $(,)?) => { $($e); *; }", ("_, const { 1 },", Some (0, "_; (const { 1 });")))
    ∷ []

up_to_comma-rows : asked Edition2024 to_comma up_to_comma ≡ wanted up_to_comma
unfolding up_to_comma
up_to_comma-rows = refl

-- before the edition of 2024 `_` and `const` begin no expression
older : List Row
older =
    ("($($e:expr),* $(,)?) => { $($e); *; }", ("_,", None))
    ∷ ("($($e:expr),* $(,)?) => { $($e); *; }", ("const { 1 },", None))
    ∷ ("($e:expr) => { 1 }", ("r#const", Some (0, "1")))
    ∷ ("($e:expr) => { 1 }", ("r#let", None))
    ∷ []

older-rows : asked Edition2021 to_comma older ≡ wanted older
unfolding older
older-rows = refl

-- ---- what can't be written as a text

invisible : Forest → Forest
invisible inner = group (record { open_span = no_span; close_span = no_span; kind = Invisible }) inner empty

invisible_group_as_a_tree : run Edition2024 one_step (trees "($t:tt) => { $t }") (invisible (trees "a")) ≡ Some (0, trees "a")
unfolding invisible
invisible_group_as_a_tree = refl

invisible_group_in_a_pattern : run Edition2024 one_step (trees "(a) => { 1 }") (invisible (trees "a")) ≡ None
unfolding invisible
invisible_group_in_a_pattern = refl

abbrev named : String → Forest → Forest
named text rest = leaf (as_leaf.Ident (record { sym = codes text; span = no_span; is_raw = No })) rest

the_crate : run Edition2024 one_step (trees "() => { $crate z }") empty ≡ Some (0, named "$crate" (trees "z"))
the_crate = refl

reserved_word_is_raw : run Edition2024 one_step (trees "() => { ${concat(f, n)} }") empty
    ≡ Some (0, leaf (as_leaf.Ident (record { sym = codes "fn"; span = no_span; is_raw = Yes })) empty)
reserved_word_is_raw = refl

-- a text that is no identifier
no_identifier : fit (λ text. false) one_step made (rules_in Edition2024 (trees "() => { ${concat(a, b)} }")).list FnLike empty ≡ None
no_identifier = refl

-- a style that no rule has
other_style : fit any_text one_step made (rules_in Edition2024 (trees "() => {}")).list Derive empty ≡ None
other_style = refl

-- ---- what a variable of each kind takes, in trees

abbrev takes : MetaVarKind → List String → List (Option ℕ)
takes k texts = map (λ text. taken one_step k (trees text)) texts

of_ident : takes kind.Ident ("a b" ∷ "r#fn" ∷ "_" ∷ "r#_" ∷ "1" ∷ "'a" ∷ "(a)" ∷ "" ∷ [])
    ≡ Some 1 ∷ Some 1 ∷ None ∷ None ∷ None ∷ None ∷ None ∷ None ∷ []
of_ident = refl

of_lifetime : takes kind.Lifetime ("'a b" ∷ "'_" ∷ "a" ∷ "'" ∷ "' 1" ∷ "" ∷ [])
    ≡ Some 2 ∷ Some 2 ∷ None ∷ None ∷ None ∷ None ∷ []
of_lifetime = refl

of_literal : takes kind.Literal ("1 2" ∷ "-1" ∷ "true" ∷ "- true" ∷ "r#true" ∷ "a" ∷ "--1" ∷ "-" ∷ "" ∷ [])
    ≡ Some 1 ∷ Some 2 ∷ Some 1 ∷ Some 2 ∷ Some 1 ∷ None ∷ None ∷ None ∷ None ∷ []
of_literal = refl

of_tt : takes kind.Tt ("a b" ∷ "1" ∷ "(a b) c" ∷ "..= a" ∷ "+ =" ∷ "'a b" ∷ "'" ∷ "" ∷ [])
    ≡ Some 1 ∷ Some 1 ∷ Some 1 ∷ Some 3 ∷ Some 1 ∷ Some 2 ∷ None ∷ None ∷ []
of_tt = refl

of_expr : takes kind.Expr ("a" ∷ "let" ∷ "r#let" ∷ "_" ∷ "const" ∷ "" ∷ [])
    ≡ Some 1 ∷ None ∷ None ∷ Some 1 ∷ Some 1 ∷ None ∷ []
of_expr = refl

of_expr_2021 : takes kind.Expr2021 ("a" ∷ "let" ∷ "r#let" ∷ "_" ∷ "r#_" ∷ "const" ∷ "r#const" ∷ [])
    ≡ Some 1 ∷ None ∷ None ∷ None ∷ Some 1 ∷ None ∷ Some 1 ∷ []
of_expr_2021 = refl

-- a step that ends inside a group ends no fragment
of_ty : takes kind.Ty ("a b" ∷ "(a) b" ∷ "" ∷ []) ≡ Some 1 ∷ None ∷ None ∷ []
of_ty = refl

of_vis : takes kind.Vis ("pub a" ∷ "" ∷ []) ≡ Some 1 ∷ Some 0 ∷ []
of_vis = refl

-- ---- places: the tokens of a definition are numbered from 0, those of an argument from 100, by their anchors

abbrev at_anchor : ℕ → Span
at_anchor n = record no_span { anchor = n }

abbrev numbered : ℕ → Forest → Forest
numbered n empty = empty
numbered n (leaf l rest) = leaf (leaf_with (λ s. at_anchor n) l) (numbered (suc n) rest)
numbered n (group d inner rest) =
    group (delimiter_with (λ s. at_anchor n) d) (numbered (suc n) inner) (numbered (suc n + size inner) rest)

-- a place as it is shown: its anchor, and whether its context is written or made
pub data Shown : Type 0 where
  written : ℕ → Shown
  marked : ℕ → Shown

abbrev shown_in : SyntaxContext → ℕ → Shown
shown_in Written n = written n
shown_in Made n = marked n

abbrev shown : Span → Shown
shown s = shown_in s.ctx s.anchor

abbrev places : Forest → List Shown
places empty = []
places (leaf l rest) = shown (span_of l) ∷ places rest
places (group d inner rest) = shown d.open_span ∷ (places inner ++ places rest)

abbrev places_of : Grammar → String → String → Option (List Shown)
places_of g body argument =
    option_map (λ (r : ℕ × Forest). places r.1)
    (fit any_text g made (rules_in Edition2024 (numbered 0 (trees body))).list FnLike (numbered 100 (trees argument)))

-- a template's tokens are marked, an argument's keep their places, and parentheses have that of the `$`
places_of_parentheses : places_of to_comma "($x:expr) => { f $x }" "1 + 2"
    ≡ Some (marked 8 ∷ marked 9 ∷ written 100 ∷ written 101 ∷ written 102 ∷ [])
places_of_parentheses = refl

-- a separator keeps its place unmarked
places_of_a_separator : places_of one_step "($($x:tt)*) => { $($x),* }" "a b"
    ≡ Some (written 100 ∷ written 15 ∷ written 101 ∷ [])
places_of_a_separator = refl

-- what expressions give, `$crate` and an unbound name have the place of their `$`, marked
places_of_expressions : places_of one_step "($x:tt) => { ${count($x)} $crate $y ${concat(a, b)} }" "c"
    ≡ Some (marked 8 ∷ marked 14 ∷ marked 16 ∷ marked 16 ∷ marked 18 ∷ [])
unfolding digits
places_of_expressions = refl

-- as have the colons of a path
places_of_colons : places_of to_comma "($p:path) => { $p }" "V<a>"
    ≡ Some (written 100 ∷ marked 8 ∷ marked 8 ∷ written 101 ∷ written 102 ∷ written 103 ∷ [])
places_of_colons = refl

-- ---- how many tokens the template of the first rule puts out, up to the first fault

abbrev first_output : Forest → List Rule → Option ℕ
first_output argument [] = None
first_output argument (r ∷ rs) =
    option_map (λ ms. output any_text most_rounds made (bindings ms) r.template) (the_reading one_step r.pattern argument)

abbrev puts_out : String → String → Option ℕ
puts_out body argument = first_output (trees argument) (rules_in Edition2024 (trees body)).list

-- all that it gives
output_of_all : puts_out "($($x:tt)*) => { f [ $($x),* ] ${count($x)} $y }" "a b" ≡ Some 8
unfolding digits
output_of_all = refl

-- a variable that is still a list is a fault: what is before it counts, and the group around it
output_to_a_fault : puts_out "($($x:tt)*) => { f [ g $x ] h }" "a b" ≡ Some 3
output_to_a_fault = refl

-- a repetition that has to have a round
output_to_no_round : puts_out "($($x:tt)*) => { f $($x)+ h }" "" ≡ Some 1
output_to_no_round = refl

-- the second round is a fault, after its separator
output_to_a_round : puts_out "($($($x:ident)*;)*) => { f $($($x)+),* h }" "a b;;" ≡ Some 4
output_to_a_round = refl
