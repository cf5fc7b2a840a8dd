-- Worked examples of texts, by computation: what each means, by the small grammar and in edition
-- 2024.
use Rattle.std.proofs.Common.{◌≡◌, ℕ, List, [], ◌∷◌, ◌++◌, length, map, refl}
use Rattle.std.specs.Prelude.{codes, Result, Ok, Err, Some}
use Rattle.std.specs.Char.{encode_utf8}
use Rattle.std.specs.Str.{chars, is_utf8}
use Rattle.ucd_derived.specs.Binary.{is_xid_start, is_xid_continue}
use Rattle.ucd_derived.specs.XidContinueRanges.{xid_continue_ranges}
use Rattle.ucd_derived.specs.XidStartRanges.{xid_start_ranges}
use Rattle.ucd_table.specs.Rows.{in_ranges}
use Rattle.expander_model.specs.declared.fault.FaultKind.TheVariants.{CannotExpand, BrokenDefinition, NestedDefinition, Unspellable}
use Rattle.tt_data.specs.Forest.{Forest}
use Rattle.tt_data.specs.Walk.{at_leaf}
use Rattle.tt_data.specs.declared.leaf.Leaf.TheVariants as as_leaf
use Rattle.tt_data.specs.declared.leaf.Spacing.TheVariants.{Alone, Joint}
use Rattle.tt_data.specs.declared.span.Span.{Span}
use Rattle.tt_data.specs.declared.span.SyntaxContext.TheVariants.{Written}
use Rattle.bridge.specs.Reading.{PlacedToken}
use Rattle.bridge.specs.TokenSteps.{text_reading}
use Rattle.bridge.specs.declared.reading.outcome.ReadFault.{ReadFault}
use Rattle.expander_model.specs.Expansion.{PlacedStep, placed}
use Rattle.expander_model.specs.Meaning.{meaning}
use Rattle.expander_session.specs.Emitting.{faults_in, tokens_in}
use Rattle.expander.specs.PieceTokens.{written_in}
use Rattle.expander_model.specs.Pieces.{pieces}
use Rattle.expander_model.specs.Printing.{text_of}
use Rattle.expander_run.specs.Runs.{run_layers}
use Rattle.expander.proofs.Rows.{Shown, gives, shown, lines, fault}

abbrev at : ℕ → ℕ → Span
at start end = record { range = record { start = start; «end» = end }; anchor = 0; ctx = Written }

-- what the text of these lines shows
abbrev of : List (List ℕ) → Shown
of ls = shown (meaning run_layers 128 (lines ls))

definitions_in_each_bracket : of (codes "macro_rules! m ( () => { x } );" ∷ codes "#[a] #[b(c)] macro_rules! n [ () => ( y ); ];" ∷ codes "m!(); n![];" ∷ [])
    ≡ gives (lines (codes "x ;" ∷ codes "y ;" ∷ [])) []
unfolding chars is_utf8 is_xid_start is_xid_continue in_ranges xid_start_ranges xid_continue_ranges encode_utf8
definitions_in_each_bracket = refl

definition_without_its_semicolon : of (codes "macro_rules! m ( () => { x } )" ∷ codes "m!{}" ∷ [])
    ≡ gives (lines (codes "macro_rules ! m ( ( ) => { x } ) m ! { }" ∷ [])) (fault NestedDefinition 0 11 ∷ [])
unfolding chars is_utf8 is_xid_start is_xid_continue in_ranges xid_start_ranges xid_continue_ranges encode_utf8
definition_without_its_semicolon = refl

nearest_definition : of (codes "macro_rules! m { () => { x } }" ∷ codes "m!{}" ∷ codes "macro_rules! m { () => { y } }" ∷ codes "m!{}" ∷ [])
    ≡ gives (lines (codes "x y" ∷ [])) []
unfolding chars is_utf8 is_xid_start is_xid_continue in_ranges xid_start_ranges xid_continue_ranges encode_utf8
nearest_definition = refl

no_rule_at_all : of (codes "macro_rules! m { }" ∷ codes "m!{}" ∷ []) ≡ gives (lines (codes "m ! { }" ∷ [])) (fault CannotExpand 19 20 ∷ [])
unfolding chars is_utf8 is_xid_start is_xid_continue in_ranges xid_start_ranges xid_continue_ranges encode_utf8
no_rule_at_all = refl

broken_one_takes_its_name : of (codes "macro_rules! m { () => { x } }" ∷ codes "macro_rules! m { () }" ∷ codes "m!{}" ∷ [])
    ≡ gives (lines (codes "m ! { }" ∷ [])) (fault BrokenDefinition 44 45 ∷ fault BrokenDefinition 53 54 ∷ [])
unfolding chars is_utf8 is_xid_start is_xid_continue in_ranges xid_start_ranges xid_continue_ranges encode_utf8
broken_one_takes_its_name = refl

first_rule_that_fits : of (codes "macro_rules! m { ($a:ident) => { x }; ($a:tt) => { y } }" ∷ codes "m!{ _ }" ∷ codes "m!{ z }" ∷ codes "m!{ + }" ∷ [])
    ≡ gives (lines (codes "y x y" ∷ [])) []
unfolding chars is_utf8 is_xid_start is_xid_continue in_ranges xid_start_ranges xid_continue_ranges encode_utf8
first_rule_that_fits = refl

operators_whole : of (codes "macro_rules! m { (a <<= b) => { x } }" ∷ codes "m!{ a <<= b }" ∷ codes "m!{ a << = b }" ∷ [])
    ≡ gives (lines (codes "x m ! { a << = b }" ∷ [])) (fault CannotExpand 52 53 ∷ [])
unfolding chars is_utf8 is_xid_start is_xid_continue in_ranges xid_start_ranges xid_continue_ranges encode_utf8
operators_whole = refl

groups_by_kind : of (codes "macro_rules! m { ($a:tt [ { $b:ident } ]) => { ($b [ $a ]) }; ((a)) => { y } }" ∷ codes "m!{ (x) [ { y } ] }" ∷ codes "m!{ [a] }" ∷ [])
    ≡ gives (lines (codes "( y [ ( x ) ] ) m ! { [ a ] }" ∷ [])) (fault CannotExpand 99 100 ∷ [])
unfolding chars is_utf8 is_xid_start is_xid_continue in_ranges xid_start_ranges xid_continue_ranges encode_utf8
groups_by_kind = refl

argument_is_used_up : of (codes "macro_rules! m { (a) => { y } }" ∷ codes "m!{ a b }" ∷ [])
    ≡ gives (lines (codes "m ! { a b }" ∷ [])) (fault CannotExpand 32 33 ∷ [])
unfolding chars is_utf8 is_xid_start is_xid_continue in_ranges xid_start_ranges xid_continue_ranges encode_utf8
argument_is_used_up = refl

bound_twice_and_not_at_all : of (codes "macro_rules! m { ($a:tt $a:tt) => { $a $y } }" ∷ codes "m!{ x (z) }" ∷ [])
    ≡ gives (lines (codes "( z ) $ y" ∷ [])) []
unfolding chars is_utf8 is_xid_start is_xid_continue in_ranges xid_start_ranges xid_continue_ranges encode_utf8
bound_twice_and_not_at_all = refl

ends_of_pieces : of (codes "a;b;;c #[a] struct S { b: C; } #![d]" ∷ [])
    ≡ gives (lines (codes "a ;" ∷ codes "b ;" ∷ codes ";" ∷ codes "c # [ a ] struct S { b : C ; }" ∷ codes "#! [ d ]" ∷ [])) []
unfolding chars is_utf8 is_xid_start is_xid_continue in_ranges xid_start_ranges xid_continue_ranges encode_utf8
ends_of_pieces = refl

printed_puncts : of (codes "fn f(x: &a::T)->U{x+=-y;z} { ;; } # #" ∷ [])
    ≡ gives (lines (codes "fn f ( x : & a :: T ) -> U { x +=- y ; z }" ∷ codes "{ ;; }" ∷ codes "# #" ∷ [])) []
unfolding chars is_utf8 is_xid_start is_xid_continue in_ranges xid_start_ranges xid_continue_ranges encode_utf8
printed_puncts = refl

faults_in_order : of (codes "macro_rules! m { (x) => { macro macro } }" ∷ codes "m!{ y } m!{ x } macro_rules" ∷ codes "macro_rules! n { x }" ∷ [])
    ≡ gives (lines (codes "m ! { y }" ∷ codes "macro macro macro_rules macro_rules ! n { x }" ∷ []))
    (fault CannotExpand 42 43 ∷ fault NestedDefinition 50 51 ∷ fault NestedDefinition 50 51 ∷ fault NestedDefinition 58 69 ∷ fault NestedDefinition 70 81 ∷ [])
unfolding chars is_utf8 is_xid_start is_xid_continue in_ranges xid_start_ranges xid_continue_ranges encode_utf8
faults_in_order = refl

-- ---- definitions by their bodies

abbrev of_body : List ℕ → Shown
of_body body = shown (meaning run_layers 128 (codes "macro_rules! m { " ++ (body ++ codes " }")))

broken_bodies : map of_body (codes "()" ∷ codes "() -> { }" ∷ codes "() => { } x" ∷ codes "() => { } () => { }" ∷ codes "() => { };;" ∷ codes "($a) => { }"
    ∷ codes "($($a:vis)*) => { }" ∷ codes "($($a:tt)) => { }" ∷ [])
    ≡ map (λ (n : ℕ). gives [] (fault BrokenDefinition 13 14 ∷ [])) (1 ∷ 2 ∷ 3 ∷ 4 ∷ 5 ∷ 6 ∷ 7 ∷ 8 ∷ [])
unfolding chars is_utf8 is_xid_start is_xid_continue in_ranges xid_start_ranges xid_continue_ranges encode_utf8
broken_bodies = refl

whole_bodies : map of_body (codes "() => { $crate }" ∷ codes "($($a:tt)*) => { }" ∷ codes "([$a:expr]) => { }" ∷ codes "attr() () => { }" ∷ codes "unsafe () => { }" ∷ [])
    ≡ map (λ (n : ℕ). gives [] []) (1 ∷ 2 ∷ 3 ∷ 4 ∷ 5 ∷ [])
unfolding chars is_utf8 is_xid_start is_xid_continue in_ranges xid_start_ranges xid_continue_ranges encode_utf8
whole_bodies = refl

by_the_word_macro : of (codes "macro k($a:ident) { $a } pub(a) macro l { (x) => { y }, () => { z } }" ∷ codes "k!{w} l!{x} l!{} k!{}" ∷ [])
    ≡ gives (lines (codes "w y z k ! { }" ∷ [])) (fault CannotExpand 87 88 ∷ [])
unfolding chars is_utf8 is_xid_start is_xid_continue in_ranges xid_start_ranges xid_continue_ranges encode_utf8
by_the_word_macro = refl

-- `$crate` is printed as `crate`
word_of_the_crate : of (codes "macro_rules! k { () => { $crate::j!{} $crate::z } }" ∷ codes "macro_rules! j { () => { 7 } }" ∷ codes "k!{}" ∷ [])
    ≡ gives (lines (codes "7 crate :: z" ∷ [])) []
unfolding chars is_utf8 is_xid_start is_xid_continue in_ranges xid_start_ranges xid_continue_ranges encode_utf8
word_of_the_crate = refl

other_lexemes : of (codes "r#x = (\"a\", 'b', 1u8); f::<'c>() // d" ∷ [])
    ≡ gives (lines (codes "r#x = ( \"a\" , 'b' , 1u8 ) ;" ∷ codes "f ::< 'c > ( )" ∷ [])) []
unfolding chars is_utf8 is_xid_start is_xid_continue in_ranges xid_start_ranges xid_continue_ranges encode_utf8
other_lexemes = refl

lifetimes : of (codes "fn f<'a>(x: &'a T) {}" ∷ []) ≡ gives (lines (codes "fn f < 'a > ( x : & 'a T ) { }" ∷ [])) []
unfolding chars is_utf8 is_xid_start is_xid_continue in_ranges xid_start_ranges xid_continue_ranges encode_utf8
lifetimes = refl

doc_comments : of (codes "/// a \"b\"" ∷ codes "struct S;" ∷ []) ≡ gives (lines (codes "# [ doc = \" a \\\"b\\\"\" ] struct S ;" ∷ [])) []
unfolding chars is_utf8 is_xid_start is_xid_continue in_ranges xid_start_ranges xid_continue_ranges encode_utf8
doc_comments = refl

-- ---- a quote that is left alone

-- from a call's result: a quote, and a plus behind it
abbrev lone_quote : List PlacedStep
lone_quote =
    placed (Some (at 7 8)) (at_leaf (as_leaf.Punct (record { char = 39; spacing = Joint; span = at 1 2 }))
    ∷ at_leaf (as_leaf.Punct (record { char = 43; spacing = Alone; span = at 2 3 })) ∷ [])

-- it is left out, which is told at the call's name
quote_is_left_out : text_of (tokens_in lone_quote) ≡ lines (codes "+" ∷ [])
unfolding chars is_utf8 is_xid_start is_xid_continue in_ranges xid_start_ranges xid_continue_ranges encode_utf8
quote_is_left_out = refl

quote_is_told : faults_in lone_quote ≡ fault Unspellable 7 8 ∷ []
unfolding chars is_utf8 is_xid_start is_xid_continue in_ranges xid_start_ranges xid_continue_ranges encode_utf8
quote_is_told = refl

-- what is printed prints itself
printed_text : of (codes "macro_rules! d { ($($a:tt)*) => { / $( $a )* ; } } d!{ / # # += 'c x }" ∷ [])
    ≡ gives (lines (codes "/ / # # += 'c x ;" ∷ [])) []
unfolding chars is_utf8 is_xid_start is_xid_continue in_ranges xid_start_ranges xid_continue_ranges encode_utf8
printed_text = refl

printed_again : of (codes "/ / # # += 'c x ;" ∷ []) ≡ gives (lines (codes "/ / # # += 'c x ;" ∷ [])) []
unfolding chars is_utf8 is_xid_start is_xid_continue in_ranges xid_start_ranges xid_continue_ranges encode_utf8
printed_again = refl

-- what the pieces of a text are written in
abbrev words_of : List ℕ → Result Forest ReadFault → List (List PlacedToken)
words_of text (Ok f) = map (written_in text) (pieces f)
words_of text (Err fault) = []

abbrev words : List ℕ → List (List PlacedToken)
words text = words_of text (text_reading text)

-- white space and a comment between pieces change none of them
blanks_between : words (codes "a=b; c{ 1 }x") ≡ words (codes " a=b;/* d */c{ 1 } x // e")
unfolding chars is_utf8 is_xid_start is_xid_continue in_ranges xid_start_ranges xid_continue_ranges
blanks_between = refl

its_words : map length (words (codes "a=b; c{ 1 }x")) ≡ 4 ∷ 6 ∷ 1 ∷ []
unfolding chars is_utf8 is_xid_start is_xid_continue in_ranges xid_start_ranges xid_continue_ranges
its_words = refl
