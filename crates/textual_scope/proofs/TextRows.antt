-- Worked examples of Rust's textual scope in texts, by computation: what is printed, and the faults.
use Rattle.std.proofs.Common.{◌≡◌, ℕ, List, [], ◌∷◌, ◌++◌, refl}
use Rattle.std.specs.Prelude.{codes, Result, Ok, Err}
use Rattle.std.specs.Char.{encode_utf8}
use Rattle.std.specs.Str.{chars, is_utf8}
use Rattle.ucd_derived.specs.Binary.{is_xid_start, is_xid_continue}
use Rattle.ucd_derived.specs.XidContinueRanges.{xid_continue_ranges}
use Rattle.ucd_derived.specs.XidStartRanges.{xid_start_ranges}
use Rattle.ucd_table.specs.Rows.{in_ranges}
use Rattle.tt_data.specs.declared.edition.Edition.TheVariants.{Edition2024}
use Rattle.small_grammar.specs.Answer.{answer}
use Rattle.bridge.specs.TokenSteps.{text_reading}
use Rattle.bridge.specs.declared.reading.outcome.ReadFault.{ReadFault}
use Rattle.expander_model.specs.declared.fault.Fault.{Fault}
use Rattle.expander_model.specs.declared.fault.FaultKind.{FaultKind}
use Rattle.expander_model.specs.declared.fault.FaultKind.TheVariants.{CannotExpand, BrokenDefinition, RecursionLimit, NestedDefinition}
use Rattle.expander_model.specs.Meaning.{Layers, ReadMeaning, meaning_in}
use Rattle.expander_model.specs.Printing.{spelling_before}
use Rattle.expander_model.specs.World.{world}
use Rattle.expander_model.specs.declared.dialect.Dialect.{Dialect}
use Rattle.expander_model.specs.declared.scope_rules.ScopeRules.TheVariants.{Rust}
use Rattle.textual_scope.proofs.Rows.{by, with_items}

-- what a row shows of a text's meaning
data Shown : Type 0 where
  gives : List ℕ → List Fault → Shown
  unread : ReadFault → Shown

abbrev shown : Result ReadMeaning ReadFault → Shown
shown (Ok m) = gives m.text m.faults
shown (Err fault) = unread fault

abbrev lines : List (List ℕ) → List ℕ
lines [] = []
lines (l ∷ ls) = l ++ (10 ∷ lines ls)

-- by the small grammar, in edition 2024, with eight levels
abbrev layers : Dialect → Layers
layers dialect = record { read = text_reading; world = world answer Edition2024 dialect; spelling = spelling_before }

abbrev of : List (List ℕ) → Shown
of ls = shown (meaning_in (layers (by Rust)) 8 [] (lines ls))

-- where the `;` behind an item's call goes with it
abbrev of_items : List (List ℕ) → Shown
of_items ls = shown (meaning_in (layers with_items) 8 [] (lines ls))

abbrev fault : FaultKind → ℕ → ℕ → Fault
fault kind start end = record { kind = kind; range = record { start = start; «end» = end } }

nearest_wins : of (codes "fn f() { macro_rules! m { () => { 1 } } m!(); { macro_rules! m { () => { 2 } } m!(); } m!(); }" ∷ codes "m!{}" ∷ [])
    ≡ gives (lines (codes "fn f ( ) { 1 ; { 2 ; } 1 ; }" ∷ codes "m ! { }" ∷ [])) ([])
unfolding chars is_utf8 is_xid_start is_xid_continue in_ranges xid_start_ranges xid_continue_ranges encode_utf8
nearest_wins = refl

seen_from_its_end_on : of (codes "macro_rules! m { () => { 0 } }" ∷ codes "fn f() { m!{} macro_rules! m { () => { 1 } } m!{} }" ∷ codes "m!{}" ∷ [])
    ≡ gives (lines (codes "fn f ( ) { 0 1 }" ∷ codes "0" ∷ [])) ([])
unfolding chars is_utf8 is_xid_start is_xid_continue in_ranges xid_start_ranges xid_continue_ranges encode_utf8
seen_from_its_end_on = refl

attributes_go_with_it : of (codes "mod a { /// d" ∷ codes "#[x] macro_rules! m [ () => { 1 } ]; m!() }" ∷ [])
    ≡ gives (lines (codes "mod a { 1 }" ∷ [])) ([])
unfolding chars is_utf8 is_xid_start is_xid_continue in_ranges xid_start_ranges xid_continue_ranges encode_utf8
attributes_go_with_it = refl

made_in_lists : of (codes "macro_rules! mk { ($n:ident $e:tt) => { macro_rules! $n { () => { $e + 7 } } } }" ∷ codes "fn f() { mk!{a 1} { mk!{a 2} a!{} } a!{} }" ∷ [])
    ≡ gives (lines (codes "fn f ( ) { { 2 + 7 } 1 + 7 }" ∷ [])) ([])
unfolding chars is_utf8 is_xid_start is_xid_continue in_ranges xid_start_ranges xid_continue_ranges encode_utf8
made_in_lists = refl

-- printed, told at the call, and found by no later piece
made_at_the_top : of (codes "macro_rules! mk { ($n:ident) => { macro_rules! $n { () => { 1 } } } }" ∷ codes "mk!{a}" ∷ codes "fn f() { a!{} }" ∷ [])
    ≡ gives (lines (codes "macro_rules ! a { ( ) => { 1 } }" ∷ codes "fn f ( ) { a ! { } }" ∷ [])) (fault NestedDefinition 70 72 ∷ [])
unfolding chars is_utf8 is_xid_start is_xid_continue in_ranges xid_start_ranges xid_continue_ranges encode_utf8
made_at_the_top = refl

an_argument_is_a_list : of (codes "u!({ macro_rules! m { () => { v!{} } } m!{} });" ∷ codes "macro_rules! v { () => { 1 } }" ∷ [])
    ≡ gives (lines (codes "u ! ( { macro_rules ! m { ( ) => { v ! { } } } v ! { } } ) ;" ∷ [])) (fault NestedDefinition 5 16 ∷ [])
unfolding chars is_utf8 is_xid_start is_xid_continue in_ranges xid_start_ranges xid_continue_ranges encode_utf8
an_argument_is_a_list = refl

where_it_is_called : of (codes "macro_rules! k { () => { j!{} $crate::j!{} } }" ∷ codes "macro_rules! j { () => { 1 } }" ∷ codes "fn f() { macro_rules! j { () => { 2 } } k!{} }" ∷ [])
    ≡ gives (lines (codes "fn f ( ) { 2 1 }" ∷ [])) ([])
unfolding chars is_utf8 is_xid_start is_xid_continue in_ranges xid_start_ranges xid_continue_ranges encode_utf8
where_it_is_called = refl

a_broken_one : of (codes "fn f() { macro_rules! b { () } b!{} }" ∷ [])
    ≡ gives (lines (codes "fn f ( ) { b ! { } }" ∷ [])) (fault BrokenDefinition 22 23 ∷ fault BrokenDefinition 31 32 ∷ [])
unfolding chars is_utf8 is_xid_start is_xid_continue in_ranges xid_start_ranges xid_continue_ranges encode_utf8
a_broken_one = refl

a_failed_call_defines_nothing : of (codes "macro_rules! z { (1) => { } }" ∷ codes "fn f() { z!{ macro_rules! m { () => { 1 } } } m!{} }" ∷ [])
    ≡ gives (lines (codes "fn f ( ) { z ! { macro_rules ! m { ( ) => { 1 } } } m ! { } }" ∷ [])) (fault CannotExpand 39 40 ∷ fault NestedDefinition 43 54 ∷ [])
unfolding chars is_utf8 is_xid_start is_xid_continue in_ranges xid_start_ranges xid_continue_ranges encode_utf8
a_failed_call_defines_nothing = refl

seen_by_an_argument : of (codes "macro_rules! e { ($b:tt) => { { macro_rules! i { () => { 1 } } $b } } }" ∷ codes "e!({ i!{} });" ∷ [])
    ≡ gives (lines (codes "{ { 1 } }" ∷ codes ";" ∷ [])) ([])
unfolding chars is_utf8 is_xid_start is_xid_continue in_ranges xid_start_ranges xid_continue_ranges encode_utf8
seen_by_an_argument = refl

told_once : of (codes "macro_rules! l { () => { macro_rules! n { () => { l!{} } } n!{} } }" ∷ codes "fn f() { l!{} }" ∷ [])
    ≡ gives (lines (codes "fn f ( ) { l ! { } }" ∷ [])) (fault RecursionLimit 77 78 ∷ [])
unfolding chars is_utf8 is_xid_start is_xid_continue in_ranges xid_start_ranges xid_continue_ranges encode_utf8
told_once = refl

not_across_a_result : of (codes "macro_rules! d { () => { macro_rules } }" ∷ codes "fn f() { d!{} ! e { () => { 1 } } e!{} }" ∷ [])
    ≡ gives (lines (codes "fn f ( ) { macro_rules ! e { ( ) => { 1 } } e ! { } }" ∷ [])) (fault NestedDefinition 50 51 ∷ [])
unfolding chars is_utf8 is_xid_start is_xid_continue in_ranges xid_start_ranges xid_continue_ranges encode_utf8
not_across_a_result = refl

macros_too : of (codes "fn f() { macro m($x:tt) { $x } m!(1); pub(crate) macro n { () => { 2 } } n!() }" ∷ [])
    ≡ gives (lines (codes "fn f ( ) { 1 ; 2 }" ∷ [])) ([])
unfolding chars is_utf8 is_xid_start is_xid_continue in_ranges xid_start_ranges xid_continue_ranges encode_utf8
macros_too = refl

-- ---- the `;` behind an item's call

behind_items : of_items (codes "macro_rules! m { () => { fn f() {} } }" ∷ codes "m!();" ∷ codes "mod a { m!(); fn g() { m!(); } }" ∷ codes "#[x] m![];" ∷ [])
    ≡ gives (lines (codes "fn f ( ) { }" ∷ codes "mod a { fn f ( ) { } fn g ( ) { fn f ( ) { } ; } }" ∷ codes "# [ x ] fn f ( ) { }" ∷ [])) ([])
unfolding chars is_utf8 is_xid_start is_xid_continue in_ranges xid_start_ranges xid_continue_ranges encode_utf8
behind_items = refl

-- a raw word is a name
in_lists_of_items : of_items (codes "macro_rules! m { () => { type A; } }" ∷ codes "pub unsafe extern \"C\" { m!(); }" ∷ codes "impl r#mod { m!(); }" ∷ codes "r#mod a { m!(); }" ∷ [])
    ≡ gives (lines (codes "pub unsafe extern \"C\" { type A ; }" ∷ codes "impl r#mod { type A ; }" ∷ codes "r#mod a { type A ; ; }" ∷ [])) ([])
unfolding chars is_utf8 is_xid_start is_xid_continue in_ranges xid_start_ranges xid_continue_ranges encode_utf8
in_lists_of_items = refl

failed_calls_keep_it : of_items (codes "macro_rules! m { () => { } }" ∷ codes "m!(1); m!(); u!();" ∷ [])
    ≡ gives (lines (codes "m ! ( 1 ) ;" ∷ codes "u ! ( ) ;" ∷ [])) (fault CannotExpand 29 30 ∷ [])
unfolding chars is_utf8 is_xid_start is_xid_continue in_ranges xid_start_ranges xid_continue_ranges encode_utf8
failed_calls_keep_it = refl
