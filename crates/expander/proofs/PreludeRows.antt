-- Worked examples of texts after definitions of another text, by computation.
use Rattle.std.proofs.Common.{◌≡◌, ℕ, List, [], ◌∷◌, map, refl}
use Rattle.std.specs.Prelude.{codes, Result, Ok, Err}
use Rattle.std.specs.Char.{encode_utf8}
use Rattle.std.specs.Str.{chars, is_utf8}
use Rattle.ucd_derived.specs.Binary.{is_xid_start, is_xid_continue}
use Rattle.ucd_derived.specs.XidContinueRanges.{xid_continue_ranges}
use Rattle.ucd_derived.specs.XidStartRanges.{xid_start_ranges}
use Rattle.ucd_table.specs.Rows.{in_ranges}
use Rattle.bridge.specs.Printing.{step_span}
use Rattle.bridge.specs.TokenSteps.{text_reading}
use Rattle.bridge.specs.declared.reading.outcome.ReadFault.{ReadFault}
use Rattle.tt_data.specs.declared.span.TextRange.{TextRange}
use Rattle.expander_model.specs.Definitions.{Definition}
use Rattle.expander_model.specs.Meaning.{ReadMeaning, definitions_after, meaning_in}
use Rattle.expander_session.specs.expander_sources.Sources.{source_pieces}
use Rattle.expander_model.specs.declared.fault.FaultKind.TheVariants.{BrokenDefinition, CannotExpand}
use Rattle.expander_run.specs.Runs.{run_layers}
use Rattle.expander.proofs.Rows.{Shown, fault, gives, lines, shown}

-- the definitions that the text of these lines has for another, as text number 1
abbrev given : List (List ℕ) → List Definition
given ls = definitions_after [] (source_pieces 1 (text_reading (lines ls)))

-- what the text of the second lines shows after the definitions of the first
abbrev after : List (List ℕ) → List (List ℕ) → Shown
after ls text = shown (meaning_in run_layers 128 (given ls) (lines text))

-- where its printed tokens come from: the number of a text, and a range in it
abbrev places_in : Result ReadMeaning ReadFault → List (ℕ × TextRange)
places_in (Ok m) = map (λ t. ((step_span t.token.step).anchor, (step_span t.token.step).range)) m.tokens
places_in (Err fault) = []

abbrev at : ℕ → ℕ → ℕ → ℕ × TextRange
at text start end = (text, record { start = start; «end» = end })

imported_macros_are_seen_from_the_start : after (codes "macro_rules! m { () => { x } }" ∷ []) (codes "m!{}" ∷ [])
    ≡ gives (lines (codes "x" ∷ [])) []
unfolding chars is_utf8 is_xid_start is_xid_continue in_ranges xid_start_ranges xid_continue_ranges encode_utf8
imported_macros_are_seen_from_the_start = refl

own_definitions_win : after (codes "macro_rules! m { () => { x } }" ∷ []) (codes "m!{}" ∷ codes "macro_rules! m { () => { y } }" ∷ codes "m!{}" ∷ [])
    ≡ gives (lines (codes "x y" ∷ [])) []
unfolding chars is_utf8 is_xid_start is_xid_continue in_ranges xid_start_ranges xid_continue_ranges encode_utf8
own_definitions_win = refl

the_nearest_import_wins : after (codes "macro_rules! m { () => { x } }" ∷ codes "macro_rules! m { () => { y } }" ∷ []) (codes "m!{}" ∷ [])
    ≡ gives (lines (codes "y" ∷ [])) []
unfolding chars is_utf8 is_xid_start is_xid_continue in_ranges xid_start_ranges xid_continue_ranges encode_utf8
the_nearest_import_wins = refl

-- a call in a template finds what is before the text that is expanded, own definitions first
templates_find_own_definitions : after (codes "macro_rules! a { () => { b!{} } }" ∷ codes "macro_rules! b { () => { x } }" ∷ [])
    (codes "a!{}" ∷ codes "macro_rules! b { () => { y } }" ∷ codes "a!{}" ∷ [])
    ≡ gives (lines (codes "x y" ∷ [])) []
unfolding chars is_utf8 is_xid_start is_xid_continue in_ranges xid_start_ranges xid_continue_ranges encode_utf8
templates_find_own_definitions = refl

-- that it is broken is told where it is called, and not where it is defined
a_broken_import_is_no_own_fault : after (codes "macro_rules! b { () }" ∷ []) (codes "b!{}" ∷ [])
    ≡ gives (lines (codes "b ! { }" ∷ [])) (fault BrokenDefinition 0 1 ∷ [])
unfolding chars is_utf8 is_xid_start is_xid_continue in_ranges xid_start_ranges xid_continue_ranges encode_utf8
a_broken_import_is_no_own_fault = refl

faults_are_at_own_places : after (codes "macro_rules! a { () => { b!{ c } } }" ∷ codes "macro_rules! b { () => { x } }" ∷ []) (codes "y a!{}" ∷ [])
    ≡ gives (lines (codes "y b ! { c }" ∷ [])) (fault CannotExpand 2 3 ∷ [])
unfolding chars is_utf8 is_xid_start is_xid_continue in_ranges xid_start_ranges xid_continue_ranges encode_utf8
faults_are_at_own_places = refl

-- a text that cannot be read has no definitions
an_unread_text_has_no_definitions : after (codes "macro_rules! m { () => { x } } (" ∷ []) (codes "m!{}" ∷ []) ≡ gives (lines (codes "m ! { }" ∷ [])) []
unfolding chars is_utf8 is_xid_start is_xid_continue in_ranges xid_start_ranges xid_continue_ranges encode_utf8
an_unread_text_has_no_definitions = refl

-- a printed token comes from the text in which it was written
tokens_name_their_texts : places_in (meaning_in run_layers 128 (given (codes "macro_rules! m { ($a:tt) => { $a x } }" ∷ [])) (codes "m!{y}"))
    ≡ at 0 3 4 ∷ at 1 33 34 ∷ []
unfolding chars is_utf8 is_xid_start is_xid_continue in_ranges xid_start_ranges xid_continue_ranges encode_utf8
tokens_name_their_texts = refl

-- why faultless output is a fixed point of sessions without a prelude alone: no call is formed
-- across the edge of a result, and reading what was printed forms one
a_result_is_no_part_of_a_call : after (codes "macro_rules! v { () => { 1 } }" ∷ []) (codes "macro_rules! n { () => { v } }" ∷ codes "n!{} !();" ∷ [])
    ≡ gives (lines (codes "v ! ( ) ;" ∷ [])) []
unfolding chars is_utf8 is_xid_start is_xid_continue in_ranges xid_start_ranges xid_continue_ranges encode_utf8
a_result_is_no_part_of_a_call = refl

but_what_it_prints_is_one : after (codes "macro_rules! v { () => { 1 } }" ∷ []) (codes "v ! ( ) ;" ∷ []) ≡ gives (lines (codes "1 ;" ∷ [])) []
unfolding chars is_utf8 is_xid_start is_xid_continue in_ranges xid_start_ranges xid_continue_ranges encode_utf8
but_what_it_prints_is_one = refl
