-- Worked examples of texts after definitions of other crates, by computation.
use Rattle.std.proofs.Common.{◌≡◌, ℕ, List, [], ◌∷◌, ◌++◌, map, refl}
use Rattle.std.specs.Prelude.{codes, Some, Result, Ok, Err}
use Rattle.std.specs.Char.{encode_utf8}
use Rattle.std.specs.Str.{chars, is_utf8}
use Rattle.ucd_derived.specs.Binary.{is_xid_start, is_xid_continue}
use Rattle.ucd_derived.specs.XidContinueRanges.{xid_continue_ranges}
use Rattle.ucd_derived.specs.XidStartRanges.{xid_start_ranges}
use Rattle.ucd_table.specs.Rows.{in_ranges}
use Rattle.bridge.specs.TokenSteps.{text_reading}
use Rattle.bridge.specs.declared.reading.outcome.ReadFault.{ReadFault}
use Rattle.tt_data.specs.Forest.{Forest}
use Rattle.tt_data.specs.declared.edition.Edition.TheVariants.{Edition2021}
use Rattle.expander_model.specs.Meaning.{definitions_after, meaning_in}
use Rattle.expander_model.specs.declared.fault.FaultKind.TheVariants.{CannotExpand}
use Rattle.expander_run.specs.Runs.{run_layers}
use Rattle.expander_session.specs.expander_sources.Homes.{Home}
use Rattle.expander_session.specs.expander_sources.Picks.{picked, rooted_picks}
use Rattle.expander_session.specs.expander_sources.Sources.{Item, source_items}
use Rattle.expander.proofs.Rows.{Shown, fault, gives, lines, shown}

abbrev items_in : ℕ → Result Forest ReadFault → List Item
items_in number (Ok f) = source_items number f
items_in number (Err fault) = []

-- the definitions of a text of these lines, with this number
abbrev items : ℕ → List (List ℕ) → List Item
items number ls = items_in number (text_reading (lines ls))

abbrev one : Home
one = record { root = codes "one"; edition = Edition2021 }

abbrev two : Home
two = record { root = codes "two"; edition = Edition2021 }

-- all of them by their names, and then behind the root of their crate
abbrev of_crate : ℕ → Home → List (List ℕ) → List Forest
of_crate number h ls =
    map (λ i. picked (Some h) i.piece) (items number ls) ++ rooted_picks h.root (Some h) (items number ls)

-- what the text of these lines shows after such definitions
abbrev after : List Forest → List (List ℕ) → Shown
after prelude text = shown (meaning_in run_layers 128 (definitions_after [] prelude) (lines text))

-- `$crate` is the definition's crate, wherever it is called
the_root_is_printed : after (of_crate 1 one (codes "macro_rules! a { () => { $crate::x } }" ∷ [])) (codes "a!{}" ∷ [])
    ≡ gives (lines (codes "one :: x" ∷ [])) []
unfolding chars is_utf8 is_xid_start is_xid_continue in_ranges xid_start_ranges xid_continue_ranges encode_utf8
the_root_is_printed = refl

-- each crate finds its own macro, and the text its own
each_crate_finds_its_own :
    after (of_crate 1 one (codes "macro_rules! a { () => { $crate::b!{} } }" ∷ codes "macro_rules! b { () => { x } }" ∷ [])
    ++ of_crate 2 two (codes "macro_rules! c { () => { $crate::b!{} } }" ∷ codes "macro_rules! b { () => { y } }" ∷ []))
    (codes "macro_rules! b { () => { z } }" ∷ codes "a!{} c!{} b!{}" ∷ [])
    ≡ gives (lines (codes "x y z" ∷ [])) []
unfolding chars is_utf8 is_xid_start is_xid_continue in_ranges xid_start_ranges xid_continue_ranges encode_utf8
each_crate_finds_its_own = refl

-- a call behind a root finds nothing else
a_root_finds_no_own_definition : after (of_crate 1 one (codes "macro_rules! a { () => { $crate::b!{} } }" ∷ []))
    (codes "macro_rules! b { () => { z } }" ∷ codes "a!{}" ∷ [])
    ≡ gives (lines (codes "one :: b ! { }" ∷ [])) []
unfolding chars is_utf8 is_xid_start is_xid_continue in_ranges xid_start_ranges xid_continue_ranges encode_utf8
a_root_finds_no_own_definition = refl

-- what the compiler has built in stays behind its root
a_builtin_stays : after (of_crate 1 one (codes "macro_rules! a { () => { $crate::b!{ 1 } } }" ∷ codes "#[rustc_builtin_macro] macro_rules! b { () => {} }" ∷ []))
    (codes "a!{}" ∷ [])
    ≡ gives (lines (codes "one :: b ! { 1 }" ∷ [])) []
unfolding chars is_utf8 is_xid_start is_xid_continue in_ranges xid_start_ranges xid_continue_ranges encode_utf8
a_builtin_stays = refl

-- a root that is handed on is matched by the same crate's `$crate`, and by no other
the_own_root_is_matched : after (of_crate 1 one (codes "macro_rules! a { () => { b!{ $crate } } }" ∷ codes "macro_rules! b { ($crate) => { x } }" ∷ []))
    (codes "a!{}" ∷ [])
    ≡ gives (lines (codes "x" ∷ [])) []
unfolding chars is_utf8 is_xid_start is_xid_continue in_ranges xid_start_ranges xid_continue_ranges encode_utf8
the_own_root_is_matched = refl

no_other_root_is_matched : after (of_crate 1 one (codes "macro_rules! a { () => { b!{ $crate } } }" ∷ []))
    (codes "macro_rules! b { ($crate) => { x } }" ∷ codes "a!{}" ∷ [])
    ≡ gives (lines (codes "b ! { one }" ∷ [])) (fault CannotExpand 37 38 ∷ [])
unfolding chars is_utf8 is_xid_start is_xid_continue in_ranges xid_start_ranges xid_continue_ranges encode_utf8
no_other_root_is_matched = refl

-- the definitions of inline modules are items too, and are picked by their names
modules_have_definitions : after (of_crate 1 one (codes "mod m { macro_rules! a { () => { x } } }" ∷ [])) (codes "a!{}" ∷ [])
    ≡ gives (lines (codes "x" ∷ [])) []
unfolding chars is_utf8 is_xid_start is_xid_continue in_ranges xid_start_ranges xid_continue_ranges encode_utf8
modules_have_definitions = refl
