-- The steps of `a!(b!(c) d)`, where `a` has a definition that gives its argument, and `b` has none.
use Rattle.std.proofs.Common.{◌≡◌, ◌+◌, ℕ, List, [], ◌∷◌, false, refl, true, if◌then◌else◌}
use Rattle.std.specs.Prelude.{None, Ok, Err, Option, Some, codes}
use Rattle.small_grammar.specs.Text.{same_text}
use Rattle.tt_data.specs.Forest.{Forest, empty, leaf, group}
use Rattle.tt_data.specs.declared.delimiter.DelimiterKind.TheVariants.{Parenthesis}
use Rattle.tt_data.specs.declared.leaf.IdentIsRaw.TheVariants.{No}
use Rattle.tt_data.specs.declared.leaf.Leaf.{Leaf}
use Rattle.tt_data.specs.declared.leaf.Leaf.TheVariants as as_leaf
use Rattle.tt_data.specs.declared.leaf.Spacing.TheVariants.{Alone}
use Rattle.tt_data.specs.declared.span.Span.{Span}
use Rattle.tt_data.specs.declared.span.SyntaxContext.TheVariants.{Written}
use Rattle.expander_model.specs.declared.fault.FaultKind.TheVariants.{RecursionLimit}
use Rattle.expander_model.specs.declared.scope_rules.ScopeRules.TheVariants.{Rust, TopLevel}
use Rattle.expander_trace.specs.Laws.{find_of, substitute_steps}
use Rattle.expander_trace.specs.Parts.{may_define, part_within}
use Rattle.expander_trace.specs.Steps.{Rewrites, Step, steps_of}
use Rattle.expander_trace.specs.declared.limits.Cut.TheVariants as cuts

-- a token of one byte
abbrev at : ℕ → Span
at n = record { range = record { start = n; «end» = n + 1 }; anchor = 0; ctx = Written }

abbrev word : List ℕ → ℕ → Leaf
word name n = as_leaf.Ident (record { sym = name; span = at n; is_raw = No })

abbrev bang : ℕ → Leaf
bang n = as_leaf.Punct (record { char = 33; spacing = Alone; span = at n })

abbrev brackets : ℕ → ℕ → Forest → Forest → Forest
brackets n m inner rest = group (record { open_span = at n; close_span = at m; kind = Parenthesis }) inner rest

abbrev inner : Forest
inner = leaf (word (codes "b") 3) (leaf (bang 4) (brackets 5 7 (leaf (word (codes "c") 6) empty) (leaf (word (codes "d") 9) empty)))

abbrev text : Forest
text = leaf (word (codes "a") 0) (leaf (bang 1) (brackets 2 10 inner empty))

-- each definition gives the argument, by its first rule, and puts five tokens out
abbrev gives : Rewrites ℕ
gives = record { broken = λ d. false; fit = λ d argument. Some (0, argument); put_out = λ d argument. 5 }

abbrev scope : List ℕ → Option ℕ
scope key = if same_text key (codes "a") then Some 7 else None

abbrev first : Step ℕ
first = record { level = 0; name = at 0; key = codes "a"; attempt = Some (record { definition = 7; call = text; tokens = 5; given = Ok (0, inner) }) }

abbrev second : Step ℕ
second = record { level = 1; name = at 3; key = codes "b"; attempt = None }

two_steps : steps_of gives scope 1 0 None text ≡ first ∷ second ∷ []
two_steps = refl

-- the same of the call at a byte of it, and none behind it
at_its_end : steps_of gives scope 1 0 (Some 10) text ≡ first ∷ second ∷ []
at_its_end = refl

behind_it : steps_of gives scope 1 0 (Some 11) text ≡ []
behind_it = refl

-- without a level it stays
no_level : steps_of gives scope 0 0 None text
    ≡ record { level = 0; name = at 0; key = codes "a"; attempt = Some (record { definition = 7; call = text; tokens = 0; given = Err RecursionLimit }) } ∷ []
no_level = refl

-- what its name finds is in the text; what is in its place is its argument
finds : find_of first ≡ (codes "a", Some 7)
finds = refl

in_its_place : substitute_steps 1 text (first ∷ second ∷ []) ≡ (inner, [])
in_its_place = refl

-- one step alone, and tokens for none
one_step : part_within TopLevel (record { steps = 1; tokens = 9 }) None (first ∷ second ∷ [])
    ≡ record { steps = first ∷ []; room = record { left = record { steps = 0; tokens = 4 }; cut = Some cuts.Steps } }
one_step = refl

few_tokens : part_within TopLevel (record { steps = 9; tokens = 4 }) None (first ∷ second ∷ [])
    ≡ record { steps = []; room = record { left = record { steps = 9; tokens = 4 }; cut = Some cuts.Tokens } }
few_tokens = refl

-- by Rust's rules trees with the word `macro` may define
abbrev defining : Forest
defining = leaf (word (codes "macro") 0) empty

they_may : may_define Rust defining ≡ true
they_may = refl

at_the_top : may_define TopLevel defining ≡ false
at_the_top = refl
