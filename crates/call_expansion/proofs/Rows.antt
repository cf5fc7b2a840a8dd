-- The calls around bytes of `a!(b!(c) d)`, and which of them is answered.
use Rattle.std.proofs.Common.{◌≡◌, ◌+◌, ℕ, List, [], ◌∷◌, refl}
use Rattle.std.specs.Prelude.{None, Some, codes}
use Rattle.tt_data.specs.Forest.{Forest, empty, leaf, group}
use Rattle.tt_data.specs.Walk.{at_leaf}
use Rattle.tt_data.specs.declared.delimiter.DelimiterKind.TheVariants.{Parenthesis}
use Rattle.tt_data.specs.declared.leaf.IdentIsRaw.TheVariants.{No}
use Rattle.tt_data.specs.declared.leaf.Leaf.{Leaf}
use Rattle.tt_data.specs.declared.leaf.Leaf.TheVariants as as_leaf
use Rattle.tt_data.specs.declared.leaf.Spacing.TheVariants.{Alone}
use Rattle.tt_data.specs.declared.span.Span.{Span}
use Rattle.tt_data.specs.declared.span.SyntaxContext.TheVariants.{Written}
use Rattle.expander_model.specs.Expansion.{PlacedStep}
use Rattle.expander_model.specs.declared.fault.FaultKind.TheVariants.{CannotExpand}
use Rattle.call_expansion.specs.Answers.{chosen, events_of, told_at}
use Rattle.call_expansion.specs.Around.{calls_around}
use Rattle.call_expansion.specs.declared.around.CallPlace.{CallPlace}

-- a token of one byte
abbrev at : ℕ → Span
at n = record { range = record { start = n; «end» = n + 1 }; anchor = 0; ctx = Written }

abbrev word : List ℕ → ℕ → Leaf
word name n = as_leaf.Ident (record { sym = name; span = at n; is_raw = No })

abbrev bang : ℕ → Leaf
bang n = as_leaf.Punct (record { char = 33; spacing = Alone; span = at n })

abbrev brackets : ℕ → ℕ → Forest → Forest → Forest
brackets n m inner rest = group (record { open_span = at n; close_span = at m; kind = Parenthesis }) inner rest

abbrev inner : Forest
inner = leaf (word (codes "b") 3) (leaf (bang 4) (brackets 5 7 (leaf (word (codes "c") 6) empty) (leaf (word (codes "d") 9) empty)))

abbrev text : Forest
text = leaf (word (codes "a") 0) (leaf (bang 1) (brackets 2 10 inner empty))

abbrev place : ℕ → ℕ → CallPlace
place start stop = record { name = record { start = start; «end» = start + 1 }; range = record { start = start; «end» = stop } }

in_both : calls_around 6 text ≡ place 0 11 ∷ place 3 8 ∷ []
in_both = refl

behind_the_inner_one : calls_around 8 text ≡ place 0 11 ∷ []
behind_the_inner_one = refl

behind_both : calls_around 11 text ≡ []
behind_both = refl

-- `a` stays, and `b!(c)` is replaced by a word
abbrev steps : List PlacedStep
steps = record { step = at_leaf (word (codes "a") 0); outer = None } ∷ record { step = at_leaf (word (codes "e") 40); outer = Some (at 3) } ∷ []

the_inner_one : chosen steps [] (place 0 11 ∷ place 3 8 ∷ []) ≡ Some (place 3 8)
the_inner_one = refl

its_word : events_of (place 3 8).name steps ≡ record { step = at_leaf (word (codes "e") 40); outer = Some (at 3) } ∷ []
its_word = refl

-- no rule fits `a`
the_outer_one : chosen steps ((CannotExpand, at 0) ∷ []) (place 0 11 ∷ place 3 8 ∷ []) ≡ Some (place 0 11)
the_outer_one = refl

its_fault : told_at (place 0 11).name ((CannotExpand, at 0) ∷ []) ≡ CannotExpand ∷ []
its_fault = refl
