-- The laws of a grammar, from those of the two.
use Rattle.std.specs.Prelude.{◌≡◌, ◌≢◌, ◌≤◌, false}
use Rattle.tt_data.specs.Forest.{Forest, shape}
use Rattle.fragment_grammar.specs.Steps.{steps}
use Rattle.fragment_grammar.specs.declared.fragment.PrefixEntryPoint.{PrefixEntryPoint}
use Rattle.fragment_grammar.specs.declared.fragment.PrefixEntryPoint.TheVariants.{Vis}
use Rattle.small_grammar.specs.Laws as small
use Rattle.rust_grammar.specs.Laws as rust
use Rattle.any_grammar.specs.Answer.{answer}
use Rattle.any_grammar.specs.declared.chosen.AnyGrammar.{AnyGrammar}
use Rattle.any_grammar.specs.declared.chosen.AnyGrammar.TheVariants.{Small, Rust}

-- never more steps than there are
pub answer-within : (g : AnyGrammar) (entry : PrefixEntryPoint) (f : Forest) → (answer g entry (shape f)).tokens ≤ steps f
answer-within Small = small.shape-within
answer-within (Rust edition) = rust.shape-within edition

-- without a fault at least one step, except for a visibility
pub answer-takes : (g : AnyGrammar) (entry : PrefixEntryPoint) (f : Forest) → entry ≢ Vis → (answer g entry (shape f)).fault ≡ false →
    1 ≤ (answer g entry (shape f)).tokens
answer-takes Small = small.shape-takes
answer-takes (Rust edition) = rust.shape-takes edition
