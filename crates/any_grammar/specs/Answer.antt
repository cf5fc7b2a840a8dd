-- The answers of a grammar that is one of the two.
use Rattle.tt_data.specs.Forest.{Forest}
use Rattle.fragment_grammar.specs.declared.fragment.Prefix.{Prefix}
use Rattle.fragment_grammar.specs.declared.fragment.PrefixEntryPoint.{PrefixEntryPoint}
use Rattle.small_grammar.specs.Answer as small
use Rattle.rust_grammar.specs.Answer as rust
use Rattle.any_grammar.specs.declared.chosen.AnyGrammar.{AnyGrammar}
use Rattle.any_grammar.specs.declared.chosen.AnyGrammar.TheVariants.{Small, Rust}

-- the answer of the grammar that was chosen
abbrev pub answer : AnyGrammar → PrefixEntryPoint → Forest → Prefix
answer Small = small.answer
answer (Rust edition) = rust.answer edition
