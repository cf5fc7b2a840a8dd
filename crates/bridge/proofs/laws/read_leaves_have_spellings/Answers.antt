use Rattle.bridge.proofs.TokenSpellings.{leaf_has_spelling, name_has_spelling, name_is_short, short_leaf_has_spelling}
use Rattle.bridge.proofs.laws.read_leaves_have_spellings.Goals as goal

pub returns-clause-leaves : goal.returns-clause-leaves
returns-clause-leaves c = λ text at t more l u fits here read.
    leaf_has_spelling text at t more l u fits here (c.token_alone.ensures.bytes text at t here) c.token_lengths.ensures.whole
    (c.token_shapes.ensures.bytes text at t here) (c.suffix_starts.ensures.within text at t here) (c.suffix_starts.ensures.boundary text at t u here) read

pub returns-clause-names : goal.returns-clause-names
returns-clause-names c = λ text at t span u fits here class.
    name_has_spelling text at t span u (name_is_short text at t fits here) here c.token_lengths.ensures.whole c.one_identifier.ensures (c.name_of_a_lifetime.ensures text at t here)
    (c.token_shapes.ensures.bytes text at t here) (c.suffix_starts.ensures.within text at t here) (c.suffix_starts.ensures.boundary text at t u here) class

pub returns-clause-short_leaves : goal.returns-clause-short_leaves
returns-clause-short_leaves c = λ text at t more l u fits here read.
    short_leaf_has_spelling text at t more l u fits here (c.token_alone.ensures.bytes text at t here) c.token_lengths.ensures.whole
    (c.token_shapes.ensures.bytes text at t here) (c.suffix_starts.ensures.within text at t here) (c.suffix_starts.ensures.boundary text at t u here) read

pub returns-clause-short_names : goal.returns-clause-short_names
returns-clause-short_names c = λ text at t span u fits here class.
    name_has_spelling text at t span u fits here c.token_lengths.ensures.whole c.one_identifier.ensures (c.name_of_a_lifetime.ensures text at t here)
    (c.token_shapes.ensures.bytes text at t here) (c.suffix_starts.ensures.within text at t here) (c.suffix_starts.ensures.boundary text at t u here) class
