use Rattle.std.proofs.Common.{sym, ap, ◌∙◌, option_map}
use Rattle.tt_data.specs.declared.span.SyntaxContext.TheVariants.{Written, Made}
use Rattle.mbe_rules.specs.Ops.{rules_of}
use Rattle.mbe_rules.specs.Parsing.{by_semicolon_or_comma, macro_of}
use Rattle.mbe_rules.specs.Reading.{edition_in}
use Rattle.mbe_rules.proofs.DefinitionLemmas.{rules-read, one_rule-read}
use Rattle.mbe_rules.proofs.EditionLemmas.{same_function}
use Rattle.mbe_rules.proofs.parse.definition.parse_macro2.Goals as goal

pub returns-in_ok-rules-in-Some-2-clause-ok : goal.returns-in_ok-rules-in-Some-2-clause-ok
returns-in_ok-rules-in-Some-2-clause-ok g c edition asked =
    let e = c.of-editions.result in
    let same = same_function e edition (asked Written e.written c.of-editions.ensures.written) (asked Made e.made c.of-editions.ensures.made) in
    one_rule-read (edition_in e) edition c.in-Some.args.now.inner c.args.body.now.inner c.iter.result c.iter-in-Some.result
    (rules_of c.in_ok-rules-in-Some.rules) (rules_of c.in_ok-rules-in-Some-2.rules)
    same c.iter.ensures c.iter-in-Some.ensures c.in_ok-rules-in-Some.ensures c.in_ok-rules-in-Some-2.ensures
    ∙ ap (λ a. macro_of edition (option_map (λ t. t.now.inner) a) c.args.body.now.inner) (sym c.in-Some.is)

pub returns-in_ok-rules-in-None-2-clause-ok : goal.returns-in_ok-rules-in-None-2-clause-ok
returns-in_ok-rules-in-None-2-clause-ok g c edition asked =
    let e = c.of-editions.result in
    let same = same_function e edition (asked Written e.written c.of-editions.ensures.written) (asked Made e.made c.of-editions.ensures.made) in
    rules-read (edition_in e) edition by_semicolon_or_comma c.args.body.now.inner c.iter-in-None.result
    (rules_of c.in_ok-rules-in-None.rules) (rules_of c.in_ok-rules-in-None-2.rules)
    same c.iter-in-None.ensures c.in_ok-rules-in-None.ensures c.in_ok-rules-in-None-2.ensures
    ∙ ap (λ a. macro_of edition (option_map (λ t. t.now.inner) a) c.args.body.now.inner) (sym c.in-None.is)
