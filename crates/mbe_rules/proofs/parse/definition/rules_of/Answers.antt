use Rattle.std.proofs.Common.{◌≡◌, sym, ◌∙◌, true, false}
use Rattle.mbe_rules.specs.Reading.{edition_in, delimiting_of}
use Rattle.mbe_rules.proofs.DefinitionLemmas.{at_fault, at_no_delimiter, one-more}
use Rattle.mbe_rules.proofs.parse.definition.rules_of.Goals as goal

pub returns-in-Err : goal.returns-in-Err
returns-in-Err c =
    at_fault (edition_in c.args.editions) (delimiting_of c.args.between) c.loop-rest.list.items c.in-Err.e c.args.trees.now c.loop-rest.rest
    (λ e. let wrong : false ≡ true = c.loop-rest-test.ensures.1 e in cc) c.loop-rest.invariant (rw c.in-Err.is at c.in_ok-e.ensures)

pub returns-in_default : goal.returns-in_default
returns-in_default c =
    at_no_delimiter (edition_in c.args.editions) (delimiting_of c.args.between) c.loop-rest.list.items c.push.new.self.items c.in-Ok.rule c.in_ok-e-in-Ok.e
    c.args.trees.now c.loop-rest.rest c.in-Ok.behind
    (λ e. let wrong : false ≡ true = c.loop-rest-test.ensures.1 e in cc) c.in_ok-push-in-Ok.ensures.items c.loop-rest.invariant (rw c.in-Ok.is at c.in_ok-e.ensures)
    (sym c.after_delimiter.ensures ∙ c.in_default.is) c.in_ok-e-in-Ok.ensures

pub loop-rest-smaller : goal.loop-rest-smaller
loop-rest-smaller c =
    (one-more (edition_in c.args.editions) (delimiting_of c.args.between) c.loop-rest.list.items c.push.new.self.items c.in-Ok.rule
    c.args.trees.now c.loop-rest.rest c.in-Ok.behind c.in-Some.next
    (λ e. let wrong : false ≡ true = c.loop-rest-test.ensures.1 e in cc) c.in_ok-push-in-Ok.ensures.items c.loop-rest.invariant (rw c.in-Ok.is at c.in_ok-e.ensures)
    (sym c.after_delimiter.ensures ∙ c.in-Some.is)).1

pub loop-rest-preserved : goal.loop-rest-preserved
loop-rest-preserved c =
    (one-more (edition_in c.args.editions) (delimiting_of c.args.between) c.loop-rest.list.items c.push.new.self.items c.in-Ok.rule
    c.args.trees.now c.loop-rest.rest c.in-Ok.behind c.in-Some.next
    (λ e. let wrong : false ≡ true = c.loop-rest-test.ensures.1 e in cc) c.in_ok-push-in-Ok.ensures.items c.loop-rest.invariant (rw c.in-Ok.is at c.in_ok-e.ensures)
    (sym c.after_delimiter.ensures ∙ c.in-Some.is)).0
