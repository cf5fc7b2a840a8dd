use Rattle.std.proofs.Common.{◌∙◌}
use Rattle.std.specs.Rc.{rc_value}
use Rattle.expander_scope.specs.Editions.{IsRead}
use Rattle.expander_scope.specs.NameStacks.{entries_of}
use Rattle.expander_scope.proofs.LocalLemmas.{Named, OfList, cut_definitions, cut_has}
use Rattle.expander_scope.proofs.locals.Locals.cut_back.Goals as goal

pub invariant_of-self : goal.invariant_of-self
invariant_of-self c =
    let old = entries_of c.args.self.now.names in
    let new = entries_of c.cut_back.new.self in
    record {
      named = cut_has Named old new c.args.len c.cut_back.ensures.split c.cut_back.ensures.short c.args.self.now.named;
      of_lists = cut_has OfList old new c.args.len c.cut_back.ensures.split c.cut_back.ensures.short c.args.self.now.of_lists;
    }

pub returns-clause-locals : goal.returns-clause-locals
returns-clause-locals c = λ front back parts counted.
    cut_definitions (entries_of c.args.self.now.names) (entries_of c.cut_back.new.self) front back (λ xs ys are same. c.cut_back.ensures.split xs ys are (same ∙ counted)) parts

pub returns-clause-read : goal.returns-clause-read
returns-clause-read c = λ edition read.
    cut_has (λ e. IsRead edition (rc_value e.1)) (entries_of c.args.self.now.names) (entries_of c.cut_back.new.self) c.args.len c.cut_back.ensures.split c.cut_back.ensures.short read
